-- The record of a disk's changing calls, and the state that it leads to.
use Rattle.std.specs.Prelude.{ℕ, ◌+◌, List, [], ◌∷◌, take, drop}
use Rattle.cd_outside.specs.Doubt.{settled}
use Rattle.cd_outside.specs.Disk.{Change, Write, Cut, Sync, DiskState, did}
use Rattle.cd_memory_state.specs.declared.entry.Entry.{Entry}
use Rattle.cd_memory_state.specs.declared.entry.Kind.{Kind}
use Rattle.cd_memory_state.specs.declared.entry.Kind.TheVariants.{Written, Resized, Synced}

-- these bytes, all of them settled, and no call so far
abbrev pub at_first : List ℕ → DiskState
at_first bytes = record { seen = bytes; doubt = settled bytes; calls = [] }

-- the change of an entry that has these bytes
abbrev pub change_of : Kind → List ℕ → Change
change_of (Written at) bytes = Write at bytes
change_of (Resized len) bytes = Cut len
change_of Synced bytes = Sync

-- the state after the entries, the oldest first, each of which has the next of the bytes
abbrev pub replayed : List Entry → List ℕ → DiskState → DiskState
replayed [] bytes state = state
replayed (entry ∷ entries) bytes state = replayed entries (drop entry.used bytes) (did (change_of entry.kind (take entry.used bytes)) entry.beat state)

-- how many bytes the entries have
abbrev pub used_by : List Entry → ℕ
used_by [] = 0
used_by (entry ∷ entries) = entry.used + used_by entries

-- what a disk in memory holds, and its room: for how many changing calls, with how many bytes in all
pub record Held : Type 0 where
  pub state : DiskState
  pub calls_left : ℕ
  pub bytes_left : ℕ
