-- A registry: the journal of a node, and the entries that the journal's bytes stand for.
use Rattle.std.specs.Prelude.{◌≡◌, ◌⊎◌, ℕ, ◌<◌, List, ◌∷◌, length, true, ◌↔◌}
use Rattle.cd_outside.specs.Doubt.{settled}
use Rattle.cd_outside.specs.Disk.{DiskState}
use Rattle.cd_journal.specs.Journal.{Held, IsAt}
use Rattle.cd_entries.specs.declared.entry.Entry.{Entry}
use Rattle.cd_effects.specs.Joint.{StandsFor}

-- what contracts see of a registry: the journal, and the entries, the newest first
pub record RegistryState : Type 0 where
  pub journal : Held
  pub entries : List Entry

-- The registry is that of this disk: the disk's bytes stand for its entries, and a crash leaves just those bytes. Without a
-- header there are no bytes.
pub record IsRegistry (registry : RegistryState) (disk : DiskState) : Type 0 where
  pub list : StandsFor disk.seen registry.entries
  pub at : registry.journal.has_header ≡ true → IsAt registry.journal disk
  pub header : (registry.journal.has_header ≡ true) ↔ (0 < length disk.seen)
  pub rests : disk.doubt ≡ settled disk.seen

-- a crash leaves a journal of the entries, or of the entries and this one
abbrev pub IsWithOrWithout : Entry → List Entry → List ℕ → Type 0
IsWithOrWithout e entries bytes = StandsFor bytes entries ⊎ StandsFor bytes (e ∷ entries)
