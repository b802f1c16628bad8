-- What a node does about a command.
use Rattle.std.specs.Prelude.{◌⊎◌, ◌<◌, ◌+◌, ◌^◌, ℕ, List, ◌∷◌, length, Bool, true, false, Option, Some, None, Result, Ok, Err}
use Rattle.cd_commands.specs.declared.command.Command.{Command}
use Rattle.cd_effects.specs.Joint.{StandsFor}
use Rattle.cd_effects.specs.declared.fault.Fault.{Fault}
use Rattle.cd_effects.specs.declared.fault.Fault.TheVariants as fault
use Rattle.cd_entries.specs.Entry.{entry_bytes}
use Rattle.cd_entries.specs.declared.entry.Entry.{Entry}
use Rattle.cd_protocol.specs.Rows.{may_record}
use Rattle.cd_canonical.specs.Read.{canonical_reading}
use Rattle.cd_operator.specs.Wanted.{wanted}
use Rattle.cd_operator.specs.declared.reply.Refused.{Refused}
use Rattle.cd_operator.specs.declared.reply.Refused.TheVariants.{NotYet}
use Rattle.cd_operator.specs.declared.reply.Reply.{Reply}
use Rattle.cd_operator.specs.declared.reply.Reply.TheVariants as reply
use Rattle.cd_operator.specs.declared.wanted.Recording.{Recording}

-- an entry is recorded where the rules let it be; a command that asks for another one isn't done
abbrev pub if_allowed : Bool → Recording → Result Recording Refused
if_allowed true recording = Ok recording
if_allowed false recording = Err NotYet

abbrev pub by_rules : ℕ → List Entry → Result Recording Refused → Result Recording Refused
by_rules now entries (Ok recording) = if_allowed (may_record canonical_reading now entries recording.adds) recording
by_rules now entries (Err why) = Err why

-- what is recorded and answered, or why the command is refused
abbrev pub doing : ℕ → List Entry → Command → Result Recording Refused
doing now entries c = by_rules now entries (wanted now entries c)

abbrev pub answer_of : Result Recording Refused → Reply
answer_of (Ok recording) = recording.answer
answer_of (Err why) = reply.Refused why

-- the entry that is added, where one is
abbrev pub added_by : Result Recording Refused → Option Entry
added_by (Ok recording) = Some recording.adds
added_by (Err why) = None

abbrev pub with_added : Option Entry → List Entry → List Entry
with_added None entries = entries
with_added (Some e) entries = e ∷ entries

-- a crash leaves a journal of the entries, or of these and the one that is added
abbrev pub MayLeave : Option Entry → List Entry → List ℕ → Type 0
MayLeave added entries bytes = StandsFor bytes entries ⊎ StandsFor bytes (with_added added entries)

-- The faults of a command. The disk fails only in recording, and a journal is full only where the entry makes it longer than 2^30 bytes.
abbrev pub IsFaultOfDoing : Option Entry → Fault → Type 0
IsFaultOfDoing added fault.NoMemory = Unit {0}
IsFaultOfDoing (Some e) fault.Disk = Unit {0}
IsFaultOfDoing (Some e) (fault.JournalFull len) = 2 ^ 30 < len + 5 + length (entry_bytes e)
IsFaultOfDoing _ _ = ⊥
