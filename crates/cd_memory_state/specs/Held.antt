-- What is held of files by their names, in a list of names.
use Rattle.std.specs.Prelude.{ℕ, List, [], ◌∷◌, Option, None, if◌then◌else◌}
use Rattle.std.specs.Str.{bytes_eq}
use Rattle.cd_outside.specs.Shelf.{FileDoubt, FileChange, file_after, file_doubt_within, settled_file, Shelf}

-- a file, and what is in doubt of it
pub record FileHeld : Type 0 where
  pub seen : Option (List ℕ)
  pub doubt : FileDoubt

-- a name with its file
pub record SlotHeld : Type 0 where
  pub name : List ℕ
  pub file : FileHeld

-- this file, or none, and nothing is in doubt of it
abbrev pub held_settled : Option (List ℕ) → FileHeld
held_settled file = record { seen = file; doubt = settled_file file }

-- the file after a change of it that is no sync
abbrev pub held_after : FileChange → FileHeld → FileHeld
held_after change file = record { seen = file_after change file.seen; doubt = file_doubt_within change file.seen file.doubt }

-- what is held under a name: that of the first slot with the name, and none where no slot has it
abbrev pub held_under : List SlotHeld → List ℕ → FileHeld
held_under [] name = held_settled None
held_under (slot ∷ slots) name = if bytes_eq slot.name name then slot.file else held_under slots name

-- the shelf of the slots
abbrev pub shelf_of : List SlotHeld → Shelf
shelf_of slots = record { seen = λ name. (held_under slots name).seen; doubt = λ name. (held_under slots name).doubt }
