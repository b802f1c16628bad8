-- What a crash may leave of a node while a row of its effects is done.
use Rattle.std.specs.Prelude.{◌≡◌, ℕ, List, ◌++◌, map, reverse, Ok}
use Rattle.cd_outside.specs.Disk.{DiskState, LeftAt}
use Rattle.cd_outside.specs.Files.{FilesState, FilesLeftAt}
use Rattle.cd_outside.specs.Shelf.{FileMap, IsShelfImage}
use Rattle.cd_journal.specs.Bytes.{list_of}
use Rattle.cd_entries.specs.declared.entry.Entry.{Entry}
use Rattle.cd_entries.specs.Entry.{entry_bytes}
use Rattle.cd_protocol.specs.Node.{Node, Effect, does}

-- what a crash leaves: the bytes of the journal, and the files
pub record NodeImage : Type 0 where
  pub journal : List ℕ
  pub files : FileMap

-- a crash at that beat may have left this: of each device what that device allows
pub record JointAt (on_disk : DiskState) (on_shelf : FilesState) (beat : ℕ) (image : NodeImage) : Type 0 where
  pub journal : LeftAt on_disk beat image.journal
  pub files : FilesLeftAt on_shelf beat image.files

-- these bytes are a journal of these entries, the newest of which comes first
abbrev pub StandsFor : List ℕ → List Entry → Type 0
StandsFor bytes entries = list_of bytes ≡ Ok (map entry_bytes (reverse entries))

-- What a first part of the effects leaves: its journal, and what is in doubt of its files. An effect that a crash cuts off counts
-- as done where the image shows any of it.
pub record IsWithin (sid : ℕ) (effects : List Effect) (node : Node) (image : NodeImage) : Type 0 where
  pub done : List Effect
  pub more : List Effect
  pub reactions : effects ≡ done ++ more
  pub journal : StandsFor image.journal (does sid done node).view.journal
  pub files : IsShelfImage (does sid done node).shelf.doubt image.files
