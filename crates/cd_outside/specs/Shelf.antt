-- A shelf of files: what each name gives and what a crash may leave of it, and what each changing call makes of it. The
-- rules of a node cite these definitions.
use Rattle.std.specs.Prelude.{ℕ, List, [], Bool, true, false, ◌||◌, not, is_none, IsTrue, Option, Some, None, unwrap_or, if◌then◌else◌}
use Rattle.std.specs.Str.{bytes_eq}
use Rattle.cd_outside.specs.Content.{resized, overwritten}
use Rattle.cd_outside.specs.Doubt.{Doubt, settled, IsImage}
use Rattle.cd_outside.specs.Disk.{Write, Cut, doubt_within}

-- the file of each name, none where there is no such file
abbrev pub FileMap : Type 0
FileMap = List ℕ → Option (List ℕ)

-- the same but at one name
abbrev pub put : {A : Type 0} → List ℕ → A → (List ℕ → A) → List ℕ → A
put name value others other = if bytes_eq name other then value else others other

-- the bytes of a file, none where there is no file
abbrev pub content_of : Option (List ℕ) → List ℕ
content_of file = unwrap_or file []

-- What is in doubt of one name: whether there was a file at the last sync of the name; whether a file was made or
-- removed under it since; and the doubt of its bytes, in which a missing file counts as one without bytes.
pub record FileDoubt : Type 0 where
  pub there : Bool
  pub moved : Bool
  pub bytes : Doubt

-- nothing is in doubt: a crash leaves this file, or none
abbrev pub settled_file : Option (List ℕ) → FileDoubt
settled_file None = record { there = false; moved = false; bytes = settled [] }
settled_file (Some bytes) = record { there = true; moved = false; bytes = settled bytes }

-- A crash may leave this: no file where there was none or its making or removal is in doubt, and bytes where there was
-- a file or its making or removal is in doubt.
abbrev pub IsFileImage : FileDoubt → Option (List ℕ) → Type 0
IsFileImage doubt None = IsTrue (doubt.moved || not doubt.there)
IsFileImage doubt (Some bytes) = IsTrue (doubt.moved || doubt.there) × IsImage doubt.bytes bytes

-- A changing call on a name: bytes written at a place, a cut to a length, a sync, or the removal.
pub data FileChange : Type 0 where
  WriteFile : List ℕ → ℕ → List ℕ → FileChange
  CutFile : List ℕ → ℕ → FileChange
  SyncFile : List ℕ → FileChange
  RemoveFile : List ℕ → FileChange

-- the name that it changes
abbrev pub name_of : FileChange → List ℕ
name_of (WriteFile name at bytes) = name
name_of (CutFile name len) = name
name_of (SyncFile name) = name
name_of (RemoveFile name) = name

-- The file of that name after the change. A write and a cut make a missing file. Between the old end and a later place
-- of a write stand zeros, and a cut makes longer by zeros.
abbrev pub file_after : FileChange → Option (List ℕ) → Option (List ℕ)
file_after (WriteFile name at bytes) file = Some (overwritten at bytes (content_of file))
file_after (CutFile name len) file = Some (resized len (content_of file))
file_after (SyncFile name) file = file
file_after (RemoveFile name) file = None

-- What is in doubt of that name while the change is under way. To remove a file cuts it to no bytes; to remove a missing
-- one changes nothing.
abbrev pub file_doubt_within : FileChange → Option (List ℕ) → FileDoubt → FileDoubt
file_doubt_within (WriteFile name at bytes) file doubt = record doubt { moved = doubt.moved || is_none file; bytes = doubt_within (Write at bytes) doubt.bytes }
file_doubt_within (CutFile name len) file doubt = record doubt { moved = doubt.moved || is_none file; bytes = doubt_within (Cut len) doubt.bytes }
file_doubt_within (SyncFile name) file doubt = doubt
file_doubt_within (RemoveFile name) None doubt = doubt
file_doubt_within (RemoveFile name) (Some bytes) doubt = record doubt { moved = true; bytes = doubt_within (Cut 0) doubt.bytes }

-- what a read gives of each name, and what is in doubt of it
pub record Shelf : Type 0 where
  pub seen : FileMap
  pub doubt : List ℕ → FileDoubt

-- what is in doubt of a shelf while a change is under way
abbrev pub within : FileChange → Shelf → List ℕ → FileDoubt
within (SyncFile name) shelf = shelf.doubt
within (WriteFile name at bytes) shelf = put name (file_doubt_within (WriteFile name at bytes) (shelf.seen name) (shelf.doubt name)) shelf.doubt
within (CutFile name len) shelf = put name (file_doubt_within (CutFile name len) (shelf.seen name) (shelf.doubt name)) shelf.doubt
within (RemoveFile name) shelf = put name (file_doubt_within (RemoveFile name) (shelf.seen name) (shelf.doubt name)) shelf.doubt

-- The shelf after a change. A sync of a name settles what a read gives of it; no other name is changed.
abbrev pub changed : FileChange → Shelf → Shelf
changed (SyncFile name) shelf = record shelf { doubt = put name (settled_file (shelf.seen name)) shelf.doubt }
changed (WriteFile name at bytes) shelf = record { seen = put name (file_after (WriteFile name at bytes) (shelf.seen name)) shelf.seen; doubt = within (WriteFile name at bytes) shelf }
changed (CutFile name len) shelf = record { seen = put name (file_after (CutFile name len) (shelf.seen name)) shelf.seen; doubt = within (CutFile name len) shelf }
changed (RemoveFile name) shelf = record { seen = put name (file_after (RemoveFile name) (shelf.seen name)) shelf.seen; doubt = within (RemoveFile name) shelf }

-- these files, all of them settled
abbrev pub settled_shelf : FileMap → Shelf
settled_shelf files = record { seen = files; doubt = λ name. settled_file (files name) }

-- A crash may leave this: each name apart is what a crash may leave of it.
abbrev pub IsShelfImage : (List ℕ → FileDoubt) → FileMap → Type 0
IsShelfImage doubt image = (name : List ℕ) → IsFileImage (doubt name) (image name)
