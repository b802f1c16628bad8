-- Files by their names, in two lists: the names in the order of their bytes, and the bytes of each file.
use Rattle.std.specs.Prelude.{ℕ, List, [], ◌∷◌, Some, None, if◌then◌else◌}
use Rattle.std.specs.Str.{bytes_eq}
use Rattle.cd_outside.specs.Shelf.{FileMap}

-- the file of each name
abbrev pub file_under : List (List ℕ) → List (List ℕ) → FileMap
file_under [] files name = None
file_under (one ∷ names) [] name = None
file_under (one ∷ names) (file ∷ files) name = if bytes_eq one name then Some file else file_under names files name

-- the names and the bytes of each, and for how many further files there is room, with how many bytes in all
pub record CabinetHeld : Type 0 where
  pub names : List (List ℕ)
  pub files : List (List ℕ)
  pub files_left : ℕ
  pub bytes_left : ℕ

-- the file of each name
abbrev pub file_in : CabinetHeld → FileMap
file_in held = file_under held.names held.files
