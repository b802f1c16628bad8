-- Bytes that are put under a name from outside.
use Rattle.std.specs.Prelude.{ℕ, List, [], Some}
use Rattle.cd_outside.specs.Shelf.{put, settled_file}
use Rattle.cd_outside.specs.Files.{FilesState}

-- the name has these bytes, which are settled, and the calls of the past are forgotten
abbrev pub files_put : List ℕ → List ℕ → FilesState → FilesState
files_put name bytes state = record {
  shelf = record { seen = put name (Some bytes) state.shelf.seen; doubt = put name (settled_file (Some bytes)) state.shelf.doubt };
  calls = [];
}
