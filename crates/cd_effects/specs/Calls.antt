-- What one effect makes of the files.
use Rattle.std.specs.Prelude.{◌≡◌, ◌⊎◌, ℕ, List, false}
use Rattle.std.specs.Str.{bytes_eq}
use Rattle.cd_outside.specs.Shelf.{FileMap, FileChange, name_of, Shelf, within, changed, IsShelfImage}
use Rattle.cd_outside.specs.Files.{FilesState, files_did, FilesWereCutOff}
use Rattle.cd_protocol.specs.Node.{Effect, Touch}

-- the shelf after it
abbrev pub touched : Effect → Shelf → Shelf
touched (Touch change) shelf = changed change shelf
touched _ shelf = shelf

-- the files after it, which raised the beat to that one where it changed a file
abbrev pub FilesDid : Effect → ℕ → FilesState → FilesState → Type 0
FilesDid (Touch change) beat before after = after ≡ files_did change beat before
FilesDid _ beat before after = after ≡ before

-- the files where it failed
abbrev pub FilesTorn : Effect → ℕ → ℕ → FilesState → FilesState → Type 0
FilesTorn (Touch change) from to before after = FilesWereCutOff change from to before after
FilesTorn _ from to before after = after ≡ before

-- a change of a shelf was begun: of its name a read gives something that is in doubt, and the same of the others
pub record WasBegun (change : FileChange) (before after : Shelf) : Type 0 where
  pub others : (other : List ℕ) → bytes_eq (name_of change) other ≡ false → after.seen other ≡ before.seen other
  pub doubt : after.doubt ≡ within change before

-- the shelf where the effect failed: as it was, or its change was begun
abbrev pub ShelfTorn : Effect → Shelf → Shelf → Type 0
ShelfTorn (Touch change) before after = (after ≡ before) ⊎ WasBegun change before after
ShelfTorn _ before after = after ≡ before

-- a crash leaves the files from before the effect, or those after it
abbrev pub IsBeforeOrAfter : Effect → Shelf → FileMap → Type 0
IsBeforeOrAfter effect shelf image = IsShelfImage shelf.doubt image ⊎ IsShelfImage (touched effect shelf).doubt image
