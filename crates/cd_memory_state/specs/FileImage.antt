-- The images that a crash leaves of files.
use Rattle.std.specs.Prelude.{ℕ, List, Bool, Option, Some, None, if◌then◌else◌, zero, suc, ◌==◌}
use Rattle.cd_outside.specs.Shelf.{FileMap, FileDoubt, Shelf}
use Rattle.cd_memory_state.specs.Generator.{step, drawn, image_from}

-- a file with these bytes, or none
abbrev pub given_file : Bool → List ℕ → Option (List ℕ)
given_file exists bytes = if exists then Some bytes else None

-- where its making or removal is in doubt, the generator draws whether the file is there
abbrev pub is_left_of : Bool → Bool → ℕ → Bool
is_left_of there moved x = if moved then drawn (step x) 2 == 1 else there

-- the generator's number after that
abbrev pub after_is_left_of : Bool → ℕ → ℕ
after_is_left_of moved x = if moved then step x else x

-- the image of a name that is drawn from a generator's number
abbrev pub file_from : ℕ → FileDoubt → Option (List ℕ)
file_from x doubt = given_file (is_left_of doubt.there doubt.moved x) (image_from (after_is_left_of doubt.moved x) doubt.bytes)

-- the image of that number of one name: 0 is the last sync, 1 what a read gives, and each other one is drawn with the
-- number as seed
abbrev pub file_left_by : ℕ → FileDoubt → Option (List ℕ) → Option (List ℕ)
file_left_by zero doubt seen = given_file doubt.there doubt.bytes.base
file_left_by (suc zero) doubt seen = seen
file_left_by (suc (suc n)) doubt seen = file_from (suc (suc n)) doubt

-- and of a shelf, each name apart
abbrev pub shelf_left_by : ℕ → Shelf → FileMap
shelf_left_by image shelf name = file_left_by image (shelf.doubt name) (shelf.seen name)
