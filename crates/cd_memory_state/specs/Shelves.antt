-- What shelves show.
use Rattle.std.specs.Prelude.{ℕ, List}
use Rattle.cd_outside.specs.Files.{FilesState}
use Rattle.cd_memory_state.specs.Past.{state_of}
use Rattle.cd_memory_state.specs.There.{names_there}
use Rattle.cd_memory_state.specs.declared.shelves.Shelves.{Shelves}

-- the shelf, and the changing calls so far
abbrev pub state_in : Shelves → FilesState
state_in shelves = state_of shelves.slots.items shelves.past.items

-- the names that have a file, in the order of their bytes
abbrev pub names_in : Shelves → List (List ℕ)
names_in shelves = names_there shelves.slots.items
