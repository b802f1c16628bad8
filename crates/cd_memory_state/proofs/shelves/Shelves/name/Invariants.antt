use Rattle.std.proofs.Common.{◌≡◌, drop}
use Rattle.std.specs.Prelude.{slice_get}
use Rattle.cd_memory_state.specs.There.{names_there}
use Rattle.cd_memory_state.proofs.shelves.Shelves.name.Given as goal

abbrev pub invariant-loop-place : goal.invariant-loop-place
invariant-loop-place l = slice_get (names_there (drop l.place l.self.slots.items)) l.left ≡ slice_get (names_there l.self.slots.items) l.i
