use Rattle.std.proofs.Common.{◌≡◌, ◌++◌, take, drop}
use Rattle.std.specs.Prelude.{map}
use Rattle.cd_memory_state.specs.Left.{left_slot}
use Rattle.cd_memory_state.proofs.shelves.leave_all.Given as goal

abbrev pub invariant-loop-slot : goal.invariant-loop-slot
invariant-loop-slot l = l.slots ≡ map (left_slot l.image) (take l.slot-index l.fn.slots) ++ drop l.slot-index l.fn.slots
