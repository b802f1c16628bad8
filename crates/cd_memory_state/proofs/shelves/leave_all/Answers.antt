use Rattle.std.proofs.Common.{◌≡◌, get_or, arith}
use Rattle.cd_memory_state.specs.Held.{SlotHeld}
use Rattle.cd_memory_state.specs.Left.{left_slot}
use Rattle.cd_memory_state.proofs.Slots.{left_more}
use Rattle.cd_memory_state.proofs.shelves.leave_all.Goals as goal

pub loop-slot-preserved : goal.loop-slot-preserved
loop-slot-preserved c =
    let i = c.loop-slot.slot-index in
    let new : ◌≡◌ {A = SlotHeld} c.leave.new.self (left_slot c.args.image (get_or c.loop-slot.slots i c.slot-item.result)) = λ j. record { name = c.leave.ensures.name j; file = c.leave.ensures.file j } in
    left_more c.args.image c.args.slots.now c.loop-slot.slots i c.slot-item.result c.leave.new.self (omega arith) c.loop-slot.invariant new
