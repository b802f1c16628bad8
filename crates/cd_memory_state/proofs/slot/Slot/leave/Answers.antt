use Rattle.std.proofs.Common.{ap, arith, length}
use Rattle.cd_memory_state.specs.Slot.{doubt_in}
use Rattle.cd_memory_state.proofs.FileImages.{left_is, given_length}
use Rattle.cd_memory_state.proofs.slot.Slot.leave.Goals as goal

pub replace_within-requires : goal.replace_within-requires
replace_within-requires c =
    let a = c.self.inside in
    let file = c.leave_file-self-inside in
    let left = left_is a c.self.invariant c.args.image c.deref.result.now c.deref-2.result.now c.deref.ensures.value c.deref-2.ensures.value file.result file.new.seen.items file.ensures.file in
    let within = given_length (doubt_in a) file.result file.new.seen.items file.ensures.missing left in
    omega (arith, within, ap length c.deref-3.ensures.value, c.self.invariant.base_room)
