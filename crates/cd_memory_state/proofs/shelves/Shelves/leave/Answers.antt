use Rattle.std.proofs.Common.{◌∙◌, ap, length, arith}
use Rattle.std.specs.Prelude.{map}
use Rattle.cd_memory_state.specs.Left.{left_slot}
use Rattle.cd_memory_state.proofs.Slots.{whole}
use Rattle.cd_memory_state.proofs.Shelved.{sound_left, state_left, image_left}
use Rattle.cd_memory_state.proofs.Sorted.{sorted-left}
use Rattle.cd_memory_state.proofs.shelves.Shelves.leave.Goals as goal

pub invariant_of-self : goal.invariant_of-self
invariant_of-self c =
    let slots = c.args.self.now.slots in
    let left = whole c.leave_all.new.slots slots.items slots.len slots.ok.0 (omega (arith, c.leave_all.auto.slots, ap length c.deref_mut.ensures.value)) ∙ c.leave_all.ensures ∙ ap (map (left_slot c.args.image)) c.deref_mut.ensures.value in
    record { sound = sound_left c.args.image slots.items _ left; sorted = sorted-left c.args.image slots.items _ left c.args.self.now.sorted }

pub returns-clause-state : goal.returns-clause-state
returns-clause-state c =
    let slots = c.args.self.now.slots in
    state_left c.args.image slots.items _ (whole c.leave_all.new.slots slots.items slots.len slots.ok.0 (omega (arith, c.leave_all.auto.slots, ap length c.deref_mut.ensures.value)) ∙ c.leave_all.ensures ∙ ap (map (left_slot c.args.image)) c.deref_mut.ensures.value) c.clear.new.self.items c.clear.ensures.items

pub returns-clause-image : goal.returns-clause-image
returns-clause-image c =
    let slots = c.args.self.now.slots in
    image_left c.args.image slots.items _ (whole c.leave_all.new.slots slots.items slots.len slots.ok.0 (omega (arith, c.leave_all.auto.slots, ap length c.deref_mut.ensures.value)) ∙ c.leave_all.ensures ∙ ap (map (left_slot c.args.image)) c.deref_mut.ensures.value) c.args.self.now.sound
