use Rattle.std.proofs.Common.{rules, vec_len, ◌≤◌, length, List, sym, ◌∙◌, ap, subst, arith}
use Rattle.cd_memory_state.specs.Held.{SlotHeld, held_under}
use Rattle.cd_memory_state.specs.Place.{IsPlace}
use Rattle.cd_memory_state.proofs.Shelved.{same_state}
use Rattle.cd_memory_state.proofs.Slots.{place_is, absent_is, IsAbsent, held_insert, place_insert, sound_inserted}
use Rattle.cd_memory_state.specs.Names.{gap_from}
use Rattle.cd_memory_state.specs.There.{names_of}
use Rattle.cd_memory_state.proofs.Sorted.{sorted-inserted}
use Rattle.cd_memory_state.proofs.shelves.Shelves.place.Goals as goal

pub returns-in-Some-clause-place : goal.returns-in-Some-clause-place
returns-in-Some-clause-place c = place_is _ _ _ (sym c.in-Some.ensures.place)

pub invariant_of-self : goal.invariant_of-self
invariant_of-self c = record {
  sound = sound_inserted c.args.self.now.slots.items c.insert.new.self.items c.args.name.now _ c.gap-i.result c.new-slot.result c.insert.ensures.items (c.new-slot.ensures.name ∙ c.in_ok-from_slice.ensures.items) (absent_is c.args.self.now.slots.items c.args.name.now 0 (sym c.in-None.ensures.place)) c.new-slot.ensures.file c.args.self.now.sound;
  sorted = sorted-inserted c.args.self.now.slots.items c.insert.new.self.items c.args.name.now _ c.gap-i.result c.new-slot.result c.insert.ensures.items (c.new-slot.ensures.name ∙ c.in_ok-from_slice.ensures.items) (absent_is c.args.self.now.slots.items c.args.name.now 0 (sym c.in-None.ensures.place)) (c.gap-i.ensures.place ∙ ap (λ (l : List SlotHeld). gap_from c.args.name.now 0 (names_of l)) c.deref.ensures.value) c.args.self.now.sorted;
}

pub returns-clause-place : goal.returns-clause-place
returns-clause-place c =
    let absent = absent_is c.args.self.now.slots.items c.args.name.now 0 (sym c.in-None.ensures.place) in
    let within : c.gap-i.result ≤ length c.args.self.now.slots.items = omega (arith, c.gap-i.ensures.bound, ap length c.deref.ensures.value) in
    subst (λ (l : List SlotHeld). IsPlace l c.args.name.now c.gap-i.result) (sym c.in_ok-insert.ensures.items)
    (place_insert c.args.self.now.slots.items c.args.name.now c.gap-i.result c.new-slot.result absent (c.new-slot.ensures.name ∙ c.in_ok-from_slice.ensures.items) within)

pub returns-clause-state : goal.returns-clause-state
returns-clause-state c =
    let slots = c.args.self.now.slots.items in
    let is = c.new-slot.ensures.name ∙ c.in_ok-from_slice.ensures.items in
    let absent = absent_is slots c.args.name.now 0 (sym c.in-None.ensures.place) in
    same_state slots c.insert.new.self.items c.args.self.now.past.items (λ other. ap (λ (l : List SlotHeld). held_under l other) c.in_ok-insert.ensures.items ∙ held_insert slots c.gap-i.result c.new-slot.result (subst (IsAbsent slots) (sym is) absent) c.new-slot.ensures.file other)
