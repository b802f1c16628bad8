use Rattle.std.proofs.Common.{sym, ◌∙◌, ap}
use Rattle.cd_memory_state.specs.Held.{FileHeld, SlotHeld}
use Rattle.cd_memory_state.proofs.Slots.{place_is, absent_is, held_at, held_absent}
use Rattle.cd_memory_state.proofs.shelves.Shelves.seen.Goals as goal

pub returns-in-Some : goal.returns-in-Some
returns-in-Some c =
    c.seen.ensures ∙ ap (λ (s : SlotHeld). s.file.seen) c.index.ensures
    ∙ ap (λ (f : FileHeld). f.seen) (held_at c.args.self.now.slots.items c.args.name.now c.in-Some.i c.index.result.now (place_is _ _ _ (sym c.in-Some.ensures.place)))

pub returns-in-None : goal.returns-in-None
returns-in-None c = sym (ap (λ (f : FileHeld). f.seen) (held_absent c.args.self.now.slots.items c.args.name.now (absent_is c.args.self.now.slots.items c.args.name.now 0 (sym c.in-None.ensures.place))))
