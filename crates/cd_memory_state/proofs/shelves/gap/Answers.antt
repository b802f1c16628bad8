use Rattle.std.proofs.Common.{◌≡◌, ◌<◌, List, ℕ, length, get_or, sym, ◌∙◌, ap, arith}
use Rattle.std.specs.Prelude.{map}
use Rattle.std.proofs.lemmas.List.{length-map}
use Rattle.cd_memory_state.specs.Held.{SlotHeld}
use Rattle.cd_memory_state.specs.Names.{is_before}
use Rattle.cd_memory_state.specs.There.{names_of}
use Rattle.cd_memory_state.proofs.Named.{before_is, gap_here, gap_next}
use Rattle.cd_memory_state.proofs.Sorted.{name-at}
use Rattle.cd_memory_state.proofs.shelves.gap.Goals as goal

pub returns-then-lt-clause-place : goal.returns-then-lt-clause-place
returns-then-lt-clause-place c =
    let name = c.args.name.now in
    let slots = c.args.slots.now in
    let i = c.loop-i.i in
    let own = c.name.ensures ∙ ap (λ (s : SlotHeld). s.name) c.index-slots-i.is ∙ sym (name-at slots i c.index-slots-i.result (omega (arith, c.loop-i-test.true))) in
    let before = sym (before_is name c.name.result.now c.lt.result c.lt.ensures ∙ ap (is_before name) own) ∙ c.if-lt.true in
    sym (gap_here name (names_of slots) i (omega (arith, c.loop-i-test.true, length-map slots (λ (s : SlotHeld). s.name))) before) ∙ c.loop-i.invariant

pub loop-i-preserved : goal.loop-i-preserved
loop-i-preserved c =
    let name = c.args.name.now in
    let slots = c.args.slots.now in
    let i = c.loop-i.i in
    let own = c.name.ensures ∙ ap (λ (s : SlotHeld). s.name) c.index-slots-i.is ∙ sym (name-at slots i c.index-slots-i.result (omega (arith, c.loop-i-test.true))) in
    let not = sym (before_is name c.name.result.now c.lt.result c.lt.ensures ∙ ap (is_before name) own) ∙ c.if-lt.false in
    sym (gap_next name (names_of slots) i (omega (arith, c.loop-i-test.true, length-map slots (λ (s : SlotHeld). s.name))) not) ∙ c.loop-i.invariant
