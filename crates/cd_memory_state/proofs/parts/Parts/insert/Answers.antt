use Rattle.std.proofs.Common.{◌≡◌, ℕ, ◌≤◌, List, [], length, ap, ◌∙◌, sym, arith}
use Rattle.std.specs.List.{insert}
use Rattle.cd_memory_state.specs.Parts.{PartsHeld, cut_up, extent}
use Rattle.cd_memory_state.proofs.CutUp.{length-cut_up, extent-insert, inserted}
use Rattle.cd_memory_state.proofs.parts.Parts.insert.Goals as goal

pub insert_within-requires-clause-place : goal.insert_within-requires-clause-place
insert_within-requires-clause-place c =
    let a = c.self.inside in
    omega (arith, c.requires.place, ap (λ (h : PartsHeld). length h.items) c.self.view_is, length-cut_up a.sizes.items a.bytes.items, a.sizes.ok.0)

pub invariant_of-self : goal.invariant_of-self
invariant_of-self c =
    let a = c.self.inside in
    ap extent c.insert_within.ensures.items ∙ extent-insert a.sizes.items c.args.i ∙ c.self.invariant

pub returns-clause-items : goal.returns-clause-items
returns-clause-items c =
    let a = c.self.inside in
    ap (λ (l : List ℕ). cut_up l a.bytes.items) c.insert_within.ensures.items
    ∙ inserted a.sizes.items a.bytes.items c.args.i (omega (arith, c.requires.place, ap (λ (h : PartsHeld). length h.items) c.self.view_is, length-cut_up a.sizes.items a.bytes.items))
    ∙ ap (λ (h : PartsHeld). insert h.items c.args.i []) c.self.view_is
