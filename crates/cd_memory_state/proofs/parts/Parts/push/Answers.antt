use Rattle.std.proofs.Common.{◌≡◌, ℕ, List, [], ◌∷◌, ◌++◌, length, refl, ap, ◌∙◌, arith, length-append}
use Rattle.cd_memory_state.specs.Parts.{PartsHeld, cut_up, extent}
use Rattle.cd_memory_state.proofs.CutUp.{extent-push, added}
use Rattle.cd_memory_state.proofs.parts.Parts.push.Goals as goal

pub invariant_of-self : goal.invariant_of-self
invariant_of-self c =
    let a = c.self.inside in
    omega (arith, ap extent c.push_reserved.ensures.items, extent-push a.sizes.items (length c.args.bytes.now), ap length c.append_within.ensures.items, length-append a.bytes.items c.args.bytes.now, c.self.invariant)

pub returns-clause-items : goal.returns-clause-items
returns-clause-items c =
    let a = c.self.inside in
    (λ j. cut_up (c.push_reserved.ensures.items j) (c.append_within.ensures.items j))
    ∙ added a.sizes.items a.bytes.items c.args.bytes.now (length c.args.bytes.now) c.self.invariant refl
    ∙ ap (λ (h : PartsHeld). h.items ++ c.args.bytes.now ∷ []) c.self.view_is
