use Rattle.std.proofs.Common.{◌≡◌, ℕ, ◌+◌, List, [], ◌++◌, length, take, drop, get_or, set, refl, ap, ◌∙◌, arith}
use Rattle.std.proofs.lemmas.List.{get_or-set_same, set-set}
use Rattle.cd_outside.specs.Content.{resized}
use Rattle.cd_memory_state.proofs.CutUp.{over_longer}
use Rattle.cd_memory_state.proofs.parts.Parts.write.Goals as goal

pub returns-then-old-end-clause-items : goal.returns-then-old-end-clause-items
returns-then-old-end-clause-items c =
    let items = c.args.self.now.items in
    let i = c.args.i in
    let bytes = c.args.bytes.now in
    let end : ℕ = c.args.at + length bytes in
    let longer : List ℕ = resized end (get_or items i []) in
    c.overwrite.ensures.items
    ∙ ap (λ (l : List (List ℕ)). set l i (take c.args.at (get_or l i []) ++ bytes ++ drop end (get_or l i []))) c.cut.ensures.items
    ∙ ap (λ (l : List ℕ). set (set items i longer) i (take c.args.at l ++ bytes ++ drop end l)) (get_or-set_same items i longer [] c.requires.place)
    ∙ set-set items i longer (take c.args.at longer ++ bytes ++ drop end longer)
    ∙ ap (set items i) (over_longer c.args.at end bytes (get_or items i []) refl (omega (arith, ap length c.part-old.ensures.part, c.if-old-end.true)))
