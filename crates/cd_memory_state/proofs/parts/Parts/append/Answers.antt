use Rattle.std.proofs.Common.{List, ℕ, [], length, get_or, set, ◌∙◌, ap, arith}
use Rattle.cd_outside.specs.Content.{overwritten}
use Rattle.cd_memory_state.proofs.CutUp.{over_end}
use Rattle.cd_memory_state.proofs.parts.Parts.append.Goals as goal

pub returns-clause-items : goal.returns-clause-items
returns-clause-items c =
    let items = c.args.self.now.items in
    let old = get_or items c.args.i [] in
    c.write.ensures.items ∙ ap (set items c.args.i) (over_end c.part-end.result.now old c.args.bytes.now c.part-end.ensures.part)
