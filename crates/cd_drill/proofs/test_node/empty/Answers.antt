use Rattle.std.proofs.Common.{refl, ap, ◌∙◌}
use Rattle.cd_drill.proofs.Begun.{at_first}
use Rattle.cd_drill.proofs.test_node.empty.Goals as goal

pub returns-clause-rest : goal.returns-clause-rest
returns-clause-rest c =
    rw c.new-4.ensures (at_first _ _ _ _ _ _ _ _ c.in-Ok-make.ensures.none (c.in-Ok-make.ensures.header tt) c.in-Ok-make.ensures.sound
    (c.in-Ok-make.ensures.registry tt) (c.in-Ok-make.ensures.order tt) c.in-Ok-new.ensures.empty c.requires)

pub returns-clause-fresh : goal.returns-clause-fresh
returns-clause-fresh c =
    rw c.new-4.ensures (record {
      files = ap (λ state. state.shelf) c.in-Ok-new.ensures.empty;
      sessions = refl;
      readings = refl;
      holdings = refl;
      last = c.in-Ok-new-2.ensures.last;
      pieces = c.in-Ok-new-2.ensures.waiting.2;
      waiting = c.in-Ok-new-2.ensures.waiting.0;
      refusing = c.in-Ok-new-2.ensures.waiting.1;
      lines_fail = c.in-Ok-new-2.ensures.script.0 ∙ c.quiet-3.ensures;
      files_fail = c.in-Ok-new.ensures.script ∙ c.quiet-2.ensures;
      at = refl;
    })
