use Rattle.std.proofs.Common.{List, subst, sym}
use Rattle.cd_drill_script.specs.Script.{Order}
use Rattle.cd_drill_script.specs.Seen.{seen_order}
use Rattle.cd_drill_script.specs.declared.order.Numbered.{Numbered}
use Rattle.cd_drill.specs.Course.{Ran, begun, done}
use Rattle.cd_drill.proofs.Lists.{one_more_at}
use Rattle.cd_drill.proofs.course.Course.run.Goals as goal

pub loop-line-init : goal.loop-line-init
loop-line-init c = record { rest = c.requires.rest; ran = begun c.requires.begin }

pub loop-line-preserved : goal.loop-line-preserved
loop-line-preserved c = record {
  rest = c.in-Ok.ensures.rest;
  ran = subst (λ (orders : List Order). Ran orders c.order.new.self) (sym (one_more_at (λ (line : Numbered). seen_order line.order) c.args.lines.now c.loop-line.line-index _ c.loop-line-test.true))
      (done c.loop-line.invariant.ran c.in-Ok.ensures.did);
}
