use Rattle.std.proofs.Common.{take}
use Rattle.std.specs.Prelude.{map, reverse}
use Rattle.cd_drill_script.specs.Seen.{seen_order}
use Rattle.cd_drill.specs.Course.{Ran}
use Rattle.cd_drill.specs.Pairs.{AreAtRest}
use Rattle.cd_drill.proofs.course.Course.run.Given as goal

abbrev pub invariant-loop-line : goal.invariant-loop-line
invariant-loop-line l = record {
  rest : AreAtRest l.self.pair;
  ran : Ran (reverse (map (λ line. seen_order line.order) (take l.line-index l.lines))) l.self;
}
