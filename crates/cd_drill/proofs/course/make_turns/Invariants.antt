use Rattle.cd_drill.specs.Course.{MadeTurns}
use Rattle.cd_drill.specs.Pairs.{AreAtRest}
use Rattle.cd_drill.proofs.course.make_turns.Given as goal

abbrev pub invariant-loop-made : goal.invariant-loop-made
invariant-loop-made l = record { rest : AreAtRest l.pair; turned : MadeTurns l.fn.pair l.made l.pair }
