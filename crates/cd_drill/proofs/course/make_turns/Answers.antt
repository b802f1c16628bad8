use Rattle.std.proofs.Common.{◌≡◌, ℕ, suc, ◌+◌, Bool, inl, inr, refl, subst, arith}
use Rattle.cd_drill.specs.Course.{MadeTurns}
use Rattle.cd_drill.specs.Course as course
use Rattle.cd_drill.specs.Pairs.{TurnOf}
use Rattle.cd_drill.proofs.course.make_turns.Goals as goal

pub loop-made-init : goal.loop-made-init
loop-made-init c = record { rest = c.requires; turned = course.none }

pub returns-then-not-there-clause-made : goal.returns-then-not-there-clause-made
returns-then-not-there-clause-made c = record {
  last = c.loop-made.pair;
  turned = c.loop-made.invariant.turned;
  ended = inr (c.loop-made-test.true, subst (λ (there : Bool). TurnOf there c.loop-made.pair c.turn.new.self) c.if-not-there.true c.in_ok-there.ensures.turned);
}

pub loop-made-preserved : goal.loop-made-preserved
loop-made-preserved c =
    let next : suc c.loop-made.made ≡ c.loop-made.made + 1 = omega arith in
    record {
      rest = c.in_ok-there.ensures.rest;
      turned = subst (λ (n : ℕ). MadeTurns c.args.pair.now n c.turn.new.self) next
          (course.more c.loop-made.invariant.turned (subst (λ (there : Bool). TurnOf there c.loop-made.pair c.turn.new.self) c.if-not-there.false c.in_ok-there.ensures.turned));
    }

pub returns-clause-made : goal.returns-clause-made
returns-clause-made c =
    let below = c.loop-made.auto.made-end in
    let past = c.loop-made-test.false in
    let all : c.loop-made.made ≡ c.args.count = omega (arith, below, past) in
    record {
      last = c.loop-made.pair;
      turned = subst (λ (n : ℕ). MadeTurns c.args.pair.now n c.loop-made.pair) all c.loop-made.invariant.turned;
      ended = inl (refl, refl);
    }
