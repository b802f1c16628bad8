use Rattle.std.proofs.Common.{◌<◌, ap, arith, length}
use Rattle.cd_drill.proofs.Turns.{handled_one, none_there, none_below}
use Rattle.cd_drill.proofs.test_pair.TestPair.handle.Goals as goal

pub returns-then-branch-clause-handled : goal.returns-then-branch-clause-handled
returns-then-branch-clause-handled c =
    let len = c.len-at-end.ensures in
    let test = c.loop-at-test.true in
    let below : c.loop-at.at < length c.args.self.now.links.items = omega (arith, len, test) in
    handled_one c.args.self.now c.loop-at.self c.handle_at.new.self c.loop-at.at c.in_ok-handle_at.field-0 c.loop-at.invariant.same below c.loop-at.invariant.first
    c.in_ok-handle_at.ensures.handled c.if-branch.true

pub loop-at-preserved : goal.loop-at-preserved
loop-at-preserved c =
    let len = c.len-at-end.ensures in
    let test = c.loop-at-test.true in
    let below : c.loop-at.at < length c.args.self.now.links.items = omega (arith, len, test) in
    record {
      same = none_there c.args.self.now c.loop-at.self c.handle_at.new.self c.loop-at.at c.in_ok-handle_at.field-0 c.loop-at.invariant.same below
          c.in_ok-handle_at.ensures.handled c.if-branch.false;
      first = none_below c.args.self.now c.loop-at.self c.handle_at.new.self c.loop-at.at c.in_ok-handle_at.field-0 c.loop-at.invariant.same below c.loop-at.invariant.first
          c.in_ok-handle_at.ensures.handled c.if-branch.false;
    }
