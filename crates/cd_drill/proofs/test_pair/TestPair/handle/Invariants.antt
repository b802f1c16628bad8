use Rattle.std.proofs.Common.{◌≡◌, take, true}
use Rattle.cd_drill.specs.Pairs.{none_waits}
use Rattle.cd_drill.proofs.test_pair.TestPair.handle.Given as goal

abbrev pub invariant-loop-at : goal.invariant-loop-at
invariant-loop-at l = record {
  same : l.self ≡ l.fn.self;
  first : none_waits l.fn.self.a l.fn.self.b (take l.at l.fn.self.links.items) ≡ true;
}
