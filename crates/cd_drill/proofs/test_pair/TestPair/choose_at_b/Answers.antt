use Rattle.std.proofs.Common.{◌<◌, List, length, ap, arith}
use Rattle.cd_exchange.specs.declared.session.Session.{Session}
use Rattle.cd_drill.specs.Linking.{choice_answer}
use Rattle.cd_drill.proofs.Begins.{begun_at_b}
use Rattle.cd_drill.proofs.test_pair.TestPair.choose_at_b.Goals as goal

pub returns-in_ok-link-clause-chose : goal.returns-in_ok-link-clause-chose
returns-in_ok-link-clause-chose c =
    let more : length c.args.self.now.b.node.sessions < length c.choose.new.half.node.sessions =
    omega (arith, c.if-sessions-before.true, ap (λ (l : List Session). length l) c.sessions-before.ensures, ap (λ (l : List Session). length l) c.sessions.ensures) in
    let e = c.in_ok-link.ensures in
    begun_at_b c.args.self.now c.link.new.self c.accept.new.half c.choose.new.half e.a e.b e.linked e.counted (choice_answer c.in_ok-there.there) c.in_ok-there.ensures.chose more c.in_ok-accept.ensures.accepted
