use Rattle.std.proofs.Common.{ap}
use Rattle.cd_memory_state.specs.Sessions.{SessionHeld}
use Rattle.cd_memory_state.proofs.Fresh.{one_more, same_traffic}
use Rattle.cd_memory_state.proofs.exchange.Exchange.open.Goals as goal

pub returns-clause-traffic : goal.returns-clause-traffic
returns-clause-traffic c = same_traffic c.args.self.now.sessions.items c.push.new.self.items c.args.self.now.sends.items (one_more c.args.self.now.sessions.items c.push.new.self.items c.new.result c.in_ok-push.ensures.items c.new.ensures)

pub returns-clause-counts : goal.returns-clause-counts
returns-clause-counts c =
    let same = one_more c.args.self.now.sessions.items c.push.new.self.items c.new.result c.in_ok-push.ensures.items c.new.ensures in
    record { faults = λ session. ap (λ (s : SessionHeld). s.faults) (same session); ends = λ session. ap (λ (s : SessionHeld). s.ends) (same session) }
