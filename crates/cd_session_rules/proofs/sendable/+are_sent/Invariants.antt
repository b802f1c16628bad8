use Rattle.std.proofs.Common.{length}
use Rattle.cd_session_rules.proofs.sendable.+are_sent.Given as goal

abbrev pub decreases-are_sent : goal.decreases-are_sent
decreases-are_sent l = length l.effects.now
