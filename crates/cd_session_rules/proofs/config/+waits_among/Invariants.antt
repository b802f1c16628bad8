use Rattle.std.proofs.Common.{length}
use Rattle.cd_session_rules.proofs.config.+waits_among.Given as goal

abbrev pub decreases-waits_among : goal.decreases-waits_among
decreases-waits_among l = length l.partners.now
