use Rattle.std.proofs.Common.{length}
use Rattle.cd_session_rules.proofs.checking.+kept_in.Given as goal

abbrev pub decreases-kept_in : goal.decreases-kept_in
decreases-kept_in l = length l.effects.now
