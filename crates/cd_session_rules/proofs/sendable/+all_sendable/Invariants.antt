use Rattle.std.proofs.Common.{length}
use Rattle.cd_session_rules.proofs.sendable.+all_sendable.Given as goal

abbrev pub decreases-all_sendable : goal.decreases-all_sendable
decreases-all_sendable l = length l.frames.now
