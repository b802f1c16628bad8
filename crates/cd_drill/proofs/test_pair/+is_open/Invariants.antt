use Rattle.std.proofs.Common.{length}
use Rattle.cd_drill.proofs.test_pair.+is_open.Given as goal

abbrev pub decreases-is_open : goal.decreases-is_open
decreases-is_open l = length l.sessions.now
