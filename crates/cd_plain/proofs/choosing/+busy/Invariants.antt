use Rattle.std.proofs.Common.{length}
use Rattle.cd_plain.proofs.choosing.+busy.Given as goal

abbrev pub decreases-busy : goal.decreases-busy
decreases-busy l = length l.sessions.now
