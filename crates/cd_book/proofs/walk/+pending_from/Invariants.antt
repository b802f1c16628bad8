use Rattle.std.proofs.Common.{length}
use Rattle.cd_book.proofs.walk.+pending_from.Given as goal

abbrev pub decreases-pending_from : goal.decreases-pending_from
decreases-pending_from l = length l.more.now
