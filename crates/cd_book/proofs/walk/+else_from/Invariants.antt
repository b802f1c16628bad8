use Rattle.std.proofs.Common.{length}
use Rattle.cd_book.proofs.walk.+else_from.Given as goal

abbrev pub decreases-else_from : goal.decreases-else_from
decreases-else_from l = length l.stmts.now
