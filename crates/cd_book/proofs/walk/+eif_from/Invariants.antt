use Rattle.std.proofs.Common.{length}
use Rattle.cd_book.proofs.walk.+eif_from.Given as goal

abbrev pub decreases-eif_from : goal.decreases-eif_from
decreases-eif_from l = length l.stmts.now
