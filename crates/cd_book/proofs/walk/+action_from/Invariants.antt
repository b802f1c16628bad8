use Rattle.std.proofs.Common.{length}
use Rattle.cd_book.proofs.walk.+action_from.Given as goal

abbrev pub decreases-action_from : goal.decreases-action_from
decreases-action_from l = length l.stmts.now
