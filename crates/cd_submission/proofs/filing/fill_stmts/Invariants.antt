use Rattle.std.proofs.Common.{◌≡◌, ◌++◌, map, take, drop}
use Rattle.cd_submission.specs.Filing.{filled_stmt}
use Rattle.cd_submission.proofs.filing.fill_stmts.Given as goal

abbrev pub invariant-loop-i : goal.invariant-loop-i
invariant-loop-i l = l.stmts.items ≡ map filled_stmt (take l.i l.initial.stmts.items) ++ drop l.i l.initial.stmts.items
