use Rattle.std.proofs.Common.{◌≡◌, drop}
use Rattle.cd_ast.specs.Canonical.{stmts_onto}
use Rattle.cd_ast.proofs.canonical.Printer.stmts.Given as goal

abbrev pub invariant-loop-stmt : goal.invariant-loop-stmt
invariant-loop-stmt l = stmts_onto l.self (drop l.stmt-index l.stmts) ≡ stmts_onto l.fn.self l.stmts
