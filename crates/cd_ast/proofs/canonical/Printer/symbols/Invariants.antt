use Rattle.std.proofs.Common.{◌≡◌, drop}
use Rattle.cd_ast.specs.Canonical.{symbols_onto}
use Rattle.cd_ast.proofs.canonical.Printer.symbols.Given as goal

abbrev pub invariant-loop-place : goal.invariant-loop-place
invariant-loop-place l = symbols_onto l.self (drop l.place l.symbols) ≡ symbols_onto l.fn.self l.symbols
