use Rattle.std.proofs.Common.{◌≡◌, drop}
use Rattle.cd_ast.specs.Defaults.{defaults, with_definitions}
use Rattle.cd_parser.proofs.texts.symbols_of.Given as goal

abbrev pub invariant-loop-place : goal.invariant-loop-place
invariant-loop-place l = with_definitions l.symbols (drop l.place l.overrides) ≡ with_definitions (defaults l.text) l.overrides
