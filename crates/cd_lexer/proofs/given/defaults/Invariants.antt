use Rattle.std.proofs.Common.{◌≡◌, length}
use Rattle.cd_ast.specs.Pieces.{pieces_after}
use Rattle.cd_ast.specs.Defaults.{with_definitions, definitions, defaults}
use Rattle.cd_lexer.proofs.given.defaults.Given as goal

abbrev pub invariant-loop-piece : goal.invariant-loop-piece
invariant-loop-piece l = with_definitions l.symbols (definitions (pieces_after 0 l.before l.rest)) ≡ defaults l.fn.text

abbrev pub decreases-loop-piece : goal.decreases-loop-piece
decreases-loop-piece l = length l.rest
