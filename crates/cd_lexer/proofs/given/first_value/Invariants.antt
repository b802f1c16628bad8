use Rattle.std.proofs.Common.{◌≡◌, length}
use Rattle.cd_ast.specs.Pieces.{pieces_after}
use Rattle.cd_ast.specs.Defaults.{first_value}
use Rattle.cd_lexer.proofs.given.first_value.Given as goal

abbrev pub invariant-loop-piece : goal.invariant-loop-piece
invariant-loop-piece l = first_value (pieces_after 0 l.before l.rest) ≡ first_value (pieces_after 0 l.fn.before l.fn.text)

abbrev pub decreases-loop-piece : goal.decreases-loop-piece
decreases-loop-piece l = length l.rest
