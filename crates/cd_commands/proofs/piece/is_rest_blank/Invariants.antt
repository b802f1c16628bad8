use Rattle.std.proofs.Common.{◌≡◌, length}
use Rattle.cd_ast.specs.Pieces.{is_rest_blank}
use Rattle.cd_commands.proofs.piece.is_rest_blank.Given as goal

abbrev pub invariant-loop-byte : goal.invariant-loop-byte
invariant-loop-byte l = is_rest_blank 0 l.rest ≡ is_rest_blank 0 l.fn.bytes

abbrev pub decreases-loop-byte : goal.decreases-loop-byte
decreases-loop-byte l = length l.rest
