use Rattle.std.proofs.Common.{◌≡◌, ◌+◌, ◌++◌, false, length}
use Rattle.cd_ast.specs.Pieces.{pieces_after, pieces_of}
use Rattle.cd_commands.specs.Seen.{seen_from}
use Rattle.cd_commands.proofs.seen.seen.Given as goal

abbrev pub invariant-loop-piece : goal.invariant-loop-piece
invariant-loop-piece l = record {
  told : l.tokens.items ++ seen_from l.inside l.at (pieces_after 0 l.before l.rest) ≡ seen_from false 0 (pieces_of l.fn.text);
  place : l.at + length l.rest ≡ length l.fn.text;
}

abbrev pub decreases-loop-piece : goal.decreases-loop-piece
decreases-loop-piece l = length l.rest
