use Rattle.std.proofs.Common.{◌≡◌, ◌+◌, ◌++◌, length, map}
use Rattle.cd_ast.specs.Pieces.{pieces_after, pieces_of}
use Rattle.cd_ast.specs.Tokens.{spans_from, spans_of, open_from}
use Rattle.cd_lexer.specs.Spans.{span_of}
use Rattle.cd_lexer.proofs.token.tokens.Given as goal

abbrev pub invariant-loop-piece : goal.invariant-loop-piece
invariant-loop-piece l = record {
  told : map span_of l.tokens.items ++ spans_from l.at (pieces_after 0 l.before l.rest) ≡ spans_of l.fn.text;
  flaws : open_from l.at (pieces_after 0 l.before l.rest) ≡ open_from 0 (pieces_of l.fn.text);
  place : l.at + length l.rest ≡ length l.fn.text;
}

abbrev pub decreases-loop-piece : goal.decreases-loop-piece
decreases-loop-piece l = length l.rest
