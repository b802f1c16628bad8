use Rattle.std.proofs.Common.{◌≡◌, ◌+◌, length}
use Rattle.cd_ast.specs.Pieces.{pieces_after}
use Rattle.cd_ast.specs.Subst.{parts_of, subst, substituted}
use Rattle.cd_lexer.specs.Output.{Reached}
use Rattle.cd_lexer.proofs.subst.substitute.Given as goal

abbrev pub invariant-loop-piece : goal.invariant-loop-piece
invariant-loop-piece l = record {
  reached : Reached l.out (subst l.fn.text l.symbols) (substituted l.symbols l.at (parts_of (pieces_after 0 l.before l.rest)));
  place : l.at + length l.rest ≡ length l.fn.text;
}

abbrev pub decreases-loop-piece : goal.decreases-loop-piece
decreases-loop-piece l = length l.rest
