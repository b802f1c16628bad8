use Rattle.std.proofs.Common.{◌≡◌, ◌+◌, length}
use Rattle.cd_ast.specs.Subst.{parts_after, substituted}
use Rattle.cd_lexer.specs.Output.{PutsOut}
use Rattle.cd_lexer.proofs.subst.put_parts.Given as goal

abbrev pub invariant-loop-part : goal.invariant-loop-part
invariant-loop-part l = record {
  put : PutsOut l.fn.out l.out (substituted l.symbols l.at (parts_after l.defines 0 l.fn.bytes)) (substituted l.symbols l.place (parts_after l.defines 0 l.rest));
  place : l.place + length l.rest ≡ l.at + length l.fn.bytes;
}

abbrev pub decreases-loop-part : goal.decreases-loop-part
decreases-loop-part l = length l.rest
