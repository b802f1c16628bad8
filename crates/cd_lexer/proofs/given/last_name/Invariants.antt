use Rattle.std.proofs.Common.{◌≡◌, length}
use Rattle.cd_ast.specs.Defaults.{last_name}
use Rattle.cd_lexer.proofs.given.last_name.Given as goal

abbrev pub invariant-loop-byte : goal.invariant-loop-byte
invariant-loop-byte l = last_name l.rest ≡ last_name l.fn.word

abbrev pub decreases-loop-byte : goal.decreases-loop-byte
decreases-loop-byte l = length l.rest
