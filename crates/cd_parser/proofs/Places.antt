-- The lexer's tokens stand in their text.
use Rattle.std.proofs.Common.{◌≡◌, ℕ, ◌<◌, ◌≤◌, List, [], ◌∷◌, map, length, arith}
use Rattle.cd_ast.specs.Tokens.{Span}
use Rattle.cd_ast.specs.Laws.{AreInOrder}
use Rattle.cd_lexer.specs.declared.token.Token.{Token}
use Rattle.cd_lexer.specs.Spans.{span_of}
use Rattle.cd_parser.specs.Region.{AreWithin}

order_le : (from to : ℕ) (spans : List Span) → AreInOrder from spans to → from ≤ to
order_le from to [] o = o
order_le from to (span ∷ spans) o = omega (arith, o.0, o.1, order_le span.to to spans o.2)

pub within : (from to : ℕ) (tokens : List Token) → AreInOrder from (map span_of tokens) to → AreWithin to tokens
within from to [] o = tt
within from to (t ∷ ts) o = ((omega (arith, o.1), order_le t.to to (map span_of ts) o.2), within t.to to ts o.2)
