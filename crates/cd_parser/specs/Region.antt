-- Where a token stands, and what the lexer's tokens are in their text.
use Rattle.std.specs.Prelude.{ℕ, ◌≤◌, List, [], ◌∷◌}
use Rattle.cd_lexer.specs.declared.token.Token.{Token}
use Rattle.cd_grammar.specs.Tokens as sides
use Rattle.cd_parser.specs.declared.classify.Region.{Region}
use Rattle.cd_parser.specs.declared.classify.Region.TheVariants.{Out, Named, Opening, In}

abbrev pub side_of : Region → sides.Side
side_of Out = sides.Out
side_of Named = sides.Named
side_of Opening = sides.Opening
side_of In = sides.In

-- a token stands within a text of this length
abbrev pub IsWithin : ℕ → Token → Type 0
IsWithin len token = (token.from ≤ token.to) × (token.to ≤ len)

-- and so do all of these
abbrev pub AreWithin : ℕ → List Token → Type 0
AreWithin len [] = Unit {0}
AreWithin len (token ∷ tokens) = IsWithin len token × AreWithin len tokens
