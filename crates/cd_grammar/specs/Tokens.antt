-- The tokens of a text as the grammar sees them.
use Rattle.std.specs.Prelude.{ℕ, ◌-◌, List, [], ◌∷◌, Bool, true, false, ◌&&◌, not, map, length, take, drop, slice_range, if◌then◌else◌}
use Rattle.cd_ast.specs.declared.piece.PieceKind.{PieceKind}
use Rattle.cd_ast.specs.declared.piece.PieceKind.TheVariants as piece
use Rattle.cd_ast.specs.Tokens.{Span, spans_of}
use Rattle.cd_grammar.specs.declared.token.Key.{Key}
use Rattle.cd_grammar.specs.declared.token.Key.TheVariants as key
use Rattle.cd_grammar.specs.declared.token.Sign.{Sign}
use Rattle.cd_grammar.specs.declared.token.Sign.TheVariants as sign
use Rattle.cd_grammar.specs.declared.token.Token.{Token}
use Rattle.cd_grammar.specs.declared.token.Token.TheVariants.{Word, Quoted, Mark}
use Rattle.cd_grammar.specs.Words.{key_of, sign_of}

-- what stands between the quotes
abbrev pub inside : List ℕ → List ℕ
inside bytes = take (length bytes - 2) (drop 1 bytes)

-- the token with these bytes at this place; only words, quoted texts and signs are tokens
abbrev pub seen_token : PieceKind → ℕ → List ℕ → Token
seen_token piece.Word at bytes = Word at (key_of bytes) bytes
seen_token piece.Quoted at bytes = Quoted at (inside bytes)
seen_token piece.Sign at bytes = Mark at (sign_of bytes)
seen_token piece.LineEnd at bytes = Mark at (sign_of bytes)
seen_token piece.Blank at bytes = Mark at (sign_of bytes)
seen_token piece.Comment at bytes = Mark at (sign_of bytes)
seen_token piece.Dash at bytes = Mark at (sign_of bytes)
seen_token piece.Stray at bytes = Mark at (sign_of bytes)
seen_token piece.CutQuote at bytes = Mark at (sign_of bytes)
seen_token piece.CutComment at bytes = Mark at (sign_of bytes)

abbrev pub token_of : List ℕ → Span → Token
token_of text span = seen_token span.kind span.from (slice_range text span.from span.to)

abbrev pub place_of : Token → ℕ
place_of (Word at k bytes) = at
place_of (Quoted at bytes) = at
place_of (Mark at s) = at

-- whether a token stands in the parentheses of STARTT: not, behind the word STARTT, behind its =, or in them
pub data Side : Type 0 where
  Out : Side
  Named : Side
  Opening : Side
  In : Side

abbrev pub is_comma : Sign → Bool
is_comma sign.Comma = true
is_comma sign.Open = false
is_comma sign.Close = false
is_comma sign.Equals = false
is_comma sign.Same = false
is_comma sign.Semicolon = false
is_comma sign.Less = false
is_comma sign.Greater = false
is_comma sign.AtMost = false
is_comma sign.AtLeast = false
is_comma sign.Unequal = false

-- where the token behind a word stands
abbrev pub behind_word : Key → Side
behind_word key.Startt = Named
behind_word _ = Out

-- where the token behind a sign stands
abbrev pub behind_sign : Side → Sign → Side
behind_sign Out s = Out
behind_sign Named sign.Equals = Opening
behind_sign Named sign.Comma = Named
behind_sign Named _ = Out
behind_sign Opening sign.Open = In
behind_sign Opening sign.Comma = Opening
behind_sign Opening _ = Out
behind_sign In sign.Close = Out
behind_sign In _ = In

-- where the token behind this one stands
abbrev pub behind : Side → Token → Side
behind In (Word at k bytes) = In
behind Out (Word at k bytes) = behind_word k
behind Named (Word at k bytes) = behind_word k
behind Opening (Word at k bytes) = behind_word k
behind In (Quoted at bytes) = In
behind Out (Quoted at bytes) = Out
behind Named (Quoted at bytes) = Out
behind Opening (Quoted at bytes) = Out
behind side (Mark at s) = behind_sign side s

-- a comma that reads as a blank: one outside those parentheses
abbrev pub is_blank_comma : Side → Token → Bool
is_blank_comma side (Word at k bytes) = false
is_blank_comma side (Quoted at bytes) = false
is_blank_comma In (Mark at s) = false
is_blank_comma Out (Mark at s) = is_comma s
is_blank_comma Named (Mark at s) = is_comma s
is_blank_comma Opening (Mark at s) = is_comma s

-- tokens without the commas that read as blanks
unfoldable pub without_commas : Side → List Token → List Token
without_commas side [] = []
without_commas side (token ∷ tokens) =
    if is_blank_comma side token then without_commas (behind side token) tokens else token ∷ without_commas (behind side token) tokens

-- the tokens of a text
abbrev pub tokens_of : List ℕ → List Token
tokens_of text = without_commas Out (map (token_of text) (spans_of text))
