-- The tokens of a command.
use Rattle.std.specs.Prelude.{ℕ, ◌+◌, List, [], ◌∷◌, Bool, true, false, if◌then◌else◌, nat_lt, length, Option, Some, None}
use Rattle.cd_ast.specs.declared.piece.PieceKind.{PieceKind}
use Rattle.cd_ast.specs.declared.piece.PieceKind.TheVariants.{LineEnd, Blank, Comment, Stray, CutQuote, CutComment}
use Rattle.cd_ast.specs.Pieces.{Piece, pieces_of}
use Rattle.cd_ast.specs.Tokens.{is_token, bad_place}
use Rattle.cd_grammar.specs.declared.token.Sign.TheVariants as sign
use Rattle.cd_grammar.specs.declared.token.Token.{Token}
use Rattle.cd_grammar.specs.declared.token.Token.TheVariants as token
use Rattle.cd_grammar.specs.Tokens.{seen_token}

-- What makes no token reads as a sign that no command has, at its place.
abbrev pub no_token : ℕ → Token
no_token at = token.Mark at sign.Unequal

-- a ! alone, and a quote or a comment that isn't closed
unfoldable pub is_flawed : PieceKind → Bool
is_flawed Stray = true
is_flawed CutQuote = true
is_flawed CutComment = true
is_flawed _ = false

-- A piece at this place as a token, if it is one. In a piece with a byte that is refused, or with which it isn't UTF-8, that
-- byte makes none; a comment may have such a byte too.
unfoldable pub piece_token : ℕ → PieceKind → List ℕ → Option Token
piece_token at kind bytes =
    if is_flawed kind then Some (no_token at)
    else (if nat_lt (bad_place bytes) (length bytes) then Some (no_token (at + bad_place bytes))
    else (if is_token kind then Some (seen_token kind at bytes) else None))

-- whether what stands behind a token stands in parentheses, which in commands are those of a start
unfoldable pub behind : Bool → Token → Bool
behind inside (token.Mark at sign.Open) = true
behind inside (token.Mark at sign.Close) = false
behind inside _ = inside

-- outside parentheses a comma reads as a blank
unfoldable pub is_blank_comma : Bool → Token → Bool
is_blank_comma false (token.Mark at sign.Comma) = true
is_blank_comma inside _ = false

abbrev pub onto : Bool → Token → List Token → List Token
onto true t tokens = tokens
onto false t tokens = t ∷ tokens

-- tokens behind one that there may be
abbrev pub with_token : Bool → Option Token → (Bool → List Token) → List Token
with_token inside None more = more inside
with_token inside (Some t) more = onto (is_blank_comma inside t) t (more (behind inside t))

-- the tokens of pieces, the first of which begins at a place, in parentheses or not
unfoldable pub seen_from : Bool → ℕ → List Piece → List Token
seen_from inside at [] = []
seen_from inside at (piece ∷ pieces) =
    with_token inside (piece_token at piece.kind piece.bytes) (λ inside2. seen_from inside2 (at + length piece.bytes) pieces)

-- the tokens of a command
abbrev pub seen : List ℕ → List Token
seen text = seen_from false 0 (pieces_of text)

-- a blank, a line's end or a comment
unfoldable pub is_lead : PieceKind → Bool
is_lead LineEnd = true
is_lead Blank = true
is_lead Comment = true
is_lead _ = false

-- how many bytes stand before the first that is neither a blank nor in a comment
unfoldable pub lead_from : List Piece → ℕ
lead_from [] = 0
lead_from (piece ∷ pieces) = if is_lead piece.kind then length piece.bytes + lead_from pieces else 0

abbrev pub lead : List ℕ → ℕ
lead text = lead_from (pieces_of text)
