-- Symbolic substitution: one pass, in which each reference gives way to its value.
use Rattle.std.specs.Prelude.{ℕ, zero, suc, ◌+◌, ◌-◌, Bool, true, false, not, ◌==◌, ◌&&◌, if◌then◌else◌, nat_lt, nat_le, List, [], ◌∷◌, ◌++◌, length, take, drop, Option, Some, None, Result, Ok, Err}
use Rattle.std.specs.Char.{is_ascii_alphanumeric}
use Rattle.cd_types.specs.Symbols.{upper_case, symbol_value}
use Rattle.cd_ast.specs.declared.piece.PieceKind.{PieceKind}
use Rattle.cd_ast.specs.declared.piece.PieceKind.TheVariants.{LineEnd, Blank, Comment, Dash, Word, Quoted, Sign, Stray, CutQuote, CutComment}
use Rattle.cd_ast.specs.Pieces.{Piece, pieces_of, bytes_of, run_len}

-- a name ends before what is neither a letter nor a digit, and plain text before an &
unfoldable pub ends_name : ℕ → List ℕ → Bool
ends_name b bs = not (is_ascii_alphanumeric b)

unfoldable pub ends_plain : ℕ → List ℕ → Bool
ends_plain b bs = b == 38

-- the first byte is this one
unfoldable pub begins_with : ℕ → List ℕ → Bool
begins_with a [] = false
begins_with a (b ∷ bs) = b == a

-- a part of a text: its bytes, and the name of the reference that it is, if it is one
pub record Part : Type 0 where
  pub bytes : List ℕ
  pub name : Option (List ℕ)

-- the reference with a name of n bytes that bs begins with, behind its &. One at the end of a word with a = behind it
-- is a definition, and stands for itself; with any other goes one . behind its name
unfoldable pub reference_at : Bool → ℕ → List ℕ → ℕ × Option (List ℕ)
reference_at defines n bs =
    if defines && n == length bs then (n + 1, None)
    else (if begins_with 46 (drop n bs) then (n + 2, Some (take n bs)) else (n + 1, Some (take n bs)))

-- the part that begins with the byte b before bs: its length, and its name
unfoldable pub part_at : Bool → ℕ → List ℕ → ℕ × Option (List ℕ)
part_at defines b bs =
    if b == 38 && nat_lt 0 (run_len ends_name bs) then reference_at defines (run_len ends_name bs) bs
    else (run_len ends_plain bs + 1, None)

-- the parts of bytes, the first of which, skip of them, are in no part
unfoldable pub parts_after : Bool → ℕ → List ℕ → List Part
parts_after defines skip [] = []
parts_after defines (suc skip) (b ∷ bs) = parts_after defines skip bs
parts_after defines zero (b ∷ bs) =
    record { bytes = take (part_at defines b bs).0 (b ∷ bs); name = (part_at defines b bs).1 }
    ∷ parts_after defines ((part_at defines b bs).0 - 1) bs

-- a piece whose references give way to values: a word, and what stands between "
abbrev pub is_read : PieceKind → List ℕ → Bool
is_read LineEnd bytes = false
is_read Blank bytes = false
is_read Comment bytes = false
is_read Dash bytes = false
is_read Word bytes = true
is_read Quoted bytes = begins_with 34 bytes
is_read Sign bytes = false
is_read Stray bytes = false
is_read CutQuote bytes = begins_with 34 bytes
is_read CutComment bytes = false

-- a piece that a definition may stand at the end of
abbrev pub is_word : PieceKind → Bool
is_word LineEnd = false
is_word Blank = false
is_word Comment = false
is_word Dash = false
is_word Word = true
is_word Quoted = false
is_word Sign = false
is_word Stray = false
is_word CutQuote = false
is_word CutComment = false

-- the parts of a piece before these bytes; one that isn't read is one part
unfoldable pub piece_parts : PieceKind → List ℕ → List ℕ → List Part
piece_parts kind bytes behind =
    if is_read kind bytes then parts_after (is_word kind && begins_with 61 behind) 0 bytes
    else record { bytes = bytes; name = None } ∷ []

-- the parts of pieces
unfoldable pub parts_of : List Piece → List Part
parts_of [] = []
parts_of (piece ∷ pieces) = piece_parts piece.kind piece.bytes (bytes_of pieces) ++ parts_of pieces

-- the value of a name: one of more than 17 bytes has none
unfoldable pub value_of : List (List ℕ × List ℕ) → List ℕ → Option (List ℕ)
value_of symbols name = if nat_le (length name) 17 then symbol_value symbols (upper_case name) else None

-- what a part gives way to
abbrev pub given_for : List (List ℕ × List ℕ) → List ℕ → Option (List ℕ) → Option (List ℕ)
given_for symbols bytes None = Some bytes
given_for symbols bytes (Some name) = value_of symbols name

-- bytes before what follows them; the place of a name without a value goes before all
abbrev pub before_all : Option (List ℕ) → ℕ → Result (List ℕ) ℕ → Result (List ℕ) ℕ
before_all None at rest = Err at
before_all (Some bytes) at (Ok rest) = Ok (bytes ++ rest)
before_all (Some bytes) at (Err later) = Err later

-- what parts give way to, the first of which is at the place at; or the place of the first name without a value
unfoldable pub substituted : List (List ℕ × List ℕ) → ℕ → List Part → Result (List ℕ) ℕ
substituted symbols at [] = Ok []
substituted symbols at (part ∷ parts) = before_all (given_for symbols part.bytes part.name) at (substituted symbols (at + length part.bytes) parts)

-- a text after substitution, or the place of its first name without a value
abbrev pub subst : List ℕ → List (List ℕ × List ℕ) → Result (List ℕ) ℕ
subst text symbols = substituted symbols 0 (parts_of (pieces_of text))
