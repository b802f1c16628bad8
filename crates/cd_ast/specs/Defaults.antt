-- The values that a text gives to names.
use Rattle.std.specs.Prelude.{ℕ, ◌-◌, Bool, false, ◌==◌, ◌&&◌, ◌||◌, if◌then◌else◌, nat_lt, List, [], ◌∷◌, length, take, drop, Option, Some, None, codes}
use Rattle.std.specs.List.{list_any}
use Rattle.std.specs.Str.{bytes_eq, str_eq_ignore_ascii_case}
use Rattle.cd_types.specs.Symbols.{upper_case, with_symbol}
use Rattle.cd_ast.specs.declared.piece.PieceKind.{PieceKind}
use Rattle.cd_ast.specs.declared.piece.PieceKind.TheVariants.{LineEnd, Blank, Comment, Dash, Word, Quoted, Sign, Stray, CutQuote, CutComment}
use Rattle.cd_ast.specs.Pieces.{Piece, pieces_of, run_len, is_gap}
use Rattle.cd_ast.specs.Subst.{ends_name, is_word}

-- the words with which statements begin
abbrev pub statement_words : List (List ℕ)
statement_words = codes "COPY" ∷ codes "RUN" ∷ codes "SUBMIT" ∷ codes "IF" ∷ codes "ELSE" ∷ codes "EIF" ∷ codes "GOTO" ∷ codes "EXIT" ∷ []

-- a word that is one of them, in any case
unfoldable pub is_statement_word : List ℕ → Bool
is_statement_word word = list_any (λ other. str_eq_ignore_ascii_case word other) statement_words

-- a piece with which the statements begin
unfoldable pub is_statement : PieceKind → List ℕ → Bool
is_statement kind bytes = is_word kind && is_statement_word bytes

-- the name that a word ends with, behind an &: letters and digits, at least one
unfoldable pub last_name : List ℕ → Option (List ℕ)
last_name [] = None
last_name (b ∷ bs) = if b == 38 && nat_lt 0 (length bs) && run_len ends_name bs == length bs then Some bs else last_name bs

-- a sign that is this one byte
unfoldable pub is_sign : PieceKind → List ℕ → ℕ → Bool
is_sign Sign bytes b = bytes_eq bytes (b ∷ [])
is_sign LineEnd bytes b = false
is_sign Blank bytes b = false
is_sign Comment bytes b = false
is_sign Dash bytes b = false
is_sign Word bytes b = false
is_sign Quoted bytes b = false
is_sign Stray bytes b = false
is_sign CutQuote bytes b = false
is_sign CutComment bytes b = false

-- what a piece is as a value: a word that begins no statement, or what stands between quotes
unfoldable pub piece_value : PieceKind → List ℕ → Option (List ℕ)
piece_value Word bytes = if is_statement_word bytes then None else Some bytes
piece_value Quoted bytes = Some (take (length bytes - 2) (drop 1 bytes))
piece_value LineEnd bytes = None
piece_value Blank bytes = None
piece_value Comment bytes = None
piece_value Dash bytes = None
piece_value Sign bytes = None
piece_value Stray bytes = None
piece_value CutQuote bytes = None
piece_value CutComment bytes = None

-- the value that pieces begin with, behind gaps and commas
unfoldable pub first_value : List Piece → Option (List ℕ)
first_value [] = None
first_value (piece ∷ pieces) = if is_gap piece.kind || is_sign piece.kind piece.bytes 44 then first_value pieces else piece_value piece.kind piece.bytes

-- the value behind the sign = that pieces begin with
unfoldable pub given_value : List Piece → Option (List ℕ)
given_value [] = None
given_value (piece ∷ pieces) = if is_sign piece.kind piece.bytes 61 then first_value pieces else None

-- a name with its value, where both are there, before others
abbrev pub defined : Option (List ℕ) → Option (List ℕ) → List (List ℕ × List ℕ) → List (List ℕ × List ℕ)
defined (Some name) (Some value) others = (name, value) ∷ others
defined (Some name) None others = others
defined None value others = others

-- the name that a piece may define
unfoldable pub piece_name : PieceKind → List ℕ → Option (List ℕ)
piece_name kind bytes = if is_word kind then last_name bytes else None

-- the definitions before the first statement, in order
unfoldable pub definitions : List Piece → List (List ℕ × List ℕ)
definitions [] = []
definitions (piece ∷ pieces) =
    if is_statement piece.kind piece.bytes then []
    else defined (piece_name piece.kind piece.bytes) (given_value pieces) (definitions pieces)

-- symbols, with definitions made one after the other
unfoldable pub with_definitions : List (List ℕ × List ℕ) → List (List ℕ × List ℕ) → List (List ℕ × List ℕ)
with_definitions symbols [] = symbols
with_definitions symbols (definition ∷ others) = with_definitions (with_symbol symbols (upper_case definition.0) definition.1) others

-- the values that a text gives to names
abbrev pub defaults : List ℕ → List (List ℕ × List ℕ)
defaults text = with_definitions [] (definitions (pieces_of text))
