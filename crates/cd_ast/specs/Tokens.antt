-- The tokens of a text, and the first fault of its bytes.
use Rattle.std.specs.Prelude.{ℕ, ◌+◌, Bool, true, false, if◌then◌else◌, nat_lt, min, List, [], ◌∷◌, length, Option, Some, None}
use Rattle.std.specs.Str.Lossy.{utf8_valid_len}
use Rattle.cd_ast.specs.declared.fault.FaultName.{FaultName}
use Rattle.cd_ast.specs.declared.fault.FaultName.TheVariants.{BadByte, OpenQuote, OpenComment}
use Rattle.cd_ast.specs.declared.piece.PieceKind.{PieceKind}
use Rattle.cd_ast.specs.declared.piece.PieceKind.TheVariants.{LineEnd, Blank, Comment, Dash, Word, Quoted, Sign, Stray, CutQuote, CutComment}
use Rattle.cd_ast.specs.Bytes.{is_refused}
use Rattle.cd_ast.specs.Pieces.{Piece, pieces_of, run_len}

-- a token: what it is, and the places of its first byte and of the byte behind it
pub record Span : Type 0 where
  pub kind : PieceKind
  pub from : ℕ
  pub to : ℕ

-- words, quoted texts and signs are tokens
abbrev pub is_token : PieceKind → Bool
is_token LineEnd = false
is_token Blank = false
is_token Comment = false
is_token Dash = false
is_token Word = true
is_token Quoted = true
is_token Sign = true
is_token Stray = false
is_token CutQuote = false
is_token CutComment = false

-- the tokens among pieces, the first of which begins at the place at
unfoldable pub spans_from : ℕ → List Piece → List Span
spans_from at [] = []
spans_from at (piece ∷ pieces) =
    if is_token piece.kind
    then record { kind = piece.kind; from = at; to = at + length piece.bytes } ∷ spans_from (at + length piece.bytes) pieces
    else spans_from (at + length piece.bytes) pieces

abbrev pub spans_of : List ℕ → List Span
spans_of text = spans_from 0 (pieces_of text)

-- a piece that is a fault: a ! alone, and what the text's end cuts
abbrev pub flaw_in : PieceKind → Option FaultName
flaw_in LineEnd = None
flaw_in Blank = None
flaw_in Comment = None
flaw_in Dash = None
flaw_in Word = None
flaw_in Quoted = None
flaw_in Sign = None
flaw_in Stray = Some BadByte
flaw_in CutQuote = Some OpenQuote
flaw_in CutComment = Some OpenComment

-- the fault at this place where there is one, and else what is given
abbrev pub flaw_or : Option FaultName → ℕ → Option (FaultName × ℕ) → Option (FaultName × ℕ)
flaw_or None at later = later
flaw_or (Some name) at later = Some (name, at)

-- the first of the pieces that is a fault, and its place
unfoldable pub open_from : ℕ → List Piece → Option (FaultName × ℕ)
open_from at [] = None
open_from at (piece ∷ pieces) = flaw_or (flaw_in piece.kind) at (open_from (at + length piece.bytes) pieces)

unfoldable pub ends_good : ℕ → List ℕ → Bool
ends_good b bs = is_refused b

-- the place of the first byte that is refused, or with which the text isn't UTF-8; the text's length where there is none
unfoldable pub bad_place : List ℕ → ℕ
bad_place text = min (run_len ends_good text) (utf8_valid_len text)

-- of a bad byte, which there is below len, and of another fault the earlier one
abbrev pub earlier : ℕ → ℕ → Option (FaultName × ℕ) → Option (FaultName × ℕ)
earlier bad len None = if nat_lt bad len then Some (BadByte, bad) else None
earlier bad len (Some flaw) = if nat_lt bad flaw.1 then Some (BadByte, bad) else Some flaw

-- the first fault of a text's bytes and pieces
unfoldable pub flaw_of : List ℕ → Option (FaultName × ℕ)
flaw_of text = earlier (bad_place text) (length text) (open_from 0 (pieces_of text))
