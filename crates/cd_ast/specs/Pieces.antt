-- How a text is cut into pieces.
use Rattle.std.specs.Prelude.{ℕ, zero, suc, ◌+◌, ◌-◌, Bool, true, false, not, ◌==◌, ◌&&◌, ◌||◌, if◌then◌else◌, nat_lt, List, [], ◌∷◌, ◌++◌, length, take, drop}
use Rattle.cd_ast.specs.declared.piece.PieceKind.{PieceKind}
use Rattle.cd_ast.specs.declared.piece.PieceKind.TheVariants.{LineEnd, Blank, Comment, Dash, Word, Quoted, Sign, Stray, CutQuote, CutComment}
use Rattle.cd_ast.specs.Bytes.{is_blank, is_quote, is_sign_byte, is_word_byte, is_double_sign, opens_comment, closes_comment}

-- how many bytes stand before the first at which stops holds of it and of what follows, or all of them
unfoldable pub run_len : (ℕ → List ℕ → Bool) → List ℕ → ℕ
run_len stops [] = 0
run_len stops (b ∷ bs) = if stops b bs then 0 else run_len stops bs + 1

-- where a line, a quoted text and a word end
unfoldable pub ends_line : ℕ → List ℕ → Bool
ends_line b bs = b == 10

unfoldable pub ends_quote : ℕ → ℕ → List ℕ → Bool
ends_quote q b bs = b == q

unfoldable pub ends_word : ℕ → List ℕ → Bool
ends_word b bs = not (is_word_byte b) || opens_comment b bs

-- up to the line's end there are only blanks and whole comments; the first bytes, skip of them, are a comment's
unfoldable pub is_rest_blank : ℕ → List ℕ → Bool
is_rest_blank skip [] = true
is_rest_blank (suc skip) (b ∷ bs) = is_rest_blank skip bs
is_rest_blank zero (b ∷ bs) =
    if b == 10 then true
    else (if is_blank b then is_rest_blank 0 bs
    else (if opens_comment b bs && nat_lt (run_len closes_comment (drop 1 bs)) (length (drop 1 bs)) then is_rest_blank (run_len closes_comment (drop 1 bs) + 3) bs
    else false))

-- a piece that is a gap: what stands behind it doesn't touch a token
abbrev pub is_gap : PieceKind → Bool
is_gap LineEnd = true
is_gap Blank = true
is_gap Comment = true
is_gap Dash = true
is_gap Word = false
is_gap Quoted = false
is_gap Sign = false
is_gap Stray = false
is_gap CutQuote = false
is_gap CutComment = false

abbrev pub is_line_end : PieceKind → Bool
is_line_end LineEnd = true
is_line_end Blank = false
is_line_end Comment = false
is_line_end Dash = false
is_line_end Word = false
is_line_end Quoted = false
is_line_end Sign = false
is_line_end Stray = false
is_line_end CutQuote = false
is_line_end CutComment = false

-- a comment, from what follows its /* on: it ends with the first */, and is cut where there is none
unfoldable pub comment_at : List ℕ → PieceKind × ℕ
comment_at bs = if nat_lt (run_len closes_comment bs) (length bs) then (Comment, run_len closes_comment bs + 4) else (CutComment, length bs + 2)

-- quoted text, from what follows its first quote on: it ends with the next same one
unfoldable pub quote_at : ℕ → List ℕ → PieceKind × ℕ
quote_at q bs = if nat_lt (run_len (ends_quote q) bs) (length bs) then (Quoted, run_len (ends_quote q) bs + 2) else (CutQuote, length bs + 1)

-- the longest sign is taken, and a ! is none alone
unfoldable pub sign_at : ℕ → List ℕ → PieceKind × ℕ
sign_at b [] = if b == 33 then (Stray, 1) else (Sign, 1)
sign_at b (c ∷ cs) = if is_double_sign b c then (Sign, 2) else (if b == 33 then (Stray, 1) else (Sign, 1))

-- a word; it is skipped where it is a - behind a gap, with nothing but blanks and comments up to the line's end
unfoldable pub word_at : PieceKind → ℕ → List ℕ → PieceKind × ℕ
word_at before b bs =
    if b == 45 && run_len ends_word bs == 0 && is_gap before && is_rest_blank 0 bs then (Dash, 1) else (Word, run_len ends_word bs + 1)

-- the piece that begins with the byte b before bs, after a piece of the kind before: what it is, and its length
unfoldable pub piece_at : PieceKind → ℕ → List ℕ → PieceKind × ℕ
piece_at before b bs =
    if b == 10 then (LineEnd, 1)
    else (if is_blank b then (Blank, 1)
    else (if b == 42 && is_line_end before then (Comment, run_len ends_line bs + 1)
    else (if opens_comment b bs then comment_at (drop 1 bs)
    else (if is_quote b then quote_at b bs
    else (if is_sign_byte b then sign_at b bs
    else word_at before b bs)))))

-- a piece of a text: what it is, and its bytes
pub record Piece : Type 0 where
  pub kind : PieceKind
  pub bytes : List ℕ

-- the pieces of what follows a piece, whose last bytes, skip of them, still stand at the front
unfoldable pub pieces_after : ℕ → PieceKind → List ℕ → List Piece
pieces_after skip before [] = []
pieces_after (suc skip) before (b ∷ bs) = pieces_after skip before bs
pieces_after zero before (b ∷ bs) =
    record { kind = (piece_at before b bs).0; bytes = take (piece_at before b bs).1 (b ∷ bs) }
    ∷ pieces_after ((piece_at before b bs).1 - 1) (piece_at before b bs).0 bs

-- the pieces of a text, which begins as a line does
abbrev pub pieces_of : List ℕ → List Piece
pieces_of text = pieces_after 0 LineEnd text

-- the bytes of pieces, one after the other
unfoldable pub bytes_of : List Piece → List ℕ
bytes_of [] = []
bytes_of (piece ∷ pieces) = piece.bytes ++ bytes_of pieces
