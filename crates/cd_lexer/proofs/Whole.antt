-- Pieces and parts make up what they are cut from.
use Rattle.std.proofs.Common.{◌≡◌, ℕ, zero, suc, ◌+◌, ◌-◌, ◌<◌, Bool, true, false, ◌&&◌, List, [], ◌∷◌, ◌++◌, take, drop, Option, ap, ◌∙◌, sym, arith}
use Rattle.std.specs.Prelude.{if◌then◌else◌, ◌==◌}
use Rattle.std.proofs.Math.Seq.{drop-nil}
use Rattle.std.proofs.lemmas.List.{take-append-drop}
use Rattle.cd_ast.specs.declared.piece.PieceKind.{PieceKind}
use Rattle.cd_ast.specs.declared.piece.PieceKind.TheVariants.{LineEnd, Blank, Comment, Sign, Stray}
use Rattle.cd_ast.specs.Bytes.{is_blank, is_quote, is_sign_byte, is_double_sign, opens_comment}
use Rattle.cd_ast.specs.Pieces.{run_len, ends_line, is_line_end, comment_at, quote_at, sign_at, word_at, piece_at, pieces_after, bytes_of}
use Rattle.cd_ast.specs.Subst.{ends_name, part_at, reference_at, parts_after, Part}
use Rattle.cd_lexer.proofs.Cuts.{drop-one_less}

-- a choice has the length of what is chosen
either_length : (t : Bool) (p q : PieceKind × ℕ) → 0 < p.1 → 0 < q.1 → 0 < (if t then p else q).1
either_length true p q hp hq = hp
either_length false p q hp hq = hq

one : 0 < 1
one = omega arith

two : 0 < 2
two = omega arith

past : (n k : ℕ) → 0 < k → 0 < n + k
past n k h = omega arith

four : 0 < 4
four = omega arith

comment_at-length : (bs : List ℕ) → 0 < (comment_at bs).1
unfolding comment_at
comment_at-length bs = either_length _ _ _ (past _ 4 four) (past _ 2 two)

quote_at-length : (q : ℕ) (bs : List ℕ) → 0 < (quote_at q bs).1
unfolding quote_at
quote_at-length q bs = either_length _ _ _ (past _ 2 two) (past _ 1 one)

sign_at-length : (b : ℕ) (bs : List ℕ) → 0 < (sign_at b bs).1
unfolding sign_at
sign_at-length b [] = either_length _ _ _ one one
sign_at-length b (c ∷ cs) =
    let alone : PieceKind × ℕ = if b == 33 then (Stray, 1) else (Sign, 1) in
    either_length (is_double_sign b c) (Sign, 2) alone two (either_length (b == 33) (Stray, 1) (Sign, 1) one one)

word_at-length : (before : PieceKind) (b : ℕ) (bs : List ℕ) → 0 < (word_at before b bs).1
unfolding word_at
word_at-length before b bs = either_length _ _ _ one (past _ 1 one)

-- no piece is empty
pub piece_at-length : (before : PieceKind) (b : ℕ) (bs : List ℕ) → 0 < (piece_at before b bs).1
unfolding piece_at
piece_at-length before b bs =
    let signs : PieceKind × ℕ = if is_sign_byte b then sign_at b bs else word_at before b bs in
    let quotes : PieceKind × ℕ = if is_quote b then quote_at b bs else signs in
    let comments : PieceKind × ℕ = if opens_comment b bs then comment_at (drop 1 bs) else quotes in
    let lines : PieceKind × ℕ = if b == 42 && is_line_end before then (Comment, run_len ends_line bs + 1) else comments in
    let blanks : PieceKind × ℕ = if is_blank b then (Blank, 1) else lines in
    either_length (b == 10) (LineEnd, 1) blanks one
    (either_length (is_blank b) (Blank, 1) lines one
    (either_length (b == 42 && is_line_end before) (Comment, run_len ends_line bs + 1) comments (past (run_len ends_line bs) 1 one)
    (either_length (opens_comment b bs) (comment_at (drop 1 bs)) quotes (comment_at-length (drop 1 bs))
    (either_length (is_quote b) (quote_at b bs) signs (quote_at-length b bs)
    (either_length (is_sign_byte b) (sign_at b bs) (word_at before b bs) (sign_at-length b bs) (word_at-length before b bs))))))

front_and_rest : (n b : ℕ) (bs : List ℕ) → 0 < n → take n (b ∷ bs) ++ drop (n - 1) bs ≡ b ∷ bs
front_and_rest n b bs h = rw (drop-one_less n b bs h) (take-append-drop n (b ∷ bs))

-- the pieces of a text are the whole text
pub bytes_of-pieces_after : (n : ℕ) (before : PieceKind) (bs : List ℕ) → bytes_of (pieces_after n before bs) ≡ drop n bs
unfolding bytes_of pieces_after
bytes_of-pieces_after n before [] = sym (drop-nil n)
bytes_of-pieces_after (suc n) before (b ∷ bs) = bytes_of-pieces_after n before bs
bytes_of-pieces_after zero before (b ∷ bs) =
    ap (λ rest. take (piece_at before b bs).1 (b ∷ bs) ++ rest) (bytes_of-pieces_after ((piece_at before b bs).1 - 1) (piece_at before b bs).0 bs)
    ∙ front_and_rest (piece_at before b bs).1 b bs (piece_at-length before b bs)

either_part : (t : Bool) (p q : ℕ × Option (List ℕ)) → 0 < p.0 → 0 < q.0 → 0 < (if t then p else q).0
either_part true p q hp hq = hp
either_part false p q hp hq = hq

reference_at-length : (defines : Bool) (n : ℕ) (bs : List ℕ) → 0 < (reference_at defines n bs).0
unfolding reference_at
reference_at-length defines n bs = either_part _ _ _ (past n 1 one) (either_part _ _ _ (past n 2 two) (past n 1 one))

-- no part is empty
part_at-length : (defines : Bool) (b : ℕ) (bs : List ℕ) → 0 < (part_at defines b bs).0
unfolding part_at
part_at-length defines b bs = either_part _ _ _ (reference_at-length defines (run_len ends_name bs) bs) (past _ 1 one)

-- the bytes of parts, one after the other
unfoldable pub parts_bytes : List Part → List ℕ
parts_bytes [] = []
parts_bytes (part ∷ parts) = part.bytes ++ parts_bytes parts

-- the parts of bytes are all of them
pub parts_bytes-parts_after : (defines : Bool) (n : ℕ) (bs : List ℕ) → parts_bytes (parts_after defines n bs) ≡ drop n bs
unfolding parts_bytes parts_after
parts_bytes-parts_after defines n [] = sym (drop-nil n)
parts_bytes-parts_after defines (suc n) (b ∷ bs) = parts_bytes-parts_after defines n bs
parts_bytes-parts_after defines zero (b ∷ bs) =
    ap (λ rest. take (part_at defines b bs).0 (b ∷ bs) ++ rest) (parts_bytes-parts_after defines ((part_at defines b bs).0 - 1) bs)
    ∙ front_and_rest (part_at defines b bs).0 b bs (part_at-length defines b bs)
