-- A text's pieces, from the first one on.
use Rattle.std.proofs.Common.{◌≡◌, ℕ, zero, suc, ◌-◌, ◌<◌, List, [], ◌∷◌, take, drop, refl, arith}
use Rattle.cd_ast.specs.declared.piece.PieceKind.{PieceKind}
use Rattle.cd_ast.specs.Pieces.{piece_at, pieces_after}

-- skipped bytes are in no piece
pub pieces_after-skip : (n : ℕ) (before : PieceKind) (bs : List ℕ) → pieces_after n before bs ≡ pieces_after 0 before (drop n bs)
unfolding pieces_after
pieces_after-skip zero before bs = refl
pieces_after-skip (suc n) before [] = refl
pieces_after-skip (suc n) before (b ∷ bs) = pieces_after-skip n before bs

pub drop-one_less : (n b : ℕ) (bs : List ℕ) → 0 < n → drop (n - 1) bs ≡ drop n (b ∷ bs)
drop-one_less zero b bs h = absurd (omega arith)
drop-one_less (suc n) b bs h = let e : (suc n - 1 ≡ n) = omega arith in rw e refl

-- the first piece of what begins with a byte, and those of what follows it
pub pieces_after-first : (before : PieceKind) (b : ℕ) (bs : List ℕ) → 0 < (piece_at before b bs).1 → pieces_after 0 before (b ∷ bs) ≡ record { kind = (piece_at before b bs).0; bytes = take (piece_at before b bs).1 (b ∷ bs) } ∷ pieces_after 0 (piece_at before b bs).0 (drop (piece_at before b bs).1 (b ∷ bs))
unfolding pieces_after
pieces_after-first before b bs h =
    rw (pieces_after-skip ((piece_at before b bs).1 - 1) (piece_at before b bs).0 bs, drop-one_less (piece_at before b bs).1 b bs h) refl

pub first_by : (before : PieceKind) (text : List ℕ) (b : ℕ) (bs : List ℕ) (p : PieceKind × ℕ) (bytes rest : List ℕ) → text ≡ b ∷ bs → p ≡ piece_at before b bs → 0 < p.1 → bytes ≡ take p.1 text → rest ≡ drop p.1 text
    → pieces_after 0 before text ≡ record { kind = p.0; bytes = bytes } ∷ pieces_after 0 p.0 rest
first_by before text b bs p bytes rest whole is within front back =
    rw (front, back, whole, is) (pieces_after-first before b bs (rw is at within))
