-- The parts of bytes, from the first one on.
use Rattle.std.proofs.Common.{◌≡◌, ℕ, zero, suc, ◌-◌, ◌<◌, Bool, List, [], ◌∷◌, take, drop, Option, refl}
use Rattle.cd_ast.specs.Subst.{part_at, parts_after}
use Rattle.cd_lexer.proofs.Cuts.{drop-one_less}

-- skipped bytes are in no part
pub parts_after-skip : (defines : Bool) (n : ℕ) (bs : List ℕ) → parts_after defines n bs ≡ parts_after defines 0 (drop n bs)
unfolding parts_after
parts_after-skip defines zero bs = refl
parts_after-skip defines (suc n) [] = refl
parts_after-skip defines (suc n) (b ∷ bs) = parts_after-skip defines n bs

-- the first part of what begins with a byte, and those of what follows it
pub parts_after-first : (defines : Bool) (b : ℕ) (bs : List ℕ) → 0 < (part_at defines b bs).0
    → parts_after defines 0 (b ∷ bs) ≡ record { bytes = take (part_at defines b bs).0 (b ∷ bs); name = (part_at defines b bs).1 } ∷ parts_after defines 0 (drop (part_at defines b bs).0 (b ∷ bs))
unfolding parts_after
parts_after-first defines b bs h =
    rw (parts_after-skip defines ((part_at defines b bs).0 - 1) bs, drop-one_less (part_at defines b bs).0 b bs h) refl

pub first_part_by : (defines : Bool) (text : List ℕ) (b : ℕ) (bs : List ℕ) (p : ℕ × Option (List ℕ)) (bytes rest : List ℕ) → text ≡ b ∷ bs → p ≡ part_at defines b bs → 0 < p.0 → bytes ≡ take p.0 text → rest ≡ drop p.0 text
    → parts_after defines 0 text ≡ record { bytes = bytes; name = p.1 } ∷ parts_after defines 0 rest
first_part_by defines text b bs p bytes rest whole is within front back =
    rw (front, back, whole, is) (parts_after-first defines b bs (rw is at within))
