-- The number that digits write.
use Rattle.std.proofs.Common.{◌≡◌, ℕ, zero, suc, ◌+◌, ◌*◌, ◌-◌, ◌^◌, ◌<◌, ◌≤◌, Bool, true, ◌&&◌, leb, List, [], ◌∷◌, length, get_or, drop, refl, sym, ap, ◌∙◌, arith, drop-cons, add-one}
use Rattle.std.specs.Prelude.{fold}
use Rattle.std.specs.Char.{is_ascii_digit}
use Rattle.std.specs.List.{list_all}
use Rattle.std.proofs.lemmas.Bool.{leb-true}
use Rattle.cd_types.specs.TextLaw.{both_true}

-- each of them is a digit
pub digit_at : (digits : List ℕ) (i : ℕ) → list_all is_ascii_digit digits ≡ true → i < length digits → (48 ≤ get_or digits i 0) × (get_or digits i 0 ≤ 57)
digit_at [] i all lt = absurd (omega arith)
digit_at (digit ∷ digits) zero all lt =
    let tests = both_true (is_ascii_digit digit) (list_all is_ascii_digit digits) all in
    let bounds = both_true (leb 48 digit) (leb digit 57) tests.0 in
    (leb-true _ _ bounds.0, leb-true _ _ bounds.1)
digit_at (digit ∷ digits) (suc i) all lt =
    let tests = both_true (is_ascii_digit digit) (list_all is_ascii_digit digits) all in
    digit_at digits i tests.1 (omega arith)
