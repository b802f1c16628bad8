-- What a read of a whole buffer tells of the length of the file.
use Rattle.std.proofs.Common.{◌≡◌, ℕ, ◌+◌, ◌-◌, ◌<◌, ◌≤◌, min, Bool, true, eqb, List, length, take, drop, refl, sym, ◌∙◌, ap, arith, length-take, length-drop}
use Rattle.std.proofs.lemmas.Bool.{eqb-true, eq-eqb}

pub read_whole : (n at : ℕ) (into buffer source : List ℕ) → 0 < length into → length buffer ≡ length into → n ≤ length into
    → take n buffer ≡ take (length into) (drop at source)
    → (eqb n (length into) ≡ true → at + length into ≤ length source) × (at + length into ≤ length source → eqb n (length into) ≡ true)
read_whole n at into buffer source some same within read =
    let left : n ≡ min (length into) (length source - at) =
    omega (arith, length-take n buffer, length-take (length into) (drop at source), length-drop at source, ap length read, same, within) in
    (λ full. omega (arith, eqb-true n (length into) full, left, some), λ fits. eq-eqb n (length into) (omega (arith, left, fits)))
