-- What a write makes of bytes.
use Rattle.std.proofs.Common.{◌≡◌, ℕ, ◌+◌, ◌-◌, ◌≤◌, max, List, ◌++◌, length, take, drop, replicate, ◌∙◌, ap, arith, length-append, length-take, length-drop}
use Rattle.std.proofs.lemmas.List.{append-nil, length-replicate, nil_from_length}
use Rattle.cd_outside.specs.Content.{resized, overwritten}

pub resized_within : (len : ℕ) (old : List ℕ) → len ≤ length old → resized len old ≡ take len old
resized_within len old le = ap (λ (zeros : List ℕ). take len old ++ zeros) (nil_from_length (replicate (len - length old) 0) (omega (arith, length-replicate {A = ℕ} (len - length old) 0))) ∙ append-nil (take len old)

pub length-resized : (len : ℕ) (old : List ℕ) → length (resized len old) ≡ len
length-resized len old = omega (arith, length-append (take len old) (replicate (len - length old) 0), length-take len old, length-replicate {A = ℕ} (len - length old) 0)

-- without a gap
pub overwritten_within : (at : ℕ) (bytes old : List ℕ) → at ≤ length old → overwritten at bytes old ≡ take at old ++ bytes ++ drop (at + length bytes) old
overwritten_within at bytes old le = ap (λ (front : List ℕ). front ++ bytes ++ drop (at + length bytes) old) (resized_within at old le)

pub length-overwritten : (at : ℕ) (bytes old : List ℕ) → length (overwritten at bytes old) ≡ max (length old) (at + length bytes)
length-overwritten at bytes old =
    omega (arith, length-append (resized at old ++ bytes) (drop (at + length bytes) old), length-append (resized at old) bytes, length-resized at old, length-drop (at + length bytes) old)
