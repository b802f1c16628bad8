-- The first place that passes a test, or the end.
use Rattle.std.proofs.Common.{◌≡◌, ℕ, ◌≤◌, Bool, true, false, cond, ltb, List, length, not, Option, Some, None, refl, inl, inr, arith}
use Rattle.std.specs.Prelude.{position, unwrap_or}
use Rattle.std.specs.List.{position_or_len}
use Rattle.std.proofs.lemmas.Bool.{cases_lt, lt-ltb, le-ltb}
use Rattle.std.proofs.lemmas.List.Sums.{prefix_len-le-length}

pub place_is : (test : ℕ → Bool) (bytes : List ℕ) → unwrap_or (position test bytes) (length bytes) ≡ position_or_len test bytes
place_is test bytes = elim (cases_lt (position_or_len test bytes) (length bytes)) [
  | inl lt ↦ let found : ltb (position_or_len test bytes) (length bytes) ≡ true = lt-ltb _ _ lt in rw found refl
  | inr le ↦
      let missing : ltb (position_or_len test bytes) (length bytes) ≡ false = le-ltb _ _ le in
      let most = prefix_len-le-length (λ x. not (test x)) bytes in
      rw missing (omega arith)
]

pub place_within : (test : ℕ → Bool) (bytes : List ℕ) → position_or_len test bytes ≤ length bytes
place_within test bytes = prefix_len-le-length (λ x. not (test x)) bytes
