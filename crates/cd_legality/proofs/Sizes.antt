-- The bytes of pairs, counted one by one.
use Rattle.std.proofs.Common.{◌≡◌, ℕ, suc, ◌+◌, ◌≤◌, ltb, inl, inr, List, [], ◌∷◌, length, take, get_or, Some, None, sym, ap, ◌∙◌, arith, add-one}
use Rattle.std.specs.Prelude.{sum_by, slice_get}
use Rattle.std.proofs.Math.Seq.{take-suc}
use Rattle.std.proofs.lemmas.Bool.{cases_Bool, ltb-true, ltb-false}
use Rattle.std.proofs.lemmas.List.{take_all}
use Rattle.std.proofs.lemmas.List.Sums.{sum_by-append, sum_by-take-drop}
use Rattle.std.proofs.lemmas.Option.{slice_get_within, get_or_from_slice_get, slice_get-get_or}

abbrev pub size_of : List ℕ × List ℕ → ℕ
size_of pair = 5 + length pair.0 + length pair.1

pub one_more : (xs : List (List ℕ × List ℕ)) (i : ℕ) (x : List ℕ × List ℕ) → slice_get xs i ≡ Some x → sum_by size_of (take (i + 1) xs) ≡ sum_by size_of (take i xs) + size_of x
one_more xs i x is =
    let below = slice_get_within xs i x is in
    let same : get_or xs i x ≡ x = get_or_from_slice_get xs i x x is in
    let whole : sum_by size_of (take (suc i) xs) ≡ sum_by size_of (take i xs) + (0 + size_of (get_or xs i x)) =
    ap (sum_by size_of) (take-suc xs i x below) ∙ sum_by-append size_of (take i xs) (get_or xs i x ∷ []) in
    rw add-one (omega (arith, whole, ap size_of same))

pub none_more : (xs : List (List ℕ × List ℕ)) (i : ℕ) → slice_get xs i ≡ None → sum_by size_of (take (i + 1) xs) ≡ sum_by size_of (take i xs)
none_more xs i is =
    elim (cases_Bool (ltb i (length xs))) [
      | inl below ↦ let there : slice_get xs i ≡ Some (get_or xs i ([], [])) = slice_get-get_or xs i ([], []) (ltb-true i (length xs) below) in absurd cc
      | inr above ↦
          let past : length xs ≤ i = ltb-false i (length xs) above in
          ap (sum_by size_of) (take_all (i + 1) xs (omega arith) ∙ sym (take_all i xs past))
    ]

pub no_more : (xs : List (List ℕ × List ℕ)) (i : ℕ) → sum_by size_of (take i xs) ≤ sum_by size_of xs
no_more xs i = omega (arith, sum_by-take-drop size_of xs i)
