-- The lines of a journal, one entry after the other.
use Rattle.std.proofs.Common.{◌≡◌, ℕ, zero, suc, ◌+◌, ◌<◌, ◌≤◌, List, [], ◌∷◌, ◌++◌, length, drop, Option, Some, None, refl, sym, ap, ◌∙◌, arith}
use Rattle.std.specs.Prelude.{slice_get}
use Rattle.std.specs.List.{filter_map, flat_map, cons_option}
use Rattle.std.proofs.Math.ListN.{drop_of_length-le}
use Rattle.std.proofs.lemmas.List.{append_assoc}
use Rattle.cd_stats.specs.Statistics.{text_in, count_in}

abbrev joined : List (List ℕ) → List ℕ
joined lines = flat_map (λ line. line) lines

text_first : (first : Option (List ℕ)) (rest : List (List ℕ)) → joined (cons_option first rest) ≡ text_in first ++ joined rest
text_first None rest = refl
text_first (Some line) rest = refl

count_first : (first : Option (List ℕ)) (rest : List (List ℕ)) → length (cons_option first rest) ≡ count_in first + length rest
count_first None rest = omega arith
count_first (Some line) rest = omega arith

-- what is left from a place on begins with what stands there
pub left_at : {X : Type 0} (xs : List X) (i : ℕ) (x : X) → slice_get xs i ≡ Some x → drop i xs ≡ x ∷ drop (suc i) xs
left_at [] zero x is = absurd cc
left_at [] (suc i) x is = absurd cc
left_at (y ∷ xs) zero x is = let same : y ≡ x = cc in ap (λ z. z ∷ xs) same
left_at (y ∷ xs) (suc i) x is = left_at xs i x is

module _ {X : Type 0} (f : X → Option (List ℕ)) (xs : List X) (i : ℕ) (x : X) (is : slice_get xs i ≡ Some x) where
  left_lines : filter_map f (drop i xs) ≡ cons_option (f x) (filter_map f (drop (suc i) xs))
  left_lines = ap (filter_map f) (left_at xs i x is)

  pub text_at : (done now : List ℕ) (all : List ℕ) → done ++ joined (filter_map f (drop i xs)) ≡ all → now ≡ done ++ text_in (f x) → now ++ joined (filter_map f (drop (suc i) xs)) ≡ all
  text_at done now all told grown =
      ap (λ (front : List ℕ). front ++ joined (filter_map f (drop (suc i) xs))) grown
      ∙ append_assoc done (text_in (f x)) (joined (filter_map f (drop (suc i) xs)))
      ∙ ap (λ (rest : List ℕ). done ++ rest) (sym (ap joined left_lines ∙ text_first (f x) (filter_map f (drop (suc i) xs)))) ∙ told

  pub count_at : (done now all : ℕ) → done + length (filter_map f (drop i xs)) ≡ all → now ≡ done + count_in (f x) → now + length (filter_map f (drop (suc i) xs)) ≡ all
  count_at done now all told grown =
      let first : length (filter_map f (drop i xs)) ≡ count_in (f x) + length (filter_map f (drop (suc i) xs)) = ap (λ (lines : List (List ℕ)). length lines) left_lines ∙ count_first (f x) (filter_map f (drop (suc i) xs)) in
      omega (arith, told, grown, first)

pub count_most : (line : Option (List ℕ)) → count_in line ≤ 1
count_most None = omega arith
count_most (Some line) = omega arith

-- behind the last entry nothing is left
pub none_left : {X : Type 0} (f : X → Option (List ℕ)) (xs : List X) (i : ℕ) → length xs ≤ i → filter_map f (drop i xs) ≡ []
none_left f xs i le = ap (filter_map f) (drop_of_length-le xs le)
