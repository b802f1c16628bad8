-- Lists that are gone over from the front.
use Rattle.std.proofs.Common.{◌≡◌, ◌<◌, ◌++◌, get_or, length, ℕ, suc, ◌+◌, List, [], ◌∷◌, take, Bool, true, Option, Some, refl, ap, ◌∙◌, arith}
use Rattle.std.specs.Prelude.{slice_get, map, reverse, ◌&&◌}
use Rattle.std.specs.List.{list_all}
use Rattle.std.proofs.lemmas.List.{take_more, reverse-append, map-append}
use Rattle.std.proofs.lemmas.List.Folds.{list_all-append}
use Rattle.std.proofs.lemmas.Option.{slice_get_within, get_or_from_slice_get, slice_get-get_or}

-- one more element from the front
pub take_at : {A : Type 0} (xs : List A) (i : ℕ) (x : A) → slice_get xs i ≡ Some x → take (i + 1) xs ≡ take i xs ++ x ∷ []
take_at xs i x at = take_more xs i x (slice_get_within xs i x at) ∙ ap (λ y. take i xs ++ y ∷ []) (get_or_from_slice_get xs i x x at)

-- what holds of each before a place and of the one there holds of each up to it
pub all_more : {A : Type 0} (f : A → Bool) (xs : List A) (i : ℕ) (x : A) → slice_get xs i ≡ Some x → list_all f (take i xs) ≡ true → f x ≡ true → list_all f (take (i + 1) xs) ≡ true
all_more f xs i x at before here = ap (list_all f) (take_at xs i x at) ∙ list_all-append f (take i xs) (x ∷ []) ∙ rw (before, here) refl

-- of what was gone over, the newest first, one more stands in front
pub one_more : {A B : Type 0} (f : A → B) (xs : List A) (i : ℕ) (x : A) → slice_get xs i ≡ Some x → reverse (map f (take (i + 1) xs)) ≡ f x ∷ reverse (map f (take i xs))
one_more f xs i x at = ap (λ l. reverse (map f l)) (take_at xs i x at) ∙ ap reverse (map-append f (take i xs) (x ∷ [])) ∙ reverse-append (map f (take i xs)) (f x ∷ [])

pub one_more_at : {A B : Type 0} (f : A → B) (xs : List A) (i : ℕ) (d : A) → i < length xs → reverse (map f (take (i + 1) xs)) ≡ f (get_or xs i d) ∷ reverse (map f (take i xs))
one_more_at f xs i d below = one_more f xs i (get_or xs i d) (slice_get-get_or xs i d below)
