-- The rest of a list from a place on.
use Rattle.std.proofs.Common.{◌≡◌, ℕ, suc, ◌+◌, ◌<◌, ◌≤◌, List, [], ◌∷◌, length, drop, get_or, Option, Some, None, ap, ◌∙◌, add-one, drop-cons, drop_of_length-le, inl, inr, ◌⊎◌, arith, refl}
use Rattle.std.specs.List.{slice_get}
use Rattle.std.proofs.lemmas.Option.{slice_get_within, get_or_from_slice_get, slice_get_cases}
use Rattle.cd_ast.specs.Defaults.{with_definitions}
use Rattle.cd_types.specs.Symbols.{upper_case, with_symbol}

pub drop_at : {A : Type 0} (xs : List A) (i : ℕ) (x : A) → slice_get xs i ≡ Some x → drop i xs ≡ x ∷ drop (i + 1) xs
drop_at {A} xs i x e =
    let cut = drop-cons xs i x (slice_get_within xs i x e) in
    rw add-one (cut ∙ ap (λ (y : A). y ∷ drop (suc i) xs) (get_or_from_slice_get xs i x x e))

past : {A : Type 0} (xs : List A) (i : ℕ) → slice_get xs i ≡ None → ((x : A) × (i < length xs) × (slice_get xs i ≡ Some x) × (get_or xs i x ≡ x)) ⊎ ((length xs ≤ i) × (slice_get xs i ≡ None)) → length xs ≤ i
past xs i e (inl found) = absurd (let some = found.2 in cc)
past xs i e (inr none) = none.0

pub drop_none : {A : Type 0} (xs : List A) (i : ℕ) → slice_get xs i ≡ None → drop i xs ≡ []
drop_none xs i e = drop_of_length-le xs (past xs i e (slice_get_cases xs i).1)

-- the definitions from a place on, of which the first is made
pub defined_at : (symbols : List (List ℕ × List ℕ)) (all : List (List ℕ × List ℕ)) (i : ℕ) (name value : List ℕ) → slice_get all i ≡ Some (name, value)
    → with_definitions symbols (drop i all) ≡ with_definitions (with_symbol symbols (upper_case name) value) (drop (i + 1) all)
unfolding with_definitions
defined_at symbols all i name value e = rw (drop_at all i (name, value) e) refl

pub defined_past : (symbols : List (List ℕ × List ℕ)) (all : List (List ℕ × List ℕ)) (i : ℕ) → slice_get all i ≡ None → with_definitions symbols (drop i all) ≡ symbols
unfolding with_definitions
defined_past symbols all i e = rw (drop_none all i e) refl
