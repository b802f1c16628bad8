-- Lists read from their end, and the loops that do it.
use Rattle.std.proofs.Common.{◌≡◌, ℕ, ◌+◌, ◌<◌, ◌≤◌, List, [], ◌∷◌, length, get_or, take, reverse, sym, ap, ◌∙◌, add-one}
use Rattle.std.proofs.Math.Seq.{take-suc}
use Rattle.std.proofs.lemmas.List.{reverse-append, take_all}

-- the first ones and one more, the newest first
pub newest : {A : Type 0} (xs : List A) (i : ℕ) (x : A) → i < length xs → x ≡ get_or xs i x → reverse (take (i + 1) xs) ≡ x ∷ reverse (take i xs)
newest xs i x below is =
    rw add-one (ap reverse (take-suc xs i x below) ∙ reverse-append (take i xs) (get_or xs i x ∷ []) ∙ ap (λ y. y ∷ reverse (take i xs)) (sym is))

-- what is held after one more
pub one_more : {A B : Type 0} (q : List A → B) (xs : List A) (i : ℕ) (x : A) (held : B) → i < length xs → x ≡ get_or xs i x
    → held ≡ q (x ∷ reverse (take i xs)) → held ≡ q (reverse (take (i + 1) xs))
one_more q xs i x held below is h = h ∙ ap q (sym (newest xs i x below is))

-- what is held after all
pub all_of : {A B : Type 0} (q : List A → B) (xs : List A) (i : ℕ) (held : B) → length xs ≤ i → held ≡ q (reverse (take i xs)) → held ≡ q (reverse xs)
all_of q xs i held end h = h ∙ ap (λ (l : List _). q (reverse l)) (take_all i xs end)
