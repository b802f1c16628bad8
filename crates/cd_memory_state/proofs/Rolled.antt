-- What is kept of sessions after a change of one of them.
use Rattle.std.proofs.Common.{◌≡◌, ℕ, ◌+◌, ◌<◌, ◌≤◌, zero, suc, Bool, true, false, eqb, List, [], ◌∷◌, ◌++◌, length, get_or, refl, sym, ◌∙◌, ap, subst, arith}
use Rattle.std.proofs.Math.ListN.{set}
use Rattle.std.specs.Prelude.{if◌then◌else◌}
use Rattle.std.proofs.lemmas.Bool.{eqb-true, eq-eqb, false≢true}
use Rattle.std.proofs.lemmas.List.{get_or-set_same, get_or-set_other, get_or_past}
use Rattle.cd_outside.specs.Counts.{next}
use Rattle.cd_outside.specs.Lines.{Traffic, IsFresh, put_at}
use Rattle.cd_memory_state.specs.Numbered.{bytes_of, count_of, numbered}

apart_at : (number i k : ℕ) → number ≡ suc i → eqb number (suc k) ≡ false → k ≡ i → ⊥
apart_at number i k is not same = false≢true (sym not ∙ eq-eqb number (suc k) (is ∙ sym (ap suc same)))

-- the bytes of one session were changed
pub bytes_put : (parts : List (List ℕ)) (number i : ℕ) (new : List ℕ) → number ≡ suc i → i < length parts → bytes_of (set parts i new) ≡ put_at number new (bytes_of parts)
bytes_put parts number i new is lt = λ j other. point other (eqb number other) refl j
  where
    point : (other : ℕ) (t : Bool) → eqb number other ≡ t → bytes_of (set parts i new) other ≡ (if eqb number other then new else bytes_of parts other)
    point other true same =
        ap (bytes_of (set parts i new)) (sym (eqb-true number other same) ∙ is)
        ∙ get_or-set_same parts i new [] lt
        ∙ sym (ap (λ (t : Bool). if t then new else bytes_of parts other) same)
    point zero false not = sym (ap (λ (t : Bool). if t then new else bytes_of parts zero) not)
    point (suc k) false not =
        get_or-set_other parts i k new [] (apart_at number i k is not)
        ∙ sym (ap (λ (t : Bool). if t then new else bytes_of parts (suc k)) not)

push_default : {A : Type 0} (xs : List A) (k : ℕ) (d : A) → get_or (xs ++ d ∷ []) k d ≡ get_or xs k d
push_default [] zero d = refl
push_default [] (suc k) d = refl
push_default (x ∷ xs) zero d = refl
push_default (x ∷ xs) (suc k) d = push_default xs k d

-- a session without bytes came
pub bytes_push : (parts : List (List ℕ)) → bytes_of (parts ++ [] ∷ []) ≡ bytes_of parts
bytes_push parts = λ j number. point number j
  where
    point : (number : ℕ) → bytes_of (parts ++ [] ∷ []) number ≡ bytes_of parts number
    point zero = refl
    point (suc k) = push_default parts k []

pub count_push : (counts : List ℕ) (session : ℕ) → count_of (counts ++ 0 ∷ []) session ≡ count_of counts session
count_push counts zero = refl
count_push counts (suc k) = push_default counts k 0

-- no session came so far
pub count_none : (session : ℕ) → count_of [] session ≡ 0
count_none zero = refl
count_none (suc k) = refl
