-- The numbers of the Processes of a legal journal.
use Rattle.std.proofs.Common.{◌≡◌, ℕ, zero, suc, ◌+◌, ◌-◌, ◌<◌, ◌≤◌, Bool, true, false, not, ◌&&◌, ◌||◌, eqb, ltb, cond, inl, inr, List, [], ◌∷◌, ◌++◌, length, get_or, drop, refl, sym, ap, ◌∙◌, arith, add-one, length-append}
use Rattle.std.specs.Prelude.{filter}
use Rattle.std.proofs.Math.Seq.{drop-cons, get_or-append_seam}
use Rattle.std.proofs.lemmas.Bool.{cases_Bool, eq-eqb, eqb-true, ltb-true, ltb-false}
use Rattle.std.proofs.Math.ListN.{get_or-append, drop_of_length-le}
use Rattle.std.proofs.lemmas.List.Elements.{filter-append}
use Rattle.cd_entries.specs.declared.entry.Entry.{Entry}
use Rattle.cd_entries.specs.declared.entry.Entry.TheVariants as entry
use Rattle.cd_rules.specs.Processes.{submitted, is_live, live_numbers}
use Rattle.cd_rules.specs.Steps.{Reading}
use Rattle.cd_rules.specs.Legal.{is_legal}
use Rattle.cd_rules.proofs.LegalLaw.{legal_parts}
use Rattle.cd_rules.proofs.NumbersLaw.{number_is_next}
use Rattle.cd_book.specs.Numbers.{upto, AreNumbered}
use Rattle.cd_book.proofs.StillOpen.{filter_twice}

-- what is asked of the numbers up to one
upto_same : (p q : ℕ → Bool) (k : ℕ) → ((m : ℕ) → m ≤ k → p m ≡ q m) → filter p (upto k) ≡ filter q (upto k)
unfolding upto
upto_same p q zero same = refl
upto_same p q (suc k) same =
    let before : filter p (upto k) ≡ filter q (upto k) = upto_same p q k (λ m le. same m (omega arith)) in
    let here : p (suc k) ≡ q (suc k) = same (suc k) (omega arith) in
    filter-append p (upto k) (suc k ∷ []) ∙ (λ i. before i ++ cond (here i) (suc k ∷ []) []) ∙ sym (filter-append q (upto k) (suc k ∷ []))

other_number : (number m : ℕ) → m < number → eqb number m ≡ false
other_number number m less =
    elim (cases_Bool (eqb number m)) [
      | inl same ↦ absurd (omega (arith, eqb-true number m same))
      | inr other ↦ other
    ]

and_turned : (a b : Bool) → (a && b) ≡ (b && a)
and_turned true true = refl
and_turned true false = refl
and_turned false true = refl
and_turned false false = refl

few_submitted : (read : Reading) (journal : List Entry) → is_legal read journal ≡ true → submitted journal ≤ 99999
unfolding submitted
few_submitted read [] legal = omega arith
few_submitted read (entry.Submitted number moment origin card text ∷ journal) legal =
    let next = number_is_next read journal number moment origin card text legal in
    omega (arith, next.0, next.1)
few_submitted read (e ∷ journal) legal = few_submitted read journal (legal_parts read _ journal legal).0

-- with one more number
live_more : (journal : List Entry) (number k : ℕ) → number ≡ k + 1 → live_numbers journal ≡ filter (is_live journal) (upto k)
    → live_numbers journal ++ number ∷ [] ≡ filter (λ m. eqb number m || is_live journal m) (upto (k + 1))
unfolding upto
live_more journal number k next are =
    let p : ℕ → Bool = λ (m : ℕ). eqb number m || is_live journal m in
    let old : filter (is_live journal) (upto k) ≡ filter p (upto k) = upto_same (is_live journal) p k (λ m le. ap (λ (b : Bool). b || is_live journal m) (sym (other_number number m (omega (arith, next))))) in
    let new : eqb number (suc k) ≡ true = eq-eqb number (suc k) (omega (arith, next)) in
    let is : number ≡ suc k = omega (arith, next) in
    rw add-one (
    (λ i. are i ++ is i ∷ [])
    ∙ (λ i. old i ++ suc k ∷ [])
    ∙ (λ i. filter p (upto k) ++ cond (sym new i || is_live journal (suc k)) (suc k ∷ []) [])
    ∙ sym (filter-append p (upto k) (suc k ∷ []))
    )

live_fewer : (journal : List Entry) (number : ℕ) (xs : List ℕ) → live_numbers journal ≡ filter (is_live journal) xs
    → filter (λ m. not (eqb number m)) (live_numbers journal) ≡ filter (λ m. not (eqb number m) && is_live journal m) xs
live_fewer journal number xs are =
    ap (filter (λ m. not (eqb number m))) are ∙ filter_twice (λ m. not (eqb number m)) (is_live journal) xs
    ∙ (λ i. filter (λ m. and_turned (is_live journal m) (not (eqb number m)) i) xs)

live_listed : (read : Reading) (journal : List Entry) → is_legal read journal ≡ true → live_numbers journal ≡ filter (is_live journal) (upto (submitted journal))
unfolding submitted live_numbers is_live upto
live_listed read [] legal = refl
live_listed read (entry.Submitted number moment origin card text ∷ journal) legal =
    live_more journal number (submitted journal) (number_is_next read journal number moment origin card text legal).0 (live_listed read journal (legal_parts read _ journal legal).0)
live_listed read (entry.Closed number how moment ∷ journal) legal =
    live_fewer journal number (upto (submitted journal)) (live_listed read journal (legal_parts read _ journal legal).0)
live_listed read (e ∷ journal) legal = live_listed read journal (legal_parts read _ journal legal).0

pub legal_is_numbered : (read : Reading) (journal : List Entry) → is_legal read journal ≡ true → AreNumbered journal
legal_is_numbered read journal legal = record { few = few_submitted read journal legal; live_are = live_listed read journal legal }

-- Counting and going down.

pub upto_length : (k : ℕ) → length (upto k) ≡ k
unfolding upto
upto_length zero = refl
upto_length (suc k) = length-append (upto k) (suc k ∷ []) ∙ omega (arith, upto_length k)

pub upto_at : (k i d : ℕ) → i < k → get_or (upto k) i d ≡ suc i
unfolding upto
upto_at zero i d below = absurd (omega arith)
upto_at (suc k) i d below =
    elim (cases_Bool (ltb i k)) [
      | inl less ↦
          let in_front : i < length (upto k) = omega (arith, upto_length k, ltb-true i k less) in
          get_or-append (upto k) (suc k ∷ []) d i in_front ∙ upto_at k i d (ltb-true i k less)
      | inr more ↦
          let last : i ≡ k = omega (arith, ltb-false i k more) in
          ap (λ (j : ℕ). get_or (upto k ++ suc k ∷ []) j d) (last ∙ sym (upto_length k)) ∙ get_or-append_seam (upto k) (suc k) [] d ∙ ap suc (sym last)
    ]

pub upto_from : (k i : ℕ) → i < k → drop i (upto k) ≡ suc i ∷ drop (i + 1) (upto k)
upto_from k i below =
    let len = upto_length k in
    let within : i < length (upto k) = omega arith in
    rw add-one (drop-cons (upto k) i 0 within ∙ ap (λ (n : ℕ). n ∷ drop (suc i) (upto k)) (upto_at k i 0 below))

-- the numbers that pass a test, up to one more
pub count_more : (p : ℕ → Bool) (i : ℕ) → length (filter p (upto (i + 1))) ≡ length (filter p (upto i)) + cond (p (i + 1)) 1 0
unfolding upto
count_more p i =
    rw add-one (
    ap length (filter-append p (upto i) (suc i ∷ []))
    ∙ length-append (filter p (upto i)) (filter p (suc i ∷ []))
    ∙ ap (λ (n : ℕ). length (filter p (upto i)) + n) (one (p (suc i)) (suc i))
    )
  where
    one : (b : Bool) (n : ℕ) → length (cond b (n ∷ []) []) ≡ cond b 1 0
    one true n = refl
    one false n = refl

pub upto_end : (k : ℕ) → drop k (upto k) ≡ []
upto_end k = drop_of_length-le (upto k) (let len = upto_length k in omega arith)

pub from_below : (k before number : ℕ) → 0 < before → before ≤ k → number ≡ before - 1 + 1 → number ∷ drop before (upto k) ≡ drop (before - 1) (upto k)
from_below k before number some within is =
    let at : before - 1 + 1 ≡ before = omega arith in
    let next : number ≡ suc (before - 1) = omega arith in
    (λ i. next i ∷ drop (sym at i) (upto k)) ∙ sym (upto_from k (before - 1) (omega arith))
