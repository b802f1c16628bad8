-- The laws of fields that are made of others.
use Rattle.std.proofs.Common.{◌≡◌, ℕ, zero, suc, ◌+◌, ◌<◌, Bool, true, false, cond, List, [], ◌∷◌, ◌++◌, length, map, Option, Some, None, refl, sym, ap, subst, ◌∙◌, arith, append_assoc}
use Rattle.std.specs.Prelude.{IsTrue, slice_get}
use Rattle.std.proofs.lemmas.List.{get_or-append-add}
use Rattle.cd_types.specs.Format.{found_as, IsBytes, IsFormat}
use Rattle.cd_types.specs.Number.{IsNumber, number_in, number_bytes}
use Rattle.cd_types.specs.NumberLaw.{number_law}
use Rattle.cd_types.specs.TextLaw.{bind_some, passed}
use Rattle.cd_types.specs.Compound.{both_bytes, both_in, AreBoth, seen_in, made_in, tested_in, choice_in, flag, flags, optional_bytes, optional_in, IsOptional}

-- the end of bytes is bytes
pub IsBytes-after : (front rest : List ℕ) → IsBytes (front ++ rest) → IsBytes rest
IsBytes-after front rest fit i = rw (← get_or-append-add front rest i 0) (fit (length front + i))

some_same : {A : Type 0} (x y : A) → Some x ≡ Some y → x ≡ y
some_same x y e = cc

module _ {A B : Type 0} (First : A → Type 0) (s : A → List ℕ) (r : List ℕ → Option (A × List ℕ)) (Second : B → Type 0) (t : B → List ℕ) (q : List ℕ → Option (B × List ℕ)) where
  pub both_law : IsFormat First s r → IsFormat Second t q → IsFormat (AreBoth First Second) (both_bytes s t) (both_in r q)
  both_law first second = record {
    again = λ x rest form.
        let a : r (s x.0 ++ (t x.1 ++ rest)) ≡ Some (x.0, t x.1 ++ rest) = first.again x.0 (t x.1 ++ rest) form.0 in
        let b : q (t x.1 ++ rest) ≡ Some (x.1, rest) = second.again x.1 rest form.1 in
        ap (both_in r q) (append_assoc (s x.0) (t x.1) rest) ∙ rw (a, b) refl;
    only = λ bytes x rest fit e.
        let a = bind_some (r bytes) _ (x, rest) e in
        let b = bind_some (q a.0.1) _ (x, rest) a.2 in
        let front = first.only bytes a.0.0 a.0.1 fit a.1 in
        let back = second.only a.0.1 b.0.0 b.0.1 (IsBytes-after (s a.0.0) a.0.1 (subst IsBytes front.0 fit)) b.1 in
        let found = some_same ((a.0.0, b.0.0), b.0.1) (x, rest) b.2 in
        let x_is : (a.0.0, b.0.0) ≡ x = ap (λ (p : (A × B) × List ℕ). p.0) found in
        let rest_is : b.0.1 ≡ rest = ap (λ (p : (A × B) × List ℕ). p.1) found in
        let whole : bytes ≡ s a.0.0 ++ (t b.0.0 ++ b.0.1) = front.0 ∙ ap (λ (more : List ℕ). s a.0.0 ++ more) back.0 in
        let made : bytes ≡ both_bytes s t (a.0.0, b.0.0) ++ b.0.1 = whole ∙ sym (append_assoc (s a.0.0) (t b.0.0) b.0.1) in
        (made ∙ (λ i. both_bytes s t (x_is i) ++ rest_is i), subst (AreBoth First Second) x_is (front.1, back.1));
  }

-- the field of one type tells that of another
pub record IsSeen {A B : Type 0} (Form : A → Type 0) (Seen : B → Type 0) (parts : B → A) (seen : A → Option B) : Type 0 where
  -- a value is seen again in its parts
  pub back : (y : B) → Seen y → Form (parts y) × (seen (parts y) ≡ Some y)
  -- and in no others
  pub only : (x : A) (y : B) → Form x → seen x ≡ Some y → (x ≡ parts y) × Seen y

module _ {A B : Type 0} (Form : A → Type 0) (s : A → List ℕ) (r : List ℕ → Option (A × List ℕ)) (Seen : B → Type 0) (parts : B → A) (seen : A → Option B) where
  pub seen_law : IsSeen Form Seen parts seen → IsFormat Form s r → IsFormat Seen (λ y. s (parts y)) (seen_in seen r)
  seen_law sight field = record {
    again = λ y rest form.
        let back = sight.back y form in
        let read : r (s (parts y) ++ rest) ≡ Some (parts y, rest) = field.again (parts y) rest back.0 in
        let is : seen (parts y) ≡ Some y = back.1 in
        rw (read, is) refl;
    only = λ bytes y rest fit e.
        let a = bind_some (r bytes) _ (y, rest) e in
        let b = bind_some (seen a.0.0) _ (y, rest) a.2 in
        let front = field.only bytes a.0.0 a.0.1 fit a.1 in
        let found = some_same (b.0, a.0.1) (y, rest) b.2 in
        let y_is : b.0 ≡ y = ap (λ (p : B × List ℕ). p.0) found in
        let rest_is : a.0.1 ≡ rest = ap (λ (p : B × List ℕ). p.1) found in
        let only = sight.only a.0.0 b.0 front.1 b.1 in
        (front.0 ∙ (λ i. s (only.0 i) ++ a.0.1) ∙ (λ i. s (parts (y_is i)) ++ rest_is i), subst Seen y_is only.1);
  }

module _ {A : Type 0} (Form : A → Type 0) (s : A → List ℕ) (r : List ℕ → Option (A × List ℕ)) (test : A → Bool) where
  pub tested_law : IsFormat Form s r → IsFormat (λ x. Form x × IsTrue (test x)) s (tested_in test r)
  tested_law field = record {
    again = λ x rest form.
        let read : r (s x ++ rest) ≡ Some (x, rest) = field.again x rest form.0 in
        let good : test x ≡ true = form.1 in
        rw (read, good) refl;
    only = λ bytes x rest fit e.
        let a = bind_some (r bytes) _ (x, rest) e in
        let front = field.only bytes a.0.0 a.0.1 fit a.1 in
        let found = passed (test a.0.0) a.0 (x, rest) a.2 in
        let x_is : a.0.0 ≡ x = ap (λ (p : A × List ℕ). p.0) found.1 in
        let rest_is : a.0.1 ≡ rest = ap (λ (p : A × List ℕ). p.1) found.1 in
        (front.0 ∙ (λ i. s (x_is i) ++ rest_is i), subst (λ (y : A). Form y × IsTrue (test y)) x_is (front.1, found.0));
  }

-- the numbers from n on, one by one
abbrev pub AreCounted : ℕ → List ℕ → Type 0
AreCounted n [] = Unit {0}
AreCounted n (x ∷ xs) = (x ≡ n) × AreCounted (suc n) xs

place_is : {A : Type 0} (code : A → ℕ) (values : List A) (n k : ℕ) (x : A) → AreCounted n (map code values) → slice_get values k ≡ Some x → k + n ≡ code x
place_is code [] n k x counted e = absurd cc
place_is code (y ∷ values) n zero x counted e = omega (arith, counted.0, ap code (some_same y x e))
place_is code (y ∷ values) n (suc k) x counted e = omega (arith, place_is code values (suc n) k x counted.1 e)

module _ {A : Type 0} (code : A → ℕ) (values : List A) where
  -- each value stands in the list at its code, a byte, and nothing else does
  pub choice_law : AreCounted 0 (map code values) → ((x : A) → (code x < 256) × (slice_get values (code x) ≡ Some x)) → IsFormat (λ (x : A). Unit {0}) (λ x. number_bytes 1 (code x)) (choice_in values)
  unfolding choice_in
  choice_law counted listed = seen_law (IsNumber 1) (number_bytes 1) (number_in 1) (λ (x : A). Unit {0}) code (slice_get values)
      (record {
        back = λ y form. listed y;
        only = λ k y form e. (omega (arith, place_is code values 0 k y counted e), tt);
      }) (number_law 1)

module _ {A : Type 0} (Form Other : A → Type 0) (s : A → List ℕ) (r : List ℕ → Option (A × List ℕ)) where
  -- the same values, said in other words
  pub form_law : ((x : A) → Form x → Other x) → ((x : A) → Other x → Form x) → IsFormat Form s r → IsFormat Other s r
  form_law there back field = record {
    again = λ x rest form. field.again x rest (back x form);
    only = λ bytes x rest fit e. let found = field.only bytes x rest fit e in (found.0, there x found.1);
  }

pub flag_law : IsFormat (λ (b : Bool). Unit {0}) (λ b. number_bytes 1 (flag b)) (choice_in flags)
flag_law = choice_law flag flags (refl, (refl, tt)) (elim [ false ↦ (omega arith, refl) | true ↦ (omega arith, refl) ])

module _ {A : Type 0} (Form : A → Type 0) (s : A → List ℕ) (r : List ℕ → Option (A × List ℕ)) (field : IsFormat Form s r) where
  optional_again : (x : Option A) (rest : List ℕ) → IsOptional Form x → optional_in r (optional_bytes s x ++ rest) ≡ Some (x, rest)
  unfolding optional_in
  optional_again None rest form =
      let there : choice_in flags (number_bytes 1 0 ++ rest) ≡ Some (false, rest) = flag_law.again false rest tt in
      rw there refl
  optional_again (Some x) rest form =
      let there : choice_in flags (number_bytes 1 1 ++ (s x ++ rest)) ≡ Some (true, s x ++ rest) = flag_law.again true (s x ++ rest) tt in
      let read : r (s x ++ rest) ≡ Some (x, rest) = field.again x rest form in
      ap (optional_in r) (append_assoc (number_bytes 1 1) (s x) rest) ∙ rw (there, read) refl

  flagged : (bytes rest : List ℕ) (b : Bool) (x : Option A) (after : List ℕ) → IsBytes rest → bytes ≡ number_bytes 1 (flag b) ++ rest
      → cond b (found_as Some (r rest)) (Some (None, rest)) ≡ Some (x, after) → (bytes ≡ optional_bytes s x ++ after) × IsOptional Form x
  flagged bytes rest false x after fit whole e =
      let found = some_same (None, rest) (x, after) e in
      let x_is : None ≡ x = ap (λ (p : Option A × List ℕ). p.0) found in
      let rest_is : rest ≡ after = ap (λ (p : Option A × List ℕ). p.1) found in
      (whole ∙ (λ i. optional_bytes s (x_is i) ++ rest_is i), subst (IsOptional Form) x_is tt)
  flagged bytes rest true x after fit whole e = flagged_some (r rest) refl e
    where
      flagged_some : (found : Option (A × List ℕ)) → r rest ≡ found → found_as Some found ≡ Some (x, after) → (bytes ≡ optional_bytes s x ++ after) × IsOptional Form x
      flagged_some None is e = absurd cc
      flagged_some (Some y) is e =
          let same = some_same (Some y.0, y.1) (x, after) e in
          let x_is : Some y.0 ≡ x = ap (λ (p : Option A × List ℕ). p.0) same in
          let rest_is : y.1 ≡ after = ap (λ (p : Option A × List ℕ). p.1) same in
          let front = field.only rest y.0 y.1 fit is in
          let made : bytes ≡ optional_bytes s (Some y.0) ++ y.1 = whole ∙ ap (λ (more : List ℕ). number_bytes 1 1 ++ more) front.0 ∙ sym (append_assoc (number_bytes 1 1) (s y.0) y.1) in
          (made ∙ (λ i. optional_bytes s (x_is i) ++ rest_is i), subst (IsOptional Form) x_is front.1)

  pub optional_law : IsFormat (IsOptional Form) (optional_bytes s) (optional_in r)
  unfolding optional_in
  optional_law = record {
    again = optional_again;
    only = λ bytes x rest fit e.
        let a = bind_some (choice_in flags bytes) _ (x, rest) e in
        let front = flag_law.only bytes a.0.0 a.0.1 fit a.1 in
        flagged bytes a.0.1 a.0.0 x rest (IsBytes-after (number_bytes 1 (flag a.0.0)) a.0.1 (subst IsBytes front.0 fit)) front.0 a.2;
  }

module _ {A B : Type 0} (Form : A → Type 0) (s : A → List ℕ) (r : List ℕ → Option (A × List ℕ)) (parts : B → A) (make : A → B) where
  -- where the value and its parts determine each other
  pub made_law : ((x : A) → parts (make x) ≡ x) → ((y : B) → make (parts y) ≡ y) → IsFormat Form s r → IsFormat (λ y. Form (parts y)) (λ y. s (parts y)) (made_in make r)
  made_law apart whole = seen_law Form s r (λ y. Form (parts y)) parts (λ x. Some (make x)) (record {
    back = λ y form. (form, ap Some (whole y));
    only = λ x y form e.
        let y_is = some_same (make x) y e in
        let x_is : x ≡ parts y = sym (apart x) ∙ ap parts y_is in
        (x_is, subst Form x_is form);
  })
