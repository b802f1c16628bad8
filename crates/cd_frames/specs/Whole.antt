-- Fields that are all of the bytes: with nothing behind them, or with bytes to the end.
use Rattle.std.specs.Prelude.{◌≡◌, ℕ, Bool, List, ◌++◌, length, ◌==◌, IsTrue, Option, Some, None, if◌then◌else◌}
use Rattle.std.proofs.Common.{true, [], ◌∷◌, refl, sym, ap, subst, ◌∙◌, arith}
use Rattle.std.proofs.lemmas.Bool.{eqb-true}
use Rattle.cd_types.specs.Format.{◌>>=◌, IsBytes, IsFormat}
use Rattle.cd_types.specs.Layout.{Layout}
use Rattle.cd_types.specs.TextLaw.{bind_some, passed}

pub record Whole (A : Type 0) : Type 1 where
  -- the values that have a spelling
  pub Form : A → Type 0
  pub spelled : A → List ℕ
  -- the value that all of the bytes are
  pub read : List ℕ → Option A
  -- what is spelled is read
  pub again : (x : A) → Form x → read (spelled x) ≡ Some x
  -- nothing else is read
  pub only : (bytes : List ℕ) (x : A) → IsBytes bytes → read bytes ≡ Some x → (bytes ≡ spelled x) × Form x

-- no bytes
empty_is : {A : Type 0} (xs : List A) → (length xs == 0) ≡ true → xs ≡ []
empty_is [] e = refl
empty_is (x ∷ xs) e = absurd (omega (arith, eqb-true (length (x ∷ xs)) 0 e))

append-nothing : (xs : List ℕ) → xs ++ [] ≡ xs
append-nothing [] = refl
append-nothing (x ∷ xs) = λ i. x ∷ append-nothing xs i

-- no bytes at all
abbrev pub nothing_in : List ℕ → Option (Unit {0} × List ℕ)
nothing_in bytes = Some (tt, bytes)

pub nothing_law : IsFormat (λ (x : Unit {0}). Unit {0}) (λ x. []) nothing_in
nothing_law = record {
  again = λ x rest form. refl;
  only = λ bytes x rest fit e. (ap (λ (found : Option (Unit {0} × List ℕ)). rest_or found) e, tt);
}
  where
    rest_or : Option (Unit {0} × List ℕ) → List ℕ
    rest_or None = []
    rest_or (Some found) = found.1

abbrev pub nothing : Layout (Unit {0})
nothing = record { Form = λ _. Unit {0}; spelled = λ _. []; found_in = nothing_in; law = nothing_law }

-- the fields, where they are all of the bytes
abbrev pub read_alone : {A : Type 0} → Layout A → List ℕ → Option A
read_alone fields bytes = do
  found ← fields.found_in bytes
  if length found.1 == 0 then Some found.0 else None

-- the fields, and the bytes behind them, where those pass the test
abbrev pub read_before : {A : Type 0} → (List ℕ → Bool) → Layout A → List ℕ → Option (A × List ℕ)
read_before test fields bytes = do
  found ← fields.found_in bytes
  if test found.1 then Some found else None

module _ {A : Type 0} (fields : Layout A) where
  pub alone_again : (x : A) → fields.Form x → read_alone fields (fields.spelled x) ≡ Some x
  alone_again x form =
      let read : fields.found_in (fields.spelled x ++ []) ≡ Some (x, []) = fields.law.again x [] form in
      let same : fields.found_in (fields.spelled x) ≡ Some (x, []) = ap fields.found_in (sym (append-nothing (fields.spelled x))) ∙ read in
      rw same refl

  pub alone_only : (bytes : List ℕ) (x : A) → IsBytes bytes → read_alone fields bytes ≡ Some x → (bytes ≡ fields.spelled x) × fields.Form x
  alone_only bytes x fit is =
      let found = bind_some (fields.found_in bytes) _ x is in
      let end = passed (length found.0.1 == 0) found.0.0 x found.2 in
      let read = fields.law.only bytes found.0.0 found.0.1 fit found.1 in
      let all : bytes ≡ fields.spelled found.0.0 = read.0 ∙ ap (λ (rest : List ℕ). fields.spelled found.0.0 ++ rest) (empty_is found.0.1 end.0) ∙ append-nothing (fields.spelled found.0.0) in
      subst (λ (y : A). (bytes ≡ fields.spelled y) × fields.Form y) end.1 (all, read.1)

  -- fields with nothing behind them
  abbrev pub alone : Whole A
  alone = record { Form = fields.Form; spelled = fields.spelled; read = read_alone fields; again = alone_again; only = alone_only }

module _ {A : Type 0} (test : List ℕ → Bool) (fields : Layout A) where
  pub before_again : (x : A × List ℕ) → fields.Form x.0 × IsTrue (test x.1) → read_before test fields (fields.spelled x.0 ++ x.1) ≡ Some x
  before_again x form =
      let read : fields.found_in (fields.spelled x.0 ++ x.1) ≡ Some (x.0, x.1) = fields.law.again x.0 x.1 form.0 in
      let good : test x.1 ≡ true = form.1 in
      rw (read, good) refl

  pub before_only : (bytes : List ℕ) (x : A × List ℕ) → IsBytes bytes → read_before test fields bytes ≡ Some x → (bytes ≡ fields.spelled x.0 ++ x.1) × (fields.Form x.0 × IsTrue (test x.1))
  before_only bytes x fit is =
      let found = bind_some (fields.found_in bytes) _ x is in
      let end = passed (test found.0.1) found.0 x found.2 in
      let read = fields.law.only bytes found.0.0 found.0.1 fit found.1 in
      subst (λ (y : A × List ℕ). (bytes ≡ fields.spelled y.0 ++ y.1) × (fields.Form y.0 × IsTrue (test y.1))) end.1 (read.0, (read.1, end.0))

  -- fields with bytes behind them, up to the end
  abbrev pub before : Whole (A × List ℕ)
  before = record {
    Form = λ x. fields.Form x.0 × IsTrue (test x.1);
    spelled = λ x. fields.spelled x.0 ++ x.1;
    read = read_before test fields;
    again = before_again;
    only = before_only;
  }
