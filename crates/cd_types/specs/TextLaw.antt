-- The laws of a text behind its length, and of a number in its range.
use Rattle.std.proofs.Common.{◌≡◌, ℕ, ◌^◌, ◌<◌, ◌≤◌, Bool, true, false, cond, leb, ◌&&◌, List, ◌++◌, length, take, drop, Option, Some, None, refl, sym, ap, ◌∙◌, arith, append_assoc, length-append, length-take, take-append-drop}
use Rattle.std.specs.Prelude.{IsTrue}
use Rattle.std.proofs.lemmas.Bool.{leb-true, le-leb}
use Rattle.std.proofs.lemmas.List.{take_at, drop_at}
use Rattle.cd_types.specs.Format.{◌>>=◌, IsFormat}
use Rattle.cd_types.specs.Number.{number_in, number_bytes}
use Rattle.cd_types.specs.NumberLaw.{number_law}
use Rattle.cd_types.specs.Text.{text_bytes, text_in, ranged_in}

-- the value of a step that found something
pub bind_some : {A B : Type 0} (read : Option A) (f : A → Option B) (y : B) → (read >>= f) ≡ Some y → (x : A) × (read ≡ Some x) × (f x ≡ Some y)
bind_some None f y e = absurd cc
bind_some (Some x) f y e = (x, refl, e)

-- a test that was passed
pub passed : {A : Type 0} (b : Bool) (x y : A) → cond b (Some x) None ≡ Some y → (b ≡ true) × (x ≡ y)
passed true x y e = (refl, cc)
passed false x y e = absurd cc

pub both_true : (a b : Bool) → (a && b) ≡ true → (a ≡ true) × (b ≡ true)
both_true true true e = (refl, refl)
both_true true false e = absurd cc
both_true false b e = absurd cc

pub text_law : (n : ℕ) (test : List ℕ → Bool) → ((text : List ℕ) → IsTrue (test text) → length text < 256 ^ n)
    → IsFormat (λ text. IsTrue (test text)) (text_bytes n) (text_in n test)
unfolding text_bytes text_in
text_law n test short = record {
  again = λ text rest fits.
      let joined : text_bytes n text ++ rest ≡ number_bytes n (length text) ++ (text ++ rest) = append_assoc (number_bytes n (length text)) text rest in
      let len : number_in n (number_bytes n (length text) ++ (text ++ rest)) ≡ Some (length text, text ++ rest) = (number_law n).again (length text) (text ++ rest) (short text fits) in
      let long : leb (length text) (length (text ++ rest)) ≡ true = le-leb _ _ (omega (arith, length-append text rest)) in
      let front : take (length text) (text ++ rest) ≡ text = take_at text rest (length text) refl in
      let back : drop (length text) (text ++ rest) ≡ rest = drop_at text rest (length text) refl in
      ap (text_in n test) joined ∙ rw (len, long, front, fits, back) refl;
  only = λ bytes text rest fit e.
      let len = bind_some (number_in n bytes) _ (text, rest) e in
      let number = (number_law n).only bytes len.0.0 len.0.1 fit len.1 in
      let found = passed (leb len.0.0 (length len.0.1) && test (take len.0.0 len.0.1)) (take len.0.0 len.0.1, drop len.0.0 len.0.1) (text, rest) len.2 in
      let tests = both_true (leb len.0.0 (length len.0.1)) (test (take len.0.0 len.0.1)) found.0 in
      let long : len.0.0 ≤ length len.0.1 = leb-true _ _ tests.0 in
      let text_is : take len.0.0 len.0.1 ≡ text = ap (λ (p : List ℕ × List ℕ). p.0) found.1 in
      let rest_is : drop len.0.0 len.0.1 ≡ rest = ap (λ (p : List ℕ × List ℕ). p.1) found.1 in
      let size : len.0.0 ≡ length text = omega (arith, length-take len.0.0 len.0.1, ap length text_is) in
      let parts : len.0.1 ≡ text ++ rest = sym (take-append-drop len.0.0 len.0.1) ∙ (λ i. text_is i ++ rest_is i) in
      let whole : bytes ≡ number_bytes n (length text) ++ (text ++ rest) = number.0 ∙ (λ i. number_bytes n (size i) ++ parts i) in
      (whole ∙ sym (append_assoc (number_bytes n (length text)) text rest), rw text_is at tests.1);
}

pub ranged_law : (n : ℕ) (test : ℕ → Bool) → ((x : ℕ) → IsTrue (test x) → x < 256 ^ n)
    → IsFormat (λ x. IsTrue (test x)) (number_bytes n) (ranged_in n test)
unfolding ranged_in
ranged_law n test small = record {
  again = λ x rest fits.
      let number : number_in n (number_bytes n x ++ rest) ≡ Some (x, rest) = (number_law n).again x rest (small x fits) in
      rw (number, fits) refl;
  only = λ bytes x rest fit e.
      let read = bind_some (number_in n bytes) _ (x, rest) e in
      let number = (number_law n).only bytes read.0.0 read.0.1 fit read.1 in
      let found = passed (test read.0.0) read.0 (x, rest) read.2 in
      let x_is : read.0.0 ≡ x = ap (λ (p : ℕ × List ℕ). p.0) found.1 in
      let rest_is : read.0.1 ≡ rest = ap (λ (p : ℕ × List ℕ). p.1) found.1 in
      (number.0 ∙ (λ i. number_bytes n (x_is i) ++ rest_is i), rw x_is at found.0);
}
