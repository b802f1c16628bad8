-- A function that gives all that there is, of which there is something, gives nothing else.
use Rattle.std.proofs.Common.{◌≡◌, Result, Ok, Err, subst, ◌⊎◌, inl, inr}

same_ok : {A B : Type 0} (r : Result A B) (a b : A) → r ≡ Ok a → r ≡ Ok b → a ≡ b
same_ok r a b e e2 = cc

same_err : {A B : Type 0} (r : Result A B) (a b : B) → r ≡ Err a → r ≡ Err b → a ≡ b
same_err r a b e e2 = cc

not_both : {A B : Type 0} (r : Result A B) (a : A) (b : B) → r ≡ Ok a → r ≡ Err b → ⊥
not_both r a b e e2 = cc

module _ {A B : Type 0} (r : Result A B) (P : A → Type 0) (Q : B → Type 0) (good : (a : A) → P a → r ≡ Ok a) (bad : (b : B) → Q b → r ≡ Err b) where
  pub ok_is : ((a : A) × P a) ⊎ ((b : B) × Q b) → (a : A) → r ≡ Ok a → P a
  ok_is (inl p) a e = subst P (same_ok r p.0 a (good p.0 p.1) e) p.1
  ok_is (inr q) a e = absurd (not_both r a q.0 e (bad q.0 q.1))

  pub err_is : ((a : A) × P a) ⊎ ((b : B) × Q b) → (b : B) → r ≡ Err b → Q b
  err_is (inl p) b e = absurd (not_both r p.0 b (good p.0 p.1) e)
  err_is (inr q) b e = subst Q (same_err r q.0 b (bad q.0 q.1) e) q.1
