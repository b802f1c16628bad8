-- What a count of one session changes.
use Rattle.std.proofs.Common.{◌≡◌, ◌≢◌, ⊎_elim, ℕ, ◌+◌, ◌<◌, ◌≤◌, Bool, false, List, [], ◌∷◌, zero, suc, length, get_or, eqb, refl, sym, ◌∙◌, ap, subst, arith, eq-eqb}
use Rattle.std.proofs.Math.ListN.{set}
use Rattle.std.proofs.lemmas.Bool.{cases_eq}
use Rattle.cd_outside.specs.Counts.{next}
use Rattle.cd_memory_state.specs.Sessions.{SessionHeld, fresh_session, session_at}

set_same : (sessions : List SessionHeld) (i : ℕ) (new : SessionHeld) → i < length sessions → get_or (set sessions i new) i fresh_session ≡ new
set_same [] i new lt = absurd (omega arith)
set_same (session ∷ sessions) zero new lt = refl
set_same (session ∷ sessions) (suc i) new lt = set_same sessions i new (omega arith)

set_other : (sessions : List SessionHeld) (i j : ℕ) (new : SessionHeld) → (i ≡ j → ⊥) → get_or (set sessions i new) j fresh_session ≡ get_or sessions j fresh_session
set_other [] i j new apart = refl
set_other (session ∷ sessions) zero zero new apart = absurd (apart refl)
set_other (session ∷ sessions) zero (suc j) new apart = refl
set_other (session ∷ sessions) (suc i) zero new apart = refl
set_other (session ∷ sessions) (suc i) (suc j) new apart = set_other sessions i j new (λ same. apart (ap suc same))

read : (sessions : List SessionHeld) (i : ℕ) (d : SessionHeld) → i < length sessions → get_or sessions i fresh_session ≡ get_or sessions i d
read [] i d lt = absurd (omega arith)
read (session ∷ sessions) zero d lt = refl
read (session ∷ sessions) (suc i) d lt = read sessions i d (omega arith)

module _ (sessions : List SessionHeld) (number i : ℕ) (old new : SessionHeld) (is : number ≡ suc i) (lt : i < length sessions) (was : old ≡ get_or sessions i old) where
  pub old_at : session_at sessions number ≡ old
  old_at = ap (session_at sessions) is ∙ read sessions i old lt ∙ sym was

  pub new_at : session_at (set sessions i new) number ≡ new
  new_at = ap (session_at (set sessions i new)) is ∙ set_same sessions i new lt

  pub others : (other : ℕ) → (number ≡ other → ⊥) → session_at (set sessions i new) other ≡ session_at sessions other
  others zero apart = refl
  others (suc j) apart = set_other sessions i j new (λ same. apart (is ∙ ap suc same))

  pub others_tested : (other : ℕ) → eqb number other ≡ false → session_at (set sessions i new) other ≡ session_at sessions other
  others_tested other apart = others other (λ same. let t = eq-eqb number other same in cc)

  -- what holds of the old and the new one, and of each one and itself, holds of each
  pub each : (P : SessionHeld → SessionHeld → Type 0) → P old new → ((s : SessionHeld) → P s s) → (session : ℕ) → P (session_at sessions session) (session_at (set sessions i new) session)
  each P changed same session = ⊎_elim
      (λ here. subst (λ (p : SessionHeld × SessionHeld). P p.0 p.1) (λ j. (sym (sym (ap (session_at sessions) here) ∙ old_at) j, sym (sym (ap (session_at (set sessions i new)) here) ∙ new_at) j)) changed)
      (λ apart. subst (P (session_at sessions session)) (sym (others session apart)) (same (session_at sessions session)))
      (cases_eq number session)
