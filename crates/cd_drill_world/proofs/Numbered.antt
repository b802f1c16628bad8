-- Sessions that are numbered one by one as they came, and their readers at the same places.
use Rattle.std.proofs.Common.{◌≡◌, ◌⊎◌, inl, inr, ℕ, zero, suc, ◌+◌, ◌<◌, ◌≤◌, Bool, true, false, cond, eqb, List, [], ◌∷◌, ◌++◌, length, map, Option, Some, get_or, refl, sym, ◌∙◌, ap, subst, arith}
use Rattle.std.specs.Prelude.{slice_get, slice_set, not}
use Rattle.std.proofs.lemmas.Bool.{cond-true, cond-false, eq-eqb, ne_eqb, eqb-true, and_parts}
use Rattle.std.proofs.lemmas.List.Quantifiers.{position-Some}
use Rattle.std.proofs.lemmas.Option.{slice_get-get_or}
use Rattle.cd_protocol.specs.declared.session.Phase.{Phase}
use Rattle.cd_protocol.specs.declared.session.Phase.TheVariants.{Gone}
use Rattle.cd_exchange.specs.Sessions.{phase_among, phases_with}
use Rattle.cd_exchange.specs.declared.session.Session.{Session}
use Rattle.cd_plain.specs.Law.{number_of}
use Rattle.cd_plain.specs.NodeState.{is_gone}
use Rattle.cd_plain.specs.Turned.{in_phase, is_open_as, place_of, others_at}
use Rattle.cd_drill.specs.Pairs.{has_number, counts_all}
use Rattle.cd_drill.proofs.Begins.{last_behind}

-- the first has this number, and each other one the next
abbrev pub AreNumbered : ℕ → List Session → Type 0
AreNumbered from [] = Unit {0}
AreNumbered from (s ∷ sessions) = (s.sid.number ≡ from) × AreNumbered (suc from) sessions

pub numbered_at : (from : ℕ) (sessions : List Session) (at : ℕ) (s : Session) → AreNumbered from sessions → slice_get sessions at ≡ Some s → s.sid.number ≡ from + at
numbered_at from [] at s numbered is = absurd cc
numbered_at from (t ∷ sessions) zero s numbered is =
    let same : t ≡ s = cc in
    omega (arith, numbered.0, ap (λ (u : Session). u.sid.number) same)
numbered_at from (t ∷ sessions) (suc at) s numbered is = omega (arith, numbered_at (suc from) sessions at s numbered.1 is)

pub numbered_set : (from : ℕ) (sessions : List Session) (at : ℕ) (s : Session) (p : Phase) → AreNumbered from sessions → slice_get sessions at ≡ Some s → AreNumbered from (slice_set sessions at (in_phase p s))
numbered_set from [] at s p numbered is = absurd cc
numbered_set from (t ∷ sessions) zero s p numbered is =
    let same : t ≡ s = cc in
    (sym (ap (λ (u : Session). u.sid.number) same) ∙ numbered.0, numbered.1)
numbered_set from (t ∷ sessions) (suc at) s p numbered is = (numbered.0, numbered_set (suc from) sessions at s p numbered.1 is)

-- one more, with the next number
pub numbered_more : (from : ℕ) (sessions : List Session) (s : Session) → AreNumbered from sessions → s.sid.number ≡ from + length sessions → AreNumbered from (sessions ++ s ∷ [])
numbered_more from [] s numbered next = (omega (arith, next), tt)
numbered_more from (t ∷ sessions) s numbered next = (numbered.0, numbered_more (suc from) sessions s numbered.1 (omega (arith, next)))

pub last_number : (from : ℕ) (sessions : List Session) (s : Session) → AreNumbered from (sessions ++ s ∷ []) → s.sid.number ≡ from + length sessions
last_number from [] s numbered = omega (arith, numbered.0)
last_number from (t ∷ sessions) s numbered = omega (arith, last_number (suc from) sessions s numbered.1)

-- the last session has the number of all, where it is said to
pub last_counted : (all before : List Session) (s : Session) → all ≡ before ++ s ∷ [] → counts_all all ≡ true → s.sid.number ≡ length all
last_counted all before s is counted =
    eqb-true s.sid.number (length all) (ap (λ (last : Option Session). has_number last (length all)) (sym (last_behind all before s is)) ∙ counted)

pub first_numbered : (from : ℕ) (sessions : List Session) (s : Session) → AreNumbered from (sessions ++ s ∷ []) → AreNumbered from sessions
first_numbered from [] s numbered = tt
first_numbered from (t ∷ sessions) s numbered = (numbered.0, first_numbered (suc from) sessions s numbered.1)

-- Lists at a place.

pub get_set : {T : Type 0} (xs : List T) (at : ℕ) (x y : T) → slice_get xs at ≡ Some x → slice_get (slice_set xs at y) at ≡ Some y
get_set [] at x y is = absurd cc
get_set (u ∷ xs) zero x y is = refl
get_set (u ∷ xs) (suc at) x y is = get_set xs at x y is

pub get_other : {T : Type 0} (xs : List T) (at other : ℕ) (y : T) → eqb at other ≡ false → slice_get (slice_set xs at y) other ≡ slice_get xs other
get_other [] at other y apart = refl
get_other (u ∷ xs) zero zero y apart = absurd cc
get_other (u ∷ xs) zero (suc other) y apart = refl
get_other (u ∷ xs) (suc at) zero y apart = refl
get_other (u ∷ xs) (suc at) (suc other) y apart = get_other xs at other y (ne_eqb at other (λ same. let clash : suc at ≡ suc other = ap suc same in let never : true ≡ false = sym (eq-eqb (suc at) (suc other) clash) ∙ apart in absurd cc))

pub set_length : {T : Type 0} (xs : List T) (at : ℕ) (y : T) → length (slice_set xs at y) ≡ length xs
set_length [] at y = refl
set_length (u ∷ xs) zero y = refl
set_length (u ∷ xs) (suc at) y = ap suc (set_length xs at y)

pub set_numbers : (sessions : List Session) (at : ℕ) (s : Session) (p : Phase) → slice_get sessions at ≡ Some s → map number_of (slice_set sessions at (in_phase p s)) ≡ map number_of sessions
set_numbers [] at s p is = refl
set_numbers (t ∷ sessions) zero s p is =
    let same : s ≡ t = cc in
    ap (λ (u : Session). u.sid.number ∷ map number_of sessions) same
set_numbers (t ∷ sessions) (suc at) s p is = ap (λ (l : List ℕ). t.sid.number ∷ l) (set_numbers sessions at s p is)

-- Phases.

-- sessions above a number tell nothing of it
phase_below : (from n : ℕ) (sessions : List Session) → AreNumbered from sessions → n < from → phase_among sessions n ≡ Gone
phase_below from n [] numbered low = refl
phase_below from n (s ∷ sessions) numbered low =
    cond-false (eqb s.sid.number n) s.phase (phase_among sessions n) (ne_eqb s.sid.number n (λ same. absurd (omega (arith, numbered.0, same, low)))) ∙ phase_below (suc from) n sessions numbered.1 (omega (arith, low))

pub phase_past : (from n : ℕ) (sessions : List Session) → AreNumbered from sessions → from + length sessions ≤ n → phase_among sessions n ≡ Gone
phase_past from n [] numbered high = refl
phase_past from n (s ∷ sessions) numbered high =
    cond-false (eqb s.sid.number n) s.phase (phase_among sessions n) (ne_eqb s.sid.number n (λ same. absurd (omega (arith, numbered.0, same, high)))) ∙ phase_past (suc from) n sessions numbered.1 (omega (arith, high))

pub phase_at : (from : ℕ) (sessions : List Session) (at : ℕ) (s : Session) → AreNumbered from sessions → slice_get sessions at ≡ Some s → phase_among sessions s.sid.number ≡ s.phase
phase_at from [] at s numbered is = absurd cc
phase_at from (t ∷ sessions) zero s numbered is =
    let same : t ≡ s = cc in
    subst (λ (u : Session). cond (eqb t.sid.number u.sid.number) t.phase (phase_among sessions u.sid.number) ≡ u.phase) same (cond-true (eqb t.sid.number t.sid.number) t.phase (phase_among sessions t.sid.number) (eq-eqb t.sid.number t.sid.number refl))
phase_at from (t ∷ sessions) (suc at) s numbered is =
    let number = numbered_at (suc from) sessions at s numbered.1 is in
    cond-false (eqb t.sid.number s.sid.number) t.phase (phase_among sessions s.sid.number) (ne_eqb t.sid.number s.sid.number (λ same. absurd (omega (arith, numbered.0, number, same)))) ∙ phase_at (suc from) sessions at s numbered.1 is

-- one session in another phase, beside the others
pub phase_set : (from : ℕ) (sessions : List Session) (at : ℕ) (s : Session) (p : Phase) (n : ℕ) → AreNumbered from sessions → slice_get sessions at ≡ Some s
    → phase_among (slice_set sessions at (in_phase p s)) n ≡ phases_with s.sid.number p (others_at at s sessions) n
phase_set from [] at s p n numbered is = absurd cc
phase_set from (t ∷ sessions) zero s p n numbered is = by_same (eqb s.sid.number n) refl where
  by_same : (b : Bool) → eqb s.sid.number n ≡ b → cond b p (phase_among sessions n) ≡ cond b p (cond b Gone (phase_among sessions n))
  by_same true same = refl
  by_same false apart = refl
phase_set from (t ∷ sessions) (suc at) s p n numbered is =
    let number = numbered_at (suc from) sessions at s numbered.1 is in
    let more : phase_among (slice_set sessions at (in_phase p s)) n ≡ cond (eqb s.sid.number n) p (phase_among (others_at at s sessions) n) = phase_set (suc from) sessions at s p n numbered.1 is in
    by_first (eqb t.sid.number n) refl (phase_among (slice_set sessions at (in_phase p s)) n) (phase_among (others_at at s sessions) n) more number
  where
    by_first : (b : Bool) → eqb t.sid.number n ≡ b → (set others : Phase) → set ≡ cond (eqb s.sid.number n) p others → s.sid.number ≡ suc from + at
        → cond b t.phase set ≡ cond (eqb s.sid.number n) p (cond b t.phase others)
    by_first true first set others more number =
        let apart : eqb s.sid.number n ≡ false = ne_eqb s.sid.number n (λ same. absurd (omega (arith, numbered.0, number, same, eqb-true t.sid.number n first))) in
        sym (cond-false (eqb s.sid.number n) p t.phase apart)
    by_first false first set others more number = more

set_same : (sessions : List Session) (at : ℕ) (s : Session) → slice_get sessions at ≡ Some s → slice_set sessions at (in_phase s.phase s) ≡ sessions
set_same [] at s is = refl
set_same (t ∷ sessions) zero s is =
    let same : s ≡ t = cc in
    ap (λ (u : Session). u ∷ sessions) same
set_same (t ∷ sessions) (suc at) s is = ap (λ (l : List Session). t ∷ l) (set_same sessions at s is)

pub phase_with : (from : ℕ) (sessions : List Session) (at : ℕ) (s : Session) (n : ℕ) → AreNumbered from sessions → slice_get sessions at ≡ Some s
    → phase_among sessions n ≡ phases_with s.sid.number s.phase (others_at at s sessions) n
phase_with from sessions at s n numbered is = ap (λ (l : List Session). phase_among l n) (sym (set_same sessions at s is)) ∙ phase_set from sessions at s s.phase n numbered is

-- one more session
pub phase_more : (from : ℕ) (sessions : List Session) (s : Session) (n : ℕ) → AreNumbered from sessions → s.sid.number ≡ from + length sessions
    → phase_among (sessions ++ s ∷ []) n ≡ cond (eqb s.sid.number n) s.phase (phase_among sessions n)
phase_more from [] s n numbered next = refl
phase_more from (t ∷ sessions) s n numbered next =
    let more : phase_among (sessions ++ s ∷ []) n ≡ cond (eqb s.sid.number n) s.phase (phase_among sessions n) = phase_more (suc from) sessions s n numbered.1 (omega (arith, next)) in
    by_first (eqb t.sid.number n) refl (phase_among (sessions ++ s ∷ []) n) more
  where
    by_first : (b : Bool) → eqb t.sid.number n ≡ b → (all : Phase) → all ≡ cond (eqb s.sid.number n) s.phase (phase_among sessions n)
        → cond b t.phase all ≡ cond (eqb s.sid.number n) s.phase (cond b t.phase (phase_among sessions n))
    by_first true first all more =
        let apart : eqb s.sid.number n ≡ false = ne_eqb s.sid.number n (λ same. absurd (omega (arith, numbered.0, next, same, eqb-true t.sid.number n first))) in
        sym (cond-false (eqb s.sid.number n) s.phase t.phase apart)
    by_first false first all more = more

-- the open session of a number is open
pub open_at : (sessions : List Session) (at number : ℕ) (s : Session) → place_of number sessions ≡ Some at → slice_get sessions at ≡ Some s → is_gone s.phase ≡ false
open_at [] at number s place is = absurd cc
open_at (t ∷ sessions) at number s place is =
    let all = position-Some (is_open_as number) (t ∷ sessions) at t place in
    let one : Session = get_or (t ∷ sessions) at t in
    let same : Some one ≡ Some s = sym (slice_get-get_or (t ∷ sessions) at t all.0) ∙ is in
    let there : one ≡ s = cc in
    let stays : not (is_gone one.phase) ≡ true = (and_parts (eqb one.sid.number number) (not (is_gone one.phase)) all.1).1 in
    by_gone (is_gone s.phase) (ap (λ (u : Session). not (is_gone u.phase)) (sym there) ∙ stays)
  where
    by_gone : (b : Bool) → not b ≡ true → b ≡ false
    by_gone true never = absurd cc
    by_gone false stays = refl

-- Lists that grow at their end.

pub get_past : {T : Type 0} (xs : List T) (x : T) (at : ℕ) (y : T) → slice_get (xs ++ x ∷ []) at ≡ Some y → (slice_get xs at ≡ Some y) ⊎ ((at ≡ length xs) × (x ≡ y))
get_past [] x zero y is = inr (refl, cc)
get_past [] x (suc at) y is = absurd cc
get_past (u ∷ xs) x zero y is = inl is
get_past (u ∷ xs) x (suc at) y is = elim (get_past xs x at y is) [ inl there ↦ inl there | inr last ↦ inr (ap suc last.0, last.1) ]

pub get_within : {T : Type 0} (xs : List T) (at : ℕ) (y : T) → slice_get xs at ≡ Some y → at < length xs
get_within [] at y is = absurd cc
get_within (u ∷ xs) zero y is = omega arith
get_within (u ∷ xs) (suc at) y is = let more : at < length xs = get_within xs at y is in omega (arith, more)

pub get_low : {T : Type 0} (xs : List T) (x : T) (at : ℕ) (y : T) → at < length xs → slice_get (xs ++ x ∷ []) at ≡ Some y → slice_get xs at ≡ Some y
get_low xs x at y low is = elim (get_past xs x at y is) [ inl there ↦ there | inr last ↦ absurd (omega (arith, low, last.0)) ]
