-- A text has exactly one of a Process and a fault.
use Rattle.std.proofs.Common.{◌≡◌, ℕ, ◌<◌, ◌≤◌, true, false, List, [], length, Option, Some, None, Result, Ok, Err, refl, ap, sym, subst, ◌∙◌, ◌⊎◌, inl, inr, arith}
use Rattle.std.specs.Prelude.{leb}
use Rattle.std.proofs.lemmas.Bool.Decides.{leb_tells}
use Rattle.cd_ast.specs.declared.fault.FaultName.TheVariants.{TooLong, Unresolved}
use Rattle.cd_ast.specs.declared.process.Process.{Process}
use Rattle.cd_ast.specs.Tokens.{flaw_of}
use Rattle.cd_grammar.specs.Answers.{strict}
use Rattle.cd_grammar.specs.Tokens.{tokens_of}
use Rattle.cd_grammar.specs.Reading.{Reading}
use Rattle.cd_grammar.specs.Later.{Found, late_faults, IsFirstOf}
use Rattle.cd_grammar.specs.Faults.{IsRead, Leaves, longest_plain, longest_text, process_of, InGrammar, IsFault, too_long, in_bytes, in_tokens, in_meaning, resolved, Says, IsFaultOf}
use Rattle.cd_grammar.specs.Faults as faults
use Rattle.cd_automaton.specs.Placed.{AreKeyed}
use Rattle.cd_automaton.proofs.Walks.{read_once}
use Rattle.cd_automaton.proofs.Exact.{placed_keyed, some_of_both, not_both_of, one_fault}
use Rattle.cd_automaton.proofs.Texts.{text_placed}
use Rattle.cd_automaton.proofs.Later.{some_first, none_first, one_first}

within : (a b : ℕ) → (a ≤ b) ⊎ (b < a)
within a b = go (leb_tells a b)
  where
    go : ((leb a b ≡ true) × (a ≤ b)) ⊎ ((leb a b ≡ false) × (b < a)) → (a ≤ b) ⊎ (b < a)
    go (inl x) = inl x.1
    go (inr x) = inr x.1

too_much : {a b : ℕ} → a ≤ b → b < a → ⊥
too_much s l = omega arith

flawless : {A : Type 0} (o : Option A) (f : A) → o ≡ None → o ≡ Some f → ⊥
flawless o f e e2 = cc

same_some : {A : Type 0} (o : Option A) (f g : A) → o ≡ Some f → o ≡ Some g → f ≡ g
same_some o f g e e2 = cc

module _ (text : List ℕ) where
  abbrev pub Verdict : Type 0
  Verdict = ((process : Process) × InGrammar text process) ⊎ ((f : Found) × IsFault text f)

  by_meaning : (all : Reading) → length text ≤ longest_plain → flaw_of text ≡ None → IsRead strict (tokens_of text) all → (late_faults all ≡ []) ⊎ ((f : Found) × IsFirstOf (late_faults all) f) → Verdict
  by_meaning all short good read (inl sound) = inl (process_of all, record { all = all; short = short; good = good; read = read; sound = sound; said = refl })
  by_meaning all short good read (inr first) = inr (first.0, in_meaning short good read first.1)

  by_tokens : length text ≤ longest_plain → flaw_of text ≡ None → ((all : Reading) × IsRead strict (tokens_of text) all) ⊎ ((f : Found) × Leaves (length text) (tokens_of text) f) → Verdict
  by_tokens short good (inl read) = by_meaning read.0 short good read.1 (some_first (late_faults read.0))
  by_tokens short good (inr leaves) = inr (leaves.0, in_tokens short good leaves.1)

  by_bytes : length text ≤ longest_plain → (o : Option Found) → flaw_of text ≡ o → Verdict
  by_bytes short (Some f) e = inr (f, in_bytes short e)
  by_bytes short None e = by_tokens short e (some_of_both (length text) (tokens_of text) (text_placed text))

  by_length : (length text ≤ longest_plain) ⊎ (longest_plain < length text) → Verdict
  by_length (inl short) = by_bytes short (flaw_of text) refl
  by_length (inr long) = inr ((TooLong, length text), too_long long)

  pub verdict : Verdict
  verdict = by_length (within (length text) longest_plain)

  keyed : AreKeyed (tokens_of text)
  keyed = placed_keyed 0 (tokens_of text) (text_placed text)

  pub not_both : (process : Process) (f : Found) → InGrammar text process → IsFault text f → ⊥
  not_both process f said (too_long long) = too_much said.short long
  not_both process f said (in_bytes short e) = flawless (flaw_of text) f said.good e
  not_both process f said (in_tokens short e leaves) = not_both_of (length text) (tokens_of text) (text_placed text) said.all said.read leaves
  not_both process f said (in_meaning {all = other} short e read first) =
      none_first (late_faults other) f (subst (λ (x : Reading). late_faults x ≡ []) (read_once (tokens_of text) said.all other keyed said.read read) said.sound) first

  pub one_process : (one other : Process) → InGrammar text one → InGrammar text other → one ≡ other
  one_process one other a b = a.said ∙ (ap process_of (read_once (tokens_of text) a.all b.all keyed a.read b.read) ∙ sym b.said)

  same_meaning : (f g : Found) (one other : Reading) → one ≡ other → IsFirstOf (late_faults one) f → IsFirstOf (late_faults other) g → f ≡ g
  same_meaning f g one other e a b = one_first other f g (subst (λ (x : Reading). IsFirstOf (late_faults x) f) e a) b

  pub same_fault : (f g : Found) → IsFault text f → IsFault text g → f ≡ g
  same_fault f g (too_long l) (too_long l2) = refl
  same_fault f g (too_long l) (in_bytes s e) = absurd (too_much s l)
  same_fault f g (too_long l) (in_tokens s e leaves) = absurd (too_much s l)
  same_fault f g (too_long l) (in_meaning s e read first) = absurd (too_much s l)
  same_fault f g (in_bytes s e) (too_long l) = absurd (too_much s l)
  same_fault f g (in_bytes s e) (in_bytes s2 e2) = same_some (flaw_of text) f g e e2
  same_fault f g (in_bytes s e) (in_tokens s2 e2 leaves) = absurd (flawless (flaw_of text) f e2 e)
  same_fault f g (in_bytes s e) (in_meaning s2 e2 read first) = absurd (flawless (flaw_of text) f e2 e)
  same_fault f g (in_tokens s e leaves) (too_long l) = absurd (too_much s l)
  same_fault f g (in_tokens s e leaves) (in_bytes s2 e2) = absurd (flawless (flaw_of text) g e e2)
  same_fault f g (in_tokens s e leaves) (in_tokens s2 e2 leaves2) = one_fault (length text) (tokens_of text) (text_placed text) leaves leaves2
  same_fault f g (in_tokens s e leaves) (in_meaning {all = all} s2 e2 read first) = absurd (not_both_of (length text) (tokens_of text) (text_placed text) all read leaves)
  same_fault f g (in_meaning s e read first) (too_long l) = absurd (too_much s l)
  same_fault f g (in_meaning s e read first) (in_bytes s2 e2) = absurd (flawless (flaw_of text) g e e2)
  same_fault f g (in_meaning {all = all} s e read first) (in_tokens s2 e2 leaves) = absurd (not_both_of (length text) (tokens_of text) (text_placed text) all read leaves)
  same_fault f g (in_meaning {all = one} s e read first) (in_meaning {all = other} s2 e2 read2 first2) = same_meaning f g one other (read_once (tokens_of text) one other keyed read read2) first first2

-- a text that is read after substitution
plain_or_place : {A B : Type 0} (x : Result A B) (a : A) (b : B) → x ≡ Ok a → x ≡ Err b → ⊥
plain_or_place x a b e e2 = cc

same_plain : {A B : Type 0} (x : Result A B) (a b : A) → x ≡ Ok a → x ≡ Ok b → a ≡ b
same_plain x a b e e2 = cc

same_place : {A B : Type 0} (x : Result A B) (a b : B) → x ≡ Err a → x ≡ Err b → a ≡ b
same_place x a b e e2 = cc

abbrev long_found : ℕ → Found
long_found n = (TooLong, n)

abbrev lost_found : ℕ → Found
lost_found n = (Unresolved, n)

module _ (text : List ℕ) (overrides : List (List ℕ × List ℕ)) where
  abbrev pub Outcome : Type 0
  Outcome = ((process : Process) × Says text overrides process) ⊎ ((f : Found) × IsFaultOf text overrides f)

  by_plain : (plain : List ℕ) → length text ≤ longest_text → resolved text overrides ≡ Ok plain → length plain ≤ longest_text → Verdict plain → Outcome
  by_plain plain short becomes fits (inl said) = inl (said.0, record { plain = plain; short = short; becomes = becomes; fits = fits; says = said.1 })
  by_plain plain short becomes fits (inr wrong) = inr (wrong.0, faults.in_plain short becomes fits wrong.1)

  by_fit : (plain : List ℕ) → length text ≤ longest_text → resolved text overrides ≡ Ok plain → (length plain ≤ longest_text) ⊎ (longest_text < length plain) → Outcome
  by_fit plain short becomes (inl fits) = by_plain plain short becomes fits (verdict plain)
  by_fit plain short becomes (inr long) = inr ((TooLong, length plain), faults.too_long_after short becomes long)

  by_resolved : length text ≤ longest_text → (x : Result (List ℕ) ℕ) → resolved text overrides ≡ x → Outcome
  by_resolved short (Ok plain) e = by_fit plain short e (within (length plain) longest_text)
  by_resolved short (Err at) e = inr ((Unresolved, at), faults.unresolved short e)

  by_given : (length text ≤ longest_text) ⊎ (longest_text < length text) → Outcome
  by_given (inl short) = by_resolved short (resolved text overrides) refl
  by_given (inr long) = inr ((TooLong, length text), faults.too_long long)

  pub outcome : Outcome
  outcome = by_given (within (length text) longest_text)

  pub not_both_resolved : (process : Process) (f : Found) → Says text overrides process → IsFaultOf text overrides f → ⊥
  not_both_resolved process f said (faults.too_long long) = too_much said.short long
  not_both_resolved process f said (faults.unresolved {at = at} short e) = plain_or_place (resolved text overrides) said.plain at said.becomes e
  not_both_resolved process f said (faults.too_long_after {plain = plain} short e long) =
      too_much (subst (λ (x : List ℕ). length x ≤ longest_text) (same_plain (resolved text overrides) said.plain plain said.becomes e) said.fits) long
  not_both_resolved process f said (faults.in_plain {plain = plain} short e fits wrong) =
      not_both plain process f (subst (λ (x : List ℕ). InGrammar x process) (same_plain (resolved text overrides) said.plain plain said.becomes e) said.says) wrong

  pub one_process_resolved : (one other : Process) → Says text overrides one → Says text overrides other → one ≡ other
  one_process_resolved one other a b =
      one_process b.plain one other (subst (λ (x : List ℕ). InGrammar x one) (same_plain (resolved text overrides) a.plain b.plain a.becomes b.becomes) a.says) b.says

  pub same_fault_resolved : (f g : Found) → IsFaultOf text overrides f → IsFaultOf text overrides g → f ≡ g
  same_fault_resolved f g (faults.too_long l) (faults.too_long l2) = refl
  same_fault_resolved f g (faults.too_long l) (faults.unresolved s e) = absurd (too_much s l)
  same_fault_resolved f g (faults.too_long l) (faults.too_long_after s e l2) = absurd (too_much s l)
  same_fault_resolved f g (faults.too_long l) (faults.in_plain s e fits wrong) = absurd (too_much s l)
  same_fault_resolved f g (faults.unresolved s e) (faults.too_long l) = absurd (too_much s l)
  same_fault_resolved f g (faults.unresolved {at = a} s e) (faults.unresolved {at = b} s2 e2) = ap lost_found (same_place (resolved text overrides) a b e e2)
  same_fault_resolved f g (faults.unresolved {at = a} s e) (faults.too_long_after {plain = plain} s2 e2 l) = absurd (plain_or_place (resolved text overrides) plain a e2 e)
  same_fault_resolved f g (faults.unresolved {at = a} s e) (faults.in_plain {plain = plain} s2 e2 fits wrong) = absurd (plain_or_place (resolved text overrides) plain a e2 e)
  same_fault_resolved f g (faults.too_long_after s e l2) (faults.too_long l) = absurd (too_much s l)
  same_fault_resolved f g (faults.too_long_after {plain = plain} s e l) (faults.unresolved {at = a} s2 e2) = absurd (plain_or_place (resolved text overrides) plain a e e2)
  same_fault_resolved f g (faults.too_long_after {plain = a} s e l) (faults.too_long_after {plain = b} s2 e2 l2) = ap long_found (ap length (same_plain (resolved text overrides) a b e e2))
  same_fault_resolved f g (faults.too_long_after {plain = a} s e l) (faults.in_plain {plain = b} s2 e2 fits wrong) =
      absurd (too_much (subst (λ (x : List ℕ). length x ≤ longest_text) (same_plain (resolved text overrides) b a e2 e) fits) l)
  same_fault_resolved f g (faults.in_plain s e fits wrong) (faults.too_long l) = absurd (too_much s l)
  same_fault_resolved f g (faults.in_plain {plain = plain} s e fits wrong) (faults.unresolved {at = a} s2 e2) = absurd (plain_or_place (resolved text overrides) plain a e e2)
  same_fault_resolved f g (faults.in_plain {plain = b} s e fits wrong) (faults.too_long_after {plain = a} s2 e2 l) =
      absurd (too_much (subst (λ (x : List ℕ). length x ≤ longest_text) (same_plain (resolved text overrides) b a e e2) fits) l)
  same_fault_resolved f g (faults.in_plain {plain = a} s e fits wrong) (faults.in_plain {plain = b} s2 e2 fits2 wrong2) =
      same_fault b f g (subst (λ (x : List ℕ). IsFault x f) (same_plain (resolved text overrides) a b e e2) wrong) wrong2
