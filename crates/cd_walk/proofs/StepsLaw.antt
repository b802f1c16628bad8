-- The recorded steps of a Process are the path that its statements take.
use Rattle.std.proofs.Common.{◌≡◌, ℕ, ◌<◌, true, cond, ◌&&◌, eqb, ltb, List, [], ◌∷◌, ◌++◌, length, Option, Some, None, inl, inr, refl, sym, ◌∙◌, ap, subst, arith}
use Rattle.std.proofs.lemmas.Bool.{cases_Bool, and_parts, eqb-true, ltb-true, cond-true, cond-false}
use Rattle.cd_types.specs.Format.{◌>>=◌}
use Rattle.cd_types.specs.declared.choices.Cause.{Cause}
use Rattle.cd_entries.specs.declared.entry.Entry.{Entry}
use Rattle.cd_entries.specs.declared.entry.Entry.TheVariants as entry
use Rattle.cd_ast.specs.Walk.{code_at, GoesOn, path, pending}
use Rattle.cd_ast.specs.declared.process.Process.{Process}
use Rattle.cd_ast.specs.declared.process.Stmt.{Stmt}
use Rattle.cd_rules.specs.Processes.{Submission, submission, ended, is_live}
use Rattle.cd_rules.specs.Legal.{is_legal, may_end, is_kept_outcome}
use Rattle.cd_rules.proofs.LegalLaw.{legal_parts, follows}
use Rattle.cd_rules.proofs.NumbersLaw.{new_number}
use Rattle.cd_rules.specs.Steps.{Reading, stmts_in, stmts_of, next_place, runs_itself, what_at}
use Rattle.cd_walk.specs.Conditions.{look_back, AllLookBack}
use Rattle.cd_walk.proofs.WalkLaw.{NoCodesFrom, path-none, none_behind, goes_further}

-- the statements of a submission
abbrev stmts_by : Reading → Option Submission → List Stmt
stmts_by read o = stmts_in (o >>= (λ s. read s.text))

-- the steps are the path, none behind it has a code, and a Process that wasn't submitted has none
record Recorded (read : Reading) (o : Option Submission) (steps : List (ℕ × ℕ)) : Type 0 where
  path_is : steps ≡ path (stmts_by read o) steps
  behind : NoCodesFrom steps (pending (stmts_by read o) steps)
  unsubmitted : o ≡ None → steps ≡ []

no_codes : (here : ℕ) → NoCodesFrom [] here
unfolding code_at
no_codes here place far = refl

recorded_none : (read : Reading) (o : Option Submission) → Recorded read o []
recorded_none read o = record {
  path_is = sym (path-none (stmts_by read o) [] (stmts_by read o) 0 (GoesOn 0) (no_codes 0));
  behind = no_codes (pending (stmts_by read o) []);
  unsubmitted = λ _. refl;
}

looks : (read : Reading) → AllLookBack read → (text : List ℕ) (found : Option Process) → read text ≡ found → look_back (stmts_in found) (stmts_in found) 0 ≡ true
looks read all text None is = refl
looks read all text (Some process) is = all text process is

submission_looks : (read : Reading) → AllLookBack read → (o : Option Submission) → look_back (stmts_by read o) (stmts_by read o) 0 ≡ true
submission_looks read all None = refl
submission_looks read all (Some s) = looks read all s.text (read s.text) refl

recorded_more : (read : Reading) → AllLookBack read → (o : Option Submission) (steps : List (ℕ × ℕ)) (place rc : ℕ) → Recorded read o steps
    → place ≡ pending (stmts_by read o) steps → place < length (stmts_by read o) → Recorded read o (steps ++ (place, rc) ∷ [])
recorded_more read all o steps place rc before at within =
    let none : NoCodesFrom steps place = subst (NoCodesFrom steps) (sym at) before.behind in
    let further = goes_further (stmts_by read o) steps place rc none within (stmts_by read o) 0 0 (omega arith) (submission_looks read all o) (sym at) in
    record {
      path_is = ap (λ (path : List (ℕ × ℕ)). path ++ (place, rc) ∷ []) before.path_is ∙ sym further.0;
      behind = λ later far. none_behind (stmts_by read o) steps place rc none later (omega (arith, further.1, far));
      unsubmitted = λ is.
          let empty : length (stmts_by read o) ≡ 0 = ap (λ (x : Option Submission). length (stmts_by read x)) is in
          absurd (omega (arith, empty, within));
    }

no_submission : (read : Reading) (journal : List Entry) (e : Entry) (n : ℕ) → ((s : Submission) → submission journal n ≡ Some s → ⊥) → submission journal n ≡ None
no_submission read journal e n never = by_cases (submission journal n) refl where
  by_cases : (o : Option Submission) → submission journal n ≡ o → submission journal n ≡ None
  by_cases None is = is
  by_cases (Some s) is = absurd (never s is)

-- an end is recorded at the place that comes next, which is no end of the statements
end_parts : (read : Reading) (journal : List Entry) (n place rc : ℕ) (why : Cause) (bytes : ℕ) → may_end read journal n place rc why bytes ≡ true
    → (place ≡ next_place read journal n) × (place < length (stmts_of read journal n))
end_parts read journal n place rc why bytes fits =
    let four = and_parts (is_live journal n && runs_itself journal n && eqb place (next_place read journal n) && ltb place (length (stmts_of read journal n)))
    (is_kept_outcome journal n place rc why bytes (what_at read journal n place)) fits in
    let three = and_parts (is_live journal n && runs_itself journal n && eqb place (next_place read journal n)) (ltb place (length (stmts_of read journal n))) four.0 in
    let two = and_parts (is_live journal n && runs_itself journal n) (eqb place (next_place read journal n)) three.0 in
    (eqb-true place (next_place read journal n) two.1, ltb-true place (length (stmts_of read journal n)) three.1)

recorded : (read : Reading) → AllLookBack read → (journal : List Entry) (n : ℕ) → is_legal read journal ≡ true → Recorded read (submission journal n) (ended journal n)
unfolding submission ended
recorded read all [] n legal = recorded_none read None
recorded read all (entry.Submitted number moment origin card text ∷ journal) n legal =
    let before = recorded read all journal n (legal_parts read _ journal legal).0 in
    elim (cases_Bool (eqb number n)) [
      | inl own ↦
          let new : (s : Submission) → submission journal n ≡ Some s → ⊥ =
          λ s is. new_number read journal number moment origin card text s legal (ap (submission journal) (eqb-true number n own) ∙ is) in
          let empty : ended journal n ≡ [] = before.unsubmitted (no_submission read journal (entry.Submitted number moment origin card text) n new) in
          subst (λ (steps : List (ℕ × ℕ)). Recorded read (cond (eqb number n) (Some (record { moment = moment; origin = origin; card = card; text = text })) (submission journal n)) steps) (sym empty)
          (recorded_none read _)
      | inr other ↦ subst (λ (o : Option Submission). Recorded read o (ended journal n)) (sym (cond-false (eqb number n) _ (submission journal n) other)) before
    ]
recorded read all (entry.Ended number place rc why bytes moment ∷ journal) n legal =
    let before = recorded read all journal n (legal_parts read _ journal legal).0 in
    elim (cases_Bool (eqb number n)) [
      | inl own ↦
          let same : number ≡ n = eqb-true number n own in
          let parts = end_parts read journal number place rc why bytes (follows read _ journal legal) in
          let at : place ≡ next_place read journal n = parts.0 ∙ ap (next_place read journal) same in
          let within : place < length (stmts_of read journal n) = subst (λ (m : ℕ). place < length (stmts_of read journal m)) same parts.1 in
          subst (λ (steps : List (ℕ × ℕ)). Recorded read (submission journal n) steps) (sym (cond-true (eqb number n) (ended journal n ++ (place, rc) ∷ []) (ended journal n) own))
          (recorded_more read all (submission journal n) (ended journal n) place rc before at within)
      | inr other ↦ subst (λ (steps : List (ℕ × ℕ)). Recorded read (submission journal n) steps) (sym (cond-false (eqb number n) _ (ended journal n) other)) before
    ]
recorded read all (e ∷ journal) n legal = recorded read all journal n (legal_parts read _ journal legal).0

pub steps-path : (read : Reading) → AllLookBack read → (journal : List Entry) (n : ℕ) → is_legal read journal ≡ true
    → ended journal n ≡ path (stmts_of read journal n) (ended journal n)
steps-path read all journal n legal = (recorded read all journal n legal).path_is
