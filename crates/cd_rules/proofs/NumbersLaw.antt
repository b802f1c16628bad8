-- Process numbers count up, and a submission stays as it was.
use Rattle.std.proofs.Common.{◌≡◌, ℕ, ◌+◌, ◌≤◌, true, ◌&&◌, eqb, leb, ltb, List, [], ◌∷◌, ◌++◌, length, Option, Some, inl, inr, sym, ◌∙◌, ap, arith}
use Rattle.std.proofs.lemmas.Bool.{cases_Bool, and_parts, eqb-true, leb-true, cond-false}
use Rattle.cd_types.specs.declared.card.Filed.{Filed}
use Rattle.cd_types.specs.declared.key.Key.{Key}
use Rattle.cd_entries.specs.declared.entry.Entry.{Entry}
use Rattle.cd_entries.specs.declared.entry.Entry.TheVariants as entry
use Rattle.cd_rules.specs.Processes.{Submission, submission, submitted, live_numbers}
use Rattle.cd_rules.specs.Steps.{Reading}
use Rattle.cd_rules.specs.Legal.{is_filed, is_new_origin, is_legal}
use Rattle.cd_rules.proofs.LegalLaw.{legal_parts, follows}

-- a submission has the next number
pub number_is_next : (read : Reading) (journal : List Entry) (n moment : ℕ) (origin : Option Key) (card : Filed) (text : List ℕ)
    → is_legal read (entry.Submitted n moment origin card text ∷ journal) ≡ true → (n ≡ submitted journal + 1) × (n ≤ 99999)
number_is_next read journal n moment origin card text legal =
    let fits = follows read (entry.Submitted n moment origin card text) journal legal in
    let five = and_parts (eqb n (submitted journal + 1) && leb n 99999 && ltb (length (live_numbers journal)) 4096 && leb (length text) 200000 && is_filed card (read text)) (is_new_origin journal origin) fits in
    let four = and_parts (eqb n (submitted journal + 1) && leb n 99999 && ltb (length (live_numbers journal)) 4096 && leb (length text) 200000) (is_filed card (read text)) five.0 in
    let three = and_parts (eqb n (submitted journal + 1) && leb n 99999 && ltb (length (live_numbers journal)) 4096) (leb (length text) 200000) four.0 in
    let two = and_parts (eqb n (submitted journal + 1) && leb n 99999) (ltb (length (live_numbers journal)) 4096) three.0 in
    let one = and_parts (eqb n (submitted journal + 1)) (leb n 99999) two.0 in
    (eqb-true n (submitted journal + 1) one.0, leb-true n 99999 one.1)

-- a number that has a submission is one of those that were given
pub number_was_given : (read : Reading) (journal : List Entry) (n : ℕ) (s : Submission) → is_legal read journal ≡ true → submission journal n ≡ Some s
    → (1 ≤ n) × (n ≤ submitted journal)
unfolding submission submitted
number_was_given read [] n s legal is = absurd cc
number_was_given read (entry.Submitted number moment origin card text ∷ journal) n s legal is =
    let next = (number_is_next read journal number moment origin card text legal).0 in
    elim (cases_Bool (eqb number n)) [
      | inl own ↦
          let same : number ≡ n = eqb-true number n own in
          (omega (arith, next, same), omega (arith, next, same))
      | inr other ↦
          let before : submission journal n ≡ Some s = sym (cond-false (eqb number n) _ (submission journal n) other) ∙ is in
          let given = number_was_given read journal n s (legal_parts read _ journal legal).0 before in
          (given.0, omega (arith, given.1))
    ]
number_was_given read (e ∷ journal) n s legal is = number_was_given read journal n s (legal_parts read _ journal legal).0 is

-- a new number had no submission before
pub new_number : (read : Reading) (journal : List Entry) (n moment : ℕ) (origin : Option Key) (card : Filed) (text : List ℕ) (s : Submission)
    → is_legal read (entry.Submitted n moment origin card text ∷ journal) ≡ true → submission journal n ≡ Some s → ⊥
new_number read journal n moment origin card text s legal is =
    let next = (number_is_next read journal n moment origin card text legal).0 in
    let given = number_was_given read journal n s (legal_parts read _ journal legal).0 is in
    omega (arith, next, given.1)

submission_stays_once : (read : Reading) (e : Entry) (journal : List Entry) (n : ℕ) (s : Submission) → is_legal read (e ∷ journal) ≡ true
    → submission journal n ≡ Some s → submission (e ∷ journal) n ≡ Some s
unfolding submission
submission_stays_once read (entry.Submitted number moment origin card text) journal n s legal is =
    elim (cases_Bool (eqb number n)) [
      | inl own ↦
          let same : submission journal number ≡ Some s = ap (submission journal) (eqb-true number n own) ∙ is in
          absurd (new_number read journal number moment origin card text s legal same)
      | inr other ↦ cond-false (eqb number n) _ (submission journal n) other ∙ is
    ]
submission_stays_once read e journal n s legal is = is

pub submission_stays : (read : Reading) (more journal : List Entry) (n : ℕ) (s : Submission) → is_legal read (more ++ journal) ≡ true
    → submission journal n ≡ Some s → submission (more ++ journal) n ≡ Some s
submission_stays read [] journal n s legal is = is
submission_stays read (e ∷ more) journal n s legal is =
    submission_stays_once read e (more ++ journal) n s legal (submission_stays read more journal n s (legal_parts read e (more ++ journal) legal).0 is)
