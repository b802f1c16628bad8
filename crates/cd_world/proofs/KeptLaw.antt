-- In a legal journal a node has outcomes of its own steps only where it is their keeper, and receives for them what they say.
use Rattle.std.proofs.Common.{◌≡◌, ℕ, Bool, true, false, ◌&&◌, eqb, leb, List, [], ◌∷◌, Option, Some, None, inl, inr, refl, sym, ◌∙◌, ap, subst}
use Rattle.std.specs.Prelude.{◌+◌, not, slice_get}
use Rattle.std.specs.Str.{bytes_eq}
use Rattle.std.proofs.lemmas.Bool.{cases_Bool, and_parts, or_cases, false≢true, eq-eqb, eqb-true, and_from}
use Rattle.std.proofs.lemmas.Slice.Eq.{bytes_eq-Decides}
use Rattle.cd_types.specs.Choices.{disp_code}
use Rattle.cd_types.specs.Format.{◌>>=◌}
use Rattle.cd_types.specs.declared.choices.Cause.{Cause}
use Rattle.cd_types.specs.declared.choices.Disp.{Disp}
use Rattle.cd_types.specs.declared.choices.Disp.TheVariants as disp
use Rattle.cd_types.specs.declared.choices.TaskKind.{TaskKind}
use Rattle.cd_types.specs.declared.key.Key.{Key}
use Rattle.cd_types.specs.declared.rows.Outcomes.{Outcomes}
use Rattle.cd_types.specs.declared.rows.Receiving.{Receiving}
use Rattle.cd_entries.specs.declared.entry.Entry.{Entry}
use Rattle.cd_entries.specs.declared.entry.Entry.TheVariants as entry
use Rattle.cd_ast.specs.declared.process.What.{What}
use Rattle.cd_ast.specs.declared.process.What.TheVariants as what
use Rattle.cd_rules.specs.Keys.{same_key, is_of}
use Rattle.cd_rules.proofs.KeysLaw.{same_key-true}
use Rattle.cd_rules.specs.Openings.{is_in_use}
use Rattle.cd_rules.specs.Processes.{Submission, own_home, is_home_of, is_own, submission, is_live, is_over}
use Rattle.cd_rules.specs.Status as status
use Rattle.cd_rules.specs.Status.{Status, outcome, done_with}
use Rattle.cd_rules.proofs.StatusLaw.{outcome-status, status-other, status-own}
use Rattle.cd_rules.specs.Legal.{is_legal, is_empty, may_follow, may_receive_from, may_drop_from, may_end_from, is_base_of, greatest_file}
use Rattle.cd_rules.proofs.LegalLaw.{legal_parts, follows}
use Rattle.cd_rules.proofs.NumbersLaw as numbers
use Rattle.cd_rules.specs.Steps.{Reading, what_of, what_at, stmts_in, next_place, is_such, pnode_keeps, fits_own, is_pull_of, is_interval}
use Rattle.cd_protocol.specs.Sending.{interval_of}
use Rattle.cd_world.specs.Holds.{IsStated}

-- a step that is being received, or has its outcome
abbrev IsKept : Status → Type 0
IsKept (status.Open r safe) = Unit {0}
IsKept (status.Done o) = Unit {0}
IsKept _ = ⊥

-- a statement of a submitted Process stays
pub statement_stays : (read : Reading) (e : Entry) (journal : List Entry) (n place : ℕ) (w : What) → is_legal read (e ∷ journal) ≡ true → what_at read journal n place ≡ Some w
    → what_at read (e ∷ journal) n place ≡ Some w
statement_stays read e journal n place w legal is = by_found (submission journal n) refl is where
  by_found : (found : Option Submission) → submission journal n ≡ found → what_of (slice_get (stmts_in (found >>= (λ s. read s.text))) place) ≡ Some w → what_at read (e ∷ journal) n place ≡ Some w
  by_found None is there = absurd cc
  by_found (Some s) is there =
      let stays : submission (e ∷ journal) n ≡ Some s = numbers.submission_stays read (e ∷ []) journal n s legal is in
      subst (λ (found : Option Submission). what_of (slice_get (stmts_in (found >>= (λ s. read s.text))) place) ≡ Some w) (sym stays) there

-- what a submitted Process says stays
pub what_stays : (read : Reading) (e : Entry) (journal : List Entry) (n place : ℕ) (test : What → Bool) → is_legal read (e ∷ journal) ≡ true → is_such test (what_at read journal n place) ≡ true
    → is_such test (what_at read (e ∷ journal) n place) ≡ true
what_stays read e journal n place test legal such = by_found (submission journal n) refl such where
  by_found : (found : Option Submission) → submission journal n ≡ found → is_such test (what_of (slice_get (stmts_in (found >>= (λ s. read s.text))) place)) ≡ true
      → is_such test (what_at read (e ∷ journal) n place) ≡ true
  by_found None is there = absurd (false≢true there)
  by_found (Some s) is there =
      let stays : submission (e ∷ journal) n ≡ Some s = numbers.submission_stays read (e ∷ []) journal n s legal is in
      subst (λ (found : Option Submission). is_such test (what_of (slice_get (stmts_in (found >>= (λ s. read s.text))) place)) ≡ true) (sym stays) there

-- one disposition
pub disp_same : (a b : Disp) → eqb (disp_code a) (disp_code b) ≡ true → a ≡ b
disp_same disp.New disp.New is = refl
disp_same disp.New disp.Rpl is = absurd (false≢true is)
disp_same disp.New disp.Mod is = absurd (false≢true is)
disp_same disp.Rpl disp.New is = absurd (false≢true is)
disp_same disp.Rpl disp.Rpl is = refl
disp_same disp.Rpl disp.Mod is = absurd (false≢true is)
disp_same disp.Mod disp.New is = absurd (false≢true is)
disp_same disp.Mod disp.Rpl is = absurd (false≢true is)
disp_same disp.Mod disp.Mod is = refl

fits_such : (read : Reading) (journal : List Entry) (key : Key) (test : What → Bool) → is_own journal key ≡ true → fits_own read journal key test ≡ true
    → is_such test (what_at read journal key.number key.place) ≡ true
fits_such read journal key test own fits =
    elim (or_cases (not (is_own journal key)) (is_live journal key.number && eqb key.place (next_place read journal key.number) && is_such test (what_at read journal key.number key.place)) fits) [
      | inl apart ↦ absurd (false≢true (sym (ap not own) ∙ apart))
      | inr rest ↦ (and_parts (is_live journal key.number && eqb key.place (next_place read journal key.number)) (is_such test (what_at read journal key.number key.place)) rest).1
    ]

pull_keeps : (r : Receiving) (w : Option What) → is_such (is_pull_of r) w ≡ true → is_such pnode_keeps w ≡ true
pull_keeps r None such = absurd (false≢true such)
pull_keeps r (Some (what.Copy step)) such =
    let three = and_parts (not step.push && bytes_eq r.name step.to && eqb (disp_code r.disp) (disp_code step.disp)) (is_interval r.interval step.ckpt) such in
    let two = and_parts (not step.push && bytes_eq r.name step.to) (eqb (disp_code r.disp) (disp_code step.disp)) three.0 in
    (and_parts (not step.push) (bytes_eq r.name step.to) two.0).0
pull_keeps r (Some w) such = absurd (false≢true such)

kept_mark : (offset : ℕ) (s : Status) → IsKept (status.marked offset s) → IsKept s
kept_mark offset status.Fresh kept = kept
kept_mark offset (status.Started tries kind) kept = kept
kept_mark offset (status.Open r safe) kept = kept
kept_mark offset (status.Done o) kept = kept

kept_start : (kind : TaskKind) (s : Status) → IsKept (status.once_more kind s) → IsKept s
kept_start kind status.Fresh kept = kept
kept_start kind (status.Started tries last) kept = kept
kept_start kind (status.Open r safe) kept = kept
kept_start kind (status.Done o) kept = kept

kept_drop : (rc : ℕ) (why : Cause) (s : Status) → may_drop_from s rc why ≡ true → IsKept s
kept_drop rc why status.Fresh fits = absurd (false≢true fits)
kept_drop rc why (status.Started tries kind) fits = absurd (false≢true fits)
kept_drop rc why (status.Open r safe) fits = tt
kept_drop rc why (status.Done o) fits = absurd (false≢true fits)

module _ (read : Reading) (journal : List Entry) (key : Key) (own : is_own journal key ≡ true)
    (before : IsKept (status.status journal key) → is_such pnode_keeps (what_at read journal key.number key.place) ≡ true) where
  abbrev Keeps : Type 0
  Keeps = is_such pnode_keeps (what_at read journal key.number key.place) ≡ true

  as_own : (step : Key) → same_key key step ≡ true → is_own journal step ≡ true
  as_own step same = subst (λ (k : Key). is_own journal k ≡ true) (same_key-true key step same) own

  as_key : (step : Key) → same_key key step ≡ true → is_such pnode_keeps (what_at read journal step.number step.place) ≡ true → Keeps
  as_key step same keeps = subst (λ (k : Key). is_such pnode_keeps (what_at read journal k.number k.place) ≡ true) (sym (same_key-true key step same)) keeps

  kept_now : (e : Entry) → is_of key e ≡ true → may_follow read journal e ≡ true → IsKept (status.after e (status.status journal key)) → Keeps
  kept_now (entry.Started step kind try moment) same fits kept = before (kept_start kind (status.status journal key) kept)
  kept_now (entry.Receiving r) same fits kept =
      let last = and_parts (may_receive_from (status.status journal r.key) r && not (is_over journal r.key) && not (is_in_use journal r.key r.name) && is_base_of r.disp r.there r.base && leb (r.base + r.length) greatest_file) (fits_own read journal r.key (is_pull_of r)) fits in
      as_key r.key same (pull_keeps r (what_at read journal r.key.number r.key.place) (fits_such read journal r.key (is_pull_of r) (as_own r.key same) last.1))
  kept_now (entry.Mark step offset) same fits kept = before (kept_mark offset (status.status journal key) kept)
  kept_now (entry.Result step o moment) same fits kept =
      let reactions = and_parts (may_end_from journal step (status.status journal step) o) (fits_own read journal step pnode_keeps) fits in
      as_key step same (fits_such read journal step pnode_keeps (as_own step same) reactions.1)
  kept_now (entry.Dropped step rc why moment) same fits kept =
      before (kept_drop rc why (status.status journal key) (subst (λ (k : Key). may_drop_from (status.status journal k) rc why ≡ true) (sym (same_key-true key step same)) fits))
  kept_now (entry.Home name home) same fits kept = absurd (false≢true same)
  kept_now (entry.Submitted n moment origin card text) same fits kept = absurd (false≢true same)
  kept_now (entry.Placed n placed moment) same fits kept = absurd (false≢true same)
  kept_now (entry.Ended n place rc why bytes moment) same fits kept = absurd (false≢true same)
  kept_now (entry.Closed n how moment) same fits kept = absurd (false≢true same)
  kept_now (entry.Forgot name home n) same fits kept = absurd (false≢true same)

nothing_kept : (journal : List Entry) (key : Key) → is_empty journal ≡ true → IsKept (status.status journal key) → ⊥
unfolding status.status
nothing_kept [] key empty kept = kept
nothing_kept (e ∷ journal) key empty kept = false≢true empty

-- the home was the same before
own_before : (read : Reading) (e : Entry) (journal : List Entry) (key : Key) → may_follow read journal e ≡ true → (is_empty journal ≡ true → ⊥) → is_own (e ∷ journal) key ≡ true → is_own journal key ≡ true
unfolding own_home
own_before read (entry.Home name home) journal key fits some own = absurd (some fits)
own_before read e journal key fits some own = own

own_same : (e : Entry) (journal : List Entry) (key : Key) → is_of key e ≡ true → is_own (e ∷ journal) key ≡ true → is_own journal key ≡ true
unfolding own_home
own_same (entry.Home name home) journal key same is = absurd (false≢true same)
own_same e journal key same is = is

-- so the step is one that this node keeps
pub kept_by : (read : Reading) (journal : List Entry) (key : Key) → is_legal read journal ≡ true → is_own journal key ≡ true → IsKept (status.status journal key)
    → is_such pnode_keeps (what_at read journal key.number key.place) ≡ true
kept_by read [] key legal own kept = absurd (nothing_kept [] key refl kept)
kept_by read (e ∷ journal) key legal own kept =
    let reactions = legal_parts read e journal legal in
    let fits : may_follow read journal e ≡ true = follows read e journal legal in
    elim (cases_Bool (is_of key e)) [
      | inl same ↦
          let now : IsKept (status.after e (status.status journal key)) = subst IsKept (status-own e journal key same) kept in
          let before : is_own journal key ≡ true = own_same e journal key same own in
          what_stays read e journal key.number key.place pnode_keeps legal
          (kept_now read journal key before (λ kept2. kept_by read journal key reactions.0 before kept2) e same fits now)
      | inr other ↦
          let still : IsKept (status.status journal key) = subst IsKept (status-other e journal key other) kept in
          let before : is_own journal key ≡ true = own_before read e journal key fits (λ empty. nothing_kept journal key empty still) own in
          what_stays read e journal key.number key.place pnode_keeps legal (kept_by read journal key reactions.0 before still)
    ]

some_kept : (s : Status) (o : Outcomes) → done_with s ≡ Some o → IsKept s
some_kept status.Fresh o is = absurd cc
some_kept (status.Started tries kind) o is = absurd cc
some_kept (status.Open r safe) o is = tt
some_kept (status.Done before) o is = tt

own_by : (journal : List Entry) (key : Key) → own_home journal ≡ Some (key.pnode, key.home) → is_own journal key ≡ true
own_by journal key home =
    ap (is_home_of key.pnode key.home) home ∙ and_from (bytes_eq key.pnode key.pnode) (eqb key.home key.home) ((bytes_eq-Decides key.pnode key.pnode).1 refl) (eq-eqb key.home key.home refl)

pub outcome_kept : (read : Reading) (journal : List Entry) (key : Key) (o : Outcomes) → is_legal read journal ≡ true → own_home journal ≡ Some (key.pnode, key.home) → outcome journal key ≡ Some o
    → is_such pnode_keeps (what_at read journal key.number key.place) ≡ true
outcome_kept read journal key o legal home is =
    kept_by read journal key legal (own_by journal key home)
    (some_kept (status.status journal key) o (sym (outcome-status journal key) ∙ is))

-- What is received for an own step is as its statement, a pull.

stated_pull : (read : Reading) (journal : List Entry) (r : Receiving) (w : Option What) → what_at read journal r.key.number r.key.place ≡ w → is_such (is_pull_of r) w ≡ true → IsStated read journal false r
stated_pull read journal r None is such = absurd (false≢true such)
stated_pull read journal r (Some (what.Copy step)) is such =
    let three = and_parts (not step.push && bytes_eq r.name step.to && eqb (disp_code r.disp) (disp_code step.disp)) (is_interval r.interval step.ckpt) such in
    let two = and_parts (not step.push && bytes_eq r.name step.to) (eqb (disp_code r.disp) (disp_code step.disp)) three.0 in
    let one = and_parts (not step.push) (bytes_eq r.name step.to) two.0 in
    record {
      step = step;
      stands = is;
      way = is_pull step.push one.0;
      same = record { name = (bytes_eq-Decides r.name step.to).0 one.1; disp = disp_same r.disp step.disp two.1; interval = interval_is r.interval step.ckpt three.1 };
    }
  where
    is_pull : (b : Bool) → not b ≡ true → b ≡ false
    is_pull true fits = absurd (false≢true fits)
    is_pull false fits = refl

    interval_is : (interval : ℕ) (known : Option ℕ) → is_interval interval known ≡ true → interval ≡ interval_of known
    interval_is interval None fits = absurd (false≢true fits)
    interval_is interval (Some own) fits = eqb-true interval own fits
stated_pull read journal r (Some w) is such = absurd (false≢true such)

pub receiving_stated : (read : Reading) (journal : List Entry) (r : Receiving) → is_legal read (entry.Receiving r ∷ journal) ≡ true → own_home journal ≡ Some (r.key.pnode, r.key.home) → IsStated read journal false r
receiving_stated read journal r legal home =
    let fits = follows read (entry.Receiving r) journal legal in
    let last = and_parts (may_receive_from (status.status journal r.key) r && not (is_over journal r.key) && not (is_in_use journal r.key r.name) && is_base_of r.disp r.there r.base && leb (r.base + r.length) greatest_file) (fits_own read journal r.key (is_pull_of r)) fits in
    stated_pull read journal r (what_at read journal r.key.number r.key.place) refl (fits_such read journal r.key (is_pull_of r) (own_by journal r.key home) last.1)
