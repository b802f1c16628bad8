-- What two nodes have agreed on: results on the way are the sender's outcomes, and each Ended is its keeper's outcome. What
-- landed has an outcome, and landed once. Pushes on the way are as their statements, and so is what is received.
use Rattle.std.proofs.Common.{◌≡◌, ℕ, zero, suc, ◌+◌, Bool, true, false, cond, ◌&&◌, eqb, ltb, List, [], ◌∷◌, ◌++◌, length, take, drop, Option, Some, None, inl, inr, refl, sym, ◌∙◌, ap, subst}
use Rattle.std.specs.Prelude.{not}
use Rattle.std.proofs.lemmas.List.{append-nil, take-append-drop}
use Rattle.std.proofs.lemmas.Bool.{cases_Bool, and_parts, or_cases, and_from, cond-true, cond-false, false≢true, eqb-true}
use Rattle.cd_types.specs.Choices.{cause_code}
use Rattle.cd_types.specs.declared.card.Filed.{Filed}
use Rattle.cd_types.specs.declared.choices.Cause.{Cause}
use Rattle.cd_types.specs.declared.choices.Cause.TheVariants as cause
use Rattle.cd_types.specs.declared.choices.TaskKind.{TaskKind}
use Rattle.cd_types.specs.declared.key.Key.{Key}
use Rattle.cd_types.specs.declared.rows.Outcomes.{Outcomes}
use Rattle.cd_types.specs.declared.rows.Receiving.{Receiving}
use Rattle.cd_entries.specs.declared.entry.Entry.{Entry}
use Rattle.cd_entries.specs.declared.entry.Entry.TheVariants as entry
use Rattle.cd_ast.specs.declared.process.What.{What}
use Rattle.cd_outside.specs.Shelf as shelves
use Rattle.cd_frames.specs.Message as message
use Rattle.cd_frames.specs.Message.{Message}
use Rattle.cd_rules.specs.Keys.{same_key, is_of}
use Rattle.cd_rules.proofs.KeysLaw.{same_key-refl, same_key-true}
use Rattle.cd_rules.specs.Processes.{own_home, made_for, is_live, is_over}
use Rattle.cd_rules.specs.Status as status
use Rattle.cd_rules.specs.Status.{Status, outcome}
use Rattle.cd_rules.proofs.StatusLaw.{outcome-status, status-other, status-own}
use Rattle.cd_rules.specs.Legal.{allowed, is_legal, may_answer, is_made, is_cause_from, is_code_of, may_end_from, may_drop_from, is_dropping, is_outcome, own_outcome, is_kept_outcome, may_end}
use Rattle.cd_rules.proofs.LegalLaw.{legal_parts, follows, legal_before, outcome_stays}
use Rattle.cd_rules.proofs.OpeningsLaw as openings
use Rattle.cd_rules.specs.Steps.{Reading, what_at, stmts_of, next_place, runs_itself, is_such, pnode_keeps, fits_own}
use Rattle.cd_protocol.specs.declared.session.Phase.{Phase}
use Rattle.cd_protocol.specs.Node.{Config, NodeView, Sessions, Node, Effect, Keep, Touch, AskSize, AskBytes, Begin, Go, Answers, did, does, recorded}
use Rattle.cd_protocol.specs.Rows.{row_choose, row_trouble}
use Rattle.cd_protocol.proofs.RowsLaw.{same_config, reaction_extends}
use Rattle.cd_world.specs.World.{At, A, B, across, Note, Sized, Read, Began, Landed, Dropped, Wrote, Half, World, seen_from, landing_of, dropping_of, noted_by, read_for, is_gone, at_session, behind_them, world_did, world_does, Happening, Choice, Call, Frame, End, Task, nothing, opens, with_session, called, answers_now, came, ended, task_of, task, world_after, world_within, effects_left, Cut, cut_off, with_shelf, world_faulted, down, world_stopped, no_sessions, marked, world_started, world_lost, world_written, submission_of, world_submitted, Event, Does, Fails, Stops, Starts, Loses, Writes, Later, Submits, later, happens, after, IsNew, IsFirst, ArePossible}
use Rattle.cd_world.specs.Holds.{journal_of, IsOutcome, IsOwnStep, EachEnded, EndsAsKept, HaveResults, IsStated, EachReceiving, is_at, landings, IsOne, LandsOnce, HaveLanded}
use Rattle.cd_world.proofs.EffectsLaw.{Own, Tells, AllTell, PhaseOk, EndedBy, IsHeard, KeepOk, AllFit, row_ok, choose_ok, close_ok, trouble_ok}
use Rattle.cd_world.proofs.GrownLaw.{does_node, BothGrown, BothSound, within_grown, whole_grown, trouble_grown, legal_more, happens_grown, after_grown, first_sound}
use Rattle.cd_world.proofs.KeptLaw.{outcome_kept, statement_stays, receiving_stated}

-- An outcome with this code.
pub record HasCode (journal : List Entry) (key : Key) (rc : ℕ) : Type 0 where
  pub o : Outcomes
  pub is : outcome journal key ≡ Some o
  pub code : o.rc ≡ rc

-- An Ended is as its keeper has it: this node, or the other one.
pub record EndedKept (read : Reading) (other journal : List Entry) (n place rc : ℕ) (why : Cause) (bytes : ℕ) : Type 0 where
  pub key : Key
  pub home : own_home journal ≡ Some (key.pnode, key.home)
  pub number : key.number ≡ n
  pub step : key.place ≡ place
  pub here : is_such pnode_keeps (what_at read journal n place) ≡ true → HasCode journal key rc
  pub there : is_such pnode_keeps (what_at read journal n place) ≡ false → IsOutcome other key rc why bytes

abbrev pub NotStarted : Status → Type 0
NotStarted (status.Started tries kind) = ⊥
NotStarted _ = Unit {0}

-- what landed of a step: nothing without an outcome, and with the code 0 once
abbrev pub LandOk : Status → List (List ℕ) → Type 0
LandOk (status.Done o) landed = o.rc ≡ 0 → IsOne landed
LandOk _ landed = landed ≡ []

-- what a node may tell, and all that it sent
abbrev pub Of : Half → Message → Type 0
Of half m = Tells half.node.view.config.read (journal_of half) m

abbrev pub AllOf : Half → List Message → Type 0
AllOf half frames = AllTell half.node.view.config.read (journal_of half) frames

-- a receiving is as a statement of this node, or as the other node announced it
pub record StatedBy (own : Own) (journal : List Entry) (Says : Message → Type 0) (r : Receiving) : Type 0 where
  pub mine : own.home ≡ Some (r.key.pnode, r.key.home) → IsStated own.read journal false r
  pub theirs : IsHeard own Says r

-- each receiving that landed at a node
abbrev pub EachLanded : At → (Receiving → Type 0) → List Note → Type 0
EachLanded x P [] = Unit {0}
EachLanded x P (Landed y r got ∷ notes) = (is_at x y ≡ true → P r) × EachLanded x P notes
EachLanded x P (Sized y name size ∷ notes) = EachLanded x P notes
EachLanded x P (Read y step at bytes ∷ notes) = EachLanded x P notes
EachLanded x P (Began y r ∷ notes) = EachLanded x P notes
EachLanded x P (Dropped y r ∷ notes) = EachLanded x P notes
EachLanded x P (Wrote y name bytes ∷ notes) = EachLanded x P notes

pub record AllStated (x : At) (own : Own) (view : NodeView) (Says : Message → Type 0) (notes : List Note) : Type 0 where
  pub reads : view.config.read ≡ own.read
  pub each : EachReceiving (StatedBy own view.journal Says) view.journal
  pub noted : EachLanded x (StatedBy own view.journal Says) notes

-- What holds of one node beside the other one.
pub record Agreed (x : At) (own : Own) (a b : Half) (notes : List Note) : Type 0 where
  pub home : own_home (journal_of a) ≡ own.home
  pub phases : (n : ℕ) → PhaseOk own (Of b) (a.node.sessions.phase n)
  pub heard : (n : ℕ) → AllOf b (a.way n)
  pub stated : AllStated x own a.node.view (Of b) notes
  pub ended : EachEnded (EndedKept a.node.view.config.read (journal_of b)) (journal_of a)
  pub plain : (key : Key) → made_for (journal_of a) key ≡ None
  pub started : (key : Key) → NotStarted (status.status (journal_of a) key)
  pub landed : (key : Key) → LandOk (status.status (journal_of a) key) (landings x key notes)

-- Entries that rows record, and submissions by operators.
module _ (own : Own) (Says : Message → Type 0) where
  abbrev pub RecordOk : List Entry → Entry → Type 0
  RecordOk journal (entry.Submitted n moment None card text) = Unit {0}
  RecordOk journal (entry.Submitted n moment (Some key) card text) = ⊥
  RecordOk journal (entry.Home name home) = ⊥
  RecordOk journal (entry.Started key kind try moment) = ⊥
  RecordOk journal (entry.Ended n place rc why bytes moment) = EndedBy own Says journal n place rc why bytes
  RecordOk journal (entry.Receiving r) = IsHeard own Says r
  RecordOk journal _ = Unit {0}

  record_ok : (journal : List Entry) (e : Entry) → KeepOk own Says journal e → RecordOk journal e
  record_ok journal (entry.Submitted n moment origin card text) ok = absurd ok
  record_ok journal (entry.Home name home) ok = ok
  record_ok journal (entry.Started key kind try moment) ok = ok
  record_ok journal (entry.Ended n place rc why bytes moment) ok = ok
  record_ok journal (entry.Receiving r) ok = ok
  record_ok journal e ok = tt

  home_more : (journal : List Entry) (e : Entry) → RecordOk journal e → own_home (e ∷ journal) ≡ own_home journal
  unfolding own_home
  home_more journal (entry.Home name home) ok = absurd ok
  home_more journal e ok = refl

  made_more : (journal : List Entry) (e : Entry) (key : Key) → RecordOk journal e → made_for journal key ≡ None → made_for (e ∷ journal) key ≡ None
  unfolding made_for
  made_more journal (entry.Submitted n moment None card text) key ok none = none
  made_more journal (entry.Submitted n moment (Some step) card text) key ok none = absurd ok
  made_more journal e key ok none = none

  open_not_started : (r : Receiving) (s : Status) → NotStarted s → NotStarted (status.opened r s)
  open_not_started r status.Fresh h = tt
  open_not_started r (status.Started tries kind) h = tt
  open_not_started r (status.Open before safe) h = tt
  open_not_started r (status.Done o) h = tt

  mark_not_started : (offset : ℕ) (s : Status) → NotStarted s → NotStarted (status.marked offset s)
  mark_not_started offset status.Fresh h = tt
  mark_not_started offset (status.Started tries kind) h = h
  mark_not_started offset (status.Open before safe) h = tt
  mark_not_started offset (status.Done o) h = tt

  after_not_started : (journal : List Entry) (e : Entry) (s : Status) → RecordOk journal e → NotStarted s → NotStarted (status.after e s)
  after_not_started journal (entry.Started key kind try moment) s ok h = absurd ok
  after_not_started journal (entry.Receiving r) s ok h = open_not_started r s h
  after_not_started journal (entry.Mark key offset) s ok h = mark_not_started offset s h
  after_not_started journal (entry.Result key o moment) s ok h = tt
  after_not_started journal (entry.Dropped key rc why moment) s ok h = tt
  after_not_started journal e s ok h = h

  not_started_more : (journal : List Entry) (e : Entry) (key : Key) → RecordOk journal e → NotStarted (status.status journal key) → NotStarted (status.status (e ∷ journal) key)
  not_started_more journal e key ok h =
      elim (cases_Bool (is_of key e)) [
        | inl same ↦ subst NotStarted (sym (status-own e journal key same)) (after_not_started journal e (status.status journal key) ok h)
        | inr other ↦ subst NotStarted (sym (status-other e journal key other)) h
      ]

  -- a new Ended
  module _ (read : Reading) (other journal : List Entry) (home : own_home journal ≡ own.home) (legal : is_legal read journal ≡ true) where
    found_code : (key : Key) (rc : ℕ) (why : Cause) (bytes : ℕ) (found : Option Outcomes) → outcome journal key ≡ found → is_outcome rc why bytes found ≡ true → HasCode journal key rc
    found_code key rc why bytes None is fits = absurd (false≢true fits)
    found_code key rc why bytes (Some o) is fits =
        let two = and_parts (eqb o.rc rc && eqb (cause_code o.cause) (cause_code why)) (eqb o.bytes bytes) fits in
        let one = and_parts (eqb o.rc rc) (eqb (cause_code o.cause) (cause_code why)) two.0 in
        record { o = o; is = is; code = eqb-true o.rc rc one.0 }

    kept_here : (n place rc : ℕ) (why : Cause) (bytes : ℕ) (w : Option What) → is_kept_outcome journal n place rc why bytes w ≡ true → is_such pnode_keeps w ≡ true
        → is_outcome rc why bytes (own_outcome journal (own_home journal) n place) ≡ true
    kept_here n place rc why bytes None fits such = absurd (false≢true fits)
    kept_here n place rc why bytes (Some s) fits such =
        elim (or_cases (not (pnode_keeps s)) (is_outcome rc why bytes (own_outcome journal (own_home journal) n place)) fits) [
          | inl apart ↦ absurd (false≢true (sym (ap not such) ∙ apart))
          | inr is ↦ is
        ]

    new_ended : (n place rc : ℕ) (why : Cause) (bytes : ℕ) → may_end read journal n place rc why bytes ≡ true → EndedBy own Says journal n place rc why bytes
        → ((key : Key) (o : Outcomes) → Says (message.Result key o) → outcome other key ≡ Some o) → EndedKept read other journal n place rc why bytes
    new_ended n place rc why bytes fits by says =
        let own_is : own_home journal ≡ Some (by.key.pnode, by.key.home) = home ∙ by.own_key in
        let kept = (and_parts (is_live journal n && runs_itself journal n && eqb place (next_place read journal n) && ltb place (length (stmts_of read journal n))) (is_kept_outcome journal n place rc why bytes (what_at read journal n place)) fits).1 in
        record {
          key = by.key;
          home = own_is;
          number = sym by.number;
          step = sym by.step;
          here = λ such.
              let mine = kept_here n place rc why bytes (what_at read journal n place) kept such in
              let found : is_outcome rc why bytes (outcome journal (record { pnode = by.key.pnode; home = by.key.home; number = n; place = place })) ≡ true =
              subst (λ (known : Option (List ℕ × ℕ)). is_outcome rc why bytes (own_outcome journal known n place) ≡ true) own_is mine in
              let at_number : is_outcome rc why bytes (outcome journal (record { pnode = by.key.pnode; home = by.key.home; number = by.key.number; place = place })) ≡ true =
              subst (λ (m : ℕ). is_outcome rc why bytes (outcome journal (record { pnode = by.key.pnode; home = by.key.home; number = m; place = place })) ≡ true) by.number found in
              let at_key : is_outcome rc why bytes (outcome journal by.key) ≡ true =
              subst (λ (m : ℕ). is_outcome rc why bytes (outcome journal (record { pnode = by.key.pnode; home = by.key.home; number = by.key.number; place = m })) ≡ true) by.step at_number in
              found_code by.key rc why bytes (outcome journal by.key) refl at_key;
          there = λ apart. elim by.says [
            | inl told ↦ record { o = by.o; is = says by.key by.o told; code = sym by.rc_is; cause = sym by.why_is; length = sym by.bytes_is }
            | inr own_outcome_is ↦
                let such : is_such pnode_keeps (what_at read journal by.key.number by.key.place) ≡ true = outcome_kept read journal by.key by.o legal own_is own_outcome_is in
                let such2 : is_such pnode_keeps (what_at read journal n by.key.place) ≡ true = subst (λ (m : ℕ). is_such pnode_keeps (what_at read journal m by.key.place) ≡ true) (sym by.number) such in
                let such3 : is_such pnode_keeps (what_at read journal n place) ≡ true = subst (λ (m : ℕ). is_such pnode_keeps (what_at read journal n m) ≡ true) (sym by.step) such2 in
                absurd (false≢true (sym apart ∙ such3))
          ];
        }

    ended_more : (e : Entry) → is_legal read (e ∷ journal) ≡ true → RecordOk journal e → ((key : Key) (o : Outcomes) → Says (message.Result key o) → outcome other key ≡ Some o)
        → EachEnded (EndedKept read other) journal → EachEnded (EndedKept read other) (e ∷ journal)
    ended_more (entry.Ended n place rc why bytes moment) legal2 ok says all = (new_ended n place rc why bytes (follows read _ journal legal2) ok says, all)
    ended_more (entry.Home name known) legal2 ok says all = all
    ended_more (entry.Submitted n moment origin card text) legal2 ok says all = all
    ended_more e legal2 ok says all = all

-- Landings.

pub at_self : (x : At) → is_at x x ≡ true
at_self A = refl
at_self B = refl

pub not_across : (x : At) → is_at (across x) x ≡ false
not_across A = refl
not_across B = refl

open_lands : (r : Receiving) (s : Status) (landed : List (List ℕ)) → LandOk s landed → LandOk (status.opened r s) landed
open_lands r status.Fresh landed h = h
open_lands r (status.Started tries kind) landed h = h
open_lands r (status.Open before safe) landed h = h
open_lands r (status.Done o) landed h = h

mark_lands : (offset : ℕ) (s : Status) (landed : List (List ℕ)) → LandOk s landed → LandOk (status.marked offset s) landed
mark_lands offset status.Fresh landed h = h
mark_lands offset (status.Started tries kind) landed h = h
mark_lands offset (status.Open before safe) landed h = h
mark_lands offset (status.Done o) landed h = h

-- a step without a receiving has no outcome with the code 0
by_cause : (why : Cause) (rc made : ℕ) → made ≡ 0 → is_cause_from status.Fresh why made ≡ true → is_code_of why rc ≡ true → rc ≡ 0 → ⊥
by_cause cause.None rc made none fits code is = false≢true (subst (λ (m : ℕ). not (eqb m 0) ≡ true) none fits)
by_cause cause.NotStarted rc made none fits code is = false≢true fits
by_cause cause.Killed rc made none fits code is = false≢true fits
by_cause cause.Interrupted rc made none fits code is = false≢true fits
by_cause cause.Released rc made none fits code is = false≢true code
by_cause cause.Trouble rc made none fits code is = false≢true code
by_cause why rc made none fits code is = false≢true (subst (λ (m : ℕ). eqb m 8 ≡ true) is code)

answer_code : (journal : List Entry) (key : Key) (o : Outcomes) → made_for journal key ≡ None → may_answer journal key status.Fresh o ≡ true → o.rc ≡ 0 → ⊥
answer_code journal key o none fits is =
    let four = and_parts (not (is_over journal key) && eqb o.bytes 0 && is_made (made_for journal key) o && is_cause_from status.Fresh o.cause o.made) (is_code_of o.cause o.rc) fits in
    let three = and_parts (not (is_over journal key) && eqb o.bytes 0 && is_made (made_for journal key) o) (is_cause_from status.Fresh o.cause o.made) four.0 in
    let two = and_parts (not (is_over journal key) && eqb o.bytes 0) (is_made (made_for journal key) o) three.0 in
    let made : eqb o.made 0 ≡ true = subst (λ (found : Option ℕ). is_made found o ≡ true) none two.1 in
    by_cause o.cause o.rc o.made (eqb-true o.made 0 made) three.1 four.1 is

module _ (x : At) (read : Reading) (journal : List Entry) (received : Key → List ℕ) (notes : List Note)
    (plain : (key : Key) → made_for journal key ≡ None) (started : (key : Key) → NotStarted (status.status journal key))
    (legal : is_legal read journal ≡ true) where
  -- a landing is of the receiving of its step
  own_landing : (key step : Key) (s : Status) → status.status journal step ≡ s → same_key key step ≡ false → landings x key (landing_of x s (received step) notes) ≡ landings x key notes
  own_landing key step status.Fresh is apart = refl
  own_landing key step (status.Started tries kind) is apart = refl
  own_landing key step (status.Done o) is apart = refl
  own_landing key step (status.Open r safe) is apart =
      let same : r.key ≡ step = (openings.open-on read journal step r safe legal is).0 in
      let test : (is_at x x && same_key key r.key) ≡ false = ap (λ (k : Key). is_at x x && same_key key k) same ∙ ap (λ (b : Bool). is_at x x && b) apart ∙ ap (λ (b : Bool). b && false) (at_self x) in
      cond-false (is_at x x && same_key key r.key) (received step ∷ landings x key notes) (landings x key notes) test

  result_lands : (step : Key) (o : Outcomes) (s : Status) → status.status journal step ≡ s → may_end_from journal step s o ≡ true → LandOk s (landings x step notes)
      → o.rc ≡ 0 → IsOne (landings x step (landing_of x s (received step) notes))
  result_lands step o status.Fresh is fits before code = absurd (answer_code journal step o (plain step) fits code)
  result_lands step o (status.Started tries kind) is fits before code = absurd (subst NotStarted is (started step))
  result_lands step o (status.Done earlier) is fits before code = absurd (false≢true fits)
  result_lands step o (status.Open r safe) is fits before code =
      let same : r.key ≡ step = (openings.open-on read journal step r safe legal is).0 in
      let test : (is_at x x && same_key step r.key) ≡ true = and_from (is_at x x) (same_key step r.key) (at_self x) (subst (λ (k : Key). same_key step k ≡ true) (sym same) (same_key-refl step)) in
      record { got = received step; is = cond-true (is_at x x && same_key step r.key) (received step ∷ landings x step notes) (landings x step notes) test ∙ ap (λ (rest : List (List ℕ)). received step ∷ rest) before }

  drop_code : (s : Status) (rc : ℕ) (why : Cause) → may_drop_from s rc why ≡ true → rc ≡ 0 → ⊥
  drop_code status.Fresh rc why fits is = false≢true fits
  drop_code (status.Started tries kind) rc why fits is = false≢true fits
  drop_code (status.Done o) rc why fits is = false≢true fits
  drop_code (status.Open r safe) rc why fits is =
      let two = and_parts (eqb safe 0 && eqb rc 8) (is_dropping why) fits in
      let one = and_parts (eqb safe 0) (eqb rc 8) two.0 in
      false≢true (subst (λ (m : ℕ). eqb m 8 ≡ true) is one.1)

  -- what is dropped doesn't land
  dropping_lands : (s : Status) (key : Key) → landings x key (dropping_of x s notes) ≡ landings x key notes
  dropping_lands status.Fresh key = refl
  dropping_lands (status.Started tries kind) key = refl
  dropping_lands (status.Open r safe) key = refl
  dropping_lands (status.Done o) key = refl

  lands_more : (e : Entry) (key : Key) → is_legal read (e ∷ journal) ≡ true → ((kind : _) (step : Key) (try moment : ℕ) → e ≡ entry.Started step kind try moment → ⊥)
      → LandOk (status.status journal key) (landings x key notes) → LandOk (status.status (e ∷ journal) key) (landings x key (noted_by x journal received e notes))
  lands_more (entry.Result step o moment) key legal2 never before =
      let e : Entry = entry.Result step o moment in
      let s : Status = status.status journal step in
      let fits : may_end_from journal step s o ≡ true = (and_parts (may_end_from journal step s o) (fits_own read journal step pnode_keeps) (follows read e journal legal2)).0 in
      elim (cases_Bool (same_key key step)) [
        | inl same ↦
            let is : key ≡ step = same_key-true key step same in
            let done : LandOk (status.Done o) (landings x step (landing_of x s (received step) notes)) =
            result_lands step o s refl fits (subst (λ (k : Key). LandOk (status.status journal k) (landings x k notes)) is before) in
            subst (λ (t : Status). LandOk t (landings x key (landing_of x s (received step) notes))) (sym (status-own e journal key same))
            (subst (λ (k : Key). LandOk (status.Done o) (landings x k (landing_of x s (received step) notes))) (sym is) done)
        | inr other ↦
            subst (λ (t : Status). LandOk t (landings x key (landing_of x s (received step) notes))) (sym (status-other e journal key other))
            (subst (λ (landed : List (List ℕ)). LandOk (status.status journal key) landed) (sym (own_landing key step s refl other)) before)
      ]
  lands_more (entry.Dropped step rc why moment) key legal2 never before =
      let e : Entry = entry.Dropped step rc why moment in
      elim (cases_Bool (same_key key step)) [
        | inl same ↦
            let done : LandOk (status.Done (status.dropped_outcome rc why)) (landings x key notes) = λ code. absurd (drop_code (status.status journal step) rc why (follows read e journal legal2) code) in
            subst (λ (t : Status). LandOk t (landings x key (noted_by x journal received e notes))) (sym (status-own e journal key same))
            (subst (λ (landed : List (List ℕ)). LandOk (status.Done (status.dropped_outcome rc why)) landed) (sym (dropping_lands (status.status journal step) key)) done)
        | inr other ↦
            subst (λ (t : Status). LandOk t (landings x key (noted_by x journal received e notes))) (sym (status-other e journal key other))
            (subst (λ (landed : List (List ℕ)). LandOk (status.status journal key) landed) (sym (dropping_lands (status.status journal step) key)) before)
      ]
  lands_more (entry.Receiving r) key legal2 never before =
      let e : Entry = entry.Receiving r in
      elim (cases_Bool (same_key key r.key)) [
        | inl same ↦ subst (λ (t : Status). LandOk t (landings x key notes)) (sym (status-own e journal key same)) (open_lands r (status.status journal key) (landings x key notes) before)
        | inr other ↦ subst (λ (t : Status). LandOk t (landings x key notes)) (sym (status-other e journal key other)) before
      ]
  lands_more (entry.Mark step offset) key legal2 never before =
      let e : Entry = entry.Mark step offset in
      elim (cases_Bool (same_key key step)) [
        | inl same ↦ subst (λ (t : Status). LandOk t (landings x key notes)) (sym (status-own e journal key same)) (mark_lands offset (status.status journal key) (landings x key notes) before)
        | inr other ↦ subst (λ (t : Status). LandOk t (landings x key notes)) (sym (status-other e journal key other)) before
      ]
  lands_more (entry.Started step kind try moment) key legal2 never before = absurd (never kind step try moment refl)
  lands_more e key legal2 never before = subst (λ (t : Status). LandOk t (landings x key notes)) (sym (status-other e journal key refl)) before

-- the other node's landings stay as they were
others_landings : (x : At) (journal : List Entry) (received : Key → List ℕ) (notes : List Note) (e : Entry) (key : Key)
    → landings (across x) key (noted_by x journal received e notes) ≡ landings (across x) key notes
others_landings x journal received notes (entry.Result step o moment) key = by_status (status.status journal step) where
  by_status : (s : Status) → landings (across x) key (landing_of x s (received step) notes) ≡ landings (across x) key notes
  by_status status.Fresh = refl
  by_status (status.Started tries kind) = refl
  by_status (status.Done before) = refl
  by_status (status.Open r safe) =
      cond-false (is_at (across x) x && same_key key r.key) (received step ∷ landings (across x) key notes) (landings (across x) key notes)
      (ap (λ (b : Bool). b && same_key key r.key) (not_across x))
others_landings x journal received notes (entry.Dropped step rc why moment) key = by_status (status.status journal step) where
  by_status : (s : Status) → landings (across x) key (dropping_of x s notes) ≡ landings (across x) key notes
  by_status status.Fresh = refl
  by_status (status.Started tries kind) = refl
  by_status (status.Done before) = refl
  by_status (status.Open r safe) = refl
others_landings x journal received notes (entry.Receiving r) key = refl
others_landings x journal received notes e key = refl

-- Both nodes.

pub record BothAgreed (x : At) (own_a own_b : Own) (w : World) : Type 0 where
  pub a : Agreed x own_a w.a w.b w.notes
  pub b : Agreed (across x) own_b w.b w.a w.notes

each_more : (P Q : List Entry → ℕ → ℕ → ℕ → Cause → ℕ → Type 0) → ((journal : List Entry) (n place rc : ℕ) (why : Cause) (bytes : ℕ) → P journal n place rc why bytes → Q journal n place rc why bytes)
    → (journal : List Entry) → EachEnded P journal → EachEnded Q journal
each_more P Q more [] all = tt
each_more P Q more (entry.Ended n place rc why bytes moment ∷ journal) all = (more journal n place rc why bytes all.0, each_more P Q more journal all.1)
each_more P Q more (entry.Home name home ∷ journal) all = each_more P Q more journal all
each_more P Q more (e ∷ journal) all = each_more P Q more journal all

pub each_receiving_more : (P Q : Receiving → Type 0) → ((r : Receiving) → P r → Q r) → (journal : List Entry) → EachReceiving P journal → EachReceiving Q journal
each_receiving_more P Q more [] all = tt
each_receiving_more P Q more (entry.Receiving r ∷ journal) all = (more r all.0, each_receiving_more P Q more journal all.1)
each_receiving_more P Q more (entry.Home name home ∷ journal) all = each_receiving_more P Q more journal all
each_receiving_more P Q more (e ∷ journal) all = each_receiving_more P Q more journal all

pub each_landed_more : (x : At) (P Q : Receiving → Type 0) → ((r : Receiving) → P r → Q r) → (notes : List Note) → EachLanded x P notes → EachLanded x Q notes
each_landed_more x P Q more [] all = tt
each_landed_more x P Q more (Landed y r got ∷ notes) all = (λ here. more r (all.0 here), each_landed_more x P Q more notes all.1)
each_landed_more x P Q more (Sized y name size ∷ notes) all = each_landed_more x P Q more notes all
each_landed_more x P Q more (Read y step at bytes ∷ notes) all = each_landed_more x P Q more notes all
each_landed_more x P Q more (Began y r ∷ notes) all = each_landed_more x P Q more notes all
each_landed_more x P Q more (Dropped y r ∷ notes) all = each_landed_more x P Q more notes all
each_landed_more x P Q more (Wrote y name bytes ∷ notes) all = each_landed_more x P Q more notes all

stated_more : (own : Own) (journal journal2 : List Entry) (Says Says2 : Message → Type 0)
    → ((n place : ℕ) (s : What) → what_at own.read journal n place ≡ Some s → what_at own.read journal2 n place ≡ Some s) → ((m : Message) → Says m → Says2 m)
    → (r : Receiving) → StatedBy own journal Says r → StatedBy own journal2 Says2 r
stated_more own journal journal2 Says Says2 stays more r by = record {
  mine = λ is. let was = by.mine is in record { step = was.step; stands = stays r.key.number r.key.place _ was.stands; way = was.way; same = was.same };
  theirs = elim by.theirs [
    | inl is ↦ inl is
    | inr told ↦ inr (more (message.StepCopyTo r.key r.name r.disp r.interval r.length) told)
  ];
}

told_more : (read read2 : Reading) (journal journal2 : List Entry) → ((m : Message) → Tells read journal m → Tells read2 journal2 m) → (frames : List Message) → AllTell read journal frames → AllTell read2 journal2 frames
told_more read read2 journal journal2 more [] h = tt
told_more read read2 journal journal2 more (m ∷ frames) h = (more m h.0, told_more read read2 journal journal2 more frames h.1)

-- beside another state of the other node, which has the same outcomes
beside : (x : At) (own : Own) (a b b2 : Half) (notes : List Note) → ((m : Message) → Of b m → Of b2 m) → Agreed x own a b notes → Agreed x own a b2 notes
beside x own a b b2 notes more h = record {
  home = h.home;
  phases = h.phases;
  heard = λ n. told_more b.node.view.config.read b2.node.view.config.read (journal_of b) (journal_of b2) more (a.way n) (h.heard n);
  stated = record {
    reads = h.stated.reads;
    each = each_receiving_more (StatedBy own (journal_of a) (Of b)) (StatedBy own (journal_of a) (Of b2)) (stated_more own (journal_of a) (journal_of a) (Of b) (Of b2) (λ n place s is. is) more) (journal_of a) h.stated.each;
    noted = each_landed_more x (StatedBy own (journal_of a) (Of b)) (StatedBy own (journal_of a) (Of b2)) (stated_more own (journal_of a) (journal_of a) (Of b) (Of b2) (λ n place s is. is) more) notes h.stated.noted;
  };
  ended = each_more (EndedKept a.node.view.config.read (journal_of b)) (EndedKept a.node.view.config.read (journal_of b2))
      (λ journal n place rc why bytes k. record {
        key = k.key;
        home = k.home;
        number = k.number;
        step = k.step;
        here = k.here;
        there = λ apart. let is = k.there apart in record { o = is.o; is = more (message.Result k.key is.o) is.is; code = is.code; cause = is.cause; length = is.length };
      }) (journal_of a) h.ended;
  plain = h.plain;
  started = h.started;
  landed = h.landed;
}

-- with other notes, of which as much landed
noted : (x : At) (own : Own) (a b : Half) (notes notes2 : List Note) → ((key : Key) → landings x key notes2 ≡ landings x key notes)
    → ((P : Receiving → Type 0) → EachLanded x P notes → EachLanded x P notes2) → Agreed x own a b notes → Agreed x own a b notes2
noted x own a b notes notes2 same more h = record {
  home = h.home;
  phases = h.phases;
  heard = h.heard;
  stated = record { reads = h.stated.reads; each = h.stated.each; noted = more (StatedBy own (journal_of a) (Of b)) h.stated.noted };
  ended = h.ended;
  plain = h.plain;
  started = h.started;
  landed = λ key. subst (λ (landed : List (List ℕ)). LandOk (status.status (journal_of a) key) landed) (sym (same key)) (h.landed key);
}

pub either_at : {T : Type 0} (P : T → Type 0) (sid : ℕ) (value : T) (others : ℕ → T) → P value → ((n : ℕ) → P (others n)) → (n : ℕ) → P (at_session sid value others n)
either_at P sid value others one rest n = elim (eqb sid n) as (λ b. P (cond b value (others n))) [ true ↦ one | false ↦ rest n ]

all_tell_append : (read : Reading) (journal : List Entry) (first second : List Message) → AllTell read journal first → AllTell read journal second → AllTell read journal (first ++ second)
all_tell_append read journal [] second one two = two
all_tell_append read journal (m ∷ first) second one two = (one.0, all_tell_append read journal first second one.1 two)

all_tell_take : (read : Reading) (journal : List Entry) (k : ℕ) (frames : List Message) → AllTell read journal frames → AllTell read journal (take k frames)
all_tell_take read journal zero frames h = tt
all_tell_take read journal (suc k) [] h = tt
all_tell_take read journal (suc k) (m ∷ frames) h = (h.0, all_tell_take read journal k frames h.1)

-- Statements.

-- what a node told it tells behind one more entry
tells_stay : (read : Reading) (e : Entry) (journal : List Entry) → is_legal read (e ∷ journal) ≡ true → own_home (e ∷ journal) ≡ own_home journal → (m : Message) → Tells read journal m → Tells read (e ∷ journal) m
tells_stay read e journal legal home (message.Result key o) h = outcome_stays read (e ∷ []) journal key o legal h
tells_stay read e journal legal home (message.StepCopyTo key name disp interval len) h = record {
  step = h.step;
  own_key = home ∙ h.own_key;
  stands = statement_stays read e journal key.number key.place _ legal h.stands;
  push = h.push;
  name_is = h.name_is;
  disp_is = h.disp_is;
  interval_is = h.interval_is;
}
tells_stay read e journal legal home m h = tt

each_tail : (P : Receiving → Type 0) (e : Entry) (journal : List Entry) → EachReceiving P (e ∷ journal) → EachReceiving P journal
each_tail P (entry.Receiving r) journal all = all.1
each_tail P (entry.Home name home) journal all = all
each_tail P e journal all = all

-- the receiving of a status, or another one
abbrev receiving_in : Receiving → Status → Receiving
receiving_in other (status.Open r safe) = r
receiving_in other s = other

-- an open receiving is one that was recorded
module _ (P : Receiving → Type 0) (key : Key) (r : Receiving) where
  opened_each : (new : Receiving) (s : Status) (safe : ℕ) → P new → (s ≡ status.Open r safe → P r) → status.opened new s ≡ status.Open r safe → P r
  opened_each new status.Fresh safe one rest is = subst P (ap (receiving_in r) is) one
  opened_each new (status.Started tries kind) safe one rest is = subst P (ap (receiving_in r) is) one
  opened_each new (status.Open before mark) safe one rest is = subst P (ap (receiving_in r) is) one
  opened_each new (status.Done o) safe one rest is = absurd cc

  marked_each : (offset : ℕ) (s : Status) (safe : ℕ) → ((mark : ℕ) → s ≡ status.Open r mark → P r) → status.marked offset s ≡ status.Open r safe → P r
  marked_each offset status.Fresh safe rest is = absurd cc
  marked_each offset (status.Started tries kind) safe rest is = absurd cc
  marked_each offset (status.Open before mark) safe rest is = rest mark (ap (λ (k : Receiving). status.Open k mark) (ap (receiving_in r) is))
  marked_each offset (status.Done o) safe rest is = absurd cc

  started_each : (kind : TaskKind) (s : Status) (safe : ℕ) → ((mark : ℕ) → s ≡ status.Open r mark → P r) → status.once_more kind s ≡ status.Open r safe → P r
  started_each kind status.Fresh safe rest is = absurd cc
  started_each kind (status.Started tries last) safe rest is = absurd cc
  started_each kind (status.Open before mark) safe rest is = rest safe is
  started_each kind (status.Done o) safe rest is = absurd cc

  after_each : (e : Entry) (journal : List Entry) (s : Status) (safe : ℕ) → EachReceiving P (e ∷ journal) → ((mark : ℕ) → s ≡ status.Open r mark → P r) → status.after e s ≡ status.Open r safe → P r
  after_each (entry.Receiving new) journal s safe all rest is = opened_each new s safe all.0 (rest safe) is
  after_each (entry.Mark step offset) journal s safe all rest is = marked_each offset s safe rest is
  after_each (entry.Started step kind try moment) journal s safe all rest is = started_each kind s safe rest is
  after_each (entry.Result step o moment) journal s safe all rest is = absurd cc
  after_each (entry.Dropped step rc why moment) journal s safe all rest is = absurd cc
  after_each e journal s safe all rest is = rest safe is

  open_each : (journal : List Entry) (safe : ℕ) → status.status journal key ≡ status.Open r safe → EachReceiving P journal → P r
  unfolding status.status
  open_each [] safe is all = absurd cc
  open_each (e ∷ journal) safe is all =
      elim (cases_Bool (is_of key e)) [
        | inl own ↦ after_each e journal (status.status journal key) safe all (λ mark was. open_each journal mark was (each_tail P e journal all)) (sym (status-own e journal key own) ∙ is)
        | inr other ↦ open_each journal safe (sym (status-other e journal key other) ∙ is) (each_tail P e journal all)
      ]

module _ (x : At) (P : Receiving → Type 0) (journal : List Entry) (received : Key → List ℕ) (notes : List Note) (each : EachReceiving P journal) (all : EachLanded x P notes) where
  -- what lands was being received
  landing_each : (step : Key) (s : Status) → status.status journal step ≡ s → EachLanded x P (landing_of x s (received step) notes)
  landing_each step status.Fresh is = all
  landing_each step (status.Started tries kind) is = all
  landing_each step (status.Open r safe) is = (λ here. open_each P step r journal safe is each, all)
  landing_each step (status.Done o) is = all

  dropping_each : (s : Status) → EachLanded x P (dropping_of x s notes)
  dropping_each status.Fresh = all
  dropping_each (status.Started tries kind) = all
  dropping_each (status.Open r safe) = all
  dropping_each (status.Done o) = all

  noted_each : (e : Entry) → EachLanded x P (noted_by x journal received e notes)
  noted_each (entry.Result step o moment) = landing_each step (status.status journal step) refl
  noted_each (entry.Dropped step rc why moment) = dropping_each (status.status journal step)
  noted_each (entry.Receiving r) = all
  noted_each e = all

-- the other node's landings stay as they were
others_each : (x : At) (P : Receiving → Type 0) (journal : List Entry) (received : Key → List ℕ) (notes : List Note) (e : Entry) → EachLanded (across x) P notes
    → EachLanded (across x) P (noted_by x journal received e notes)
others_each x P journal received notes (entry.Result step o moment) all = by_status (status.status journal step) where
  by_status : (s : Status) → EachLanded (across x) P (landing_of x s (received step) notes)
  by_status status.Fresh = all
  by_status (status.Started tries kind) = all
  by_status (status.Open r safe) = (λ here. absurd (false≢true (sym (not_across x) ∙ here)), all)
  by_status (status.Done before) = all
others_each x P journal received notes (entry.Dropped step rc why moment) all = by_status (status.status journal step) where
  by_status : (s : Status) → EachLanded (across x) P (dropping_of x s notes)
  by_status status.Fresh = all
  by_status (status.Started tries kind) = all
  by_status (status.Open r safe) = all
  by_status (status.Done before) = all
others_each x P journal received notes (entry.Receiving r) all = all
others_each x P journal received notes e all = all

-- one more entry
each_kept : (own : Own) (Says : Message → Type 0) (journal : List Entry) (e : Entry) → is_legal own.read (e ∷ journal) ≡ true → own_home journal ≡ own.home → RecordOk own Says journal e
    → EachReceiving (StatedBy own (e ∷ journal) Says) journal → EachReceiving (StatedBy own (e ∷ journal) Says) (e ∷ journal)
each_kept own Says journal (entry.Receiving r) legal home ok all = (
  record {
    mine = λ is. let was = receiving_stated own.read journal r legal (home ∙ is) in
        record { step = was.step; stands = statement_stays own.read (entry.Receiving r) journal r.key.number r.key.place _ legal was.stands; way = was.way; same = was.same };
    theirs = ok;
  },
  all,
)
each_kept own Says journal (entry.Home name known) legal home ok all = all
each_kept own Says journal e legal home ok all = all

stated_kept : (x : At) (own : Own) (Says : Message → Type 0) (view : NodeView) (received : Key → List ℕ) (notes : List Note) (e : Entry) → AllStated x own view Says notes → own_home view.journal ≡ own.home
    → is_legal view.config.read (e ∷ view.journal) ≡ true → RecordOk own Says view.journal e → AllStated x own (recorded e view) Says (noted_by x view.journal received e notes)
stated_kept x own Says view received notes e h home legal ok =
    let journal : List Entry = view.journal in
    let legal2 : is_legal own.read (e ∷ journal) ≡ true = subst (λ (read : Reading). is_legal read (e ∷ journal) ≡ true) h.reads legal in
    let more : (r : Receiving) → StatedBy own journal Says r → StatedBy own (e ∷ journal) Says r = stated_more own journal (e ∷ journal) Says Says (λ n place s is. statement_stays own.read e journal n place s legal2 is) (λ m told. told) in
    record {
      reads = h.reads;
      each = each_kept own Says journal e legal2 home ok (each_receiving_more (StatedBy own journal Says) (StatedBy own (e ∷ journal) Says) more journal h.each);
      noted = each_landed_more x (StatedBy own journal Says) (StatedBy own (e ∷ journal) Says) more (noted_by x journal received e notes)
          (noted_each x (StatedBy own journal Says) journal received notes h.each h.noted e);
    }

module _ (x : At) (own_a own_b : Own) (sid : ℕ) where
  keep_agreed : (w : World) (e : Entry) → BothAgreed x own_a own_b w → RecordOk own_a (Of w.b) (journal_of w.a) e → is_legal w.a.node.view.config.read (e ∷ journal_of w.a) ≡ true
      → BothAgreed x own_a own_b (world_did x sid (Keep e) w)
  keep_agreed w e h ok legal2 =
      let read : Reading = w.a.node.view.config.read in
      let journal : List Entry = journal_of w.a in
      let legal : is_legal read journal ≡ true = (legal_parts read e journal legal2).0 in
      let w2 : World = world_did x sid (Keep e) w in
      let more : (m : Message) → Of w.a m → Of w2.a m = tells_stay read e journal legal2 (home_more own_a (Of w.b) journal e ok) in
      record {
        a = record {
          home = home_more own_a (Of w.b) journal e ok ∙ h.a.home;
          phases = h.a.phases;
          heard = h.a.heard;
          stated = stated_kept x own_a (Of w.b) w.a.node.view w.a.received w.notes e h.a.stated h.a.home legal2 ok;
          ended = ended_more own_a (Of w.b) read (journal_of w.b) journal h.a.home legal e legal2 ok (λ key o says. says) h.a.ended;
          plain = λ key. made_more own_a (Of w.b) journal e key ok (h.a.plain key);
          started = λ key. not_started_more own_a (Of w.b) journal e key ok (h.a.started key);
          landed = λ key. lands_more x read journal w.a.received w.notes h.a.plain h.a.started legal e key legal2
              (λ kind step try moment is. subst (λ (e2 : Entry). RecordOk own_a (Of w.b) journal e2) is ok) (h.a.landed key);
        };
        b = noted (across x) own_b w.b w2.a w.notes w2.notes (others_landings x journal w.a.received w.notes e) (λ P all. others_each x P journal w.a.received w.notes e all) (beside (across x) own_b w.b w.a w2.a w.notes more h.b);
      }

  -- what a read adds is no landing
  read_landings : (y : At) (key : Key) (known : Option Key) (at : ℕ) (bytes : List ℕ) (notes : List Note) → landings y key (read_for x known at bytes notes) ≡ landings y key notes
  read_landings y key None at bytes notes = refl
  read_landings y key (Some step) at bytes notes = refl

  read_each : (y : At) (known : Option Key) (at : ℕ) (bytes : List ℕ) (notes : List Note) (P : Receiving → Type 0) → EachLanded y P notes → EachLanded y P (read_for x known at bytes notes)
  read_each y None at bytes notes P all = all
  read_each y (Some step) at bytes notes P all = all

  begin_agreed : (w : World) (key : Key) (phase : Phase) → BothAgreed x own_a own_b w → PhaseOk own_a (Of w.b) phase → BothAgreed x own_a own_b (world_did x sid (Begin key phase) w)
  begin_agreed w key phase h ok = record {
    a = record {
      home = h.a.home;
      phases = either_at (PhaseOk own_a (Of w.b)) sid phase w.a.node.sessions.phase ok h.a.phases;
      heard = h.a.heard;
      stated = h.a.stated;
      ended = h.a.ended;
      plain = h.a.plain;
      started = h.a.started;
      landed = h.a.landed;
    };
    b = beside (across x) own_b w.b w.a (world_did x sid (Begin key phase) w).a w.notes (λ m is. is) h.b;
  }

  go_agreed : (w : World) (phase : Phase) (frames : List Message) → BothAgreed x own_a own_b w → PhaseOk own_a (Of w.b) phase → AllTell own_a.read (journal_of w.a) frames
      → BothAgreed x own_a own_b (world_did x sid (Go phase frames) w)
  go_agreed w phase frames h ok sent_ok = record {
    a = record {
      home = h.a.home;
      phases = either_at (PhaseOk own_a (Of w.b)) sid phase w.a.node.sessions.phase ok h.a.phases;
      heard = heard_a (is_gone phase);
      stated = h.a.stated;
      ended = h.a.ended;
      plain = h.a.plain;
      started = h.a.started;
      landed = h.a.landed;
    };
    b = record {
      home = h.b.home;
      phases = h.b.phases;
      heard = either_at (AllOf w.a) sid _ w.b.way (heard_b (w.b.ends sid)) h.b.heard;
      stated = h.b.stated;
      ended = h.b.ended;
      plain = h.b.plain;
      started = h.b.started;
      landed = h.b.landed;
    };
  } where
    heard_a : (b : Bool) (n : ℕ) → AllOf w.b (cond b (at_session sid [] w.a.way) w.a.way n)
    heard_a true = either_at (AllOf w.b) sid [] w.a.way tt h.a.heard
    heard_a false = h.a.heard

    heard_b : (b : Bool) → AllOf w.a (behind_them b (w.b.way sid) frames)
    heard_b true = h.b.heard sid
    heard_b false = all_tell_append w.a.node.view.config.read (journal_of w.a) (w.b.way sid) frames (h.b.heard sid)
        (subst (λ (read : Reading). AllTell read (journal_of w.a) frames) (sym h.a.stated.reads) sent_ok)

  -- effects, one after another
  does_agreed : (effects : List Effect) (w : World) → BothAgreed x own_a own_b w → AllFit own_a (Of w.b) (journal_of w.a) effects
      → is_legal w.a.node.view.config.read (does sid effects w.a.node).view.journal ≡ true → BothAgreed x own_a own_b (world_does x sid effects w)
  does_agreed [] w h fit legal = h
  does_agreed (Keep e ∷ effects) w h fit legal =
      let rest = reaction_extends sid effects (did sid (Keep e) w.a.node) in
      let legal2 : is_legal w.a.node.view.config.read (e ∷ journal_of w.a) ≡ true =
      legal_before w.a.node.view.config.read rest.0 (e ∷ journal_of w.a) (subst (λ (journal : List Entry). is_legal w.a.node.view.config.read journal ≡ true) rest.1 legal) in
      does_agreed effects (world_did x sid (Keep e) w) (keep_agreed w e h (record_ok own_a (Of w.b) (journal_of w.a) e fit.0) legal2) fit.1 legal
  does_agreed (Touch change ∷ effects) w h fit legal =
      let w2 : World = world_did x sid (Touch change) w in
      does_agreed effects w2 (record {
        a = record { home = h.a.home; phases = h.a.phases; heard = h.a.heard; ended = h.a.ended; plain = h.a.plain; started = h.a.started; landed = h.a.landed; stated = h.a.stated };
        b = beside (across x) own_b w.b w.a w2.a w.notes (λ m is. is) h.b;
      }) fit legal
  does_agreed (AskSize name ∷ effects) w h fit legal =
      let w2 : World = world_did x sid (AskSize name) w in
      does_agreed effects w2 (record {
        a = noted x own_a w.a w.b w.notes w2.notes (λ key. refl) (λ P all. all) h.a;
        b = noted (across x) own_b w.b w.a w.notes w2.notes (λ key. refl) (λ P all. all) h.b;
      }) fit legal
  does_agreed (AskBytes name at len ∷ effects) w h fit legal =
      let w2 : World = world_did x sid (AskBytes name at len) w in
      does_agreed effects w2 (record {
        a = noted x own_a w.a w.b w.notes w2.notes (λ key. read_landings x key _ at _ w.notes) (read_each x _ at _ w.notes) h.a;
        b = noted (across x) own_b w.b w.a w.notes w2.notes (λ key. read_landings (across x) key _ at _ w.notes) (read_each (across x) _ at _ w.notes) h.b;
      }) fit legal
  does_agreed (Begin key phase ∷ effects) w h fit legal = does_agreed effects (world_did x sid (Begin key phase) w) (begin_agreed w key phase h fit.0) fit.1 legal
  does_agreed (Go phase frames ∷ effects) w h fit legal = does_agreed effects (world_did x sid (Go phase frames) w) (go_agreed w phase frames h fit.0 fit.1) fit.2 legal

fit_first : (own : Own) (Says : Message → Type 0) (done more : List Effect) (journal : List Entry) → AllFit own Says journal (done ++ more) → AllFit own Says journal done
fit_first own Says [] more journal fit = tt
fit_first own Says (Keep e ∷ done) more journal fit = (fit.0, fit_first own Says done more (e ∷ journal) fit.1)
fit_first own Says (Touch change ∷ done) more journal fit = fit_first own Says done more journal fit
fit_first own Says (AskSize name ∷ done) more journal fit = fit_first own Says done more journal fit
fit_first own Says (AskBytes name at len ∷ done) more journal fit = fit_first own Says done more journal fit
fit_first own Says (Begin key phase ∷ done) more journal fit = (fit.0, fit_first own Says done more journal fit.1)
fit_first own Says (Go phase frames ∷ done) more journal fit = (fit.0, fit.1, fit_first own Says done more journal fit.2)

-- Events.

-- a task begins in such a world, and its effects fit
record FitsTask (x : At) (own_a own_b : Own) (t : Task) : Type 0 where
  agreed : BothAgreed x own_a own_b t.world
  fit : AllFit own_a (Of t.world.b) (journal_of t.world.a) t.effects

module _ (x : At) (own_a own_b : Own) (w : World) (h : BothAgreed x own_a own_b w) (sound : BothSound w) where
  nothing_fits : FitsTask x own_a own_b (nothing w)
  nothing_fits = record { agreed = h; fit = tt }

  chosen_fits : (connected b : Bool) → FitsTask x own_a own_b (record { sid = w.sessions; effects = row_choose w.a.node w.clock connected; world = cond b (with_session w) w })
  chosen_fits connected false = record { agreed = h; fit = choose_ok own_a (Of w.b) w.a.node w.clock connected }
  chosen_fits connected true = record {
    agreed = record {
      a = record {
        home = h.a.home;
        phases = h.a.phases;
        heard = either_at (AllOf w.b) w.sessions [] w.a.way tt h.a.heard;
        stated = h.a.stated;
        ended = h.a.ended;
        plain = h.a.plain;
        started = h.a.started;
        landed = h.a.landed;
      };
      b = record {
        home = h.b.home;
        phases = h.b.phases;
        heard = either_at (AllOf w.a) w.sessions [] w.b.way tt h.b.heard;
        stated = h.b.stated;
        ended = h.b.ended;
        plain = h.b.plain;
        started = h.b.started;
        landed = h.b.landed;
      };
    };
    fit = choose_ok own_a (Of w.b) w.a.node w.clock connected;
  }

  -- the first node changed, but for its view, its phases and what was sent to it
  with_a : (a2 : Half) → a2.node.view ≡ w.a.node.view → ((n : ℕ) → PhaseOk own_a (Of w.b) (a2.node.sessions.phase n)) → ((n : ℕ) → AllOf w.b (a2.way n))
      → BothAgreed x own_a own_b (record w { a = a2 })
  with_a a2 same phases heard = record {
    a = record {
      home = subst (λ (d : NodeView). own_home d.journal ≡ own_a.home) (sym same) h.a.home;
      phases = phases;
      heard = heard;
      stated = subst (λ (d : NodeView). AllStated x own_a d (Of w.b) w.notes) (sym same) h.a.stated;
      ended = subst (λ (d : NodeView). EachEnded (EndedKept d.config.read (journal_of w.b)) d.journal) (sym same) h.a.ended;
      plain = subst (λ (d : NodeView). (key : Key) → made_for d.journal key ≡ None) (sym same) h.a.plain;
      started = subst (λ (d : NodeView). (key : Key) → NotStarted (status.status d.journal key)) (sym same) h.a.started;
      landed = subst (λ (d : NodeView). (key : Key) → LandOk (status.status d.journal key) (landings x key w.notes)) (sym same) h.a.landed;
    };
    b = beside (across x) own_b w.b w.a a2 w.notes (subst (λ (d : NodeView). (m : Message) → Of w.a m → Tells d.config.read d.journal m) (sym same) (λ m is. is)) h.b;
  }

  called_fits : (calls : List ℕ) → FitsTask x own_a own_b (called w calls)
  called_fits [] = nothing_fits
  called_fits (sid ∷ more) = record { agreed = with_a (called w (sid ∷ more)).world.a refl h.a.phases h.a.heard; fit = (tt, tt, tt) }

  came_fits : (sid : ℕ) (answers : Answers) (frames : List Message) → w.a.way sid ≡ frames → FitsTask x own_a own_b (came w sid answers frames)
  came_fits sid answers [] is = nothing_fits
  came_fits sid answers (m ∷ more) is =
      let first : AllOf w.b (m ∷ more) = subst (AllOf w.b) is (h.a.heard sid) in
      record {
        agreed = with_a (came w sid answers (m ∷ more)).world.a refl h.a.phases (either_at (AllOf w.b) sid more w.a.way first.1 h.a.heard);
        fit = row_ok own_a (Of w.b) w.a.node sid (answers_now w answers) m h.a.home h.a.stated.reads
            (λ key r safe is_open. (openings.open-on w.a.node.view.config.read (journal_of w.a) key r safe sound.a.legal is_open).0)
            (h.a.phases sid) first.0;
      }

  ended_fits : (sid : ℕ) (b : Bool) (frames : List Message) → FitsTask x own_a own_b (ended w sid b frames)
  ended_fits sid true [] = record { agreed = h; fit = close_ok own_a (Of w.b) w.a.node.view w.clock (w.a.node.sessions.phase sid) }
  ended_fits sid true (m ∷ frames) = nothing_fits
  ended_fits sid false frames = nothing_fits

  unless_fits : (b : Bool) (t : Task) → FitsTask x own_a own_b t → FitsTask x own_a own_b (cond b (nothing w) t)
  unless_fits true t fits = nothing_fits
  unless_fits false t fits = fits

  while_fits : (b : Bool) (t : Task) → FitsTask x own_a own_b t → FitsTask x own_a own_b (cond b t (nothing w))
  while_fits true t fits = fits
  while_fits false t fits = nothing_fits

  task_of_fits : (happening : Happening) → FitsTask x own_a own_b (task_of w happening)
  task_of_fits (Choice connected) = chosen_fits (connected && w.b.up) (opens (row_choose w.a.node w.clock (connected && w.b.up)))
  task_of_fits Call = called_fits w.a.calls
  task_of_fits (Frame sid answers) = unless_fits (is_gone (w.a.node.sessions.phase sid)) _ (came_fits sid answers (w.a.way sid) refl)
  task_of_fits (End sid) = unless_fits (is_gone (w.a.node.sessions.phase sid)) _ (ended_fits sid (w.a.ends sid) (w.a.way sid))

  task_fits : (happening : Happening) → FitsTask x own_a own_b (task w happening)
  task_fits happening = while_fits w.a.up (task_of w happening) (task_of_fits happening)

  -- after a first part of a task
  reaction_agreed : (t : Task) → FitsTask x own_a own_b t → (done more : List Effect) → t.effects ≡ done ++ more
      → BothGrown w (world_does x t.sid done t.world) → BothAgreed x own_a own_b (world_does x t.sid done t.world)
  reaction_agreed t fits done more split grown =
      let fit : AllFit own_a (Of t.world.b) (journal_of t.world.a) done = fit_first own_a (Of t.world.b) done more (journal_of t.world.a) (subst (AllFit own_a (Of t.world.b) (journal_of t.world.a)) split fits.fit) in
      let there : is_legal (does t.sid done t.world.a.node).view.config.read (does t.sid done t.world.a.node).view.journal ≡ true =
      subst (λ (node : Node). is_legal node.view.config.read node.view.journal ≡ true) (does_node x t.sid done t.world) grown.a.sound.legal in
      does_agreed x own_a own_b t.sid done t.world fits.agreed fit
      (subst (λ (c : Config). is_legal c.read (does t.sid done t.world.a.node).view.journal ≡ true) (same_config t.sid done t.world.a.node) there)

  within_agreed : (happening : Happening) (k : ℕ) → BothAgreed x own_a own_b (world_within x happening k w)
  within_agreed happening k =
      reaction_agreed (task w happening) (task_fits happening) (take k (task w happening).effects) (drop k (task w happening).effects)
      (sym (take-append-drop k (task w happening).effects)) (within_grown x w sound happening k)

  whole_agreed : (happening : Happening) → BothAgreed x own_a own_b (world_after x happening w)
  whole_agreed happening =
      reaction_agreed (task w happening) (task_fits happening) (task w happening).effects [] (sym (append-nil (task w happening).effects)) (whole_grown x w sound happening)

faulted_agreed : (x : At) (own_a own_b : Own) (w : World) → BothAgreed x own_a own_b w → BothSound w → (happening : Happening) (k : ℕ) (cut : Cut) → BothAgreed x own_a own_b (world_faulted x happening k cut w)
faulted_agreed x own_a own_b w h sound happening k cut =
    let first : World = world_within x happening k w in
    let short : World = with_shelf (cut_off cut (effects_left happening k w) first.a.node.shelf) first in
    let grown : BothGrown w first = within_grown x w sound happening k in
    let agreed : BothAgreed x own_a own_b first = within_agreed x own_a own_b w h sound happening k in
    let first_sound : BothSound first = record { a = grown.a.sound; b = grown.b.sound } in
    let short_sound : BothSound short = record { a = grown.a.sound; b = grown.b.sound } in
    let short_agreed : BothAgreed x own_a own_b short = with_a x own_a own_b first agreed first_sound short.a refl agreed.a.phases agreed.a.heard in
    let sid : ℕ = (task w happening).sid in
    let trouble : Task = record { sid = sid; effects = row_trouble short.a.node sid short.clock; world = short } in
    reaction_agreed x own_a own_b short short_agreed short_sound trouble
    (record { agreed = short_agreed; fit = trouble_ok own_a (Of short.b) short.a.node.view short.clock (short.a.node.sessions.phase sid) (short_agreed.a.phases sid) })
    trouble.effects [] (sym (append-nil trouble.effects)) (trouble_grown x short short_sound sid)

module _ (x : At) (own_a own_b : Own) (w : World) (h : BothAgreed x own_a own_b w) where
  down_agreed : (image : shelves.FileMap) → BothAgreed x own_a own_b (down image w)
  down_agreed image = record {
    a = record { home = h.a.home; phases = λ n. tt; heard = λ n. tt; ended = h.a.ended; plain = h.a.plain; started = h.a.started; landed = h.a.landed; stated = h.a.stated };
    b = record { home = h.b.home; phases = h.b.phases; heard = h.b.heard; ended = h.b.ended; plain = h.b.plain; started = h.b.started; landed = h.b.landed; stated = h.b.stated };
  }

  -- the first node changed, but for its view and its phases, and no more frames are on the way to it
  changed_agreed : (a2 : Half) (clock : ℕ) → a2.node.view ≡ w.a.node.view → a2.node.sessions ≡ w.a.node.sessions → ((n : ℕ) → AllOf w.b (a2.way n))
      → BothAgreed x own_a own_b (record w { a = a2; clock = clock })
  changed_agreed a2 clock same sessions heard = record {
    a = record {
      home = subst (λ (d : NodeView). own_home d.journal ≡ own_a.home) (sym same) h.a.home;
      phases = subst (λ (s : Sessions). (n : ℕ) → PhaseOk own_a (Of w.b) (s.phase n)) (sym sessions) h.a.phases;
      heard = heard;
      stated = subst (λ (d : NodeView). AllStated x own_a d (Of w.b) w.notes) (sym same) h.a.stated;
      ended = subst (λ (d : NodeView). EachEnded (EndedKept d.config.read (journal_of w.b)) d.journal) (sym same) h.a.ended;
      plain = subst (λ (d : NodeView). (key : Key) → made_for d.journal key ≡ None) (sym same) h.a.plain;
      started = subst (λ (d : NodeView). (key : Key) → NotStarted (status.status d.journal key)) (sym same) h.a.started;
      landed = subst (λ (d : NodeView). (key : Key) → LandOk (status.status d.journal key) (landings x key w.notes)) (sym same) h.a.landed;
    };
    b = beside (across x) own_b w.b w.a a2 w.notes (subst (λ (d : NodeView). (m : Message) → Of w.a m → Tells d.config.read d.journal m) (sym same) (λ m is. is)) h.b;
  }

  started_agreed : (b : Bool) → BothAgreed x own_a own_b (cond b w (record w { a = record w.a { node = record w.a.node { sessions = no_sessions }; up = true; received = marked w.a.node.view.journal w.a.received } }))
  started_agreed true = h
  started_agreed false = record {
    a = record { home = h.a.home; phases = λ n. tt; heard = h.a.heard; ended = h.a.ended; plain = h.a.plain; started = h.a.started; landed = h.a.landed; stated = h.a.stated };
    b = record { home = h.b.home; phases = h.b.phases; heard = h.b.heard; ended = h.b.ended; plain = h.b.plain; started = h.b.started; landed = h.b.landed; stated = h.b.stated };
  }

  lost_agreed : (sid k : ℕ) → BothAgreed x own_a own_b (world_lost sid k w)
  lost_agreed sid k =
      changed_agreed (world_lost sid k w).a w.clock refl refl
      (either_at (AllOf w.b) sid (take k (w.a.way sid)) w.a.way (all_tell_take w.b.node.view.config.read (journal_of w.b) k (w.a.way sid) (h.a.heard sid)) h.a.heard)

  written_agreed : (name bytes : List ℕ) → BothAgreed x own_a own_b (world_written x name bytes w)
  written_agreed name bytes =
      let done : BothAgreed x own_a own_b (record w { a = (world_written x name bytes w).a }) = changed_agreed (world_written x name bytes w).a w.clock refl refl h.a.heard in
      let notes : List Note = Wrote x name bytes ∷ w.notes in
      record { a = noted x own_a (world_written x name bytes w).a w.b w.notes notes (λ key. refl) (λ P all. all) done.a; b = noted (across x) own_b w.b (world_written x name bytes w).a w.notes notes (λ key. refl) (λ P all. all) done.b }

  later_agreed : (seconds : ℕ) → BothAgreed x own_a own_b (later seconds w)
  later_agreed seconds = changed_agreed w.a (w.clock + seconds) refl refl h.a.heard

  submitted_agreed : (sound : BothSound w) (card : Filed) (text : List ℕ) → BothAgreed x own_a own_b (world_submitted card text w)
  submitted_agreed sound card text =
      let e : Entry = submission_of card text w in
      let new : World = record w { a = record w.a { node = record w.a.node { view = recorded e w.a.node.view } } } in
      let read : Reading = w.a.node.view.config.read in
      let test : Bool = w.a.up && allowed read (journal_of w.a) e in
      elim (cases_Bool test) [
        | inl fits ↦
            let may : allowed read (journal_of w.a) e ≡ true = (and_parts w.a.up (allowed read (journal_of w.a) e) fits).1 in
            let legal2 : is_legal read (e ∷ journal_of w.a) ≡ true = legal_more w sound read e (journal_of w.a) sound.a.legal may in
            let kept2 : BothAgreed x own_a own_b (world_did x 0 (Keep e) w) = keep_agreed x own_a own_b 0 w e h tt legal2 in
            subst (λ (b : Bool). BothAgreed x own_a own_b (cond b new w)) (sym fits) kept2
        | inr none ↦ subst (λ (b : Bool). BothAgreed x own_a own_b (cond b new w)) (sym none) h
      ]

stopped_agreed : (x : At) (own_a own_b : Own) (w : World) → BothAgreed x own_a own_b w → BothSound w → (happening : Happening) (k : ℕ) (image : shelves.FileMap) (b : Bool)
    → BothAgreed x own_a own_b (cond b (down image (world_within x happening k w)) w)
stopped_agreed x own_a own_b w h sound happening k image true = down_agreed x own_a own_b (world_within x happening k w) (within_agreed x own_a own_b w h sound happening k) image
stopped_agreed x own_a own_b w h sound happening k image false = h

-- an event at either node
there : (x : At) (own_a own_b : Own) (w : World) (f : World → World) → ((own own2 : Own) → BothAgreed x own own2 (seen_from x w) → BothSound (seen_from x w) → BothAgreed x own own2 (f (seen_from x w)))
    → BothAgreed A own_a own_b w → BothSound w → BothAgreed A own_a own_b (seen_from x (f (seen_from x w)))
there A own_a own_b w f step h sound = step own_a own_b h sound
there B own_a own_b w f step h sound = let done = step own_b own_a (record { a = h.b; b = h.a }) (record { a = sound.b; b = sound.a }) in record { a = done.b; b = done.a }

pub happens_agreed : (own_a own_b : Own) (w : World) (event : Event) → BothAgreed A own_a own_b w → BothSound w → BothAgreed A own_a own_b (happens w event)
happens_agreed own_a own_b w (Does x happening) h sound =
    there x own_a own_b w (world_after x happening) (λ own own2 h2 sound2. whole_agreed x own own2 (seen_from x w) h2 sound2 happening) h sound
happens_agreed own_a own_b w (Fails x happening k cut) h sound =
    there x own_a own_b w (world_faulted x happening k cut) (λ own own2 h2 sound2. faulted_agreed x own own2 (seen_from x w) h2 sound2 happening k cut) h sound
happens_agreed own_a own_b w (Stops x happening k image) h sound =
    there x own_a own_b w (world_stopped x happening k image) (λ own own2 h2 sound2. stopped_agreed x own own2 (seen_from x w) h2 sound2 happening k image (seen_from x w).a.up) h sound
happens_agreed own_a own_b w (Starts x) h sound =
    there x own_a own_b w world_started (λ own own2 h2 sound2. started_agreed x own own2 (seen_from x w) h2 (seen_from x w).a.up) h sound
happens_agreed own_a own_b w (Loses x sid k) h sound =
    there x own_a own_b w (world_lost sid k) (λ own own2 h2 sound2. lost_agreed x own own2 (seen_from x w) h2 sid k) h sound
happens_agreed own_a own_b w (Writes x name bytes) h sound =
    there x own_a own_b w (world_written x name bytes) (λ own own2 h2 sound2. written_agreed x own own2 (seen_from x w) h2 name bytes) h sound
happens_agreed own_a own_b w (Later seconds) h sound = later_agreed A own_a own_b w h seconds
happens_agreed own_a own_b w (Submits x card text) h sound =
    there x own_a own_b w (world_submitted card text) (λ own own2 h2 sound2. submitted_agreed x own own2 (seen_from x w) h2 sound2 card text) h sound

pub after_agreed : (own_a own_b : Own) (w : World) (events : List Event) → BothAgreed A own_a own_b w → BothSound w → BothAgreed A own_a own_b (after w events)
after_agreed own_a own_b w [] h sound = h
after_agreed own_a own_b w (event ∷ events) h sound =
    let grown : BothGrown w (happens w event) = happens_grown w event sound in
    after_agreed own_a own_b (happens w event) events (happens_agreed own_a own_b w event h sound) (record { a = grown.a.sound; b = grown.b.sound })

-- The first world.

home_first : (name : List ℕ) (home : ℕ) → own_home (entry.Home name home ∷ []) ≡ Some (name, home)
unfolding own_home
home_first name home = refl

made_first : (name : List ℕ) (home : ℕ) (key : Key) → made_for (entry.Home name home ∷ []) key ≡ None
unfolding made_for
made_first name home key = refl

pub fresh_first : (name : List ℕ) (home : ℕ) (key : Key) → status.status (entry.Home name home ∷ []) key ≡ status.Fresh
unfolding status.status
fresh_first name home key = refl

-- a node that has recorded its home alone
abbrev pub new_own : List ℕ → ℕ → Half → Own
new_own name home half = record { home = Some (name, home); read = half.node.view.config.read }

new_agreed : (x : At) (name : List ℕ) (home : ℕ) (half other : Half) (notes : List Note) → notes ≡ [] → IsNew name home half → Agreed x (new_own name home half) half other notes
new_agreed x name home half other notes none new =
    let fresh : (key : Key) → status.status (journal_of half) key ≡ status.Fresh = λ key. ap (λ (journal : List Entry). status.status journal key) new.journal ∙ fresh_first name home key in
    record {
      home = ap own_home new.journal ∙ home_first name home;
      phases = subst (λ (s : Sessions). (n : ℕ) → PhaseOk (new_own name home half) (Of other) (s.phase n)) (sym new.sessions) (λ n. tt);
      heard = subst (λ (way : ℕ → List Message). (n : ℕ) → AllOf other (way n)) (sym new.way) (λ n. tt);
      stated = record {
        reads = refl;
        each = subst (EachReceiving (StatedBy (new_own name home half) (journal_of half) (Of other))) (sym new.journal) tt;
        noted = subst (EachLanded x (StatedBy (new_own name home half) (journal_of half) (Of other))) (sym none) tt;
      };
      ended = subst (λ (journal : List Entry). EachEnded (EndedKept half.node.view.config.read (journal_of other)) journal) (sym new.journal) tt;
      plain = λ key. ap (λ (journal : List Entry). made_for journal key) new.journal ∙ made_first name home key;
      started = λ key. subst NotStarted (sym (fresh key)) tt;
      landed = λ key. subst (λ (s : Status). LandOk s (landings x key notes)) (sym (fresh key)) (ap (landings x key) none);
    }

pub first_agreed : (w : World) (first : IsFirst w) → BothAgreed A (new_own first.name_a first.home_a w.a) (new_own first.name_b first.home_b w.b) w
first_agreed w first = record {
  a = new_agreed A first.name_a first.home_a w.a w.b w.notes first.notes first.a;
  b = new_agreed B first.name_b first.home_b w.b w.a w.notes first.notes first.b;
}

-- The promises.

named : Option (List ℕ × ℕ) → List ℕ × ℕ
named None = ([], 0)
named (Some known) = known

same_step : (journal : List Entry) (n place : ℕ) (a b : Key) → own_home journal ≡ Some (a.pnode, a.home) → a.number ≡ n → a.place ≡ place → IsOwnStep journal n place b → a ≡ b
unfolding named
same_step journal n place a b home number step is =
    let known : Some (a.pnode, a.home) ≡ Some (b.pnode, b.home) = sym home ∙ is.home in
    let pnode : a.pnode ≡ b.pnode = ap (λ (o : Option (List ℕ × ℕ)). (named o).0) known in
    let identity : a.home ≡ b.home = ap (λ (o : Option (List ℕ × ℕ)). (named o).1) known in
    let numbers : a.number ≡ b.number = number ∙ sym is.number in
    let places : a.place ≡ b.place = step ∙ sym is.step in
    λ i. record { pnode = pnode i; home = identity i; number = numbers i; place = places i }

results_of : (x : At) (own : Own) (a b : Half) (notes : List Note) → Agreed x own a b notes → EachEnded (EndsAsKept a.node.view.config.read (journal_of b)) (journal_of a)
results_of x own a b notes h =
    each_more (EndedKept a.node.view.config.read (journal_of b)) (EndsAsKept a.node.view.config.read (journal_of b))
    (λ journal n place rc why bytes k key is apart.
    subst (λ (step : Key). IsOutcome (journal_of b) step rc why bytes) (same_step journal n place k.key key k.home k.number k.step is) (k.there apart))
    (journal_of a) h.ended

some_done : (s : Status) (o : Outcomes) → status.done_with s ≡ Some o → s ≡ status.Done o
some_done status.Fresh o is = absurd cc
some_done (status.Started tries kind) o is = absurd cc
some_done (status.Open r safe) o is = absurd cc
some_done (status.Done before) o is = cc

landed_once : (journal : List Entry) (key : Key) (o : Outcomes) (landed : List (List ℕ)) → outcome journal key ≡ Some o → o.rc ≡ 0 → LandOk (status.status journal key) landed → IsOne landed
landed_once journal key o landed is code ok =
    subst (λ (s : Status). LandOk s landed) (some_done (status.status journal key) o (sym (outcome-status journal key) ∙ is)) ok code

module _ (x : At) (read : Reading) (whole other : List Entry) (notes : List Note) (here : (key : Key) → LandOk (status.status whole key) (landings x key notes))
    (across_it : (key : Key) → LandOk (status.status other key) (landings (across x) key notes)) where
  one_lands : (journal : List Entry) (n place rc : ℕ) (why : Cause) (bytes : ℕ) → ((key : Key) (o : Outcomes) → outcome journal key ≡ Some o → outcome whole key ≡ Some o)
      → EndedKept read other journal n place rc why bytes → LandsOnce x read notes journal n place rc why bytes
  one_lands journal n place rc why bytes reach k key step is copy code =
      let same : k.key ≡ key = same_step journal n place k.key key k.home k.number k.step is in
      elim (cases_Bool step.push) [
        | inl push ↦
            let kept = k.there (ap (is_such pnode_keeps) copy ∙ ap not push) in
            let found : outcome other key ≡ Some kept.o = subst (λ (s : Key). outcome other s ≡ Some kept.o) same kept.is in
            subst (λ (b : Bool). IsOne (landings (cond b (across x) x) key notes)) (sym push)
            (landed_once other key kept.o (landings (across x) key notes) found (kept.code ∙ code) (across_it key))
        | inr pull ↦
            let kept = k.here (ap (is_such pnode_keeps) copy ∙ ap not pull) in
            let found : outcome whole key ≡ Some kept.o = reach key kept.o (subst (λ (s : Key). outcome journal s ≡ Some kept.o) same kept.is) in
            subst (λ (b : Bool). IsOne (landings (cond b (across x) x) key notes)) (sym pull)
            (landed_once whole key kept.o (landings x key notes) found (kept.code ∙ code) (here key))
      ]

  all_land : (journal : List Entry) → is_legal read journal ≡ true → ((key : Key) (o : Outcomes) → outcome journal key ≡ Some o → outcome whole key ≡ Some o)
      → EachEnded (EndedKept read other) journal → EachEnded (LandsOnce x read notes) journal
  all_land [] legal reach all = tt
  all_land (entry.Ended n place rc why bytes moment ∷ journal) legal reach all =
      let e : Entry = entry.Ended n place rc why bytes moment in
      let reach2 : (key : Key) (o : Outcomes) → outcome journal key ≡ Some o → outcome whole key ≡ Some o = λ key o is. reach key o (outcome_stays read (e ∷ []) journal key o legal is) in
      (one_lands journal n place rc why bytes reach2 all.0, all_land journal (legal_parts read e journal legal).0 reach2 all.1)
  all_land (entry.Home name home ∷ journal) legal reach all =
      all_land journal (legal_parts read _ journal legal).0 (λ key o is. reach key o (outcome_stays read (entry.Home name home ∷ []) journal key o legal is)) all
  all_land (e ∷ journal) legal reach all = all_land journal (legal_parts read e journal legal).0 (λ key o is. reach key o (outcome_stays read (e ∷ []) journal key o legal is)) all

pub events_results : (w : World) (events : List Event) → IsFirst w → ArePossible w events → HaveResults (after w events)
events_results w events first possible =
    let h : BothAgreed A (new_own first.name_a first.home_a w.a) (new_own first.name_b first.home_b w.b) (after w events) = after_agreed _ _ w events (first_agreed w first) (first_sound w first) in
    record { a = results_of A _ (after w events).a (after w events).b (after w events).notes h.a; b = results_of B _ (after w events).b (after w events).a (after w events).notes h.b }

pub events_land : (w : World) (events : List Event) → IsFirst w → ArePossible w events → HaveLanded (after w events)
events_land w events first possible =
    let h : BothAgreed A (new_own first.name_a first.home_a w.a) (new_own first.name_b first.home_b w.b) (after w events) = after_agreed _ _ w events (first_agreed w first) (first_sound w first) in
    let grown : BothGrown w (after w events) = after_grown w events (first_sound w first) in
    let v : World = after w events in
    record {
      a = all_land A v.a.node.view.config.read (journal_of v.a) (journal_of v.b) v.notes h.a.landed h.b.landed (journal_of v.a) grown.a.sound.legal (λ key o is. is) h.a.ended;
      b = all_land B v.b.node.view.config.read (journal_of v.b) (journal_of v.a) v.notes h.b.landed h.a.landed (journal_of v.b) grown.b.sound.legal (λ key o is. is) h.b.ended;
    }
