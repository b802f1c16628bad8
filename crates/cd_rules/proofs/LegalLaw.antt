-- The laws of legal journals.
use Rattle.std.proofs.Common.{◌≡◌, ℕ, ◌+◌, true, ◌&&◌, eqb, leb, List, [], ◌∷◌, ◌++◌, Some, inl, inr, refl, sym, ◌∙◌, ap, subst}
use Rattle.std.specs.Prelude.{not, ◌||◌}
use Rattle.std.proofs.lemmas.Bool.{cases_Bool, and_parts, or_cases, eqb-true, leb-true, false≢true}
use Rattle.cd_types.specs.Choices.{cause_code}
use Rattle.cd_types.specs.declared.key.Key.{Key}
use Rattle.cd_types.specs.declared.rows.Outcomes.{Outcomes}
use Rattle.cd_types.specs.declared.rows.Receiving.{Receiving}
use Rattle.cd_entries.specs.declared.entry.Entry.{Entry}
use Rattle.cd_entries.specs.declared.entry.Entry.TheVariants as entry
use Rattle.cd_rules.specs.Keys.{same_key, is_of}
use Rattle.cd_rules.proofs.KeysLaw.{same_key-true}
use Rattle.cd_rules.specs.Processes.{moment_of, latest}
use Rattle.cd_rules.specs.Status.{Status, Fresh, Started, Open, Done, once_more, opened, marked, after, status, outcome, done_with}
use Rattle.cd_rules.proofs.StatusLaw.{outcome-status, status-other, status-own}
use Rattle.cd_rules.specs.Steps.{Reading, fits_own, pnode_keeps}
use Rattle.cd_rules.specs.Promises.{Landed, IsMark}
use Rattle.cd_rules.specs.Legal.{is_first, is_empty, is_from, may_follow, may_end_from, may_land, may_drop_from, may_mark_from, last_mark, allowed, is_legal}

-- a legal journal is one behind its newest entry too, which may follow it
pub legal_parts : (read : Reading) (e : Entry) (journal : List Entry) → is_legal read (e ∷ journal) ≡ true → (is_legal read journal ≡ true) × (allowed read journal e ≡ true)
unfolding is_legal
legal_parts read e journal legal = and_parts (is_legal read journal) (allowed read journal e) legal

pub allowed_follows : (read : Reading) (e : Entry) (journal : List Entry) → allowed read journal e ≡ true → may_follow read journal e ≡ true
unfolding allowed
allowed_follows read e journal fits = (and_parts ((is_first e || not (is_empty journal)) && is_from (latest journal) (moment_of e)) (may_follow read journal e) fits).1

pub follows : (read : Reading) (e : Entry) (journal : List Entry) → is_legal read (e ∷ journal) ≡ true → may_follow read journal e ≡ true
follows read e journal legal = allowed_follows read e journal (legal_parts read e journal legal).1

module _ (read : Reading) (journal : List Entry) (key : Key) where
  -- no step that is done gets an outcome again
  no_result : (step : Key) (o before : Outcomes) → same_key key step ≡ true → status journal key ≡ Done before
      → (may_end_from journal step (status journal step) o && fits_own read journal step pnode_keeps) ≡ true → ⊥
  no_result step o before same is fits =
      let done : status journal step ≡ Done before = ap (status journal) (sym (same_key-true key step same)) ∙ is in
      let parts = and_parts (may_end_from journal step (status journal step) o) (fits_own read journal step pnode_keeps) fits in
      let never : may_end_from journal step (Done before) o ≡ true = subst (λ (s : Status). may_end_from journal step s o ≡ true) done parts.0 in
      false≢true never

  done_after : (e : Entry) (before : Outcomes) → is_of key e ≡ true → may_follow read journal e ≡ true → status journal key ≡ Done before
      → after e (status journal key) ≡ Done before
  done_after (entry.Started step kind attempt moment) before own fits is = ap (once_more kind) is
  done_after (entry.Receiving r) before own fits is = ap (opened r) is
  done_after (entry.Mark step offset) before own fits is = ap (marked offset) is
  done_after (entry.Result step o moment) before own fits is = absurd (no_result step o before own is fits)
  done_after (entry.Dropped step rc why moment) before own fits is =
      let done : status journal step ≡ Done before = ap (status journal) (sym (same_key-true key step own)) ∙ is in
      let never : may_drop_from (Done before) rc why ≡ true = subst (λ (s : Status). may_drop_from s rc why ≡ true) done fits in
      absurd (false≢true never)
  done_after (entry.Home name home) before own fits is = absurd (false≢true own)
  done_after (entry.Submitted number moment origin card text) before own fits is = absurd (false≢true own)
  done_after (entry.Placed number placing moment) before own fits is = absurd (false≢true own)
  done_after (entry.Ended number place rc cause bytes moment) before own fits is = absurd (false≢true own)
  done_after (entry.Closed number ending moment) before own fits is = absurd (false≢true own)
  done_after (entry.Forgot name home number) before own fits is = absurd (false≢true own)

  done_stays_once : (e : Entry) (before : Outcomes) → is_legal read (e ∷ journal) ≡ true → status journal key ≡ Done before → status (e ∷ journal) key ≡ Done before
  done_stays_once e before legal is =
      elim (cases_Bool (is_of key e)) [
        | inl own ↦ status-own e journal key own ∙ done_after e before own (follows read e journal legal) is
        | inr other ↦ status-other e journal key other ∙ is
      ]

-- the older part of a legal journal is legal
pub legal_before : (read : Reading) (more journal : List Entry) → is_legal read (more ++ journal) ≡ true → is_legal read journal ≡ true
legal_before read [] journal legal = legal
legal_before read (e ∷ more) journal legal = legal_before read more journal (legal_parts read e (more ++ journal) legal).0

-- what is done stays as it was done, whatever follows
pub done_stays : (read : Reading) (more journal : List Entry) (key : Key) (o : Outcomes) → is_legal read (more ++ journal) ≡ true
    → status journal key ≡ Done o → status (more ++ journal) key ≡ Done o
done_stays read [] journal key o legal is = is
done_stays read (e ∷ more) journal key o legal is =
    done_stays_once read (more ++ journal) key e o legal (done_stays read more journal key o (legal_parts read e (more ++ journal) legal).0 is)

some_done : (s : Status) (o : Outcomes) → done_with s ≡ Some o → s ≡ Done o
some_done Fresh o is = absurd cc
some_done (Started tries kind) o is = absurd cc
some_done (Open r safe) o is = absurd cc
some_done (Done before) o is = cc

pub outcome_stays : (read : Reading) (more journal : List Entry) (key : Key) (o : Outcomes) → is_legal read (more ++ journal) ≡ true
    → outcome journal key ≡ Some o → outcome (more ++ journal) key ≡ Some o
outcome_stays read more journal key o legal is =
    let done : status journal key ≡ Done o = some_done (status journal key) o (sym (outcome-status journal key) ∙ is) in
    outcome-status (more ++ journal) key ∙ ap done_with (done_stays read more journal key o legal done)

land_parts : (r : Receiving) (safe : ℕ) (o : Outcomes) → may_land r safe o ≡ true → Landed r safe o
land_parts r safe o fits =
    let last = and_parts (eqb o.rc 0 && eqb (cause_code o.cause) 0 && eqb o.made 0 && eqb o.bytes r.length) (eqb r.interval 0 || eqb safe (last_mark r.interval r.length)) fits in
    let bytes = and_parts (eqb o.rc 0 && eqb (cause_code o.cause) 0 && eqb o.made 0) (eqb o.bytes r.length) last.0 in
    let made = and_parts (eqb o.rc 0 && eqb (cause_code o.cause) 0) (eqb o.made 0) bytes.0 in
    let code = and_parts (eqb o.rc 0) (eqb (cause_code o.cause) 0) made.0 in
    record {
      code = eqb-true o.rc 0 code.0;
      whole = eqb-true o.bytes r.length bytes.1;
      mark = elim (or_cases (eqb r.interval 0) (eqb safe (last_mark r.interval r.length)) last.1) [
        | inl none ↦ inl (eqb-true r.interval 0 none)
        | inr some ↦ inr (eqb-true safe (last_mark r.interval r.length) some)
      ];
    }

pub lands_whole : (read : Reading) (journal : List Entry) (key : Key) (o : Outcomes) (moment safe : ℕ) (r : Receiving)
    → is_legal read (entry.Result key o moment ∷ journal) ≡ true → status journal key ≡ Open r safe → Landed r safe o
lands_whole read journal key o moment safe r legal is =
    let parts = and_parts (may_end_from journal key (status journal key) o) (fits_own read journal key pnode_keeps) (follows read (entry.Result key o moment) journal legal) in
    land_parts r safe o (subst (λ (s : Status). may_end_from journal key s o ≡ true) is parts.0)

-- a mark is of a receiving
module _ (journal : List Entry) (key : Key) (offset : ℕ) where
  mark_parts : (s : Status) → status journal key ≡ s → may_mark_from s offset ≡ true → IsMark journal key offset
  mark_parts Fresh is fits = absurd (false≢true fits)
  mark_parts (Started tries kind) is fits = absurd (false≢true fits)
  mark_parts (Done o) is fits = absurd (false≢true fits)
  mark_parts (Open r safe) is fits = record {
    receiving = r;
    safe = safe;
    open_is = is;
    step = elim (or_cases (eqb offset 0) (not (eqb r.interval 0) && eqb offset (safe + r.interval) && leb offset r.length) fits) [
      | inl back ↦ inl (eqb-true offset 0 back)
      | inr on ↦
          let within = and_parts (not (eqb r.interval 0) && eqb offset (safe + r.interval)) (leb offset r.length) on in
          let further = and_parts (not (eqb r.interval 0)) (eqb offset (safe + r.interval)) within.0 in
          inr (eqb-true offset (safe + r.interval) further.1, leb-true offset r.length within.1)
    ];
  }

pub marks_grow : (read : Reading) (journal : List Entry) (key : Key) (offset : ℕ) → is_legal read (entry.Mark key offset ∷ journal) ≡ true → IsMark journal key offset
marks_grow read journal key offset legal = mark_parts journal key offset (status journal key) refl (follows read (entry.Mark key offset) journal legal)
