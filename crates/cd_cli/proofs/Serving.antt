-- How a run reads its input to the end.
use Rattle.std.proofs.Common.{◌≡◌, ◌⊎◌, inl, inr, ℕ, ◌+◌, ◌<◌, ◌≤◌, ◌||◌, cond, Bool, true, false, List, [], ◌∷◌, ◌++◌, length, map, Option, Some, None, option_to_list, refl, sym, ap, subst, ◌∙◌, append_assoc, length-append, arith}
use Rattle.std.specs.Prelude.{All}
use Rattle.std.specs.List.{list_any}
use Rattle.std.proofs.lemmas.List.{append-nil}
use Rattle.std.proofs.lemmas.List.Elements.{All-append, All-nil}
use Rattle.std.proofs.lemmas.List.Folds.{list_any-append}
use Rattle.cd_outside.specs.Disk.{DiskState}
use Rattle.cd_entries.specs.declared.entry.Entry.{Entry}
use Rattle.cd_input.specs.Input.{Scan, Event, TooLong, Unfinished, scan_after, begin, events, scanned, is_rest, is_full, end_events, limit_events, all_events, upto_first}
use Rattle.cd_input.proofs.Events.{events_next, scanned_next, PassNone, none_then, upto_then, upto_none, upto_one, all_begin, all_ended, all_cut}
use Rattle.cd_turn.specs.Ends.{TookAtEnd}
use Rattle.cd_turn.specs.Home.{HasKept}
use Rattle.cd_turn.specs.Turn.{Turn, after_turns, replies}
use Rattle.cd_turn.specs.declared.status.Status.{Status}
use Rattle.cd_turn.specs.declared.status.Status.TheVariants.{Done, Usage, Refused, Unfit, SourceFault, DiskFault, SinkFault, InputLimit, JournalFull, NoMemory}
use Rattle.cd_cli.specs.declared.flow.Last.{Last}
use Rattle.cd_cli.specs.declared.flow.Last.TheVariants as last
use Rattle.cd_cli.specs.Flow.{was_refused, status_after}
use Rattle.cd_cli.specs.Run.{most_input, ends_run, run_events, texts, refused_after, line_of, HasCause, DidOf, Keeps, IfBetween, Ran}
use Rattle.cd_cli.specs.Stretch.{Standing, standing, HaveTurned, Halted, Closes, Finishes}
use Rattle.cd_cli.proofs.Halting.{between_cut, between_any, keeps_kept}
use Rattle.cd_cli.proofs.Turning.{turns_then, turned_then, turned_none}

abbrev event_in : Turn → Event
event_in turn = turn.event

-- What was read so far: these bytes, and what came to its end in them was done.
pub record Reading (disk source sink : Type 0) (by : Turn → Type 0) (first : Standing) (input ahead : List ℕ) (count : ℕ) (scan : Scan) (at : Standing) : Type 0 where
  pub read : List ℕ
  pub given : source → input ≡ read ++ ahead
  pub length_is : length read ≡ count
  pub scan_is : scan ≡ scanned begin read
  pub turned : HaveTurned disk sink by first (events begin read) at
  pub quiet : PassNone ends_run (events begin read)

did_cut : (input rest : List ℕ) (done begun : List Event) (status : Status) → IfBetween status ⊥ → (more : List Event) × (run_events input ≡ done ++ (begun ++ more)) → DidOf input rest done begun status
did_cut input rest done begun Done h did = absurd h
did_cut input rest done begun Usage h did = did
did_cut input rest done begun Refused h did = absurd h
did_cut input rest done begun (Unfit at) h did = did
did_cut input rest done begun DiskFault h did = did
did_cut input rest done begun (JournalFull len) h did = did
did_cut input rest done begun SourceFault h did = absurd h
did_cut input rest done begun SinkFault h did = did
did_cut input rest done begun InputLimit h did = absurd h
did_cut input rest done begun NoMemory h did = did

upto_more : (t : Bool) (e : Event) (es tail : List Event) → (list_any ends_run es ≡ true → upto_first ends_run (es ++ tail) ≡ upto_first ends_run es) → (t || list_any ends_run es) ≡ true
    → cond t (e ∷ []) (e ∷ upto_first ends_run (es ++ tail)) ≡ cond t (e ∷ []) (e ∷ upto_first ends_run es)
upto_more true e es tail more h = refl
upto_more false e es tail more h = ap (λ (l : List Event). e ∷ l) (more h)

-- what comes behind the first event that ends the run isn't done
pub upto_any : (es tail : List Event) → list_any ends_run es ≡ true → upto_first ends_run (es ++ tail) ≡ upto_first ends_run es
upto_any [] tail h = absurd cc
upto_any (e ∷ es) tail h = upto_more (ends_run e) e es tail (λ k. upto_any es tail k) h

upto_begun : (begun : Option Turn) (tail : List Event) → (rest : List Event) × (upto_first ends_run (map (λ turn. turn.event) (option_to_list begun) ++ tail) ≡ map (λ turn. turn.event) (option_to_list begun) ++ rest)
upto_begun None tail = (upto_first ends_run tail, refl)
upto_begun (Some turn) tail = upto_one ends_run turn.event tail

pub upto_cond : (b : Bool) (e : Event) → upto_first ends_run (cond b (e ∷ []) []) ≡ cond b (e ∷ []) []
upto_cond true e = one (ends_run e)
  where
    one : (t : Bool) → cond t (e ∷ []) (e ∷ []) ≡ e ∷ []
    one true = refl
    one false = refl
upto_cond false e = refl

pub limit_ends : (b : Bool) (brought : List Event) → brought ≡ cond b (TooLong ∷ []) [] → (brought ≡ [] → ⊥) → list_any ends_run brought ≡ true
limit_ends true brought is some = ap (list_any ends_run) is
limit_ends false brought is some = absurd (some is)

-- the run was ended within a stretch that brought these
pub run_halts : (all xs ys tail done more : List Event) (begun : Option Turn) → all ≡ xs ++ (ys ++ tail) → PassNone ends_run xs → ys ≡ done ++ (map (λ turn. turn.event) (option_to_list begun) ++ more) → PassNone ends_run done
    → (rest : List Event) × (upto_first ends_run all ≡ (xs ++ done) ++ (map (λ turn. turn.event) (option_to_list begun) ++ rest))
run_halts all xs ys tail done more begun is none split none_done =
    let b : List Event = map event_in (option_to_list begun) in
    let parts : ys ++ tail ≡ done ++ (b ++ (more ++ tail)) =
    ap (λ (l : List Event). l ++ tail) split ∙ append_assoc done (b ++ more) tail ∙ ap (λ (l : List Event). done ++ l) (append_assoc b more tail) in
    let last = upto_begun begun (more ++ tail) in (
      last.0,
      ap (upto_first ends_run) is
          ∙ upto_then ends_run xs (ys ++ tail) none
          ∙ ap (λ (l : List Event). xs ++ upto_first ends_run l) parts
          ∙ ap (λ (l : List Event). xs ++ l) (upto_then ends_run done (b ++ (more ++ tail)) none_done)
          ∙ ap (λ (l : List Event). xs ++ (done ++ l)) last.1
          ∙ sym (append_assoc xs done (b ++ last.0)),
    )

module _ (fresh disk source sink : Type 0) (by : Turn → Type 0) (entries : List Entry) (out input : List ℕ) where
  -- a run that was ended between two turns
  pub ran_turned : (rest : List ℕ) (done : List Event) (after : Standing) (now : DiskState) (out_now : List ℕ) (status : Status) → HaveTurned disk sink by (standing entries out false) done after
      → (source → DidOf input rest done [] status) → HasCause disk after.entries None after.refused status → (sink → TookAtEnd status [] after.out out_now)
      → (status ≡ SinkFault → ⊥) → (disk → HasKept after.entries now)
      → Ran fresh disk source sink by entries out input rest now out_now status
  ran_turned rest done after now out_now status t did cause took never kept = record {
    turns = t.turns;
    begun = None;
    told = All-append by t.turns [] t.told_are (All-nil by);
    events = λ told. subst (λ (es : List Event). DidOf input rest es [] status) (sym t.events_are) (did told);
    fits = t.fits;
    cause = subst (λ (es : List Entry). HasCause disk es None (refused_after false (replies entries t.turns)) status) t.entries_are (subst (λ (r : Bool). HasCause disk after.entries None r status) t.refused_is cause);
    output = λ told. subst (λ (o : List ℕ). TookAtEnd status [] o out_now) (t.out_is told) (took told);
    stands = λ told. between_any (HasKept (after_turns entries t.turns) now) status (subst (λ (es : List Entry). HasKept es now) t.entries_are (kept told));
    written = λ told is. absurd (never is);
    keeps = λ told image left. keeps_kept fresh (after_turns entries t.turns) None now (subst (λ (es : List Entry). HasKept es now) t.entries_are (kept told)) image left;
  }

  -- a run that was ended within a stretch
  pub ran_halted : (rest : List ℕ) (xs ys : List Event) (at : Standing) (now : DiskState) (out_now : List ℕ) (status : Status) → HaveTurned disk sink by (standing entries out false) xs at
      → (h : Halted fresh disk sink by at ys now out_now status)
      → (source → (more : List Event) × (run_events input ≡ (xs ++ h.done) ++ (map (λ turn. turn.event) (option_to_list h.begun) ++ more)))
      → Ran fresh disk source sink by entries out input rest now out_now status
  ran_halted rest xs ys at now out_now status one h did =
      let t = turned_then disk sink by (standing entries out false) at h.middle xs h.done one h.turned in
      let b : List Event = map event_in (option_to_list h.begun) in
      record {
        turns = t.turns;
        begun = h.begun;
        told = All-append by t.turns (option_to_list h.begun) t.told_are h.told_is;
        events = λ told. subst (λ (es : List Event). DidOf input rest es b status) (sym t.events_are) (did_cut input rest (xs ++ h.done) b status h.within (did told));
        fits = t.fits;
        cause = subst (λ (es : List Entry). HasCause disk es h.begun (refused_after false (replies entries t.turns)) status) t.entries_are (subst (λ (r : Bool). HasCause disk h.middle.entries h.begun r status) t.refused_is h.cause);
        output = λ told.
            subst (λ (es : List Entry). TookAtEnd status (line_of es h.begun) (out ++ texts (replies entries t.turns)) out_now) t.entries_are
            (subst (λ (o : List ℕ). TookAtEnd status (line_of h.middle.entries h.begun) o out_now) (t.out_is told) (h.took told));
        stands = λ told. between_cut (HasKept (after_turns entries t.turns) now) status h.within;
        written = λ told is. subst (λ (es : List Entry). HasKept es now) (ap (λ (es : List Entry). after_turns es (option_to_list h.begun)) t.entries_are ∙ sym (turns_then entries t.turns (option_to_list h.begun))) (h.written told is);
        keeps = λ told image left. subst (λ (es : List Entry). Keeps fresh es h.begun image) t.entries_are (h.keeps told image left);
      }

  -- What was left to do at the input's end, or at its limit, was done.
  module _ (rest : List ℕ) (xs : List Event) (at : Standing) (now : DiskState) (out_now : List ℕ) (later : List Entry) (one : HaveTurned disk sink by (standing entries out false) xs at) where
    abbrev EndsWell : List Event → Type 0
    EndsWell done = (list_any ends_run done ≡ true) ⊎ (length input ≤ most_input)

    abbrev Came : Status → Type 0
    Came status = Ran fresh disk source sink by entries out input rest now out_now status

    halted_more : (brought : List Event) (status : Status) → Halted fresh disk sink by at brought now out_now status → (source → run_events input ≡ xs ++ brought) → Came status
    halted_more brought status h all = ran_halted rest xs brought at now out_now status one h
        (λ told. (h.more, all told ∙ ap (λ (l : List Event). xs ++ l) h.brought_is ∙ sym (append_assoc xs h.done (map event_in (option_to_list h.begun) ++ h.more))))

    turned_more : (brought : List Event) (was : Bool) (status : Status) → HaveTurned disk sink by at brought (standing later out_now was) → (source → DidOf input rest (xs ++ brought) [] status) → HasCause disk later None was status
        → TookAtEnd status [] out_now out_now → (status ≡ SinkFault → ⊥) → (disk → HasKept later now) → Came status
    turned_more brought was status more did cause took never kept =
        ran_turned rest (xs ++ brought) (standing later out_now was) now out_now status
        (turned_then disk sink by (standing entries out false) at (standing later out_now was) xs brought one more) did cause (λ told. took) never kept

    pub closes_ran : (brought : List Event) (status : Status) → Closes fresh disk sink by at brought later now out_now status → (source → run_events input ≡ xs ++ brought) → (source → EndsWell (xs ++ brought))
        → (disk → IfBetween status (HasKept later now)) → Came status
    closes_ran brought Done closes all ends kept = turned_more brought false Done closes (λ told. (sym (all told), ends told)) (refl, refl) refl (λ is. absurd cc) kept
    closes_ran brought Refused closes all ends kept = turned_more brought true Refused closes (λ told. (sym (all told), ends told)) (refl, refl) refl (λ is. absurd cc) kept
    closes_ran brought Usage closes all ends kept = halted_more brought Usage closes all
    closes_ran brought (Unfit place) closes all ends kept = halted_more brought (Unfit place) closes all
    closes_ran brought DiskFault closes all ends kept = halted_more brought DiskFault closes all
    closes_ran brought (JournalFull len) closes all ends kept = halted_more brought (JournalFull len) closes all
    closes_ran brought SourceFault closes all ends kept = halted_more brought SourceFault closes all
    closes_ran brought SinkFault closes all ends kept = halted_more brought SinkFault closes all
    closes_ran brought InputLimit closes all ends kept = halted_more brought InputLimit closes all
    closes_ran brought NoMemory closes all ends kept = halted_more brought NoMemory closes all

  -- nothing more was done
  module _ (rest : List ℕ) (xs : List Event) (at : Standing) (now : DiskState) (one : HaveTurned disk sink by (standing entries out false) xs at) (kept : disk → HasKept at.entries now) where
    pub ran_source : (source → (read : List ℕ) × (input ≡ read ++ rest) × (length read ≤ most_input) × (xs ≡ events begin read) × (list_any ends_run xs ≡ false)) → Ran fresh disk source sink by entries out input rest now at.out SourceFault
    ran_source did = ran_turned rest xs at now at.out SourceFault one did refl (λ told. refl) (λ is. absurd cc) kept

    pub ran_limit : (source → (xs ≡ run_events input) × (list_any ends_run xs ≡ false) × (most_input < length input)) → Ran fresh disk source sink by entries out input rest now at.out InputLimit
    ran_limit did = ran_turned rest xs at now at.out InputLimit one did refl (λ told. refl) (λ is. absurd cc) kept

    pub ran_ended : (was : Last) → at.refused ≡ was_refused was → (source → (xs ≡ run_events input) × ((list_any ends_run xs ≡ true) ⊎ (length input ≤ most_input))) → Ran fresh disk source sink by entries out input rest now at.out (status_after was)
    ran_ended last.Done is did = ran_turned rest xs at now at.out Done one did (refl, is) (λ told. refl) (λ is. absurd cc) kept
    ran_ended last.Refused is did = ran_turned rest xs at now at.out Refused one did (refl, is) (λ told. refl) (λ is. absurd cc) kept
