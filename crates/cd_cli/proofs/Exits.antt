-- Where a run leaves its input.
use Rattle.std.proofs.Common.{◌≡◌, ◌⊎◌, inl, inr, ⊎_elim, ℕ, ◌+◌, ◌<◌, ◌≤◌, ◌||◌, ◌&&◌, cond, ltb, eqb, Bool, true, false, List, [], ◌∷◌, ◌++◌, length, map, Option, option_to_list, refl, sym, ap, subst, ◌∙◌, append_assoc, length-append, arith}
use Rattle.std.specs.List.{list_any}
use Rattle.std.proofs.lemmas.List.{append-nil}
use Rattle.cd_outside.specs.Disk.{DiskState}
use Rattle.cd_entries.specs.declared.entry.Entry.{Entry}
use Rattle.cd_input.specs.declared.input.Spot.{Spot}
use Rattle.cd_input.specs.declared.input.Spot.TheVariants.{Inside}
use Rattle.cd_input.specs.Input.{Scan, Between, Within, Over, Event, Whole, TooLong, Unfinished, spot_after, is_open, within_after, stays_between, start_of, scan_after, begin, events, scanned, is_rest, is_full, end_events, limit_events, all_events, upto_first}
use Rattle.cd_input.proofs.Events.{events_next, scanned_next, PassNone, none_then, upto_then, upto_none, upto_one, all_begin, all_ended, all_cut}
use Rattle.cd_turn.specs.Home.{HasKept}
use Rattle.cd_turn.specs.Turn.{Turn}
use Rattle.cd_turn.specs.declared.status.Status.{Status}
use Rattle.cd_turn.specs.declared.status.Status.TheVariants.{Done, Usage, Refused, Unfit, SourceFault, DiskFault, SinkFault, InputLimit, JournalFull, NoMemory}
use Rattle.cd_cli.specs.declared.flow.Flow.TheVariants as flow
use Rattle.cd_cli.specs.declared.flow.Last.{Last}
use Rattle.cd_cli.specs.Flow.{was_refused, status_after}
use Rattle.cd_cli.specs.Run.{most_input, ends_run, run_events, IfBetween, Ran}
use Rattle.cd_cli.specs.Stretch.{Standing, standing, HaveTurned, Halted, Went, Finishes}
use Rattle.cd_cli.proofs.Serving.{Reading, upto_any, upto_cond, limit_ends, run_halts, ran_halted, closes_ran, ran_source, ran_limit, ran_ended}
use Rattle.cd_cli.proofs.Turning.{turned_then, turned_none}

some_not : (e : Event) (es : List Event) → (e ∷ es) ≡ [] → ⊥
some_not e es h = cc

list_any_push : (test : Event → Bool) (xs ys : List Event) → list_any test ys ≡ true → list_any test (xs ++ ys) ≡ true
list_any_push test [] ys h = h
list_any_push test (x ∷ xs) ys h = or_true (test x) (list_any test (xs ++ ys)) (list_any_push test xs ys h)
  where
    or_true : (a b : Bool) → b ≡ true → (a || b) ≡ true
    or_true true b h = refl
    or_true false b h = h

-- one byte brings at most one event to its end
abbrev AtMostOne : Scan × List Event → Type 0
AtMostOne after = (after.1 ≡ []) ⊎ ((one : Event) × (after.1 ≡ one ∷ []))

within_one : (t u : Bool) (a b c : Scan) (e f : Event) → AtMostOne (cond t (cond u (a, e ∷ []) (b, [])) (c, f ∷ []))
within_one true true a b c e f = inr (e, refl)
within_one true false a b c e f = inl refl
within_one false u a b c e f = inr (f, refl)

between_one : (t : Bool) (a : Scan) (p : Scan × List Event) → AtMostOne p → AtMostOne (cond t (a, []) p)
between_one true a p h = inl refl
between_one false a p h = h

command_one : (spot : Spot) (text : List ℕ) (b : ℕ) → AtMostOne (within_after spot text b)
command_one spot text b = within_one (ltb (length text) 70000) (eqb b 59 && is_open spot) (Between Inside) (Within (spot_after spot b) (text ++ b ∷ [])) Over (Whole (text ++ b ∷ [])) TooLong

one_at_most : (scan : Scan) (b : ℕ) → AtMostOne (scan_after scan b)
one_at_most (Between spot) b = between_one (stays_between spot b) (Between (spot_after spot b)) (within_after (start_of spot).0 (start_of spot).1 b) (command_one (start_of spot).0 (start_of spot).1 b)
one_at_most (Within spot text) b = command_one spot text b
one_at_most Over b = inl refl

upto_short : (ys tail : List Event) → (ys ≡ []) ⊎ ((one : Event) × (ys ≡ one ∷ [])) → (rest : List Event) × (upto_first ends_run (ys ++ tail) ≡ ys ++ rest)
upto_short ys tail short = ⊎_elim
    (λ (none : ys ≡ []). (upto_first ends_run tail, ap (λ (l : List Event). upto_first ends_run (l ++ tail)) none ∙ ap (λ (l : List Event). l ++ upto_first ends_run tail) (sym none)))
    (λ (one : (e : Event) × (ys ≡ e ∷ [])).
    let first = upto_one ends_run one.0 tail in
    (first.0, ap (λ (l : List Event). upto_first ends_run (l ++ tail)) one.1 ∙ first.1 ∙ ap (λ (l : List Event). l ++ first.0) (sym one.1)))
    short

module _ (fresh disk source sink : Type 0) (by : Turn → Type 0) (entries : List Entry) (out input : List ℕ) where
  abbrev first : Standing
  first = standing entries out false

  abbrev Came : List ℕ → DiskState → List ℕ → Status → Type 0
  Came rest now out_now status = Ran fresh disk source sink by entries out input rest now out_now status

  abbrev Read : List ℕ → ℕ → Scan → Standing → Type 0
  Read ahead count scan at = Reading disk source sink by first input ahead count scan at

  -- nothing was read yet
  pub read_none : (scan : Scan) → scan ≡ begin → (later : Read input 0 scan first) × (later.read ≡ [])
  read_none scan is = (record { read = []; given = λ told. refl; length_is = refl; scan_is = is; turned = turned_none disk sink by first; quiet = record { none = refl } }, refl)

  module _ (ahead : List ℕ) (count : ℕ) (scan : Scan) (at_entries : List Entry) (at_out : List ℕ) (was : Last) (r : Read ahead count scan (standing at_entries at_out (was_refused was))) where
    abbrev at : Standing
    at = standing at_entries at_out (was_refused was)

    abbrev xs : List Event
    xs = events begin r.read

    -- the input failed
    pub exit_source : (rest : List ℕ) (now : DiskState) → count ≤ most_input → (source → ahead ≡ rest) → (disk → HasKept at_entries now) → Came rest now at_out SourceFault
    exit_source rest now small same kept =
        let within : length r.read ≤ most_input = let e = r.length_is in omega arith in
        ran_source fresh disk source sink by entries out input rest xs at now r.turned kept
        (λ told. (r.read, r.given told ∙ ap (λ (l : List ℕ). r.read ++ l) (same told), within, refl, r.quiet.none))

    -- all that comes to its end with the input
    all_at_end : count ≤ most_input → (source → ahead ≡ []) → source → run_events input ≡ xs ++ end_events scan
    all_at_end small none told =
        let fits : length r.read ≤ most_input = let e = r.length_is in omega arith in
        let whole : input ≡ r.read = r.given told ∙ ap (λ (l : List ℕ). r.read ++ l) (none told) ∙ append-nil r.read in
        ap run_events whole
        ∙ ap (upto_first ends_run) (all_ended most_input r.read fits)
        ∙ upto_then ends_run xs (end_events (scanned begin r.read)) r.quiet
        ∙ ap (λ (l : List Event). xs ++ l) (upto_cond (is_rest (scanned begin r.read)) Unfinished)
        ∙ ap (λ (s : Scan). xs ++ end_events s) (sym r.scan_is)

    -- what was done is the first of what the run should do
    pub front_end : count ≤ most_input → (source → ahead ≡ []) → (brought : List Event) → brought ≡ end_events scan → source → (more : List Event) × (run_events input ≡ (xs ++ brought) ++ more)
    front_end small none brought is told = ([], all_at_end small none told ∙ ap (λ (l : List Event). xs ++ l) (sym is) ∙ sym (append-nil (xs ++ brought)))

    pub front_read : count ≤ most_input → source → (more : List Event) × (run_events input ≡ xs ++ more)
    front_read small told =
        let fits : length r.read ≤ most_input = let e = r.length_is in omega arith in
        let all = all_begin most_input r.read ahead fits in
        (upto_first ends_run all.0, ap run_events (r.given told) ∙ ap (upto_first ends_run) all.1 ∙ upto_then ends_run xs all.0 r.quiet)

    input_small : count ≤ most_input → (source → ahead ≡ []) → source → length input ≤ most_input
    input_small small none told =
        let whole : input ≡ r.read = r.given told ∙ ap (λ (l : List ℕ). r.read ++ l) (none told) ∙ append-nil r.read in
        let same : length input ≡ length r.read = ap length whole in
        let e = r.length_is in
        omega arith

    all_at_limit : count ≡ most_input → (source → 0 < length ahead) → source → run_events input ≡ xs ++ limit_events scan
    all_at_limit full more told =
        ap run_events (r.given told)
        ∙ ap (upto_first ends_run) (all_cut most_input r.read ahead (r.length_is ∙ full) (more told))
        ∙ upto_then ends_run xs (limit_events (scanned begin r.read)) r.quiet
        ∙ ap (λ (l : List Event). xs ++ l) (upto_cond (is_full (scanned begin r.read)) TooLong)
        ∙ ap (λ (s : Scan). xs ++ limit_events s) (sym r.scan_is)

    pub front_limit : count ≡ most_input → (source → 0 < length ahead) → (brought : List Event) → brought ≡ limit_events scan → source → (more : List Event) × (run_events input ≡ (xs ++ brought) ++ more)
    front_limit full ahead_more brought is told = ([], all_at_limit full ahead_more told ∙ ap (λ (l : List Event). xs ++ l) (sym is) ∙ sym (append-nil (xs ++ brought)))

    input_long : count ≡ most_input → (source → 0 < length ahead) → source → most_input < length input
    input_long full more told =
        let len : length input ≡ length r.read + length ahead = ap length (r.given told) ∙ length-append r.read ahead in
        let e = r.length_is in
        let m = more told in
        omega arith

    any_push : (brought : List Event) → list_any ends_run brought ≡ true → list_any ends_run (xs ++ brought) ≡ true
    any_push brought ends = list_any_push ends_run xs brought ends

    module _ (rest : List ℕ) (was_disk : DiskState) (kept_was : disk → HasKept at_entries was_disk) where
      -- the input came to its end
      pub exit_end : count ≤ most_input → (source → ahead ≡ []) → (brought : List Event) → brought ≡ end_events scan → (later : List Entry) (now : DiskState) (out_now : List ℕ) (status : Status)
          → Finishes fresh disk sink by at was_disk brought (status_after was) later now out_now status → (disk → IfBetween status (HasKept later now)) → Came rest now out_now status
      exit_end small none [] is later now out_now status fin kept =
          subst (λ (s : Status). Came rest now out_now s) (sym fin.0)
          (subst (λ (o : List ℕ). Came rest now o (status_after was)) (sym fin.2)
          (subst (λ (d : DiskState). Came rest d at_out (status_after was)) (sym fin.3)
          (ran_ended fresh disk source sink by entries out input rest xs at was_disk r.turned kept_was was refl
          (λ told. (sym (append-nil xs) ∙ ap (λ (l : List Event). xs ++ l) is ∙ sym (all_at_end small none told), inr (input_small small none told))))))
      exit_end small none (e ∷ es) is later now out_now status fin kept =
          closes_ran fresh disk source sink by entries out input rest xs at now out_now later r.turned (e ∷ es) status fin
          (λ told. all_at_end small none told ∙ ap (λ (l : List Event). xs ++ l) (sym is)) (λ told. inr (input_small small none told)) kept

      -- the input goes on behind what is read at most
      pub exit_limit : count ≡ most_input → (source → 0 < length ahead) → (brought : List Event) → brought ≡ limit_events scan → (later : List Entry) (now : DiskState) (out_now : List ℕ) (status : Status)
          → Finishes fresh disk sink by at was_disk brought InputLimit later now out_now status → (disk → IfBetween status (HasKept later now)) → Came rest now out_now status
      exit_limit full more [] is later now out_now status fin kept =
          subst (λ (s : Status). Came rest now out_now s) (sym fin.0)
          (subst (λ (o : List ℕ). Came rest now o InputLimit) (sym fin.2)
          (subst (λ (d : DiskState). Came rest d at_out InputLimit) (sym fin.3)
          (ran_limit fresh disk source sink by entries out input rest xs at was_disk r.turned kept_was
          (λ told. (sym (append-nil xs) ∙ ap (λ (l : List Event). xs ++ l) is ∙ sym (all_at_limit full more told), r.quiet.none, input_long full more told)))))
      exit_limit full more (e ∷ es) is later now out_now status fin kept =
          closes_ran fresh disk source sink by entries out input rest xs at now out_now later r.turned (e ∷ es) status fin
          (λ told. all_at_limit full more told ∙ ap (λ (l : List Event). xs ++ l) (sym is))
          (λ told. inl (any_push (e ∷ es) (limit_ends (is_full scan) (e ∷ es) is (λ (h : (e ∷ es) ≡ []). some_not e es h)))) kept

    -- one byte more was read
    module _ (b : ℕ) (ahead_now : List ℕ) (next : source → ahead ≡ b ∷ ahead_now) where
      abbrev ys : List Event
      ys = (scan_after scan b).1

      given_next : source → input ≡ (r.read ++ b ∷ []) ++ ahead_now
      given_next told = r.given told ∙ ap (λ (l : List ℕ). r.read ++ l) (next told) ∙ sym (append_assoc r.read (b ∷ []) ahead_now)

      events_are : events begin (r.read ++ b ∷ []) ≡ xs ++ ys
      events_are = events_next begin r.read b ∙ ap (λ (s : Scan). xs ++ (scan_after s b).1) (sym r.scan_is)

      length_next : length (r.read ++ b ∷ []) ≡ count + 1
      length_next = length-append r.read (b ∷ []) ∙ ap (λ (n : ℕ). n + 1) r.length_is

      -- and the run goes on
      pub read_more : (scan_now : Scan) (later : List Entry) (out_now : List ℕ) (last : Last) → scan_now ≡ (scan_after scan b).0 → Went disk sink by at ys later out_now (flow.Goes last)
          → (more : Read ahead_now (count + 1) scan_now (standing later out_now (was_refused last))) × (events begin more.read ≡ xs ++ ys)
      read_more scan_now later out_now last scan_is went = (
        record {
          read = r.read ++ b ∷ [];
          given = given_next;
          length_is = length_next;
          scan_is = scan_is ∙ ap (λ (s : Scan). (scan_after s b).0) r.scan_is ∙ sym (scanned_next begin r.read b);
          turned = subst (λ (es : List Event). HaveTurned disk sink by first es (standing later out_now (was_refused last))) (sym events_are)
              (turned_then disk sink by first at (standing later out_now (was_refused last)) xs ys r.turned went.turned);
          quiet = subst (PassNone ends_run) (sym events_are) (none_then ends_run xs ys r.quiet (record { none = sym went.ends }));
        },
        events_are,
      )

      all_next : count < most_input → source → (tail : List Event) × (all_events most_input input ≡ xs ++ (ys ++ tail))
      all_next small told =
          let fits : length (r.read ++ b ∷ []) ≤ most_input = let e = length_next in omega arith in
          let all = all_begin most_input (r.read ++ b ∷ []) ahead_now fits in
          (all.0, ap (all_events most_input) (given_next told) ∙ all.1 ∙ ap (λ (l : List Event). l ++ all.0) events_are ∙ append_assoc xs ys all.0)

      -- what was done with it is the first of what the run should do
      pub front_byte : count < most_input → source → (more : List Event) × (run_events input ≡ (xs ++ ys) ++ more)
      front_byte small told =
          let all = all_next small told in
          let front = upto_short ys all.0 (one_at_most scan b) in (
            front.0,
            ap (upto_first ends_run) all.1 ∙ upto_then ends_run xs (ys ++ all.0) r.quiet ∙ ap (λ (l : List Event). xs ++ l) front.1 ∙ sym (append_assoc xs ys front.0),
          )

      -- or it was ended by the turn
      pub exit_ends : (rest : List ℕ) (now : DiskState) (later : List Entry) (out_now : List ℕ) (last : Last) → count < most_input → Went disk sink by at ys later out_now (flow.Ends last)
          → (disk → HasKept later now) → Came rest now out_now (status_after last)
      exit_ends rest now later out_now last small went kept =
          ran_ended fresh disk source sink by entries out input rest (xs ++ ys) (standing later out_now (was_refused last)) now
          (turned_then disk sink by first at (standing later out_now (was_refused last)) xs ys r.turned went.turned) kept last refl
          (λ told. let all = all_next small told in (
            sym (ap (upto_first ends_run) all.1 ∙ upto_then ends_run xs (ys ++ all.0) r.quiet
                ∙ ap (λ (l : List Event). xs ++ l) (upto_any ys all.0 (sym went.ends) ∙ went.once)),
            inl (any_push ys (sym went.ends)),
          ))

      -- or within it
      pub exit_halted : (rest : List ℕ) (now : DiskState) (out_now : List ℕ) (status : Status) → count < most_input → Halted fresh disk sink by at ys now out_now status → Came rest now out_now status
      exit_halted rest now out_now status small h =
          ran_halted fresh disk source sink by entries out input rest xs ys at now out_now status r.turned h
          (λ told. let all = all_next small told in run_halts (all_events most_input input) xs ys all.0 h.done h.more h.begun all.1 r.quiet h.brought_is (record { none = h.quiet }))
