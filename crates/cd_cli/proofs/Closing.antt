-- A run whose last part is done.
use Rattle.std.proofs.Common.{◌≡◌, ℕ, ◌<◌, ◌≤◌, Bool, true, false, List, [], ◌∷◌, ◌++◌, ◌+◌, length, refl, sym, ap, subst, ◌∙◌, arith}
use Rattle.cd_outside.specs.Disk.{DiskState, LeftAt}
use Rattle.cd_outside.specs.Moments.{Moments}
use Rattle.cd_entries.specs.declared.entry.Entry.{Entry}
use Rattle.cd_input.specs.Input.{Scan, Event, begin, events, scan_after, end_events, limit_events}
use Rattle.cd_turn.specs.Home.{HomeState, IsHome, HasKept}
use Rattle.cd_turn.specs.Legal.{IsLegal}
use Rattle.cd_turn.specs.Turn.{Turn}
use Rattle.cd_turn.specs.declared.status.Status.{Status}
use Rattle.cd_turn.specs.declared.status.Status.TheVariants.{SourceFault, InputLimit}
use Rattle.cd_turn.proofs.Homes.{rests_kept}
use Rattle.cd_cli.specs.declared.flow.Flow.TheVariants as flow
use Rattle.cd_cli.specs.declared.flow.Last.{Last}
use Rattle.cd_cli.specs.declared.flow.Last.TheVariants as last
use Rattle.cd_cli.specs.Flow.{was_refused, status_after}
use Rattle.cd_cli.specs.Run.{most_input, EndedBy, run_events, GoneOn, IfBetween, TurnsMayLeave, Ran}
use Rattle.cd_cli.specs.Stretch.{Standing, standing, Halted, Went, Finishes}
use Rattle.cd_cli.proofs.Serving.{Reading}
use Rattle.cd_cli.proofs.Leaving.{ReadSafely, moments_behind, moments_whole}
use Rattle.cd_cli.proofs.Exits.{exit_source, exit_end, exit_limit, exit_ends, exit_halted, read_more, front_read, front_end, front_limit, front_byte}
use Rattle.cd_cli.proofs.Halting.{between_both, finishes_since, went_since, halted_since}

-- a run that came to its end needs no reason
pub ended_after : (was : Last) (status : Status) → status ≡ status_after was → EndedBy ⊥ (λ _. ⊥) ⊥ ⊥ status
ended_after was status is = subst (EndedBy ⊥ (λ (at : ℕ). ⊥) ⊥ ⊥) (sym is) (by_last was)
  where
    by_last : (was : Last) → EndedBy ⊥ (λ (at : ℕ). ⊥) ⊥ ⊥ (status_after was)
    by_last last.Done = tt
    by_last last.Refused = tt

module _ (fresh disk source sink : Type 0) (by : Turn → Type 0) (entries : List Entry) (out input : List ℕ) (ahead : List ℕ) (count : ℕ) (scan : Scan) (home : HomeState) (at_out : List ℕ) (was : Last)
    (r : Reading disk source sink by (standing entries out false) input ahead count scan (standing home.entries at_out (was_refused was))) (rest : List ℕ) where
  abbrev at : Standing
  at = standing home.entries at_out (was_refused was)

  abbrev Came : DiskState → List ℕ → Status → Type 0
  Came now out_now status = Ran fresh disk source sink by entries out input rest now out_now status

  module _ (state : DiskState) (legal : IsLegal home.entries) (is : disk → IsHome home state) where
    -- the input failed
    pub source_failed : count ≤ most_input → (left : List ℕ) → left ≡ [] → (source → ahead ≡ left ++ rest) → Came state at_out SourceFault
    source_failed small left none same =
        exit_source fresh disk source sink by entries out input ahead count scan home.entries at_out was r rest state small
        (λ told. same told ∙ ap (λ (l : List ℕ). l ++ rest) none) (λ told. rests_kept home state legal (is told))

    module _ (fresh_then : Type 0) (freshly : disk → fresh_then → fresh) (then : Turn → Type 0) (clock_same : (turn : Turn) → then turn → by turn) (later : HomeState) (now : DiskState) (from beat : ℕ) (out_now : List ℕ) (status : Status) (goes : disk → IfBetween status (GoneOn home.entries state from later now beat)) (legal_now : IfBetween status (IsLegal later.entries)) where
      abbrev Gone : Type 0
      Gone = GoneOn home.entries state from later now beat

      kept : disk → IfBetween status (HasKept later.entries now)
      kept told = between_both (IsLegal later.entries) Gone (HasKept later.entries now) status (λ l one. rests_kept later now l one.is) legal_now (goes told)

      -- the input came to its end
      pub finished_end : count ≤ most_input → (source → ahead ≡ []) → (brought : List Event) → brought ≡ end_events scan → (if_none : Status) → if_none ≡ status_after was
          → Finishes fresh_then disk sink then at state brought if_none later.entries now out_now status → Came now out_now status
      finished_end small none brought is_end if_none same fin =
          exit_end fresh disk source sink by entries out input ahead count scan home.entries at_out was r rest state (λ told. rests_kept home state legal (is told))
          small none brought is_end later.entries now out_now status
          (subst (λ (s : Status). Finishes fresh disk sink by at state brought s later.entries now out_now status) same
          (finishes_since fresh fresh_then disk sink then by at state brought if_none later.entries now out_now status freshly clock_same fin)) kept

      -- the input goes on
      pub finished_limit : count ≡ most_input → (b : ℕ) (more : List ℕ) → (source → ahead ≡ b ∷ more) → (brought : List Event) → brought ≡ limit_events scan
          → Finishes fresh_then disk sink then at state brought InputLimit later.entries now out_now status → Came now out_now status
      finished_limit full b more next brought is_limit fin =
          exit_limit fresh disk source sink by entries out input ahead count scan home.entries at_out was r rest state (λ told. rests_kept home state legal (is told))
          full (λ told. subst (λ (l : List ℕ). 0 < length l) (sym (next told)) (omega arith)) brought is_limit later.entries now out_now status
          (finishes_since fresh fresh_then disk sink then by at state brought InputLimit later.entries now out_now status freshly clock_same fin) kept

  -- a byte more was read
  module _ (b : ℕ) (ahead_now : List ℕ) (next : source → ahead ≡ b ∷ ahead_now) (fresh_then : Type 0) (freshly : disk → fresh_then → fresh) (then : Turn → Type 0) (clock_same : (turn : Turn) → then turn → by turn) where
    pub byte_read : (scan_now : Scan) (later : List Entry) (out_now : List ℕ) (last : Last) → scan_now ≡ (scan_after scan b).0 → Went disk sink then at (scan_after scan b).1 later out_now (flow.Goes last)
        → (more : Reading disk source sink by (standing entries out false) input ahead_now (count + 1) scan_now (standing later out_now (was_refused last))) × (events begin more.read ≡ events begin r.read ++ (scan_after scan b).1)
    byte_read scan_now later out_now last scan_is went =
        read_more fresh disk source sink by entries out input ahead count scan home.entries at_out was r b ahead_now next scan_now later out_now last scan_is
        (went_since disk sink then by at (scan_after scan b).1 later out_now (flow.Goes last) clock_same went)

    pub byte_ends : (now : DiskState) (later : HomeState) (out_now : List ℕ) (last : Last) (status : Status) → status ≡ status_after last → count < most_input → IsLegal later.entries → (disk → IsHome later now)
        → Went disk sink then at (scan_after scan b).1 later.entries out_now (flow.Ends last) → Came now out_now status
    byte_ends now later out_now last status same small legal is went =
        subst (λ (s : Status). Came now out_now s) (sym same)
        (exit_ends fresh disk source sink by entries out input ahead count scan home.entries at_out was r b ahead_now next rest now later.entries out_now last small
        (went_since disk sink then by at (scan_after scan b).1 later.entries out_now (flow.Ends last) clock_same went) (λ told. rests_kept later now legal (is told)))

    pub byte_halts : (now : DiskState) (out_now : List ℕ) (status : Status) → count < most_input → Halted fresh_then disk sink then at (scan_after scan b).1 now out_now status → Came now out_now status
    byte_halts now out_now status small h =
        exit_halted fresh disk source sink by entries out input ahead count scan home.entries at_out was r b ahead_now next rest now out_now status small
        (halted_since fresh fresh_then disk sink then by at (scan_after scan b).1 now out_now status freshly clock_same h)

-- What a crash may have left at the end of a run, behind what it left while the bytes before were read.
module _ (fresh disk source sink : Type 0) (by : Turn → Type 0) (entries : List Entry) (out input : List ℕ) (ahead : List ℕ) (count : ℕ) (scan : Scan) (at_entries : List Entry) (at_out : List ℕ) (was : Last) (before middle : DiskState) (from : ℕ)
    (s : ReadSafely fresh disk source sink by (standing entries out false) input ahead count scan (standing at_entries at_out (was_refused was)) before middle from) (told : disk) where
  abbrev first : Standing
  first = standing entries out false

  abbrev Leaves : DiskState → List Event → Type 0
  Leaves now brought = Moments (LeftAt before) (LeftAt now) from (TurnsMayLeave fresh (Unit {0}) by entries brought)

  abbrev Left : DiskState → Type 0
  Left now = Moments (LeftAt before) (LeftAt now) from (TurnsMayLeave fresh source by entries (run_events input))

  whole : (now : DiskState) (brought : List Event) → (source → (more : List Event) × (run_events input ≡ brought ++ more)) → Leaves now brought → Left now
  whole now brought front moments = moments_whole fresh source by entries brought (run_events input) before now from front moments

  -- the input failed
  pub left_read : count ≤ most_input → Left middle
  left_read small = whole middle (events begin s.reading.read) (λ t. front_read fresh disk source sink by entries out input ahead count scan at_entries at_out was s.reading small t) (s.left told)

  module _ (now : DiskState) (beat : ℕ) (forward : from ≤ beat) (fresh_then : Type 0) (freshly : fresh_then → fresh) (then : Turn → Type 0) (clock_same : (turn : Turn) → then turn → by turn) where
    behind : (brought : List Event) → Moments (LeftAt middle) (LeftAt now) beat (TurnsMayLeave fresh_then (Unit {0}) then at_entries brought) → Leaves now (events begin s.reading.read ++ brought)
    behind brought moments =
        moments_behind fresh fresh_then disk sink by then first (standing at_entries at_out (was_refused was)) (events begin s.reading.read) brought before middle now from beat forward freshly clock_same s.reading.turned (s.left told) moments

    -- the input came to its end
    pub left_end : count ≤ most_input → (source → ahead ≡ []) → (brought : List Event) → brought ≡ end_events scan → Moments (LeftAt middle) (LeftAt now) beat (TurnsMayLeave fresh_then (Unit {0}) then at_entries brought) → Left now
    left_end small none brought is moments =
        whole now (events begin s.reading.read ++ brought) (λ t. front_end fresh disk source sink by entries out input ahead count scan at_entries at_out was s.reading small none brought is t) (behind brought moments)

    -- the input goes on
    pub left_limit : count ≡ most_input → (b : ℕ) (more : List ℕ) → (source → ahead ≡ b ∷ more) → (brought : List Event) → brought ≡ limit_events scan → Moments (LeftAt middle) (LeftAt now) beat (TurnsMayLeave fresh_then (Unit {0}) then at_entries brought) → Left now
    left_limit full b more next brought is moments =
        whole now (events begin s.reading.read ++ brought)
        (λ t. front_limit fresh disk source sink by entries out input ahead count scan at_entries at_out was s.reading full (λ t. subst (λ (l : List ℕ). 0 < length l) (sym (next t)) (omega arith)) brought is t) (behind brought moments)

    -- a byte more was read
    module _ (b : ℕ) (ahead_now : List ℕ) (next : source → ahead ≡ b ∷ ahead_now) (moments : Moments (LeftAt middle) (LeftAt now) beat (TurnsMayLeave fresh_then (Unit {0}) then at_entries (scan_after scan b).1)) where
      pub left_byte : count < most_input → Left now
      left_byte small =
          whole now (events begin s.reading.read ++ (scan_after scan b).1) (λ t. front_byte fresh disk source sink by entries out input ahead count scan at_entries at_out was s.reading b ahead_now next small t)
          (behind (scan_after scan b).1 moments)

      pub left_more : (read : List ℕ) → events begin read ≡ events begin s.reading.read ++ (scan_after scan b).1 → Leaves now (events begin read)
      left_more read is = subst (λ (es : List Event). Leaves now es) (sym is) (behind (scan_after scan b).1 moments)
