-- What a crash may leave while turns are made.
use Rattle.std.proofs.Common.{◌≡◌, ◌⊎◌, inl, inr, ⊎_elim, ℕ, ◌+◌, ◌<◌, ◌≤◌, cond, List, [], ◌∷◌, ◌++◌, length, map, Bool, true, false, Option, Some, None, option_to_list, refl, sym, ap, subst, ◌∙◌, append_assoc, arith}
use Rattle.std.specs.Prelude.{All}
use Rattle.std.proofs.lemmas.List.{append-nil, map-append}
use Rattle.std.proofs.lemmas.List.Elements.{All-append, All-cons, All-nil, All-weaker}
use Rattle.cd_outside.specs.Disk.{DiskState, last_of, LeftAt}
use Rattle.cd_outside.specs.Doubt.{IsImage}
use Rattle.cd_outside.specs.Moments.{Moments}
use Rattle.cd_outside.proofs.Runs.{moments_then, moments_weaker, moments_none}
use Rattle.cd_journal.specs.Bytes.{list_of}
use Rattle.cd_entries.specs.declared.entry.Entry.{Entry}
use Rattle.cd_input.specs.Input.{Scan, Event, begin, events, scan_after}
use Rattle.cd_turn.specs.Ends.{MayLeave}
use Rattle.cd_turn.specs.Home.{HomeState, IsHome, StandsFor, IsJournal}
use Rattle.cd_turn.specs.Legal.{IsLegal}
use Rattle.cd_turn.specs.declared.order.Order.{Order}
use Rattle.cd_turn.specs.Turn.{Turn, order_in, added, after_turn, after_turns}
use Rattle.cd_turn.proofs.Homes.{rests_image}
use Rattle.cd_cli.specs.Run.{run_events, LeftByTurns, TurnsMayLeave, RunMayLeave}
use Rattle.cd_cli.specs.Stretch.{Standing, HaveTurned}
use Rattle.cd_cli.proofs.Serving.{Reading}
use Rattle.cd_cli.proofs.Turning.{turns_then, turned_since}

abbrev event_in : Turn → Event
event_in turn = turn.event

-- no turn was made
pub left_none : (fresh source : Type 0) (by : Turn → Type 0) (entries : List Entry) (brought : List Event) (image : List ℕ) → IsJournal entries image → TurnsMayLeave fresh source by entries brought image
left_none fresh source by entries brought image is = inl (record {
  turns = [];
  events = λ told. (brought, refl);
  told = All-nil by;
  journal = is;
})

-- one turn was under way
left_added : (fresh source : Type 0) (by : Turn → Type 0) (entries : List Entry) (turn : Turn) (image : List ℕ) → by turn → (entry : Option Entry) → entry ≡ added entries turn.now (order_in turn)
    → MayLeave fresh entries entry image → TurnsMayLeave fresh source by entries (turn.event ∷ []) image
left_added fresh source by entries turn image at None same is = left_none fresh source by entries (turn.event ∷ []) image is
left_added fresh source by entries turn image at (Some e) same left = ⊎_elim
    (λ (is : IsJournal entries image). left_none fresh source by entries (turn.event ∷ []) image is)
    (λ (more : IsJournal (entries ++ e ∷ []) image ⊎ (fresh × (entries ≡ []) × (length image ≤ 9))). ⊎_elim
    (λ (is : IsJournal (entries ++ e ∷ []) image). inl (record {
      turns = turn ∷ [];
      events = λ told. ([], refl);
      told = All-cons by turn [] at (All-nil by);
      journal = subst (λ (o : Option Entry). IsJournal (entries ++ option_to_list o) image) same is;
    }))
    (λ (none : fresh × (entries ≡ []) × (length image ≤ 9)). inr none)
    more)
    left

left_turn : (fresh source : Type 0) (by : Turn → Type 0) (entries : List Entry) (turn : Turn) (wanted : Order) (image : List ℕ) → wanted ≡ order_in turn → by turn
    → MayLeave fresh entries (added entries turn.now wanted) image → TurnsMayLeave fresh source by entries (turn.event ∷ []) image
left_turn fresh source by entries turn wanted image e at left = left_added fresh source by entries turn image at (added entries turn.now wanted) (ap (added entries turn.now) e) left

none_after : (entries : List Entry) (turns : List Turn) → after_turns entries turns ≡ [] → entries ≡ []
none_after [] turns h = refl
none_after (e ∷ entries) [] h = absurd cc
none_after (e ∷ entries) (turn ∷ turns) h = let none : after_turn (e ∷ entries) turn ≡ [] = none_after (after_turn (e ∷ entries) turn) turns h in absurd cc

-- turns were made before
left_behind : (fresh fresh_then disk sink : Type 0) (by then : Turn → Type 0) (before middle : Standing) (done brought : List Event) (image : List ℕ) → (fresh_then → fresh) → ((turn : Turn) → then turn → by turn)
    → HaveTurned disk sink by before done middle → TurnsMayLeave fresh_then (Unit {0}) then middle.entries brought image → TurnsMayLeave fresh (Unit {0}) by before.entries (done ++ brought) image
left_behind fresh fresh_then disk sink by then before middle done brought image freshly same t left = ⊎_elim
    (λ (l : LeftByTurns (Unit {0}) then middle.entries brought image).
    let split = l.events tt in
    let events : List Event = map event_in l.turns in
    inl (record {
      turns = t.turns ++ l.turns;
      events = λ told. (
        split.0,
        ap (λ (es : List Event). done ++ es) split.1
            ∙ sym (append_assoc done events split.0)
            ∙ ap (λ (es : List Event). (es ++ events) ++ split.0) (sym t.events_are)
            ∙ ap (λ (es : List Event). es ++ split.0) (sym (map-append event_in t.turns l.turns)),
      );
      told = All-append by t.turns l.turns t.told_are (All-weaker then by same l.turns l.told);
      journal = subst (λ (es : List Entry). IsJournal es image) (ap (λ (es : List Entry). after_turns es l.turns) t.entries_are ∙ sym (turns_then before.entries t.turns l.turns)) l.journal;
    }))
    (λ (none : fresh_then × (middle.entries ≡ []) × (length image ≤ 9)). inr (freshly none.0, none_after before.entries t.turns (sym t.entries_are ∙ none.1), none.2))
    left

-- and more is ahead
left_front : (fresh source : Type 0) (by : Turn → Type 0) (entries : List Entry) (brought whole : List Event) (image : List ℕ) → (source → (more : List Event) × (whole ≡ brought ++ more))
    → TurnsMayLeave fresh (Unit {0}) by entries brought image → TurnsMayLeave fresh source by entries whole image
left_front fresh source by entries brought whole image front left = ⊎_elim
    (λ (l : LeftByTurns (Unit {0}) by entries brought image).
    let split = l.events tt in
    inl (record {
      turns = l.turns;
      events = λ told. let ahead = front told in (split.0 ++ ahead.0, ahead.1 ∙ ap (λ (es : List Event). es ++ ahead.0) split.1 ∙ append_assoc (map event_in l.turns) split.0 ahead.0);
      told = l.told;
      journal = l.journal;
    }))
    (λ (none : fresh × (entries ≡ []) × (length image ≤ 9)). inr none)
    left

-- nothing was done
pub rests_turns : (home : HomeState) (disk : DiskState) (from : ℕ) (source : Type 0) (by : Turn → Type 0) (brought : List Event) → IsLegal home.entries → IsHome home disk → last_of disk.calls ≤ from
    → Moments (LeftAt disk) (LeftAt disk) from (TurnsMayLeave (disk.seen ≡ []) source by home.entries brought)
rests_turns home disk from source by brought legal is order =
    moments_none disk disk from (TurnsMayLeave (disk.seen ≡ []) source by home.entries brought) refl order
    (λ image left. left_none (disk.seen ≡ []) source by home.entries brought image (rests_image home disk image legal is left))

-- a turn was made, or ended the run
pub turn_moments : (before now : DiskState) (from : ℕ) (fresh source : Type 0) (by : Turn → Type 0) (entries : List Entry) (turn : Turn) (wanted : Order) → wanted ≡ order_in turn → by turn
    → Moments (LeftAt before) (LeftAt now) from (MayLeave fresh entries (added entries turn.now wanted)) → Moments (LeftAt before) (LeftAt now) from (TurnsMayLeave fresh source by entries (turn.event ∷ []))
turn_moments before now from fresh source by entries turn wanted e at moments =
    moments_weaker (LeftAt before) (LeftAt now) from (MayLeave fresh entries (added entries turn.now wanted)) (TurnsMayLeave fresh source by entries (turn.event ∷ []))
    (λ image left. left_turn fresh source by entries turn wanted image e at left) moments

-- what goes by less goes by more
left_since : (fresh source : Type 0) (by later : Turn → Type 0) (entries : List Entry) (brought : List Event) (image : List ℕ) → ((turn : Turn) → by turn → later turn)
    → TurnsMayLeave fresh source by entries brought image → TurnsMayLeave fresh source later entries brought image
left_since fresh source by later entries brought image same left = ⊎_elim
    (λ (l : LeftByTurns source by entries brought image). inl (record { turns = l.turns; events = l.events; told = All-weaker by later same l.turns l.told; journal = l.journal }))
    (λ (none : fresh × (entries ≡ []) × (length image ≤ 9)). inr none)
    left

-- What a run read so far, and what a crash may have left since its begin.
pub record ReadSafely (fresh disk source sink : Type 0) (by : Turn → Type 0) (first : Standing) (input ahead : List ℕ) (count : ℕ) (scan : Scan) (at : Standing) (before now : DiskState) (from : ℕ) : Type 0 where
  pub reading : Reading disk source sink by first input ahead count scan at
  pub left : disk → Moments (LeftAt before) (LeftAt now) from (TurnsMayLeave fresh (Unit {0}) by first.entries (events begin reading.read))

-- what goes by less goes by more
pub safely_since : (fresh disk source sink : Type 0) (by later : Turn → Type 0) (first : Standing) (input ahead : List ℕ) (count : ℕ) (scan : Scan) (at : Standing) (before now : DiskState) (from : ℕ) → ((turn : Turn) → by turn → later turn)
    → ReadSafely fresh disk source sink by first input ahead count scan at before now from → ReadSafely fresh disk source sink later first input ahead count scan at before now from
safely_since fresh disk source sink by later first input ahead count scan at before now from same s = record {
  reading = record {
    read = s.reading.read;
    given = s.reading.given;
    length_is = s.reading.length_is;
    scan_is = s.reading.scan_is;
    turned = turned_since disk sink by later first at (events begin s.reading.read) same s.reading.turned;
    quiet = s.reading.quiet;
  };
  left = λ told. moments_weaker (LeftAt before) (LeftAt now) from (TurnsMayLeave fresh (Unit {0}) by first.entries (events begin s.reading.read)) (TurnsMayLeave fresh (Unit {0}) later first.entries (events begin s.reading.read))
      (λ image left. left_since fresh (Unit {0}) by later first.entries (events begin s.reading.read) image same left) (s.left told);
}

-- turns of these events were made, or ended the run, behind those that were made before
pub moments_behind : (fresh fresh_then disk sink : Type 0) (by then : Turn → Type 0) (first at : Standing) (xs ys : List Event) (before middle now : DiskState) (from beat : ℕ) → from ≤ beat → (fresh_then → fresh) → ((turn : Turn) → then turn → by turn)
    → HaveTurned disk sink by first xs at → Moments (LeftAt before) (LeftAt middle) from (TurnsMayLeave fresh (Unit {0}) by first.entries xs)
    → Moments (LeftAt middle) (LeftAt now) beat (TurnsMayLeave fresh_then (Unit {0}) then at.entries ys) → Moments (LeftAt before) (LeftAt now) from (TurnsMayLeave fresh (Unit {0}) by first.entries (xs ++ ys))
moments_behind fresh fresh_then disk sink by then first at xs ys before middle now from beat forward freshly same t one two =
    moments_then (LeftAt before) (LeftAt middle) (LeftAt now) from beat (TurnsMayLeave fresh (Unit {0}) by first.entries (xs ++ ys)) forward
    (moments_weaker (LeftAt before) (LeftAt middle) from (TurnsMayLeave fresh (Unit {0}) by first.entries xs) (TurnsMayLeave fresh (Unit {0}) by first.entries (xs ++ ys))
    (λ image left. left_front fresh (Unit {0}) by first.entries xs (xs ++ ys) image (λ told. (ys, refl)) left) one)
    (moments_weaker (LeftAt middle) (LeftAt now) beat (TurnsMayLeave fresh_then (Unit {0}) then at.entries ys) (TurnsMayLeave fresh (Unit {0}) by first.entries (xs ++ ys))
    (λ image left. left_behind fresh fresh_then disk sink by then first at xs ys image freshly same t left) two)

-- these are the first of all that the run should do
pub moments_whole : (fresh source : Type 0) (by : Turn → Type 0) (entries : List Entry) (brought whole : List Event) (before now : DiskState) (from : ℕ) → (source → (more : List Event) × (whole ≡ brought ++ more))
    → Moments (LeftAt before) (LeftAt now) from (TurnsMayLeave fresh (Unit {0}) by entries brought) → Moments (LeftAt before) (LeftAt now) from (TurnsMayLeave fresh source by entries whole)
moments_whole fresh source by entries brought whole before now from front moments =
    moments_weaker (LeftAt before) (LeftAt now) from (TurnsMayLeave fresh (Unit {0}) by entries brought) (TurnsMayLeave fresh source by entries whole)
    (λ image left. left_front fresh source by entries brought whole image front left) moments

-- opened, and then served
pub run_moments : (old middle now : DiskState) (from beat : ℕ) (source : Type 0) (by : Turn → Type 0) (input : List ℕ) (home : HomeState) → IsHome home middle → middle.seen ≡ old.seen → from ≤ beat
    → Moments (LeftAt old) (LeftAt middle) from (IsImage old.doubt) → Moments (LeftAt middle) (LeftAt now) beat (TurnsMayLeave (middle.seen ≡ []) source by home.entries (run_events input))
    → Moments (LeftAt old) (LeftAt now) from (RunMayLeave source by input old)
run_moments old middle now from beat source by input home is same forward opened served =
    moments_then (LeftAt old) (LeftAt middle) (LeftAt now) from beat (RunMayLeave source by input old) forward
    (moments_weaker (LeftAt old) (LeftAt middle) from (IsImage old.doubt) (RunMayLeave source by input old) (λ image left. inl left) opened)
    (moments_weaker (LeftAt middle) (LeftAt now) beat (TurnsMayLeave (middle.seen ≡ []) source by home.entries (run_events input)) (RunMayLeave source by input old)
    (λ image left. inr (
      home.entries,
      ap list_of (sym same) ∙ is.list,
      subst (λ (seen : List ℕ). TurnsMayLeave (seen ≡ []) source by home.entries (run_events input) image) same left,
    )) served)

-- the opening failed
pub opened_moments : (old now : DiskState) (from : ℕ) (source : Type 0) (by : Turn → Type 0) (input : List ℕ) → Moments (LeftAt old) (LeftAt now) from (IsImage old.doubt) → Moments (LeftAt old) (LeftAt now) from (RunMayLeave source by input old)
opened_moments old now from source by input opened = moments_weaker (LeftAt old) (LeftAt now) from (IsImage old.doubt) (RunMayLeave source by input old) (λ image left. inl left) opened

-- nothing was opened
pub untouched_moments : (old : DiskState) (from : ℕ) (source : Type 0) (by : Turn → Type 0) (input : List ℕ) → last_of old.calls ≤ from → Moments (LeftAt old) (LeftAt old) from (RunMayLeave source by input old)
untouched_moments old from source by input order = moments_none old old from (RunMayLeave source by input old) refl order (λ image left. inl left)
