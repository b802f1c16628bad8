-- How a run is ended within a stretch.
use Rattle.std.proofs.Common.{◌≡◌, ◌⊎◌, inl, inr, ⊎_elim, ℕ, ◌+◌, ◌-◌, ◌<◌, ◌≤◌, max, cond, ◌||◌, Bool, true, false, List, [], ◌∷◌, ◌++◌, length, map, take, Option, Some, None, option_to_list, Result, Ok, Err, refl, sym, ap, subst, ◌∙◌, append_assoc, arith}
use Rattle.std.specs.Prelude.{All}
use Rattle.std.specs.List.{list_any}
use Rattle.std.proofs.lemmas.List.Elements.{All-cons, All-nil, All-weaker}
use Rattle.cd_outside.specs.Disk.{DiskState, last_of, LeftAt}
use Rattle.cd_outside.specs.Doubt.{Doubt, IsImage}
use Rattle.cd_outside.specs.Moments.{Moments}
use Rattle.cd_outside.proofs.Runs.{doubt_now}
use Rattle.cd_entries.specs.declared.entry.Entry.{Entry}
use Rattle.cd_input.specs.Input.{Event, upto_first}
use Rattle.cd_turn.specs.Ends.{MayLeave, HasReason, TookAtEnd}
use Rattle.cd_turn.specs.Home.{IsJournal, HasKept}
use Rattle.cd_turn.specs.declared.order.Order.{Order}
use Rattle.cd_turn.specs.Reply.{reply_text}
use Rattle.cd_turn.specs.Turn.{Turn, order_in, answer, added, after_turns}
use Rattle.cd_turn.specs.declared.status.Status.{Status}
use Rattle.cd_turn.specs.declared.status.Status.TheVariants.{Done, Usage, Refused, Unfit, SourceFault, DiskFault, SinkFault, InputLimit, JournalFull, NoMemory}
use Rattle.cd_cli.specs.declared.flow.Flow.{Flow}
use Rattle.cd_cli.specs.declared.flow.Flow.TheVariants as flow
use Rattle.cd_cli.specs.declared.flow.Last.{Last}
use Rattle.cd_cli.specs.declared.flow.Last.TheVariants as last
use Rattle.cd_cli.specs.Flow.{was_refused, last_in, ends_in, status_after}
use Rattle.cd_turn.proofs.Homes.{leaves_none, kept_image}
use Rattle.cd_cli.specs.Run.{ends_run, HasCause, IfBetween, added_by, Keeps, line_of, Ran}
use Rattle.cd_cli.specs.Stretch.{Standing, standing, HaveTurned, Halted, Went, Closes, Finishes}
use Rattle.cd_cli.proofs.Turning.{turned_none, turned_since}

-- what a crash may leave behind a run of calls
pub keeps_behind : (before now : DiskState) (from : ℕ) (fresh : Type 0) (entries : List Entry) (entry : Option Entry) → Moments (LeftAt before) (LeftAt now) from (MayLeave fresh entries entry) → (image : List ℕ) → IsImage now.doubt image → MayLeave fresh entries entry image
keeps_behind before now from fresh entries entry moments image left =
    let beat = max (last_of now.calls) from + 1 in
    let later : last_of now.calls < beat = omega arith in
    let after : from < beat = omega arith in
    moments.later beat image after (subst (λ (d : Doubt). IsImage d image) (sym (doubt_now now.doubt now.calls beat later)) left)

-- what a crash may leave of what a journal has
pub keeps_kept : (fresh : Type 0) (entries : List Entry) (begun : Option Turn) (now : DiskState) → HasKept entries now → (image : List ℕ) → IsImage now.doubt image → Keeps fresh entries begun image
keeps_kept fresh entries begun now kept image left = leaves_none fresh entries (added_by entries begun) image (kept_image entries now image kept left)

keeps_fresh : (fresh fresh_then : Type 0) (entries : List Entry) (entry : Option Entry) (image : List ℕ) → (fresh_then → fresh) → MayLeave fresh_then entries entry image → MayLeave fresh entries entry image
keeps_fresh fresh fresh_then entries None image freshly left = left
keeps_fresh fresh fresh_then entries (Some e) image freshly left = ⊎_elim
    (λ (is : IsJournal entries image). inl is)
    (λ (more : IsJournal (entries ++ e ∷ []) image ⊎ (fresh_then × (entries ≡ []) × (length image ≤ 9))). ⊎_elim
    (λ (is : IsJournal (entries ++ e ∷ []) image). inr (inl is)) (λ (none : fresh_then × (entries ≡ []) × (length image ≤ 9)). inr (inr (freshly none.0, none.1, none.2))) more)
    left

cause_of : (told disk sink : Type 0) (entries : List Entry) (turn : Turn) (refused : Bool) (status : Status) → HasReason told disk sink entries (added entries turn.now (order_in turn)) status → HasCause told entries (Some turn) refused status
cause_of told disk sink entries turn refused Done why = absurd why
cause_of told disk sink entries turn refused Usage why = why
cause_of told disk sink entries turn refused Refused why = absurd why
cause_of told disk sink entries turn refused (Unfit at) why = why
cause_of told disk sink entries turn refused DiskFault why = why.1
cause_of told disk sink entries turn refused (JournalFull len) why = why
cause_of told disk sink entries turn refused SourceFault why = absurd why
cause_of told disk sink entries turn refused SinkFault why = why.1
cause_of told disk sink entries turn refused InputLimit why = absurd why
cause_of told disk sink entries turn refused NoMemory why = why

within_of : (told disk sink : Type 0) (entries : List Entry) (entry : Option Entry) (status : Status) → HasReason told disk sink entries entry status → IfBetween status ⊥
within_of told disk sink entries entry Done why = why
within_of told disk sink entries entry Usage why = tt
within_of told disk sink entries entry Refused why = why
within_of told disk sink entries entry (Unfit at) why = tt
within_of told disk sink entries entry DiskFault why = tt
within_of told disk sink entries entry (JournalFull len) why = tt
within_of told disk sink entries entry SourceFault why = why
within_of told disk sink entries entry SinkFault why = tt
within_of told disk sink entries entry InputLimit why = why
within_of told disk sink entries entry NoMemory why = tt

-- a run that is ended within a stretch isn't ended between two turns
pub between_cut : (P : Type 0) (status : Status) → IfBetween status ⊥ → IfBetween status P
between_cut P Done h = absurd h
between_cut P Usage h = tt
between_cut P Refused h = absurd h
between_cut P (Unfit at) h = tt
between_cut P DiskFault h = tt
between_cut P (JournalFull len) h = tt
between_cut P SourceFault h = absurd h
between_cut P SinkFault h = tt
between_cut P InputLimit h = absurd h
between_cut P NoMemory h = tt

-- the run was ended within the turn of what came to its end
pub halted_one : (fresh told disk sink rose : Type 0) (by : Turn → Type 0) (entries : List Entry) (out out_now : List ℕ) (was : Bool) (turn : Turn) (wanted : Order) (disk_now : DiskState) (status : Status)
    → wanted ≡ order_in turn → HasReason told disk rose entries (added entries turn.now wanted) status → (sink → TookAtEnd status (reply_text (answer entries wanted)) out out_now)
    → by turn → (told → status ≡ SinkFault → HasKept (entries ++ option_to_list (added entries turn.now wanted)) disk_now) → (told → (image : List ℕ) → IsImage disk_now.doubt image → MayLeave fresh entries (added entries turn.now wanted) image)
    → Halted fresh told sink by (standing entries out was) (turn.event ∷ []) disk_now out_now status
halted_one fresh told disk sink rose by entries out out_now was turn wanted disk_now status e why took at written keeps =
    record {
      done = [];
      middle = standing entries out was;
      turned = turned_none told sink by (standing entries out was);
      quiet = refl;
      begun = Some turn;
      told_is = All-cons by turn [] at (All-nil by);
      more = [];
      brought_is = refl;
      cause = cause_of told disk rose entries turn was status (subst (λ (c : Order). HasReason told disk rose entries (added entries turn.now c) status) e why);
      took = λ t. subst (λ (c : Order). TookAtEnd status (reply_text (answer entries c)) out out_now) e (took t);
      within = within_of told disk rose entries (added entries turn.now wanted) status why;
      written = λ t is. subst (λ (c : Order). HasKept (entries ++ option_to_list (added entries turn.now c)) disk_now) e (written t is);
      keeps = λ t image left. subst (λ (c : Order). MayLeave fresh entries (added entries turn.now c) image) e (keeps t image left);
    }

-- memory ran out between two turns
pub halted_none : (fresh told sink : Type 0) (by : Turn → Type 0) (entries : List Entry) (out : List ℕ) (was : Bool) (brought : List Event) (now : DiskState) → (told → HasKept entries now)
    → Halted fresh told sink by (standing entries out was) brought now out NoMemory
halted_none fresh told sink by entries out was brought now kept = record {
  done = [];
  middle = standing entries out was;
  turned = turned_none told sink by (standing entries out was);
  quiet = refl;
  begun = None;
  told_is = All-nil by;
  more = brought;
  brought_is = refl;
  cause = tt;
  took = λ t. refl;
  within = tt;
  written = λ t is. absurd cc;
  keeps = λ t image left. keeps_kept fresh entries None now (kept t) image left;
}

pub halted_since : (fresh fresh_then disk sink : Type 0) (by first : Turn → Type 0) (before : Standing) (brought : List Event) (now : DiskState) (out : List ℕ) (status : Status) → (disk → fresh_then → fresh) → ((turn : Turn) → by turn → first turn)
    → Halted fresh_then disk sink by before brought now out status → Halted fresh disk sink first before brought now out status
halted_since fresh fresh_then disk sink by first before brought now out status freshly same h = record {
  done = h.done;
  middle = h.middle;
  turned = turned_since disk sink by first before h.middle h.done same h.turned;
  quiet = h.quiet;
  begun = h.begun;
  told_is = All-weaker by first same (option_to_list h.begun) h.told_is;
  more = h.more;
  brought_is = h.brought_is;
  cause = h.cause;
  took = h.took;
  within = h.within;
  written = h.written;
  keeps = λ told image left. keeps_fresh fresh fresh_then h.middle.entries (added_by h.middle.entries h.begun) image (freshly told) (h.keeps told image left);
}

-- nothing came to its end
pub went_none : (disk sink : Type 0) (by : Turn → Type 0) (entries : List Entry) (out : List ℕ) (was : Last) (brought : List Event) → brought ≡ [] → Went disk sink by (standing entries out (was_refused was)) brought entries out (flow.Goes was)
went_none disk sink by entries out was brought none =
    subst (λ (es : List Event). Went disk sink by (standing entries out (was_refused was)) es entries out (flow.Goes was)) (sym none)
    (record { ends = refl; once = refl; turned = turned_none disk sink by (standing entries out (was_refused was)) })

-- a last turn was made
pub closes_after : (fresh disk sink : Type 0) (by : Turn → Type 0) (before : Standing) (brought : List Event) (entries : List Entry) (now : DiskState) (out : List ℕ) (was : Last)
    → HaveTurned disk sink by before brought (standing entries out (was_refused was)) → Closes fresh disk sink by before brought entries now out (status_after was)
closes_after fresh disk sink by before brought entries now out last.Done turned = turned
closes_after fresh disk sink by before brought entries now out last.Refused turned = turned

pub closes_halted : (fresh disk sink : Type 0) (by : Turn → Type 0) (before : Standing) (brought : List Event) (entries : List Entry) (now : DiskState) (out : List ℕ) (status : Status)
    → Halted fresh disk sink by before brought now out status → Closes fresh disk sink by before brought entries now out status
closes_halted fresh disk sink by before brought entries now out Done h = absurd h.within
closes_halted fresh disk sink by before brought entries now out Usage h = h
closes_halted fresh disk sink by before brought entries now out Refused h = absurd h.within
closes_halted fresh disk sink by before brought entries now out (Unfit at) h = h
closes_halted fresh disk sink by before brought entries now out DiskFault h = h
closes_halted fresh disk sink by before brought entries now out (JournalFull len) h = h
closes_halted fresh disk sink by before brought entries now out SourceFault h = h
closes_halted fresh disk sink by before brought entries now out SinkFault h = h
closes_halted fresh disk sink by before brought entries now out InputLimit h = h
closes_halted fresh disk sink by before brought entries now out NoMemory h = h

-- one event is done in any case
pub once_single : (e : Event) → upto_first ends_run (e ∷ []) ≡ e ∷ []
once_single e = by_test (ends_run e)
  where
    by_test : (t : Bool) → cond t (e ∷ []) (e ∷ []) ≡ e ∷ []
    by_test true = refl
    by_test false = refl

pub between_any : (P : Type 0) (status : Status) → P → IfBetween status P
between_any P Done h = h
between_any P Usage h = tt
between_any P Refused h = h
between_any P (Unfit at) h = tt
between_any P DiskFault h = tt
between_any P (JournalFull len) h = tt
between_any P SourceFault h = h
between_any P SinkFault h = tt
between_any P InputLimit h = h
between_any P NoMemory h = tt

-- what holds between two turns, and what follows from it
pub between_both : (P Q R : Type 0) (status : Status) → (P → Q → R) → IfBetween status P → IfBetween status Q → IfBetween status R
between_both P Q R Done step a b = step a b
between_both P Q R Usage step a b = tt
between_both P Q R Refused step a b = step a b
between_both P Q R (Unfit at) step a b = tt
between_both P Q R DiskFault step a b = tt
between_both P Q R (JournalFull len) step a b = tt
between_both P Q R SourceFault step a b = step a b
between_both P Q R SinkFault step a b = tt
between_both P Q R InputLimit step a b = step a b
between_both P Q R NoMemory step a b = tt

pub closes_since : (fresh fresh_then disk sink : Type 0) (by first : Turn → Type 0) (before : Standing) (brought : List Event) (entries : List Entry) (now : DiskState) (out : List ℕ) (status : Status) → (disk → fresh_then → fresh) → ((turn : Turn) → by turn → first turn)
    → Closes fresh_then disk sink by before brought entries now out status → Closes fresh disk sink first before brought entries now out status
closes_since fresh fresh_then disk sink by first before brought entries now out Done freshly same h = turned_since disk sink by first before (standing entries out false) brought same h
closes_since fresh fresh_then disk sink by first before brought entries now out Refused freshly same h = turned_since disk sink by first before (standing entries out true) brought same h
closes_since fresh fresh_then disk sink by first before brought entries now out Usage freshly same h = halted_since fresh fresh_then disk sink by first before brought now out Usage freshly same h
closes_since fresh fresh_then disk sink by first before brought entries now out (Unfit at) freshly same h = halted_since fresh fresh_then disk sink by first before brought now out (Unfit at) freshly same h
closes_since fresh fresh_then disk sink by first before brought entries now out DiskFault freshly same h = halted_since fresh fresh_then disk sink by first before brought now out DiskFault freshly same h
closes_since fresh fresh_then disk sink by first before brought entries now out (JournalFull len) freshly same h = halted_since fresh fresh_then disk sink by first before brought now out (JournalFull len) freshly same h
closes_since fresh fresh_then disk sink by first before brought entries now out SourceFault freshly same h = halted_since fresh fresh_then disk sink by first before brought now out SourceFault freshly same h
closes_since fresh fresh_then disk sink by first before brought entries now out SinkFault freshly same h = halted_since fresh fresh_then disk sink by first before brought now out SinkFault freshly same h
closes_since fresh fresh_then disk sink by first before brought entries now out InputLimit freshly same h = halted_since fresh fresh_then disk sink by first before brought now out InputLimit freshly same h
closes_since fresh fresh_then disk sink by first before brought entries now out NoMemory freshly same h = halted_since fresh fresh_then disk sink by first before brought now out NoMemory freshly same h

pub finishes_since : (fresh fresh_then disk sink : Type 0) (by first : Turn → Type 0) (before : Standing) (was : DiskState) (brought : List Event) (if_none : Status) (entries : List Entry) (now : DiskState) (out : List ℕ) (status : Status) → (disk → fresh_then → fresh) → ((turn : Turn) → by turn → first turn)
    → Finishes fresh_then disk sink by before was brought if_none entries now out status → Finishes fresh disk sink first before was brought if_none entries now out status
finishes_since fresh fresh_then disk sink by first before was [] if_none entries now out status freshly same h = h
finishes_since fresh fresh_then disk sink by first before was (e ∷ es) if_none entries now out status freshly same h = closes_since fresh fresh_then disk sink by first before (e ∷ es) entries now out status freshly same h

pub went_since : (disk sink : Type 0) (by first : Turn → Type 0) (before : Standing) (brought : List Event) (entries : List Entry) (out : List ℕ) (flow : Flow) → ((turn : Turn) → by turn → first turn)
    → Went disk sink by before brought entries out flow → Went disk sink first before brought entries out flow
went_since disk sink by first before brought entries out flow same h = record {
  ends = h.ends;
  once = h.once;
  turned = turned_since disk sink by first before (standing entries out (was_refused (last_in flow))) brought same h.turned;
}

-- that the journal had no bytes is said of the run's begin
pub ran_fresh : (fresh fresh_then disk source sink : Type 0) (by : Turn → Type 0) (entries : List Entry) (out input rest : List ℕ) (now : DiskState) (out_now : List ℕ) (status : Status) → (disk → fresh_then → fresh)
    → Ran fresh_then disk source sink by entries out input rest now out_now status → Ran fresh disk source sink by entries out input rest now out_now status
ran_fresh fresh fresh_then disk source sink by entries out input rest now out_now status freshly r = record {
  turns = r.turns;
  begun = r.begun;
  told = r.told;
  events = r.events;
  fits = r.fits;
  cause = r.cause;
  output = r.output;
  stands = r.stands;
  written = r.written;
  keeps = λ told image left. keeps_fresh fresh fresh_then (after_turns entries r.turns) (added_by (after_turns entries r.turns) r.begun) image (freshly told) (r.keeps told image left);
}
