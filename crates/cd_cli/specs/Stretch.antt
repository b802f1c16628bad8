-- How a stretch of a run goes on.
use Rattle.std.specs.Prelude.{◌≡◌, ℕ, List, [], ◌∷◌, ◌++◌, map, All, Bool, true, false, Option, option_to_list}
use Rattle.std.specs.List.{list_any}
use Rattle.cd_outside.specs.Disk.{DiskState}
use Rattle.cd_outside.specs.Doubt.{IsImage}
use Rattle.cd_entries.specs.declared.entry.Entry.{Entry}
use Rattle.cd_input.specs.Input.{Event, upto_first}
use Rattle.cd_turn.specs.Ends.{TookAtEnd}
use Rattle.cd_turn.specs.Home.{HasKept}
use Rattle.cd_turn.specs.Turn.{Turn, after_turns, replies}
use Rattle.cd_turn.specs.declared.status.Status.{Status}
use Rattle.cd_turn.specs.declared.status.Status.TheVariants.{Done, Usage, Refused, Unfit, SourceFault, DiskFault, SinkFault, InputLimit, JournalFull, NoMemory}
use Rattle.cd_cli.specs.declared.flow.Flow.{Flow}
use Rattle.cd_cli.specs.Flow.{was_refused, last_in, ends_in}
use Rattle.cd_cli.specs.Run.{ends_run, texts, refused_after, EachFits, line_of, HasCause, IfBetween, Keeps}

-- where a run stands: the entries of its home, what the output took, and whether the last command was refused
pub record Standing : Type 0 where
  pub entries : List Entry
  pub out : List ℕ
  pub refused : Bool

abbrev pub standing : List Entry → List ℕ → Bool → Standing
standing entries out refused = record { entries = entries; out = out; refused = refused }

-- Turns of these events were made, one after the other, each by what clock and files tell.
pub record HaveTurned (disk sink : Type 0) (by : Turn → Type 0) (before : Standing) (done : List Event) (after : Standing) : Type 0 where
  pub turns : List Turn
  pub events_are : map (λ turn. turn.event) turns ≡ done
  pub told_are : All by turns
  pub entries_are : after.entries ≡ after_turns before.entries turns
  pub refused_is : after.refused ≡ refused_after before.refused (replies before.entries turns)
  pub out_is : sink → after.out ≡ before.out ++ texts (replies before.entries turns)
  pub fits : disk → EachFits before.entries turns

-- Turns of some of these events were made, in order, and then the run was ended, maybe within the next turn.
pub record Halted (fresh disk sink : Type 0) (by : Turn → Type 0) (before : Standing) (brought : List Event) (now : DiskState) (out : List ℕ) (status : Status) : Type 0 where
  pub done : List Event
  pub middle : Standing
  pub turned : HaveTurned disk sink by before done middle
  pub quiet : list_any ends_run done ≡ false
  pub begun : Option Turn
  pub told_is : All by (option_to_list begun)
  pub more : List Event
  pub brought_is : brought ≡ done ++ (map (λ turn. turn.event) (option_to_list begun) ++ more)
  pub cause : HasCause disk middle.entries begun middle.refused status
  pub took : sink → TookAtEnd status (line_of middle.entries begun) middle.out out
  pub within : IfBetween status ⊥
  pub written : disk → status ≡ SinkFault → HasKept (after_turns middle.entries (option_to_list begun)) now
  pub keeps : disk → (image : List ℕ) → IsImage now.doubt image → Keeps fresh middle.entries begun image

-- all of these were done, and the run goes on unless one of them ends it
pub record Went (disk sink : Type 0) (by : Turn → Type 0) (before : Standing) (brought : List Event) (entries : List Entry) (out : List ℕ) (flow : Flow) : Type 0 where
  pub ends : ends_in flow ≡ list_any ends_run brought
  pub once : upto_first ends_run brought ≡ brought
  pub turned : HaveTurned disk sink by before brought (standing entries out (was_refused (last_in flow)))

-- these were all that was left to do
abbrev pub Closes : (fresh disk sink : Type 0) → (Turn → Type 0) → Standing → List Event → List Entry → DiskState → List ℕ → Status → Type 0
Closes fresh disk sink by before brought entries now out Done = HaveTurned disk sink by before brought (standing entries out false)
Closes fresh disk sink by before brought entries now out Refused = HaveTurned disk sink by before brought (standing entries out true)
Closes fresh disk sink by before brought entries now out status = Halted fresh disk sink by before brought now out status

-- What is left to do is none or one of these: where there is none, nothing was done and this status was given.
abbrev pub Finishes : (fresh disk sink : Type 0) → (Turn → Type 0) → Standing → DiskState → List Event → Status → List Entry → DiskState → List ℕ → Status → Type 0
Finishes fresh disk sink by before was [] if_none entries now out status = (status ≡ if_none) × (entries ≡ before.entries) × (out ≡ before.out) × (now ≡ was)
Finishes fresh disk sink by before was (event ∷ more) if_none entries now out status = Closes fresh disk sink by before (event ∷ more) entries now out status
