-- What a run comes to where no device fails, and where its journal is none.
use Rattle.std.specs.Prelude.{◌≡◌, ◌⊎◌, ℕ, List, ◌++◌, map, All, false, if◌then◌else◌}
use Rattle.cd_entries.specs.declared.entry.Entry.{Entry}
use Rattle.cd_input.specs.Input.{Event}
use Rattle.cd_outside.specs.Shelf.{FileMap}
use Rattle.cd_submission.specs.Shown.{show}
use Rattle.cd_turn.specs.Order.{asked_in}
use Rattle.cd_turn.specs.Turn.{Turn, replies}
use Rattle.cd_turn.specs.declared.reply.Reply.{Reply}
use Rattle.cd_turn.specs.declared.status.Status.{Status}
use Rattle.cd_turn.specs.declared.status.Status.TheVariants.{Done, Refused, Unfit, DiskFault, NoMemory}
use Rattle.cd_cli.specs.Run.{run_events, texts, refused_after}
use Rattle.cd_cli.specs.Told.{GoesBy}

-- the turn of this, at this moment, where files hold this; of a drill, which adds nothing to the journal whatever it comes to, as if
-- there were no script
abbrev pub turn_at : ℕ → FileMap → Event → Turn
turn_at moment held event = record { now = moment; event = event; shown = show (asked_in held event) }

-- the turns of these events, at one moment
abbrev pub turns_at : ℕ → FileMap → List Event → List Turn
turns_at moment held brought = map (turn_at moment held) brought

-- whether the last command was refused
abbrev pub whole_status : List Reply → Status
whole_status given = if refused_after false given then Refused else Done

-- All of the input was done, by a turn for each of its events: each goes by what clock and files tell, of which none failed. The
-- output has the line of each reply, and the status tells how the last command went.
pub record IsWhole (moment : ℕ) (held : FileMap) (entries : List Entry) (input out out_now : List ℕ) (status : Status) : Type 0 where
  pub turns : List Turn
  pub events_are : map (λ turn. turn.event) turns ≡ run_events input
  pub told : All (GoesBy (Unit {0}) (Unit {0}) moment held ⊥) turns
  pub status_is : status ≡ whole_status (replies entries turns)
  pub out_is : out_now ≡ out ++ texts (replies entries turns)

-- memory ran out, or all of the input was done
abbrev pub Completes : ℕ → FileMap → List Entry → List ℕ → List ℕ → List ℕ → Status → Type 0
Completes moment held entries input out out_now status = (status ≡ NoMemory) ⊎ IsWhole moment held entries input out out_now status

-- the run was turned away: it tells a wrong place of the journal, or the disk failed, or memory ran out
abbrev pub TurnsAway : (ℕ → Type 0) → Type 0 → Status → Type 0
TurnsAway unfit disk (Unfit at) = unfit at
TurnsAway unfit disk DiskFault = disk
TurnsAway unfit disk NoMemory = Unit {0}
TurnsAway unfit disk _ = ⊥
