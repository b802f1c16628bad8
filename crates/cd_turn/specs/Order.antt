-- What a command asks of the node, as far as commands are built today.
use Rattle.std.specs.Prelude.{◌≡◌, ℕ, ◌≤◌, List, length, Bool, true, ◌&&◌, is_none, Option, Some, None, Result, Ok, Err, if◌then◌else◌}
use Rattle.cd_types.specs.NodeName.{IsNodeName}
use Rattle.cd_ast.specs.Canonical.{canonical}
use Rattle.cd_ast.specs.declared.fault.FaultName.TheVariants.{TooLong, Unfinished, ScriptText}
use Rattle.cd_ast.specs.declared.process.Process.{Process}
use Rattle.cd_commands.specs.declared.command.Command.{Command}
use Rattle.cd_commands.specs.declared.command.Command.TheVariants as command
use Rattle.cd_commands.specs.declared.command.Options.{Options}
use Rattle.cd_submission.specs.Filing.{with_options, filed, default_interval, is_push}
use Rattle.cd_grammar.specs.Faults.{Says}
use Rattle.cd_commands.specs.Heard.{heard}
use Rattle.cd_commands.specs.declared.heard.Heard.{Heard}
use Rattle.cd_commands.specs.declared.heard.Heard.TheVariants as said
use Rattle.cd_input.specs.Input.{Event, Whole, TooLong as RoomSpent, Unfinished as CutOff}
use Rattle.cd_automaton.specs.Ranges.{is_card}
use Rattle.cd_outside.specs.Shelf.{FileMap}
use Rattle.cd_canonical.specs.Read.{canonical_reading}
use Rattle.cd_submission.specs.Reading.{process_in}
use Rattle.cd_submission.specs.declared.file.Shown.{Shown}
use Rattle.cd_submission.specs.declared.file.Shown.TheVariants.{Missing, Failed, Long, Text, Report, NoScript}
use Rattle.cd_submission.specs.declared.reading.Unread.{Unread}
use Rattle.cd_submission.specs.declared.reading.Unread.TheVariants.{NoFile, FileFault, Wrong}
use Rattle.cd_turn.specs.declared.order.Order.{Order}
use Rattle.cd_turn.specs.declared.order.Order.TheVariants as order

-- The options that are built: a partner, a class, and values of names. One that says a priority, a hold, what is retained or a
-- start isn't, whatever it says.
abbrev pub are_built : Options → Bool
are_built options = is_none options.prty && is_none options.hold && is_none options.retain && is_none options.start

-- the form in which a Process is kept that is built once the options are put in
abbrev pub kept_with : Options → Process → Option Process
kept_with options process = if is_push None (with_options options process) then Some (filed options process) else None

-- a submission of what is kept so; where nothing is, this
abbrev pub submitting : Order → Option Process → Order
submitting if_none None = if_none
submitting if_none (Some process) = order.Submit process

-- a submission of this Process: one that is built, with options that are, is kept with the options put in
abbrev pub submitted : Options → Process → Order
submitted options process = if are_built options then submitting order.NotBuilt (kept_with options process) else order.NotBuilt

-- a submission of the Process that a file says, with options that are built
abbrev pub submitted_from : Options → Result Process Unread → Order
submitted_from options (Ok process) = submitting order.SubmitNotBuilt (kept_with options process)
submitted_from options (Err why) = order.SubmitUnread why

-- a look at the Process that a file says, of whatever kind it is
abbrev pub viewed : Result Process Unread → Order
viewed (Ok process) = order.View process
viewed (Err why) = order.ViewUnread why

-- a drill of the script of this name, by what was shown of it; a Process's text is no script
abbrev pub drilled : List ℕ → Shown → Order
drilled name (Report report) = order.Report report
drilled name (NoScript at) = order.DrillUnread (Wrong ScriptText at)
drilled name Failed = order.DrillUnread FileFault
drilled name Missing = order.DrillUnread (NoFile name)
drilled name (Long len) = order.DrillUnread (NoFile name)
drilled name (Text text) = order.DrillUnread (NoFile name)

-- what a command asks, by what was shown of the file that it asks for
abbrev pub order_for : Command → Shown → Order
order_for (command.Init name home) shown = order.Init name home
order_for (command.SubmitText process options) shown = submitted options process
order_for (command.SubmitFile name options) shown = if are_built options then submitted_from options (process_in name options.symbols shown) else order.NotBuilt
order_for (command.View name symbols) shown = viewed (process_in name symbols shown)
order_for (command.Drill name) shown = drilled name shown
order_for command.Stop shown = order.Stop
order_for _ shown = order.NotBuilt

abbrev pub order_of : Heard → Shown → Order
order_of (said.Command c) shown = order_for c shown
order_of (said.Fault name at) shown = order.Wrong name at

-- the file for whose Process a command asks: a submission from a file with options that are built, and a look
abbrev pub file_for : Command → Option (List ℕ)
file_for (command.SubmitFile name options) = if are_built options then Some name else None
file_for (command.View name symbols) = Some name
file_for _ = None

abbrev pub file_of : Heard → Option (List ℕ)
file_of (said.Command c) = file_for c
file_of (said.Fault name at) = None

-- what came to its end in the input: a command, the room for one, or the input within a command or a comment
abbrev pub heard_in : Event → Heard
heard_in (Whole text) = heard text
heard_in RoomSpent = said.Fault TooLong 70000
heard_in CutOff = said.Fault Unfinished 0

-- what it asks of the node, where this was shown of the file for which it asks
abbrev pub told_by : Event → Shown → Order
told_by event shown = order_of (heard_in event) shown

-- the bytes of the file that is asked for, where one is and there is such a file
abbrev pub asked_of : FileMap → Option (List ℕ) → Option (List ℕ)
asked_of files None = None
asked_of files (Some name) = files name

-- what these files hold of the file for which it asks
abbrev pub asked_in : FileMap → Event → Option (List ℕ)
asked_in files event = asked_of files (file_of (heard_in event))

-- a Process that the journal can keep: its canonical text is read as it, and is short
pub record IsKept (process : Process) : Type 0 where
  pub push : is_push (Some default_interval) process ≡ true
  pub read : canonical_reading (canonical process) ≡ Some process
  pub card : is_card process.card ≡ true
  pub short : length (canonical process) ≤ 200000

-- the parts of an order are in their form
abbrev pub IsFormed : Order → Type 0
IsFormed (order.Wrong name at) = Unit {0}
IsFormed order.NotBuilt = Unit {0}
IsFormed (order.Init name home) = IsNodeName name
IsFormed (order.Submit process) = IsKept process
IsFormed order.SubmitNotBuilt = Unit {0}
IsFormed (order.SubmitUnread why) = Unit {0}
IsFormed (order.View process) = Unit {0}
IsFormed (order.ViewUnread why) = Unit {0}
IsFormed (order.Report report) = Unit {0}
IsFormed (order.DrillUnread why) = Unit {0}
IsFormed order.Stop = Unit {0}

-- a Process that a text says after substitution
pub record WasSaid (process : Process) : Type 0 where
  pub text : List ℕ
  pub overrides : List (List ℕ × List ℕ)
  pub says : Says text overrides process

-- the Process of a submission was said by a text
abbrev pub IsSaid : Command → Type 0
IsSaid (command.SubmitText process options) = WasSaid process
IsSaid _ = Unit {0}

abbrev pub WasHeard : Heard → Type 0
WasHeard (said.Command c) = IsSaid c
WasHeard (said.Fault name at) = Unit {0}

-- the Process that a file says, where it says one, was said by a text
abbrev pub WasRead : Result Process Unread → Type 0
WasRead (Ok process) = WasSaid process
WasRead (Err why) = Unit {0}
