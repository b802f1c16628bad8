-- How the run goes on after a command.
use Rattle.std.specs.Prelude.{Bool, true, false}
use Rattle.cd_cli.specs.declared.flow.Last.{Last}
use Rattle.cd_cli.specs.declared.flow.Last.TheVariants as last
use Rattle.cd_cli.specs.declared.flow.Flow.{Flow}
use Rattle.cd_cli.specs.declared.flow.Flow.TheVariants as flow
use Rattle.cd_input.specs.Input.{Event, Whole, TooLong, Unfinished}
use Rattle.cd_turn.specs.declared.reply.Reply.{Reply}
use Rattle.cd_turn.specs.declared.reply.Reply.TheVariants as reply
use Rattle.cd_turn.specs.declared.status.Status.{Status}
use Rattle.cd_turn.specs.declared.status.Status.TheVariants as status

-- the last command was refused
abbrev pub was_refused : Last → Bool
was_refused last.Done = false
was_refused last.Refused = true

abbrev pub last_in : Flow → Last
last_in (flow.Goes was) = was
last_in (flow.Ends was) = was

-- the run ends
abbrev pub ends_in : Flow → Bool
ends_in (flow.Goes was) = false
ends_in (flow.Ends was) = true

-- the answer `stopped` ends the run, and so does a command that is too long or cut off
abbrev pub ends_by : Event → Reply → Bool
ends_by (Whole text) reply.Stopped = true
ends_by (Whole text) (reply.Home name home) = false
ends_by (Whole text) (reply.Submitted number) = false
ends_by (Whole text) (reply.Viewed seen) = false
ends_by (Whole text) (reply.Reported report) = false
ends_by (Whole text) (reply.Refused refusal) = false
ends_by TooLong given = true
ends_by Unfinished given = true

-- the status of a run that came to its end
abbrev pub status_after : Last → Status
status_after last.Done = status.Done
status_after last.Refused = status.Refused
