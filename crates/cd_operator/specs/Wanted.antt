-- What a command asks of a node: the entry that is to be recorded, and what is answered then; or why it is refused.
use Rattle.std.specs.Prelude.{ℕ, ◌+◌, List, length, ◌&&◌, nat_le, None, Result, Ok, Err, if◌then◌else◌}
use Rattle.std.specs.List.{list_all}
use Rattle.cd_types.specs.declared.card.Filed.{Filed}
use Rattle.cd_ast.specs.Canonical.{canonical}
use Rattle.cd_ast.specs.declared.process.Process.{Process}
use Rattle.cd_commands.specs.declared.command.Command.{Command}
use Rattle.cd_commands.specs.declared.command.Command.TheVariants as command
use Rattle.cd_commands.specs.declared.command.Options.{Options}
use Rattle.cd_entries.specs.declared.entry.Entry.{Entry}
use Rattle.cd_entries.specs.declared.entry.Entry.TheVariants as entry
use Rattle.cd_submission.specs.Filing.{filed}
use Rattle.cd_rules.specs.Processes.{submitted, live_numbers}
use Rattle.cd_rules.specs.Legal.{is_empty}
use Rattle.cd_operator.specs.Filing.{is_built, may_wait, filed_as}
use Rattle.cd_operator.specs.declared.reply.Refused.{Refused}
use Rattle.cd_operator.specs.declared.reply.Refused.TheVariants as refused
use Rattle.cd_operator.specs.declared.reply.Reply.TheVariants as reply
use Rattle.cd_operator.specs.declared.wanted.Recording.{Recording}

-- the number of the next Process, or why there is none
abbrev pub next_number : List Entry → Result ℕ Refused
next_number entries =
    if nat_le 4096 (length (live_numbers entries)) then Err refused.Full
    else if nat_le 99999 (submitted entries) then Err refused.NumbersSpent else Ok (submitted entries + 1)

-- the entry of a submission
abbrev pub filing_of : ℕ → ℕ → Filed → Process → Entry
filing_of n now card process = entry.Submitted n now None card (canonical process)

-- the Process is filed with this card, under this number
abbrev pub numbered_so : ℕ → Filed → Process → Result ℕ Refused → Result Recording Refused
numbered_so now card process (Err why) = Err why
numbered_so now card process (Ok n) = Ok (record { answer = reply.Submitted n; adds = filing_of n now card process })

abbrev pub filed_so : ℕ → List Entry → Process → Result Filed Refused → Result Recording Refused
filed_so now entries process (Err why) = Err why
filed_so now entries process (Ok card) = numbered_so now card process (next_number entries)

-- A submission, with the options in place of what the Process says: a node has a home for it, the Process has a partner, and a number is
-- left. Its statements are of the kinds that a node runs, and it waits for nothing but its turn, or for the operator; others aren't done.
abbrev pub at_home : ℕ → List Entry → Process → Result Recording Refused
at_home now entries process = if is_empty entries then Err refused.NotHome else filed_so now entries process (filed_as process.name process.card)

abbrev pub submission_of : ℕ → List Entry → Process → Options → Result Recording Refused
submission_of now entries process options =
    if list_all (λ s. is_built s.what) process.stmts && may_wait (filed options process).card then at_home now entries (filed options process) else Err refused.NotYet

-- a node gets its name and its home once
abbrev pub naming_of : List Entry → List ℕ → ℕ → Result Recording Refused
naming_of entries name home = if is_empty entries then Ok (record { answer = reply.Home name home; adds = entry.Home name home }) else Err refused.AlreadyHome

-- the other commands aren't done yet
abbrev pub wanted : ℕ → List Entry → Command → Result Recording Refused
wanted now entries (command.Init name home) = naming_of entries name home
wanted now entries (command.SubmitText process options) = submission_of now entries process options
wanted now entries c = Err refused.NotYet
