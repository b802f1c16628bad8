-- Which commands a script may not have.
use Rattle.std.specs.Prelude.{ℕ, List, Bool, true, false}
use Rattle.cd_commands.specs.declared.command.Command.{Command}
use Rattle.cd_commands.specs.declared.command.Command.TheVariants as command
use Rattle.cd_commands.specs.Commands.{told}
use Rattle.cd_commands.specs.Machine.{Said, Whole, Text, Leaves}

-- it makes a home, runs sessions or a script, or ends the run
abbrev pub is_kept : Command → Bool
is_kept (command.Init name home) = true
is_kept (command.SubmitFile file options) = false
is_kept (command.SubmitText process options) = false
is_kept (command.View file symbols) = false
is_kept (command.SelectProcess number queue) = false
is_kept (command.Change number prty hold release) = false
is_kept (command.Delete number) = false
is_kept (command.Flush number) = false
is_kept (command.SelectStatistics number) = false
is_kept (command.ReleaseReceive file) = false
is_kept (command.Work sessions turns) = true
is_kept (command.Serve sessions together turns) = true
is_kept (command.Drill file) = true
is_kept (command.Generate seed count) = true
is_kept command.Stop = true

abbrev pub is_kept_in : Said → Bool
is_kept_in (Whole c) = is_kept c
is_kept_in (Text given at rest) = false
is_kept_in (Leaves at) = false

-- the text is such a command
unfoldable pub is_reserved : List ℕ → Bool
is_reserved text = is_kept_in (told text)
