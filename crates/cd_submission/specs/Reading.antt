-- The Process that a file says.
use Rattle.std.specs.Prelude.{ℕ, List, Result, Ok, Err}
use Rattle.cd_ast.specs.declared.fault.FaultName.TheVariants.{TooLong}
use Rattle.cd_ast.specs.declared.process.Process.{Process}
use Rattle.cd_grammar.specs.Later.{Found}
use Rattle.cd_commands.specs.Texts.{read_as}
use Rattle.cd_submission.specs.declared.file.Shown.{Shown}
use Rattle.cd_submission.specs.declared.file.Shown.TheVariants.{Missing, Failed, Long, Text, Report, NoScript}
use Rattle.cd_submission.specs.declared.reading.Unread.{Unread}
use Rattle.cd_submission.specs.declared.reading.Unread.TheVariants.{NoFile, FileFault, Wrong}

-- what was read of a text
abbrev pub of_text : Result Process Found → Result Process Unread
of_text (Ok process) = Ok process
of_text (Err f) = Err (Wrong f.0 f.1)

-- The Process that the file of this name says with these values of names, by what was shown of it, or why it says none.
abbrev pub process_in : List ℕ → List (List ℕ × List ℕ) → Shown → Result Process Unread
process_in name symbols Missing = Err (NoFile name)
process_in name symbols Failed = Err FileFault
process_in name symbols (Long len) = Err (Wrong TooLong len)
process_in name symbols (Text text) = of_text (read_as text symbols)
-- what a drill came to is no Process
process_in name symbols (Report report) = Err (NoFile name)
process_in name symbols (NoScript at) = Err (NoFile name)
