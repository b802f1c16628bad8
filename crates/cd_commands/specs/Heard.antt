-- What the text of a command says, as a function.
use Rattle.std.specs.Prelude.{ℕ, ◌-◌, List, length, Option, Some, None, Result, Ok, Err, if◌then◌else◌}
use Rattle.cd_ast.specs.declared.fault.FaultName.TheVariants.{Word, RetainStart}
use Rattle.cd_ast.specs.declared.process.Process.{Process}
use Rattle.cd_grammar.specs.Later.{Found}
use Rattle.cd_commands.specs.declared.command.Command.TheVariants.{SubmitText}
use Rattle.cd_commands.specs.declared.given.Given.{Given}
use Rattle.cd_commands.specs.Given.{options_of}
use Rattle.cd_commands.specs.Machine.{Said, Whole, Text, Leaves}
use Rattle.cd_commands.specs.Seen.{lead}
use Rattle.cd_commands.specs.Commands.{told, left_behind, process_text, is_doubly_started, Left, Wrong}
use Rattle.cd_commands.specs.Commands as commands
use Rattle.cd_commands.specs.declared.heard.Heard.{Heard}
use Rattle.cd_commands.specs.declared.heard.Heard.TheVariants.{Command, Fault}
use Rattle.cd_commands.specs.Texts.{read_as}

-- a fault of a command as it is told: where it is left, its words are at fault
abbrev pub fault_of : commands.Fault → Found
fault_of (Left at) = (Word, at)
fault_of (Wrong f) = f

-- a fault at its place
abbrev pub faulty : Found → Heard
faulty f = Fault f.0 f.1

-- a Process with options, which together don't start it at each start of its node and at a moment too
abbrev pub once : Given → Process → Heard
once given process = if is_doubly_started given process then faulty (RetainStart, 0) else Command (SubmitText process (options_of given))

-- a submission behind which the command is left, if it is; so many bytes stand before the command
abbrev pub ended : ℕ → Option ℕ → Heard → Heard
ended before None submission = submission
ended before (Some at) submission = faulty (Word, at - before)

-- A submission of what a Process text says. The text's own fault goes first, then what stands behind it, and last a start that is
-- one too many.
abbrev pub submitted : ℕ → Given → Option ℕ → Result Process Found → Heard
submitted before given left (Ok process) = ended before left (once given process)
submitted before given left (Err f) = faulty f

-- what a text says, by what its tokens say
abbrev pub heard_by : List ℕ → Said → Heard
heard_by text (Whole command) = Command command
heard_by text (Text given at rest) = submitted (lead text) given (left_behind (length text) rest) (read_as (process_text text at rest) given.symbols)
heard_by text (Leaves at) = faulty (Word, at - lead text)

-- what the text of a command says: a command, or its first fault, at its place
unfoldable pub heard : List ℕ → Heard
heard text = heard_by text (told text)
