-- The words of a report.
use Rattle.std.specs.Prelude.{ℕ, List, [], codes, Option, Some, None}
use Rattle.cd_types.specs.declared.choices.Cause.{Cause}
use Rattle.cd_types.specs.declared.choices.Cause.TheVariants as cause
use Rattle.cd_types.specs.declared.choices.How.{How}
use Rattle.cd_types.specs.declared.choices.How.TheVariants as how
use Rattle.cd_types.specs.declared.choices.TaskKind.{TaskKind}
use Rattle.cd_types.specs.declared.choices.TaskKind.TheVariants as task
use Rattle.cd_ast.specs.declared.process.What.{What}
use Rattle.cd_ast.specs.declared.process.What.TheVariants as what

-- why a step ended so
abbrev pub cause_word : Cause → List ℕ
cause_word cause.None = codes "None"
cause_word cause.Exists = codes "Exists"
cause_word cause.InUse = codes "InUse"
cause_word cause.NoSource = codes "NoSource"
cause_word cause.SourceChanged = codes "SourceChanged"
cause_word cause.Interrupted = codes "Interrupted"
cause_word cause.NotStarted = codes "NotStarted"
cause_word cause.Killed = codes "Killed"
cause_word cause.SubmitText = codes "SubmitText"
cause_word cause.SubmitFile = codes "SubmitFile"
cause_word cause.SubmitFull = codes "SubmitFull"
cause_word cause.SubmitNumbers = codes "SubmitNumbers"
cause_word cause.Released = codes "Released"
cause_word cause.TooLarge = codes "TooLarge"
cause_word cause.SubmitNode = codes "SubmitNode"
cause_word cause.Trouble = codes "Trouble"
cause_word cause.SubmitStart = codes "SubmitStart"

-- how a Process ended
abbrev pub how_word : How → List ℕ
how_word how.Finished = codes "Finished"
how_word how.Deleted = codes "Deleted"
how_word how.Flushed = codes "Flushed"

-- what a step does
abbrev pub task_word : TaskKind → List ℕ
task_word task.Restart = codes "TASK"
task_word task.Once = codes "TASK"
task_word task.Job = codes "JOB"

-- a place without an action has no word
abbrev pub kind_word : Option What → List ℕ
kind_word None = []
kind_word (Some (what.Copy step)) = codes "COPY"
kind_word (Some (what.Task step)) = task_word step.kind
kind_word (Some (what.Submit step)) = codes "SUBMIT"
kind_word (Some (what.If label relation number)) = []
kind_word (Some what.Else) = []
kind_word (Some what.Eif) = []
kind_word (Some (what.Goto label)) = []
kind_word (Some what.Exit) = []
