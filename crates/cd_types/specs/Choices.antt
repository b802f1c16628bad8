-- Fields of one byte, each of which is the place of its value in a list of all values.
use Rattle.std.specs.Prelude.{ℕ, List, [], ◌∷◌, Bool, not, ◌==◌}
use Rattle.cd_types.specs.declared.choices.Hold.{Hold}
use Rattle.cd_types.specs.declared.choices.Hold.TheVariants as hold
use Rattle.cd_types.specs.declared.choices.Retain.{Retain}
use Rattle.cd_types.specs.declared.choices.Retain.TheVariants as retain
use Rattle.cd_types.specs.declared.choices.Queue.{Queue}
use Rattle.cd_types.specs.declared.choices.Queue.TheVariants as queue
use Rattle.cd_types.specs.declared.choices.Reason.{Reason}
use Rattle.cd_types.specs.declared.choices.Reason.TheVariants as reason
use Rattle.cd_types.specs.declared.choices.Cause.{Cause}
use Rattle.cd_types.specs.declared.choices.Cause.TheVariants as cause
use Rattle.cd_types.specs.declared.choices.Disp.{Disp}
use Rattle.cd_types.specs.declared.choices.Disp.TheVariants as disp
use Rattle.cd_types.specs.declared.choices.How.{How}
use Rattle.cd_types.specs.declared.choices.How.TheVariants as how
use Rattle.cd_types.specs.declared.choices.TaskKind.{TaskKind}
use Rattle.cd_types.specs.declared.choices.TaskKind.TheVariants as task_kind

-- no hold, held by the operator, held for a call
abbrev pub holds : List Hold
holds =
    hold.No ∷ hold.Yes ∷ hold.Call ∷ []

abbrev pub hold_code : Hold → ℕ
hold_code hold.No = 0
hold_code hold.Yes = 1
hold_code hold.Call = 2

-- not kept, kept, kept for each start
abbrev pub retains : List Retain
retains =
    retain.No ∷ retain.Yes ∷ retain.Initial ∷ []

abbrev pub retain_code : Retain → ℕ
retain_code retain.No = 0
retain_code retain.Yes = 1
retain_code retain.Initial = 2

-- the queues
abbrev pub queues : List Queue
queues =
    queue.Execution ∷ queue.Wait ∷ queue.Timer ∷ queue.Hold ∷ []

abbrev pub queue_code : Queue → ℕ
queue_code queue.Execution = 0
queue_code queue.Wait = 1
queue_code queue.Timer = 2
queue_code queue.Hold = 3

-- the reasons for a queue
abbrev pub reasons : List Reason
reasons =
    reason.None ∷ reason.Operator ∷ reason.Call ∷ reason.Retained ∷ reason.Start ∷ reason.Retry ∷ reason.NoConnect ∷ reason.UnknownNode ∷ reason.Rejected ∷ reason.Running ∷ []

abbrev pub reason_code : Reason → ℕ
reason_code reason.None = 0
reason_code reason.Operator = 1
reason_code reason.Call = 2
reason_code reason.Retained = 3
reason_code reason.Start = 4
reason_code reason.Retry = 5
reason_code reason.NoConnect = 6
reason_code reason.UnknownNode = 7
reason_code reason.Rejected = 8
reason_code reason.Running = 9

-- the causes of a code
abbrev pub causes : List Cause
causes =
    cause.None ∷ cause.Exists ∷ cause.InUse ∷ cause.NoSource ∷ cause.SourceChanged ∷ cause.Interrupted ∷ cause.NotStarted ∷ cause.Killed ∷ cause.SubmitText ∷ cause.SubmitFile ∷ cause.SubmitFull ∷ cause.SubmitNumbers ∷ cause.Released ∷ cause.TooLarge ∷ cause.SubmitNode ∷ cause.Trouble ∷ cause.SubmitStart ∷ []

abbrev pub cause_code : Cause → ℕ
cause_code cause.None = 0
cause_code cause.Exists = 1
cause_code cause.InUse = 2
cause_code cause.NoSource = 3
cause_code cause.SourceChanged = 4
cause_code cause.Interrupted = 5
cause_code cause.NotStarted = 6
cause_code cause.Killed = 7
cause_code cause.SubmitText = 8
cause_code cause.SubmitFile = 9
cause_code cause.SubmitFull = 10
cause_code cause.SubmitNumbers = 11
cause_code cause.Released = 12
cause_code cause.TooLarge = 13
cause_code cause.SubmitNode = 14
cause_code cause.Trouble = 15
cause_code cause.SubmitStart = 16

-- a cause that a result may have: Trouble is told to the partner and not kept
unfoldable pub is_kept : Cause → Bool
is_kept why = not (cause_code why == 15)

-- made, replaced, added to
abbrev pub disps : List Disp
disps =
    disp.New ∷ disp.Rpl ∷ disp.Mod ∷ []

abbrev pub disp_code : Disp → ℕ
disp_code disp.New = 0
disp_code disp.Rpl = 1
disp_code disp.Mod = 2

-- a task with restart, a task without, a job
abbrev pub task_kinds : List TaskKind
task_kinds =
    task_kind.Restart ∷ task_kind.Once ∷ task_kind.Job ∷ []

abbrev pub task_kind_code : TaskKind → ℕ
task_kind_code task_kind.Restart = 0
task_kind_code task_kind.Once = 1
task_kind_code task_kind.Job = 2

-- the ways in which a Process ends
abbrev pub hows : List How
hows = how.Finished ∷ how.Deleted ∷ how.Flushed ∷ []

abbrev pub how_code : How → ℕ
how_code how.Finished = 0
how_code how.Deleted = 1
how_code how.Flushed = 2
