-- What a journal says of a step. A journal is the list of its entries, the newest first.
use Rattle.std.specs.Prelude.{◌≡◌, ℕ, ◌+◌, List, [], ◌∷◌, Option, Some, None, if◌then◌else◌}
use Rattle.cd_types.specs.declared.choices.Cause.{Cause}
use Rattle.cd_types.specs.declared.choices.TaskKind.{TaskKind}
use Rattle.cd_types.specs.declared.key.Key.{Key}
use Rattle.cd_types.specs.declared.rows.Outcomes.{Outcomes}
use Rattle.cd_types.specs.declared.rows.Receiving.{Receiving}
use Rattle.cd_entries.specs.declared.entry.Entry.{Entry}
use Rattle.cd_entries.specs.declared.entry.Entry.TheVariants as entry
use Rattle.cd_rules.specs.Keys.{is_of}

-- how far a step is at the node that keeps its outcome
pub data Status : Type 0 where
  -- nothing is known of it
  Fresh : Status
  -- its command was started so often, the last time as such a task
  Started : ℕ → TaskKind → Status
  -- its file is being received, and is safe up to the mark
  Open : Receiving → ℕ → Status
  -- it has its outcome
  Done : Outcomes → Status

-- the outcome of a step whose file was dropped
abbrev pub dropped_outcome : ℕ → Cause → Outcomes
dropped_outcome rc cause = record { rc = rc; cause = cause; bytes = 0; made = 0 }

-- once more started, as such a task
abbrev pub once_more : TaskKind → Status → Status
once_more kind Fresh = Started 1 kind
once_more kind (Started tries last) = Started (tries + 1) kind
once_more kind (Open r mark) = Open r mark
once_more kind (Done outcome) = Done outcome

-- a file is being received, from its beginning
abbrev pub opened : Receiving → Status → Status
opened r (Done outcome) = Done outcome
opened r _ = Open r 0

-- the file is safe up to an offset
abbrev pub marked : ℕ → Status → Status
marked offset (Open r mark) = Open r offset
marked offset other = other

-- what an entry of the step's key makes of it
abbrev pub after : Entry → Status → Status
after (entry.Started step kind attempt moment) s = once_more kind s
after (entry.Receiving r) s = opened r s
after (entry.Mark step offset) s = marked offset s
after (entry.Result step outcomes moment) s = Done outcomes
after (entry.Dropped step rc cause moment) s = Done (dropped_outcome rc cause)
after _ s = s

-- the status of a step in a journal
unfoldable pub status : List Entry → Key → Status
status [] key = Fresh
status (e ∷ journal) key = if is_of key e then after e (status journal key) else status journal key

-- The single questions to a step.

-- the outcome of a step: the content of its Result, or of its Dropped with no bytes and no Process
abbrev pub outcome_at : Entry → Option Outcomes → Option Outcomes
outcome_at (entry.Result step outcomes moment) before = Some outcomes
outcome_at (entry.Dropped step rc cause moment) before = Some (dropped_outcome rc cause)
outcome_at _ before = before

unfoldable pub outcome : List Entry → Key → Option Outcomes
outcome [] key = None
outcome (e ∷ journal) key = if is_of key e then outcome_at e (outcome journal key) else outcome journal key

-- the mark of a step: the last Mark after its last Receiving, else 0
abbrev pub mark_at : Entry → ℕ → ℕ
mark_at (entry.Receiving r) before = 0
mark_at (entry.Mark step offset) before = offset
mark_at _ before = before

unfoldable pub mark : List Entry → Key → ℕ
mark [] key = 0
mark (e ∷ journal) key = if is_of key e then mark_at e (mark journal key) else mark journal key

-- the last Receiving of a step
abbrev pub receiving_at : Entry → Option Receiving → Option Receiving
receiving_at (entry.Receiving r) before = Some r
receiving_at _ before = before

unfoldable pub last_receiving : List Entry → Key → Option Receiving
last_receiving [] key = None
last_receiving (e ∷ journal) key = if is_of key e then receiving_at e (last_receiving journal key) else last_receiving journal key

-- how often a step was started: its Started entries
abbrev pub starts_at : Entry → ℕ → ℕ
starts_at (entry.Started step kind attempt moment) before = before + 1
starts_at _ before = before

unfoldable pub starts : List Entry → Key → ℕ
starts [] key = 0
starts (e ∷ journal) key = if is_of key e then starts_at e (starts journal key) else starts journal key

-- What the status tells of these questions.

-- the outcome, where there is one
abbrev pub done_with : Status → Option Outcomes
done_with (Done outcome) = Some outcome
done_with _ = None

-- the last Receiving and the mark while a file is being received; the number of starts where none is and there is no outcome
abbrev pub Says : Status → Option Receiving → ℕ → ℕ → Type 0
Says Fresh last mark tries = tries ≡ 0
Says (Started times kind) last mark tries = tries ≡ times
Says (Open r offset) last mark tries = (last ≡ Some r) × (mark ≡ offset)
Says (Done o) last mark tries = Unit {0}
