-- What a session knows of its Process and its step, and what its end records.
use Rattle.std.specs.Prelude.{ℕ, List, [], ◌∷◌, ◌++◌, Bool, ◌&&◌, nat_lt, Option, Some, None, if◌then◌else◌}
use Rattle.cd_types.specs.declared.choices.Cause.TheVariants as cause
use Rattle.cd_types.specs.declared.choices.Side.TheVariants as side
use Rattle.cd_types.specs.declared.key.Key.{Key}
use Rattle.cd_types.specs.declared.rows.Placing.{Placing}
use Rattle.cd_entries.specs.declared.entry.Entry.TheVariants as entry
use Rattle.cd_frames.specs.Message as message
use Rattle.cd_frames.specs.Message.{Message}
use Rattle.cd_rules.specs.Processes.{Submission, submission, is_live}
use Rattle.cd_rules.specs.Queue.{Waits, placing, queue_at, runs_in, retried}
use Rattle.cd_protocol.specs.declared.session.Phase.{Phase}
use Rattle.cd_protocol.specs.declared.session.Phase.TheVariants.{Gone, Greet, Await, Ask, Fresh, Ready, Offer, Send, Take}
use Rattle.cd_protocol.specs.Node.{NodeView, Effect, Keep, Go}

-- What a session knows.

-- the Process of a session of the PNODE
abbrev pub own_number : Phase → Option ℕ
own_number (Greet n) = Some n
own_number (Await terms key source) = Some key.number
own_number (Ask terms key) = Some key.number
own_number (Send side.Pnode terms key source awaited) = Some key.number
own_number (Take side.Pnode terms key came) = Some key.number
own_number _ = None

-- the key under way: that of the last step
abbrev pub key_under_way : Phase → Option Key
key_under_way (Await terms key source) = Some key
key_under_way (Ask terms key) = Some key
key_under_way (Ready terms key) = key
key_under_way (Offer terms key source) = Some key
key_under_way (Send role terms key source awaited) = Some key
key_under_way (Take role terms key came) = Some key
key_under_way _ = None

-- The end of a session.

-- a session that is lost while its Process runs counts as a failed connection: the Process is placed anew where it is live
-- and stands in Wait or Execution
abbrev pub is_running : ℕ → Placing → Bool
is_running now placed = runs_in (queue_at now placed)

-- the short and the long wait, and how often each is tried, where the netmap doesn't say
abbrev pub default_waits : Waits
default_waits = record { short = 30; short_attempts = 6; long = 600; long_attempts = 6 }

abbrev pub waits_or_default : Option Waits → Waits
waits_or_default None = default_waits
waits_or_default (Some waits) = waits

abbrev pub waits_for : NodeView → Option Submission → Waits
waits_for view None = default_waits
waits_for view (Some s) = waits_or_default (view.config.partner s.card.snode)

abbrev pub retry : NodeView → ℕ → ℕ → Option Placing → List Effect
retry view now n None = []
retry view now n (Some placed) =
    if is_live view.journal n && is_running now placed
    then Keep (entry.Placed n (retried (waits_for view (submission view.journal n)) now placed) now) ∷ []
    else []

abbrev pub retry_own : NodeView → ℕ → Option ℕ → List Effect
retry_own view now None = []
retry_own view now (Some n) = retry view now n (placing view.journal n)

-- the session is closed, or lost
abbrev pub close : NodeView → ℕ → Phase → List Effect
close view now phase = retry_own view now (own_number phase) ++ Go Gone [] ∷ []

-- a file couldn't be asked or changed: the partner is told, and then the session is lost
abbrev pub trouble_for : Option Key → List Message
trouble_for None = []
trouble_for (Some key) = if nat_lt key.place 1024 then message.Abort key cause.Trouble ∷ [] else []

abbrev pub trouble : NodeView → ℕ → Phase → List Effect
trouble view now phase = Go phase (trouble_for (key_under_way phase)) ∷ close view now phase
