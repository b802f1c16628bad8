-- Sending a source, and taking the step that comes next.
use Rattle.std.specs.Prelude.{ℕ, ◌+◌, ◌-◌, List, [], ◌∷◌, length, ◌==◌, nat_le, Option, Some, None, if◌then◌else◌}
use Rattle.cd_types.specs.declared.choices.Cause.TheVariants as cause
use Rattle.cd_types.specs.declared.choices.How.TheVariants as how
use Rattle.cd_types.specs.declared.choices.Side.{Side}
use Rattle.cd_types.specs.declared.choices.Side.TheVariants as side
use Rattle.cd_types.specs.declared.key.Key.{Key}
use Rattle.cd_types.specs.declared.rows.Outcomes.{Outcomes}
use Rattle.cd_entries.specs.declared.entry.Entry.{Entry}
use Rattle.cd_entries.specs.declared.entry.Entry.TheVariants as entry
use Rattle.cd_ast.specs.declared.process.CopyStep.{CopyStep}
use Rattle.cd_ast.specs.declared.process.What.{What}
use Rattle.cd_ast.specs.declared.process.What.TheVariants as what
use Rattle.cd_frames.specs.Message as message
use Rattle.cd_rules.specs.Processes.{own_home}
use Rattle.cd_rules.specs.Status.{outcome}
use Rattle.cd_rules.specs.Legal.{greatest_file}
use Rattle.cd_rules.specs.Steps.{next_place, what_at}
use Rattle.cd_pieces.specs.Piece.{piece_end}
use Rattle.cd_protocol.specs.declared.session.SessionTerms.{SessionTerms}
use Rattle.cd_protocol.specs.declared.session.Source.{Source}
use Rattle.cd_protocol.specs.declared.session.Phase.{Phase}
use Rattle.cd_protocol.specs.declared.session.Phase.TheVariants.{Gone, Greet, Await, Ask, Ready, Send}
use Rattle.cd_protocol.specs.declared.session.Continuation.TheVariants.{Next, Push, Piece}
use Rattle.cd_protocol.specs.Node.{NodeView, Effect, Keep, Begin, Go, Reaction, only}
use Rattle.cd_protocol.specs.Closing.{close}

-- Sending.

-- after the last piece the PNODE awaits the Result, and the SNODE the next step
abbrev pub after_sending : Side → SessionTerms → Key → Source → Phase
after_sending side.Pnode terms key source = Await terms key (Some source)
after_sending side.Snode terms key source = Ready terms (Some key)

abbrev pub piece_len : SessionTerms → Source → ℕ → ℕ
piece_len terms source offset = piece_end source.length terms.block source.interval offset - offset

-- End, where all was sent; else the piece from the offset on
abbrev pub send_from : Side → SessionTerms → Key → Source → ℕ → Reaction
send_from role terms key source offset =
    if offset == source.length then only (Go (after_sending role terms key source) (message.End key source.length ∷ []) ∷ [])
    else record { effects = []; later = Piece role terms key source offset }

-- the piece that was read; a source that gave fewer bytes has changed
abbrev pub piece_read : Side → SessionTerms → Key → Source → ℕ → List ℕ → Reaction
piece_read role terms key source offset bytes =
    if length bytes == piece_len terms source offset
    then only (Go (Send role terms key source (offset + piece_len terms source offset)) (message.Data key offset bytes ∷ []) ∷ [])
    else only (Go (after_sending role terms key source) (message.Abort key cause.SourceChanged ∷ []) ∷ [])

-- The step that comes next.

abbrev pub interval_of : Option ℕ → ℕ
interval_of None = 0
interval_of (Some interval) = interval

-- a push goes with the length of its source; one whose source is missing or too large is given up in its place
abbrev pub push : SessionTerms → Key → CopyStep → Option ℕ → Reaction
push terms key step None = only (Go (Await terms key None) (message.Abort key cause.NoSource ∷ []) ∷ [])
push terms key step (Some len) =
    if nat_le len greatest_file
    then only (Go (Await terms key (Some (record { name = step.from; length = len; interval = interval_of step.ckpt }))) (message.StepCopyTo key step.to step.disp (interval_of step.ckpt) len ∷ []) ∷ [])
    else only (Go (Await terms key None) (message.Abort key cause.TooLarge ∷ []) ∷ [])

-- the source of a push was asked for its length
abbrev pub push_of : NodeView → ℕ → Phase → SessionTerms → Key → Option ℕ → Option What → Reaction
push_of view now phase terms key size (Some (what.Copy step)) = push terms key step size
push_of view now phase terms key size _ = only (close view now phase)

abbrev pub source_known : NodeView → ℕ → Phase → SessionTerms → Key → Option ℕ → Reaction
source_known view now phase terms key size = push_of view now phase terms key size (what_at view.config.read view.journal key.number key.place)

-- the partner is asked for the source of a pull
abbrev pub pull : SessionTerms → Key → CopyStep → Reaction
pull terms key step = only (Begin key (Ask terms key) ∷ Go (Ask terms key) (message.StepCopyFrom key step.from (interval_of step.ckpt) ∷ []) ∷ [])

abbrev pub copy : SessionTerms → Key → CopyStep → Reaction
copy terms key step = if step.push then record { effects = Begin key (Await terms key None) ∷ []; later = Push terms key } else pull terms key step

-- the Process is at the end of its statements
abbrev pub finish : ℕ → ℕ → ℕ → Reaction
finish now home n = only (Keep (entry.Closed n how.Finished now) ∷ Go Gone (message.Forget home n ∷ message.Bye ∷ []) ∷ [])

-- the step at the place that comes next. Steps that run or submit have no row yet
abbrev pub begin : NodeView → ℕ → Phase → SessionTerms → Key → Option What → Reaction
begin view now phase terms key None = finish now key.home key.number
begin view now phase terms key (Some (what.Copy step)) = copy terms key step
begin view now phase terms key _ = only (close view now phase)

abbrev pub ended_as : Key → Outcomes → ℕ → Entry
ended_as key o now = entry.Ended key.number key.place o.rc o.cause o.bytes now

-- a step whose outcome this node has ends with it, and then the next one comes
abbrev pub ended : SessionTerms → Key → Outcomes → ℕ → Reaction
ended terms key o now = record { effects = Keep (ended_as key o now) ∷ []; later = Next terms key.number }

abbrev pub step_at : NodeView → ℕ → Phase → SessionTerms → Key → Option Outcomes → Reaction
step_at view now phase terms key (Some o) = ended terms key o now
step_at view now phase terms key None = begin view now phase terms key (what_at view.config.read view.journal key.number key.place)

-- the key of a step at a place, where the node has a home; the end is the place behind the last of at most 1,024 statements
abbrev pub key_at : ℕ → ℕ → Option (List ℕ × ℕ) → Option Key
key_at n place None = None
key_at n place (Some own) = if nat_le place 1024 then Some (record { pnode = own.0; home = own.1; number = n; place = place }) else None

abbrev pub next_step : NodeView → ℕ → Phase → SessionTerms → Option Key → Reaction
next_step view now phase terms None = only (close view now phase)
next_step view now phase terms (Some key) = step_at view now phase terms key (outcome view.journal key)

-- take the step that comes next
abbrev pub next : NodeView → ℕ → Phase → SessionTerms → ℕ → Reaction
next view now phase terms n = next_step view now phase terms (key_at n (next_place view.config.read view.journal n) (own_home view.journal))

-- a step has its outcome: the SNODE answers it, and the PNODE records the step's end and takes the next step
abbrev pub settled : Side → SessionTerms → Key → Outcomes → Reaction
settled side.Snode terms key o = only (Go (Ready terms (Some key)) (message.Result key o ∷ []) ∷ [])
settled side.Pnode terms key o = record { effects = []; later = Next terms key.number }
