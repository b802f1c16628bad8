-- What a node does with what happens in a session: for each phase, the reaction of a row for each frame, and then what comes
-- behind it. A frame that has no row closes the session.
use Rattle.std.specs.Prelude.{ℕ, zero, suc, List, [], ◌∷◌, ◌++◌, length, min, Bool, true, false, not, ◌&&◌, ◌||◌, ◌==◌, nat_le, nat_lt, Option, Some, None, if◌then◌else◌}
use Rattle.std.specs.List.{filter_map, list_all}
use Rattle.std.specs.Str.{bytes_eq}
use Rattle.cd_types.specs.Choices.{is_kept}
use Rattle.cd_types.specs.FileName.{is_file_name}
use Rattle.cd_types.specs.declared.choices.Cause.{Cause}
use Rattle.cd_types.specs.declared.choices.Cause.TheVariants as cause
use Rattle.cd_types.specs.declared.choices.Queue.{Queue}
use Rattle.cd_types.specs.declared.choices.Queue.TheVariants as queue
use Rattle.cd_types.specs.declared.choices.Reason.{Reason}
use Rattle.cd_types.specs.declared.choices.Reason.TheVariants as reason
use Rattle.cd_types.specs.declared.choices.Side.{Side}
use Rattle.cd_types.specs.declared.choices.Side.TheVariants as side
use Rattle.cd_types.specs.declared.key.Key.{Key}
use Rattle.cd_types.specs.declared.rows.Outcomes.{Outcomes}
use Rattle.cd_types.specs.declared.rows.Placing.{Placing}
use Rattle.cd_types.specs.declared.rows.Receiving.{Receiving}
use Rattle.cd_types.specs.declared.rows.Row.{Row}
use Rattle.cd_entries.specs.declared.entry.Entry.{Entry}
use Rattle.cd_entries.specs.declared.entry.Entry.TheVariants as entry
use Rattle.cd_ast.specs.declared.process.What.{What}
use Rattle.cd_ast.specs.declared.process.What.TheVariants as what
use Rattle.cd_frames.specs.Frame.{is_block, is_piece, is_abort}
use Rattle.cd_frames.specs.Message as message
use Rattle.cd_frames.specs.Message.{Message}
use Rattle.cd_frames.specs.declared.frame.Hello.{Hello}
use Rattle.cd_frames.specs.declared.frame.RejectCause.TheVariants as reject
use Rattle.cd_frames.specs.declared.frame.Welcome.{Welcome}
use Rattle.cd_rules.specs.Keys.{same_key}
use Rattle.cd_rules.specs.Openings.{is_receiving_for}
use Rattle.cd_rules.specs.Processes.{Submission, submission, own_home, is_live, moment_of, is_forgotten, is_over}
use Rattle.cd_rules.specs.Queue.{Waits, placing, stands, retried, next_due}
use Rattle.cd_rules.specs.Status as status
use Rattle.cd_rules.specs.Status.{Status, outcome}
use Rattle.cd_rules.specs.Legal.{allowed, greatest_file}
use Rattle.cd_rules.specs.Steps.{Reading, what_at}
use Rattle.cd_protocol.specs.declared.session.SessionTerms.{SessionTerms}
use Rattle.cd_protocol.specs.declared.session.Source.{Source}
use Rattle.cd_protocol.specs.declared.session.Announced.{Announced}
use Rattle.cd_protocol.specs.declared.session.Phase.{Phase}
use Rattle.cd_protocol.specs.declared.session.Phase.TheVariants.{Gone, Greet, Await, Ask, Fresh, Ready, Offer, Send, Take}
use Rattle.cd_protocol.specs.declared.session.Continuation.{Continuation}
use Rattle.cd_protocol.specs.declared.session.Continuation.TheVariants.{Done, Next, Undo, Push, Offered, Onto, Piece}
use Rattle.cd_protocol.specs.Node.{NodeView, Sessions, Node, Effect, Keep, Touch, AskSize, AskBytes, Begin, Go, Reaction, only, behind, does, recorded, Answers}
use Rattle.cd_protocol.specs.Closing.{own_number, key_under_way, is_running, close, trouble}
use Rattle.cd_protocol.specs.Sending.{send_from, piece_read, piece_len, interval_of, source_known, ended, next}
use Rattle.cd_protocol.specs.Receiving.{undone, given_up, receive, target_known, is_piece_at, take_piece, land, drop_back, gives_up}

-- A reaction whose entry may not follow, or whose frames aren't in their form, closes the session, before any of its effects.

-- it isn't of a later moment
abbrev pub is_by : ℕ → Option ℕ → Bool
is_by now None = true
is_by now (Some moment) = nat_le moment now

-- it can be written: a place is one of 1,024, a file has a name of its form, a cause is one that is recorded, and a moment is one
unfoldable pub is_formed : Entry → Bool
is_formed (entry.Home name home) = true
is_formed (entry.Submitted number moment origin card text) = true
is_formed (entry.Placed number placed moment) = nat_lt placed.due 250000000000
is_formed (entry.Started step kind attempt moment) = nat_lt step.place 1024
is_formed (entry.Receiving r) = nat_lt r.key.place 1024 && is_file_name r.name
is_formed (entry.Mark step offset) = nat_lt step.place 1024
is_formed (entry.Result step o moment) = nat_lt step.place 1024 && is_kept o.cause
is_formed (entry.Ended number place rc why bytes moment) = nat_lt place 1024 && is_kept why
is_formed (entry.Closed number how moment) = true
is_formed (entry.Forgot name home number) = true
is_formed (entry.Dropped step rc why moment) = nat_lt step.place 1024 && is_kept why

-- a frame that a row sends is in its form too: a place is one of 1,024, a file has a name of its form, a block and a piece have 1
-- to 65,536 bytes, and a cause is one that is told so. No row sends the others yet.
unfoldable pub is_sendable : Message → Bool
is_sendable (message.Hello greeting) = is_block greeting.block
is_sendable (message.Welcome greeting) = is_block greeting.block
is_sendable (message.Reject why) = false
is_sendable (message.StepCopyTo step name disp interval len) = nat_lt step.place 1024 && is_file_name name
is_sendable (message.StepCopyFrom step name interval) = nat_lt step.place 1024 && is_file_name name
is_sendable (message.StepTask step kind command) = false
is_sendable (message.StepSubmit step name snode prty symbols) = false
is_sendable (message.Ready step offset) = nat_lt step.place 1024
is_sendable (message.Length step len) = nat_lt step.place 1024
is_sendable (message.Data step offset bytes) = nat_lt step.place 1024 && is_piece bytes
is_sendable (message.Ack step offset) = nat_lt step.place 1024
is_sendable (message.End step len) = nat_lt step.place 1024
is_sendable (message.Result step o) = nat_lt step.place 1024 && is_kept o.cause
is_sendable (message.Abort step why) = nat_lt step.place 1024 && is_abort why
is_sendable (message.Forget home n) = true
is_sendable message.Bye = true

-- it may follow the journal at this moment, and is in its form
abbrev pub may_record : Reading → ℕ → List Entry → Entry → Bool
may_record read now journal e = allowed read journal e && is_by now (moment_of e) && is_formed e

-- each entry may follow those before it, at this moment, and each frame is in its form
abbrev pub are_allowed : Reading → ℕ → List Entry → List Effect → Bool
are_allowed read now journal [] = true
are_allowed read now journal (Keep e ∷ effects) = may_record read now journal e && are_allowed read now (e ∷ journal) effects
are_allowed read now journal (Touch change ∷ effects) = are_allowed read now journal effects
are_allowed read now journal (AskSize name ∷ effects) = are_allowed read now journal effects
are_allowed read now journal (AskBytes name at len ∷ effects) = are_allowed read now journal effects
are_allowed read now journal (Begin key phase ∷ effects) = are_allowed read now journal effects
are_allowed read now journal (Go phase frames ∷ effects) = list_all is_sendable frames && are_allowed read now journal effects

abbrev pub checked : NodeView → ℕ → Phase → Reaction → Reaction
checked view now phase reaction = if are_allowed view.config.read now view.journal reaction.effects then reaction else only (close view now phase)

-- The PNODE.

-- the Process stands in another queue from now on, with its priority
abbrev pub place_in : ℕ → ℕ → Queue → Reason → Placing → Entry
place_in n now in_queue why before = entry.Placed n (stands in_queue why before.prty) now

-- the session of the PNODE: its keys have the name and home of this node, and the number of the Process
abbrev pub own_terms : List ℕ × ℕ → ℕ → ℕ → Welcome → SessionTerms
own_terms own n block w = record { pnode = own.0; home = own.1; number = Some n; block = min w.block block }

-- the partner isn't the one that was called, or doesn't take the session: the Process is held wherever it stands
abbrev pub held : NodeView → ℕ → ℕ → Option Placing → List Effect
held view now n None = []
held view now n (Some placed) = if is_live view.journal n then Keep (place_in n now queue.Hold reason.Rejected placed) ∷ [] else []

abbrev pub rejected : NodeView → ℕ → ℕ → Reaction
rejected view now n = only (held view now n (placing view.journal n) ++ Go Gone [] ∷ [])

abbrev pub is_called : Option Submission → List ℕ → Bool
is_called None name = false
is_called (Some s) name = bytes_eq name s.card.snode

-- the Process runs, and its next step is taken
abbrev pub run : NodeView → ℕ → ℕ → Welcome → Option Placing → Option (List ℕ × ℕ) → Reaction
run view now n w (Some placed) (Some own) =
    if is_running now placed
    then record { effects = Keep (place_in n now queue.Execution reason.Running placed) ∷ []; later = Next (own_terms own n view.config.block w) n }
    else only (close view now (Greet n))
run view now n w _ _ = only (close view now (Greet n))

abbrev pub row_greet : NodeView → ℕ → ℕ → Message → Reaction
row_greet view now n (message.Welcome w) =
    if is_called (submission view.journal n) w.name then run view now n w (placing view.journal n) (own_home view.journal) else rejected view now n
row_greet view now n (message.Reject (reject.Busy total)) = only (close view now (Greet n))
row_greet view now n (message.Reject _) = rejected view now n
row_greet view now n _ = only (close view now (Greet n))

-- a source is sent, or sent anew, from an offset within its length
abbrev pub ready_from : NodeView → ℕ → Phase → Side → SessionTerms → Key → Option Source → ℕ → Reaction
ready_from view now phase role terms key None offset = only (close view now phase)
ready_from view now phase role terms key (Some source) offset =
    if nat_le offset source.length then send_from role terms key source offset else only (close view now phase)

abbrev pub row_await : NodeView → ℕ → Phase → SessionTerms → Key → Option Source → Message → Reaction
row_await view now phase terms key source (message.Ready step offset) =
    if same_key step key then ready_from view now phase side.Pnode terms key source offset else only (close view now phase)
row_await view now phase terms key source (message.Result step o) =
    if same_key step key then ended terms key o now else only (close view now phase)
row_await view now phase terms key source _ = only (close view now phase)

-- what a pull is to become, by its statement
abbrev pub announced_by : Option What → ℕ → Option Announced
announced_by (Some (what.Copy step)) len = Some (record { name = step.to; disp = step.disp; interval = interval_of step.ckpt; length = len })
announced_by _ len = None

abbrev pub receive_announced : NodeView → ℕ → Phase → SessionTerms → Key → Option Announced → Reaction
receive_announced view now phase terms key None = only (close view now phase)
receive_announced view now phase terms key (Some a) = receive view now phase side.Pnode terms key a

abbrev pub row_ask : NodeView → ℕ → Phase → SessionTerms → Key → Message → Reaction
row_ask view now phase terms key (message.Length step len) =
    if same_key step key then receive_announced view now phase terms key (announced_by (what_at view.config.read view.journal key.number key.place) len) else only (close view now phase)
row_ask view now phase terms key (message.Abort step why) =
    if same_key step key && gives_up why then given_up side.Pnode terms key why now (status.status view.journal key) else only (close view now phase)
row_ask view now phase terms key _ = only (close view now phase)

-- Both sides.

-- the next piece goes out on the Ack of the last one
abbrev pub row_send : NodeView → ℕ → Phase → Side → SessionTerms → Key → Source → ℕ → Message → Reaction
row_send view now phase role terms key source awaited (message.Ack step offset) =
    if same_key step key && offset == awaited then send_from role terms key source offset else only (close view now phase)
row_send view now phase role terms key source awaited _ = only (close view now phase)

abbrev pub row_take_of : NodeView → ℕ → Phase → Side → SessionTerms → Receiving → ℕ → Message → Reaction
row_take_of view now phase role terms r came (message.Data step offset bytes) =
    if same_key step r.key && is_piece_at terms r came offset (length bytes) then take_piece role terms r came bytes else only (close view now phase)
row_take_of view now phase role terms r came (message.End step len) =
    if same_key step r.key && len == r.length && came == r.length then land role terms r now else only (close view now phase)
row_take_of view now phase role terms r came (message.Abort step why) =
    if same_key step r.key && gives_up why then drop_back role terms r.key why else only (close view now phase)
row_take_of view now phase role terms r came _ = only (close view now phase)

abbrev pub row_take : NodeView → ℕ → Phase → Side → SessionTerms → ℕ → Message → Status → Reaction
row_take view now phase role terms came m (status.Open r safe) = row_take_of view now phase role terms r came m
row_take view now phase role terms came m _ = only (close view now phase)

-- The SNODE.

-- each Hello is welcomed, with the node's own block; the lesser of the two is that of the session
abbrev pub welcome : Option (List ℕ × ℕ) → ℕ → Hello → Reaction
welcome None block h = only (Go Gone [] ∷ [])
welcome (Some own) block h =
    only (Go (Ready (record { pnode = h.name; home = h.home; number = None; block = min h.block block }) None)
    (message.Welcome (record { name = own.0; home = own.1; block = block }) ∷ []) ∷ [])

abbrev pub row_fresh : NodeView → ℕ → Message → Reaction
row_fresh view now (message.Hello h) = welcome (own_home view.journal) view.config.block h
row_fresh view now _ = only (close view now Fresh)

-- a session has one number, which its first Step or Forget tells
abbrev pub is_number_of : Option ℕ → ℕ → Bool
is_number_of None n = true
is_number_of (Some own) n = n == own

abbrev pub is_of_terms : SessionTerms → Key → Bool
is_of_terms terms key = bytes_eq key.pnode terms.pnode && key.home == terms.home && is_number_of terms.number key.number

abbrev pub with_number : ℕ → SessionTerms → SessionTerms
with_number n terms = record terms { number = Some n }

-- a newer session holds the key, and is open with it
abbrev pub is_same_key : Key → Option Key → Bool
is_same_key key None = false
is_same_key key (Some other) = same_key key other

abbrev pub is_newer : Sessions → ℕ → Key → Option ℕ → Bool
is_newer sessions sid key None = false
is_newer sessions sid key (Some other) = nat_lt sid other && is_same_key key (key_under_way (sessions.phase other))

-- a step that is done is answered as it was done
abbrev pub answered : SessionTerms → Key → Outcomes → Reaction
answered terms key o = only (Go (Ready terms (Some key)) (message.Result key o ∷ []) ∷ [])

-- another one does its row
abbrev pub unless_done : NodeView → ℕ → SessionTerms → Key → Option Outcomes → Reaction → Reaction
unless_done view now terms key None reaction = checked view now (Ready terms (Some key)) reaction
unless_done view now terms key (Some o) reaction = answered terms key o

-- A step is taken where its key is of the session and isn't forgotten, and no newer session holds the key. It takes the key
-- from an older session, also where its row closes the session.
abbrev pub take_step : NodeView → Sessions → ℕ → ℕ → Phase → SessionTerms → Key → Reaction → Reaction
take_step view sessions now sid phase terms key reaction =
    if is_of_terms terms key && not (is_over view.journal key) && not (is_newer sessions sid key (sessions.holder key))
    then behind (Begin key (Ready (with_number key.number terms) (Some key))) (unless_done view now (with_number key.number terms) key (outcome view.journal key) reaction)
    else only (close view now phase)

-- the source was asked for its length, which goes out; or Abort where it is missing or too large
abbrev pub offered : SessionTerms → Key → List ℕ → ℕ → Option ℕ → Reaction
offered terms key name interval None = only (Go (Ready terms (Some key)) (message.Abort key cause.NoSource ∷ []) ∷ [])
offered terms key name interval (Some len) =
    if nat_le len greatest_file
    then only (Go (Offer terms key (record { name = name; length = len; interval = interval })) (message.Length key len ∷ []) ∷ [])
    else only (Go (Ready terms (Some key)) (message.Abort key cause.TooLarge ∷ []) ∷ [])

-- the PNODE's Process is over: nothing more is asked of its steps, which is recorded once
abbrev pub forget : NodeView → SessionTerms → Option Key → ℕ → Reaction
forget view terms last n =
    only ((if is_forgotten view.journal terms.pnode terms.home n then [] else Keep (entry.Forgot terms.pnode terms.home n) ∷ []) ++ Go (Ready (with_number n terms) last) [] ∷ [])

-- a push that its PNODE gives up in the place of its step
abbrev pub is_in_place : Cause → Bool
is_in_place cause.NoSource = true
is_in_place cause.TooLarge = true
is_in_place _ = false

abbrev pub row_ready : NodeView → Sessions → ℕ → ℕ → Phase → SessionTerms → Option Key → Message → Reaction
row_ready view sessions now sid phase terms last (message.StepCopyTo key name disp interval len) =
    take_step view sessions now sid phase terms key
    (receive view now (Ready (with_number key.number terms) (Some key)) side.Snode (with_number key.number terms) key (record { name = name; disp = disp; interval = interval; length = len }))
row_ready view sessions now sid phase terms last (message.StepCopyFrom key name interval) =
    take_step view sessions now sid phase terms key (record { effects = []; later = Offered (with_number key.number terms) key name interval })
row_ready view sessions now sid phase terms last (message.Abort key why) =
    if is_in_place why
    then take_step view sessions now sid phase terms key (given_up side.Snode (with_number key.number terms) key why now (status.status view.journal key))
    else only (close view now phase)
row_ready view sessions now sid phase terms last (message.Forget home n) =
    if home == terms.home && is_number_of terms.number n && not (is_receiving_for view.journal terms.pnode home n) then forget view terms last n else only (close view now phase)
row_ready view sessions now sid phase terms last message.Bye = only (Go Gone [] ∷ [])
row_ready view sessions now sid phase terms last _ = only (close view now phase)

-- where a length was announced, Ready begins the sending; all else is as where a step is awaited
abbrev pub row_offer : NodeView → Sessions → ℕ → ℕ → Phase → SessionTerms → Key → Source → Message → Reaction
row_offer view sessions now sid phase terms key source (message.Ready step offset) =
    if same_key step key then ready_from view now phase side.Snode terms key (Some source) offset else only (close view now phase)
row_offer view sessions now sid phase terms key source m = row_ready view sessions now sid phase terms (Some key) m

-- What happens.

-- the reaction for a frame in a phase
abbrev pub reaction_in : NodeView → Sessions → ℕ → ℕ → Message → Phase → Reaction
reaction_in view sessions now sid m Gone = only (Go Gone [] ∷ [])
reaction_in view sessions now sid m (Greet n) = row_greet view now n m
reaction_in view sessions now sid m (Await terms key source) = row_await view now (Await terms key source) terms key source m
reaction_in view sessions now sid m (Ask terms key) = row_ask view now (Ask terms key) terms key m
reaction_in view sessions now sid m Fresh = row_fresh view now m
reaction_in view sessions now sid m (Ready terms last) = row_ready view sessions now sid (Ready terms last) terms last m
reaction_in view sessions now sid m (Offer terms key source) = row_offer view sessions now sid (Offer terms key source) terms key source m
reaction_in view sessions now sid m (Send role terms key source awaited) = row_send view now (Send role terms key source awaited) role terms key source awaited m
reaction_in view sessions now sid m (Take role terms key came) = row_take view now (Take role terms key came) role terms came m (status.status view.journal key)

-- the Process of the session isn't live any more
abbrev pub is_dead : NodeView → Option ℕ → Bool
is_dead view None = false
is_dead view (Some n) = not (is_live view.journal n)

-- the key under way was taken from the session
abbrev pub is_sid : ℕ → Option ℕ → Bool
is_sid sid None = false
is_sid sid (Some other) = sid == other

abbrev pub is_detached : Sessions → ℕ → Option Key → Bool
is_detached sessions sid None = false
is_detached sessions sid (Some key) = not (is_sid sid (sessions.holder key))

-- the first part of the row of a frame
abbrev pub first_reaction : NodeView → Sessions → ℕ → ℕ → Message → Reaction
first_reaction view sessions now sid m =
    let phase = sessions.phase sid in
    if is_dead view (own_number phase) || is_detached sessions sid (key_under_way phase) then only (close view now phase)
    else checked view now phase (reaction_in view sessions now sid m phase)

-- what comes behind a reaction, in the phase that the session has then
abbrev pub reaction_behind : NodeView → ℕ → Phase → Answers → Continuation → Reaction
reaction_behind view now phase answers Done = only []
reaction_behind view now phase answers (Next terms n) = next view now phase terms n
reaction_behind view now phase answers (Undo role terms key why) = undone view now phase role terms key why (status.status view.journal key)
reaction_behind view now phase answers (Push terms key) = source_known view now phase terms key answers.source
reaction_behind view now phase answers (Offered terms key name interval) = offered terms key name interval answers.source
reaction_behind view now phase answers (Onto role terms key a) = target_known role terms key a now answers.there
reaction_behind view now phase answers (Piece role terms key source offset) = piece_read role terms key source offset answers.bytes

-- the source of a push, by its statement
abbrev pub source_in : Option What → List ℕ
source_in (Some (what.Copy step)) = step.from
source_in _ = []

-- what is asked of the files before it
abbrev pub asked : NodeView → Continuation → List Effect
asked view Done = []
asked view (Next terms n) = []
asked view (Undo role terms key why) = []
asked view (Push terms key) = AskSize (source_in (what_at view.config.read view.journal key.number key.place)) ∷ []
asked view (Offered terms key name interval) = AskSize name ∷ []
asked view (Onto role terms key a) = AskSize a.name ∷ []
asked view (Piece role terms key source offset) = AskBytes source.name offset (piece_len terms source offset) ∷ []

-- a reaction and all that comes behind it, in at most so many more reactions
abbrev pub is_done : Continuation → Bool
is_done Done = true
is_done _ = false

unfoldable pub all_reactions : ℕ → Node → ℕ → Answers → Reaction → List Effect
all_reactions zero node sid answers reaction = reaction.effects
all_reactions (suc more) node sid answers reaction =
    let after = does sid reaction.effects node in
    let phase = after.sessions.phase sid in
    reaction.effects ++ (if is_done reaction.later then []
    else asked after.view reaction.later ++ all_reactions more after sid answers (checked after.view answers.now phase (reaction_behind after.view answers.now phase answers reaction.later)))

-- A row has a reaction for each of at most 1,024 steps that have their outcome already, and few others.
abbrev pub most_reactions : ℕ
most_reactions = 1030

-- a frame of a session
abbrev pub row : Node → ℕ → Answers → Message → List Effect
row node sid answers m = all_reactions most_reactions node sid answers (first_reaction node.view node.sessions answers.now sid m)

-- the end of a session, or a frame that is none
abbrev pub row_end : Node → ℕ → ℕ → List Effect
row_end node sid now = close node.view now (node.sessions.phase sid)

-- a fault of the files, behind the effects that were done before it
abbrev pub row_trouble : Node → ℕ → ℕ → List Effect
row_trouble node sid now = trouble node.view now (node.sessions.phase sid)

-- a session of another node that was accepted
abbrev pub row_accept : List Effect
row_accept = Go Fresh [] ∷ []

-- The choice of the next Process, and its session.

-- the numbers of Processes with an open session are busy
abbrev pub busy : Sessions → List ℕ
busy sessions = filter_map (λ sid. own_number (sessions.phase sid)) sessions.sids

-- a session that is new
abbrev pub opened : ℕ → Node → Node
opened sid node = record node { sessions = record node.sessions { sids = node.sessions.sids ++ sid ∷ [] } }

abbrev pub hello : Option (List ℕ × ℕ) → ℕ → List Message
hello None block = []
hello (Some own) block = message.Hello (record { name = own.0; home = own.1; version = 1; block = block }) ∷ []

-- the partner was connected, or it wasn't
abbrev pub connect : NodeView → ℕ → Row → Waits → Bool → List Effect
connect view now chosen waits true = Go (Greet chosen.number) (hello (own_home view.journal) view.config.block) ∷ []
connect view now chosen waits false = Keep (entry.Placed chosen.number (retried waits now chosen.placing) now) ∷ []

-- a partner that the node can't call: the Process is held
abbrev pub call : NodeView → ℕ → Bool → Row → Option Waits → List Effect
call view now connected chosen None = Keep (place_in chosen.number now queue.Hold reason.UnknownNode chosen.placing) ∷ []
call view now connected chosen (Some waits) = connect view now chosen waits connected

-- nothing where none is due
abbrev pub row_chosen : NodeView → ℕ → Bool → Option Row → List Effect
row_chosen view now connected None = []
row_chosen view now connected (Some chosen) = call view now connected chosen (view.config.partner chosen.snode)

abbrev pub row_choose : Node → ℕ → Bool → List Effect
row_choose node now connected = row_chosen node.view now connected (next_due node.view.journal now (busy node.sessions))
