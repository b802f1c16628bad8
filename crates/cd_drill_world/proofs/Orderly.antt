-- A session that a row closes neither goes on nor sends in that row any more.
use Rattle.std.proofs.Common.{◌≡◌, ℕ, zero, suc, ◌+◌, Bool, true, false, cond, ◌&&◌, ◌||◌, eqb, leb, List, [], ◌∷◌, ◌++◌, length, Option, Some, None, refl, sym, subst}
use Rattle.std.specs.Prelude.{not}
use Rattle.std.proofs.lemmas.List.{append-nil}
use Rattle.cd_types.specs.declared.choices.Cause.{Cause}
use Rattle.cd_types.specs.declared.choices.Cause.TheVariants as cause
use Rattle.cd_types.specs.declared.choices.Side.{Side}
use Rattle.cd_types.specs.declared.choices.Side.TheVariants as side
use Rattle.cd_types.specs.declared.key.Key.{Key}
use Rattle.cd_types.specs.declared.rows.Outcomes.{Outcomes}
use Rattle.cd_types.specs.declared.rows.Placing.{Placing}
use Rattle.cd_types.specs.declared.rows.Receiving.{Receiving}
use Rattle.cd_entries.specs.declared.entry.Entry.{Entry}
use Rattle.cd_entries.specs.declared.entry.Entry.TheVariants as entry
use Rattle.cd_ast.specs.declared.process.CopyStep.{CopyStep}
use Rattle.cd_ast.specs.declared.process.What.{What}
use Rattle.cd_ast.specs.declared.process.What.TheVariants as what
use Rattle.cd_frames.specs.Message as message
use Rattle.cd_frames.specs.Message.{Message}
use Rattle.cd_frames.specs.declared.frame.Hello.{Hello}
use Rattle.cd_frames.specs.declared.frame.RejectCause.TheVariants as reject
use Rattle.cd_frames.specs.declared.frame.Welcome.{Welcome}
use Rattle.cd_outside.specs.Shelf as shelves
use Rattle.cd_rules.specs.Keys.{same_key}
use Rattle.cd_rules.specs.Openings.{is_in_use, is_receiving_for}
use Rattle.cd_rules.specs.Processes.{submission, own_home, is_live, is_forgotten, is_over}
use Rattle.cd_rules.specs.Queue.{placing}
use Rattle.cd_rules.specs.Status as status
use Rattle.cd_rules.specs.Status.{Status, outcome}
use Rattle.cd_rules.specs.Legal.{greatest_file}
use Rattle.cd_rules.specs.Steps.{next_place, what_at}
use Rattle.cd_protocol.specs.declared.session.SessionTerms.{SessionTerms}
use Rattle.cd_protocol.specs.declared.session.Source.{Source}
use Rattle.cd_protocol.specs.declared.session.Announced.{Announced}
use Rattle.cd_protocol.specs.declared.session.Phase.{Phase}
use Rattle.cd_protocol.specs.declared.session.Phase.TheVariants.{Gone, Greet, Await, Ask, Fresh, Ready, Offer, Send, Take}
use Rattle.cd_protocol.specs.declared.session.Continuation.{Continuation}
use Rattle.cd_protocol.specs.declared.session.Continuation.TheVariants.{Done, Next, Undo, Push, Offered, Onto, Piece}
use Rattle.cd_protocol.specs.Node.{NodeView, Sessions, Node, Effect, Keep, Touch, AskSize, AskBytes, Begin, Go, Reaction, only, behind, does, Answers}
use Rattle.cd_protocol.specs.Closing.{own_number, key_under_way, is_running, close, retry, retry_own}
use Rattle.cd_protocol.specs.Receiving.{undone, given_up, receive, receive_from, receive_again, receive_first, is_same_receiving, target_known, is_piece_at, take_piece, land, drop_back, gives_up, answer, failed, is_new, is_there, kept_base}
use Rattle.cd_protocol.specs.Rows.{checked, held, rejected, is_called, run, row_greet, ready_from, row_await, announced_by, receive_announced, row_ask, row_send, row_take_of, row_take, welcome, row_fresh, is_of_terms, is_newer, with_number, unless_done, take_step, offered, forget, is_in_place, row_ready, row_offer, reaction_in, is_dead, is_detached, first_reaction, reaction_behind, asked, is_done, all_reactions, most_reactions, row, is_number_of, are_allowed}
use Rattle.cd_protocol.specs.Sending.{send_from, piece_read, piece_len, push, push_of, begin, ended, next_step, key_at, step_at}
use Rattle.cd_world.specs.World.{is_gone}

-- nothing is done in a session that is gone
abbrev pub orderly : Bool → List Effect → Bool
orderly gone [] = true
orderly gone (Keep e ∷ effects) = orderly gone effects
orderly gone (Touch change ∷ effects) = orderly gone effects
orderly gone (AskSize name ∷ effects) = orderly gone effects
orderly gone (AskBytes name at len ∷ effects) = orderly gone effects
orderly gone (Begin key phase ∷ effects) = not gone && orderly gone effects
orderly gone (Go phase frames ∷ effects) = not gone && orderly (is_gone phase) effects

-- the session doesn't go on yet
abbrev still : List Effect → Bool
still [] = true
still (Keep e ∷ effects) = still effects
still (Touch change ∷ effects) = still effects
still (AskSize name ∷ effects) = still effects
still (AskBytes name at len ∷ effects) = still effects
still (Begin key phase ∷ effects) = still effects
still (Go phase frames ∷ effects) = false

-- a reaction goes on at its end only, where nothing comes behind it
abbrev fits_so : Bool → List Effect → Bool
fits_so true effects = orderly false effects
fits_so false effects = still effects

abbrev Fits : Reaction → Type 0
Fits reaction = fits_so (is_done reaction.later) reaction.effects ≡ true

either : (b : Bool) (p q : Reaction) → Fits p → Fits q → Fits (cond b p q)
either true p q one other = one
either false p q one other = other

still_then : (first second : List Effect) → still first ≡ true → orderly false second ≡ true → orderly false (first ++ second) ≡ true
still_then [] second one two = two
still_then (Keep e ∷ first) second one two = still_then first second one two
still_then (Touch change ∷ first) second one two = still_then first second one two
still_then (AskSize name ∷ first) second one two = still_then first second one two
still_then (AskBytes name at len ∷ first) second one two = still_then first second one two
still_then (Begin key phase ∷ first) second one two = still_then first second one two
still_then (Go phase frames ∷ first) second one two = absurd cc

-- Ends of sessions.

placed_gone : (b : Bool) (e : Entry) → orderly false (cond b (Keep e ∷ []) [] ++ Go Gone [] ∷ []) ≡ true
placed_gone true e = refl
placed_gone false e = refl

retry_gone : (view : NodeView) (now n : ℕ) (found : Option Placing) → orderly false (retry view now n found ++ Go Gone [] ∷ []) ≡ true
retry_gone view now n None = refl
retry_gone view now n (Some placed) = placed_gone (is_live view.journal n && is_running now placed) _

own_gone : (view : NodeView) (now : ℕ) (number : Option ℕ) → orderly false (retry_own view now number ++ Go Gone [] ∷ []) ≡ true
own_gone view now None = refl
own_gone view now (Some n) = retry_gone view now n (placing view.journal n)

pub close_orderly : (view : NodeView) (now : ℕ) (phase : Phase) → orderly false (close view now phase) ≡ true
close_orderly view now phase = own_gone view now (own_number phase)

-- Reactions.

module _ (view : NodeView) (now : ℕ) where
  closed : (phase : Phase) → Fits (only (close view now phase))
  closed phase = close_orderly view now phase

  checked_fits : (phase : Phase) (reaction : Reaction) → Fits reaction → Fits (checked view now phase reaction)
  checked_fits phase reaction fits = either (are_allowed view.config.read now view.journal reaction.effects) reaction _ fits (closed phase)

  answer_fits : (role : Side) (terms : SessionTerms) (key : Key) (o : Outcomes) → Fits (answer role terms key o now)
  answer_fits side.Snode terms key o = refl
  answer_fits side.Pnode terms key o = refl

  undone_fits : (phase : Phase) (role : Side) (terms : SessionTerms) (key : Key) (why : Cause) (s : Status) → Fits (undone view now phase role terms key why s)
  undone_fits phase side.Snode terms key why (status.Open r safe) = refl
  undone_fits phase side.Pnode terms key why (status.Open r safe) = refl
  undone_fits phase role terms key why s = closed phase

  given_up_fits : (role : Side) (terms : SessionTerms) (key : Key) (why : Cause) (s : Status) → Fits (given_up role terms key why now s)
  given_up_fits role terms key why (status.Open r safe) = refl
  given_up_fits role terms key why s = answer_fits role terms key (failed why)

  receive_again_fits : (phase : Phase) (role : Side) (terms : SessionTerms) (r : Receiving) (safe : ℕ) (a : Announced) → Fits (receive_again view now phase role terms r safe a)
  receive_again_fits phase role terms r safe a =
      either (not (is_same_receiving r a)) _ _ (closed phase)
      (either (eqb a.length r.length) _ _ refl (either (leb (r.base + a.length) greatest_file) _ _ refl refl))

  receive_first_fits : (role : Side) (terms : SessionTerms) (key : Key) (a : Announced) → Fits (receive_first view now role terms key a)
  receive_first_fits role terms key a = either (is_in_use view.journal key a.name) _ _ (answer_fits role terms key (failed cause.InUse)) refl

  receive_from_fits : (phase : Phase) (role : Side) (terms : SessionTerms) (key : Key) (a : Announced) (s : Status) → Fits (receive_from view now phase role terms key a s)
  receive_from_fits phase role terms key a (status.Open r safe) = receive_again_fits phase role terms r safe a
  receive_from_fits phase role terms key a s = receive_first_fits role terms key a

  target_fits : (role : Side) (terms : SessionTerms) (key : Key) (a : Announced) (there : Option ℕ) → Fits (target_known role terms key a now there)
  target_fits role terms key a there =
      either (is_new a.disp && is_there there) _ _ (answer_fits role terms key (failed cause.Exists))
      (either (leb (kept_base a.disp there + a.length) greatest_file) _ _ refl (answer_fits role terms key (failed cause.TooLarge)))

  marked_fits : (b : Bool) (r : Receiving) (offset : ℕ) (phase : Phase) (frames : List Message)
      → orderly false (cond b (Touch (shelves.SyncFile r.name) ∷ Keep (entry.Mark r.key offset) ∷ []) [] ++ Go phase frames ∷ []) ≡ true
  marked_fits true r offset phase frames = refl
  marked_fits false r offset phase frames = refl

  take_piece_fits : (role : Side) (terms : SessionTerms) (r : Receiving) (came : ℕ) (bytes : List ℕ) → Fits (take_piece role terms r came bytes)
  take_piece_fits role terms r came bytes = marked_fits _ r (came + length bytes) (Take role terms r.key (came + length bytes)) _

  send_from_fits : (role : Side) (terms : SessionTerms) (key : Key) (source : Source) (offset : ℕ) → Fits (send_from role terms key source offset)
  send_from_fits role terms key source offset = either (eqb offset source.length) _ _ refl refl

  piece_fits : (role : Side) (terms : SessionTerms) (key : Key) (source : Source) (offset : ℕ) (bytes : List ℕ) → Fits (piece_read role terms key source offset bytes)
  piece_fits role terms key source offset bytes = either (eqb (length bytes) (piece_len terms source offset)) _ _ refl refl

  push_fits : (terms : SessionTerms) (key : Key) (step : CopyStep) (size : Option ℕ) → Fits (push terms key step size)
  push_fits terms key step None = refl
  push_fits terms key step (Some len) = either (leb len greatest_file) _ _ refl refl

  push_of_fits : (phase : Phase) (terms : SessionTerms) (key : Key) (size : Option ℕ) (w : Option What) → Fits (push_of view now phase terms key size w)
  push_of_fits phase terms key size (Some (what.Copy step)) = push_fits terms key step size
  push_of_fits phase terms key size w = closed phase

  begin_fits : (phase : Phase) (terms : SessionTerms) (key : Key) (w : Option What) → Fits (begin view now phase terms key w)
  begin_fits phase terms key None = refl
  begin_fits phase terms key (Some (what.Copy step)) = either step.push _ _ refl refl
  begin_fits phase terms key w = closed phase

  step_at_fits : (phase : Phase) (terms : SessionTerms) (key : Key) (found : Option Outcomes) → Fits (step_at view now phase terms key found)
  step_at_fits phase terms key (Some o) = refl
  step_at_fits phase terms key None = begin_fits phase terms key (what_at view.config.read view.journal key.number key.place)

  next_step_fits : (phase : Phase) (terms : SessionTerms) (key : Option Key) → Fits (next_step view now phase terms key)
  next_step_fits phase terms None = closed phase
  next_step_fits phase terms (Some key) = step_at_fits phase terms key (outcome view.journal key)

  offered_fits : (terms : SessionTerms) (key : Key) (name : List ℕ) (interval : ℕ) (size : Option ℕ) → Fits (offered terms key name interval size)
  offered_fits terms key name interval None = refl
  offered_fits terms key name interval (Some len) = either (leb len greatest_file) _ _ refl refl

  -- what comes behind a reaction
  behind_fits : (phase : Phase) (answers : Answers) (later : Continuation) → Fits (reaction_behind view now phase answers later)
  behind_fits phase answers Done = refl
  behind_fits phase answers (Next terms n) = next_step_fits phase terms (key_at n (next_place view.config.read view.journal n) (own_home view.journal))
  behind_fits phase answers (Undo role terms key why) = undone_fits phase role terms key why (status.status view.journal key)
  behind_fits phase answers (Push terms key) = push_of_fits phase terms key answers.source (what_at view.config.read view.journal key.number key.place)
  behind_fits phase answers (Offered terms key name interval) = offered_fits terms key name interval answers.source
  behind_fits phase answers (Onto role terms key a) = target_fits role terms key a answers.there
  behind_fits phase answers (Piece role terms key source offset) = piece_fits role terms key source offset answers.bytes

  -- Rows.

  run_fits : (n : ℕ) (w : Welcome) (placed : Option Placing) (found : Option (List ℕ × ℕ)) → Fits (run view now n w placed found)
  run_fits n w (Some placed) (Some own) = either (is_running now placed) _ _ refl (closed (Greet n))
  run_fits n w None found = closed (Greet n)
  run_fits n w (Some placed) None = closed (Greet n)

  held_gone : (n : ℕ) (placed : Option Placing) → orderly false (held view now n placed ++ Go Gone [] ∷ []) ≡ true
  held_gone n None = refl
  held_gone n (Some placed) = placed_gone (is_live view.journal n) _

  rejected_fits : (n : ℕ) → Fits (rejected view now n)
  rejected_fits n = held_gone n (placing view.journal n)

  greet_fits : (n : ℕ) (m : Message) → Fits (row_greet view now n m)
  greet_fits n (message.Welcome w) = either (is_called (submission view.journal n) w.name) _ _ (run_fits n w (placing view.journal n) (own_home view.journal)) (rejected_fits n)
  greet_fits n (message.Reject (reject.Busy total)) = closed (Greet n)
  greet_fits n (message.Reject why) = rejected_fits n
  greet_fits n m = closed (Greet n)

  ready_fits : (phase : Phase) (role : Side) (terms : SessionTerms) (key : Key) (source : Option Source) (offset : ℕ) → Fits (ready_from view now phase role terms key source offset)
  ready_fits phase role terms key None offset = closed phase
  ready_fits phase role terms key (Some source) offset = either (leb offset source.length) _ _ (send_from_fits role terms key source offset) (closed phase)

  await_fits : (phase : Phase) (terms : SessionTerms) (key : Key) (source : Option Source) (m : Message) → Fits (row_await view now phase terms key source m)
  await_fits phase terms key source (message.Ready step offset) = either (same_key step key) _ _ (ready_fits phase side.Pnode terms key source offset) (closed phase)
  await_fits phase terms key source (message.Result step o) = either (same_key step key) (ended terms key o now) _ refl (closed phase)
  await_fits phase terms key source m = closed phase

  receive_fits : (phase : Phase) (role : Side) (terms : SessionTerms) (key : Key) (a : Announced) → Fits (receive view now phase role terms key a)
  receive_fits phase role terms key a = receive_from_fits phase role terms key a (status.status view.journal key)

  announced_fits : (phase : Phase) (terms : SessionTerms) (key : Key) (a : Option Announced) → Fits (receive_announced view now phase terms key a)
  announced_fits phase terms key None = closed phase
  announced_fits phase terms key (Some a) = receive_fits phase side.Pnode terms key a

  ask_fits : (phase : Phase) (terms : SessionTerms) (key : Key) (m : Message) → Fits (row_ask view now phase terms key m)
  ask_fits phase terms key (message.Length step len) =
      either (same_key step key) _ _ (announced_fits phase terms key (announced_by (what_at view.config.read view.journal key.number key.place) len)) (closed phase)
  ask_fits phase terms key (message.Abort step why) =
      either (same_key step key && gives_up why) _ _ (given_up_fits side.Pnode terms key why (status.status view.journal key)) (closed phase)
  ask_fits phase terms key m = closed phase

  send_fits : (phase : Phase) (role : Side) (terms : SessionTerms) (key : Key) (source : Source) (awaited : ℕ) (m : Message) → Fits (row_send view now phase role terms key source awaited m)
  send_fits phase role terms key source awaited (message.Ack step offset) =
      either (same_key step key && eqb offset awaited) _ _ (send_from_fits role terms key source offset) (closed phase)
  send_fits phase role terms key source awaited m = closed phase

  land_fits : (role : Side) (terms : SessionTerms) (r : Receiving) → Fits (land role terms r now)
  land_fits side.Snode terms r = refl
  land_fits side.Pnode terms r = refl

  take_of_fits : (phase : Phase) (role : Side) (terms : SessionTerms) (r : Receiving) (came : ℕ) (m : Message) → Fits (row_take_of view now phase role terms r came m)
  take_of_fits phase role terms r came (message.Data step offset bytes) =
      either (same_key step r.key && is_piece_at terms r came offset (length bytes)) _ _ (take_piece_fits role terms r came bytes) (closed phase)
  take_of_fits phase role terms r came (message.End step len) =
      either (same_key step r.key && eqb len r.length && eqb came r.length) _ _ (land_fits role terms r) (closed phase)
  take_of_fits phase role terms r came (message.Abort step why) =
      either (same_key step r.key && gives_up why) (drop_back role terms r.key why) _ refl (closed phase)
  take_of_fits phase role terms r came m = closed phase

  take_fits : (phase : Phase) (role : Side) (terms : SessionTerms) (came : ℕ) (m : Message) (s : Status) → Fits (row_take view now phase role terms came m s)
  take_fits phase role terms came m (status.Open r safe) = take_of_fits phase role terms r came m
  take_fits phase role terms came m s = closed phase

  welcome_fits : (found : Option (List ℕ × ℕ)) (block : ℕ) (h : Hello) → Fits (welcome found block h)
  welcome_fits None block h = refl
  welcome_fits (Some own) block h = refl

  fresh_fits : (m : Message) → Fits (row_fresh view now m)
  fresh_fits (message.Hello h) = welcome_fits (own_home view.journal) view.config.block h
  fresh_fits m = closed Fresh

  -- a reaction behind the begin of a step
  begun_fits : (key : Key) (phase : Phase) (reaction : Reaction) (b : Bool) → fits_so b reaction.effects ≡ true → fits_so b (Begin key phase ∷ reaction.effects) ≡ true
  begun_fits key phase reaction true fits = fits
  begun_fits key phase reaction false fits = fits

  unless_done_fits : (terms : SessionTerms) (key : Key) (found : Option Outcomes) (reaction : Reaction) → Fits reaction → Fits (unless_done view now terms key found reaction)
  unless_done_fits terms key None reaction fits = checked_fits (Ready terms (Some key)) reaction fits
  unless_done_fits terms key (Some o) reaction fits = refl

  step_fits : (sessions : Sessions) (sid : ℕ) (phase : Phase) (terms : SessionTerms) (key : Key) (reaction : Reaction) → Fits reaction → Fits (take_step view sessions now sid phase terms key reaction)
  step_fits sessions sid phase terms key reaction fits =
      let rest : Reaction = unless_done view now (with_number key.number terms) key (outcome view.journal key) reaction in
      either (is_of_terms terms key && not (is_over view.journal key) && not (is_newer sessions sid key (sessions.holder key)))
      (behind (Begin key (Ready (with_number key.number terms) (Some key))) rest) _
      (begun_fits key (Ready (with_number key.number terms) (Some key)) rest (is_done rest.later) (unless_done_fits (with_number key.number terms) key (outcome view.journal key) reaction fits))
      (closed phase)

  known_fits : (b : Bool) (e : Entry) (phase : Phase) → orderly false (cond b [] (Keep e ∷ []) ++ Go phase [] ∷ []) ≡ true
  known_fits true e phase = refl
  known_fits false e phase = refl

  forget_fits : (terms : SessionTerms) (last : Option Key) (n : ℕ) → Fits (forget view terms last n)
  forget_fits terms last n = known_fits (is_forgotten view.journal terms.pnode terms.home n) _ _

  ready_row_fits : (sessions : Sessions) (sid : ℕ) (phase : Phase) (terms : SessionTerms) (last : Option Key) (m : Message) → Fits (row_ready view sessions now sid phase terms last m)
  ready_row_fits sessions sid phase terms last (message.StepCopyTo key name disp interval len) =
      let anew : SessionTerms = with_number key.number terms in
      step_fits sessions sid phase terms key _ (receive_fits (Ready anew (Some key)) side.Snode anew key (record { name = name; disp = disp; interval = interval; length = len }))
  ready_row_fits sessions sid phase terms last (message.StepCopyFrom key name interval) = step_fits sessions sid phase terms key _ refl
  ready_row_fits sessions sid phase terms last (message.Abort key why) =
      either (is_in_place why) _ _ (step_fits sessions sid phase terms key _ (given_up_fits side.Snode (with_number key.number terms) key why (status.status view.journal key))) (closed phase)
  ready_row_fits sessions sid phase terms last (message.Forget known n) =
      either (eqb known terms.home && is_number_of terms.number n && not (is_receiving_for view.journal terms.pnode known n)) _ _ (forget_fits terms last n) (closed phase)
  ready_row_fits sessions sid phase terms last message.Bye = refl
  ready_row_fits sessions sid phase terms last m = closed phase

  offer_fits : (sessions : Sessions) (sid : ℕ) (phase : Phase) (terms : SessionTerms) (key : Key) (source : Source) (m : Message) → Fits (row_offer view sessions now sid phase terms key source m)
  offer_fits sessions sid phase terms key source (message.Ready step offset) = either (same_key step key) _ _ (ready_fits phase side.Snode terms key (Some source) offset) (closed phase)
  offer_fits sessions sid phase terms key source m = ready_row_fits sessions sid phase terms (Some key) m

  reaction_in_fits : (sessions : Sessions) (sid : ℕ) (m : Message) (phase : Phase) → Fits (reaction_in view sessions now sid m phase)
  reaction_in_fits sessions sid m Gone = refl
  reaction_in_fits sessions sid m (Greet n) = greet_fits n m
  reaction_in_fits sessions sid m (Await terms key source) = await_fits (Await terms key source) terms key source m
  reaction_in_fits sessions sid m (Ask terms key) = ask_fits (Ask terms key) terms key m
  reaction_in_fits sessions sid m Fresh = fresh_fits m
  reaction_in_fits sessions sid m (Ready terms last) = ready_row_fits sessions sid (Ready terms last) terms last m
  reaction_in_fits sessions sid m (Offer terms key source) = offer_fits sessions sid (Offer terms key source) terms key source m
  reaction_in_fits sessions sid m (Send role terms key source awaited) = send_fits (Send role terms key source awaited) role terms key source awaited m
  reaction_in_fits sessions sid m (Take role terms key came) = take_fits (Take role terms key came) role terms came m (status.status view.journal key)

  first_fits : (sessions : Sessions) (sid : ℕ) (m : Message) → Fits (first_reaction view sessions now sid m)
  first_fits sessions sid m =
      either (is_dead view (own_number (sessions.phase sid)) || is_detached sessions sid (key_under_way (sessions.phase sid))) _ _ (closed (sessions.phase sid))
      (checked_fits (sessions.phase sid) (reaction_in view sessions now sid m (sessions.phase sid)) (reaction_in_fits sessions sid m (sessions.phase sid)))

-- questions do nothing
asked_orderly : (view : NodeView) (later : Continuation) (more : List Effect) → orderly false more ≡ true → orderly false (asked view later ++ more) ≡ true
asked_orderly view Done more ok = ok
asked_orderly view (Next terms n) more ok = ok
asked_orderly view (Undo role terms key why) more ok = ok
asked_orderly view (Push terms key) more ok = ok
asked_orderly view (Offered terms key name interval) more ok = ok
asked_orderly view (Onto role terms key a) more ok = ok
asked_orderly view (Piece role terms key source offset) more ok = ok

fits_orderly : (b : Bool) (effects : List Effect) → fits_so b effects ≡ true → orderly false effects ≡ true
fits_orderly true effects fits = fits
fits_orderly false effects fits = subst (λ (all : List Effect). orderly false all ≡ true) (append-nil effects) (still_then effects [] fits refl)

reactions_orderly : (more : ℕ) (node : Node) (sid : ℕ) (answers : Answers) (reaction : Reaction) → Fits reaction → orderly false (all_reactions more node sid answers reaction) ≡ true
unfolding all_reactions
reactions_orderly zero node sid answers reaction fits = fits_orderly (is_done reaction.later) reaction.effects fits
reactions_orderly (suc more) node sid answers reaction fits =
    let after : Node = does sid reaction.effects node in
    let phase : Phase = after.sessions.phase sid in
    let following : Reaction = checked after.view answers.now phase (reaction_behind after.view answers.now phase answers reaction.later) in
    let rest : orderly false (all_reactions more after sid answers following) ≡ true =
    reactions_orderly more after sid answers following (checked_fits after.view answers.now phase (reaction_behind after.view answers.now phase answers reaction.later) (behind_fits after.view answers.now phase answers reaction.later)) in
    by_done (is_done reaction.later) fits _ (asked_orderly after.view reaction.later _ rest)
  where
    by_done : (b : Bool) → fits_so b reaction.effects ≡ true → (behind_it : List Effect) → orderly false behind_it ≡ true → orderly false (reaction.effects ++ cond b [] behind_it) ≡ true
    by_done true fits behind_it ok = subst (λ (all : List Effect). orderly false all ≡ true) (sym (append-nil reaction.effects)) fits
    by_done false fits behind_it ok = still_then reaction.effects behind_it fits ok

-- each row
pub row_orderly : (node : Node) (sid : ℕ) (answers : Answers) (m : Message) → orderly false (row node sid answers m) ≡ true
row_orderly node sid answers m = reactions_orderly most_reactions node sid answers (first_reaction node.view node.sessions answers.now sid m) (first_fits node.view answers.now node.sessions sid m)
