-- Each reaction of a row records one entry at most, and none that submits a Process.
use Rattle.std.proofs.Common.{◌≡◌, ℕ, ◌+◌, ◌%◌, leb, length, Bool, true, false, cond, ◌&&◌, eqb, List, [], ◌∷◌, ◌++◌, Option, Some, None, refl}
use Rattle.std.specs.Prelude.{not, ◌||◌}
use Rattle.cd_types.specs.declared.choices.Cause.{Cause}
use Rattle.cd_types.specs.declared.choices.Side.{Side}
use Rattle.cd_types.specs.declared.choices.Side.TheVariants as side
use Rattle.cd_types.specs.declared.key.Key.{Key}
use Rattle.cd_types.specs.declared.rows.Outcomes.{Outcomes}
use Rattle.cd_types.specs.declared.rows.Placing.{Placing}
use Rattle.cd_types.specs.declared.rows.Receiving.{Receiving}
use Rattle.cd_ast.specs.declared.process.CopyStep.{CopyStep}
use Rattle.cd_ast.specs.declared.process.What.{What}
use Rattle.cd_ast.specs.declared.process.What.TheVariants as what
use Rattle.cd_entries.specs.declared.entry.Entry.TheVariants as entry
use Rattle.cd_outside.specs.Shelf.{SyncFile}
use Rattle.cd_frames.specs.Message as message
use Rattle.cd_frames.specs.Message.{Message}
use Rattle.cd_frames.specs.declared.frame.Hello.{Hello}
use Rattle.cd_frames.specs.declared.frame.RejectCause.TheVariants as reject
use Rattle.cd_frames.specs.declared.frame.Welcome.{Welcome}
use Rattle.cd_rules.specs.Processes.{own_home, submission, is_live, is_forgotten, is_over}
use Rattle.cd_rules.specs.Queue.{placing, retried}
use Rattle.cd_rules.specs.Status as status
use Rattle.cd_rules.specs.Status.{Status, outcome}
use Rattle.cd_rules.specs.Steps.{what_at, next_place}
use Rattle.cd_protocol.specs.declared.session.Announced.{Announced}
use Rattle.cd_protocol.specs.declared.session.Phase.{Phase}
use Rattle.cd_protocol.specs.declared.session.Phase.TheVariants.{Gone, Greet, Await, Ask, Fresh, Ready, Offer, Send, Take}
use Rattle.cd_protocol.specs.declared.session.Source.{Source}
use Rattle.cd_protocol.specs.declared.session.SessionTerms.{SessionTerms}
use Rattle.cd_protocol.specs.declared.session.Continuation.{Continuation}
use Rattle.cd_protocol.specs.declared.session.Continuation.TheVariants.{Done, Next, Undo, Push, Offered, Onto, Piece}
use Rattle.cd_protocol.specs.Node.{NodeView, Sessions, Effect, Keep, Touch, Go, Reaction, Answers, only, behind, Begin}
use Rattle.cd_protocol.specs.Closing.{own_number, key_under_way, retry, retry_own, close, trouble, is_running, waits_for}
use Rattle.cd_protocol.specs.Sending.{send_from, push, push_of, source_known, copy, begin, step_at, next_step, next, settled, key_at, after_sending, interval_of, ended, pull, piece_len}
use Rattle.cd_protocol.specs.Receiving.{failed, answer, undone, given_up, resume, receive_again, receive_first, receive_from, receive, target_known, marks_at, take_piece, land, is_new, is_there, kept_base, receive_anew, receiving_of, drop_back, gives_up, is_same_receiving}
use Rattle.cd_protocol.specs.Rows.{held, rejected, run, row_greet, ready_from, row_await, announced_by, receive_announced, row_ask, row_send, row_take_of, row_take, welcome, row_fresh, offered, is_of_terms, is_newer, with_number, forget, are_allowed, checked, is_dead, is_detached, first_reaction, unless_done, take_step, row_ready, row_offer, reaction_in, reaction_behind, place_in, own_terms, is_called}
use Rattle.cd_session_rules.specs.Single.{keeps_one}
use Rattle.cd_rules.specs.Legal.{greatest_file}
use Rattle.cd_rules.specs.Openings.{is_in_use}
use Rattle.cd_types.specs.declared.choices.Cause.TheVariants.{Exists, InUse, TooLarge, SourceChanged}
use Rattle.cd_types.specs.declared.choices.Queue.TheVariants.{Hold, Execution}
use Rattle.cd_types.specs.declared.choices.Reason.TheVariants.{Rejected, Running}
use Rattle.std.specs.Bool.{◌==◌}
use Rattle.cd_rules.specs.Keys.{same_key}

pub record One (reaction : Reaction) : Type 0 where
  pub is : keeps_one reaction.effects ≡ true

record OneOf (effects : List Effect) : Type 0 where
  is : keeps_one effects ≡ true

either : (b : Bool) (p q : Reaction) → One p → One q → One (cond b p q)
either true p q x y = x
either false p q x y = y

ends : (b : Bool) (p q more : List Effect) → OneOf (p ++ more) → OneOf (q ++ more) → OneOf (cond b p q ++ more)
ends true p q more x y = x
ends false p q more x y = y

module _ (view : NodeView) (now : ℕ) where
  retry-one : (n : ℕ) (placed : Option Placing) → OneOf (retry view now n placed ++ Go Gone [] ∷ [])
  retry-one n None = (record { is = refl })
  retry-one n (Some placed) = ends (is_live view.journal n && is_running now placed) (Keep (entry.Placed n (retried (waits_for view (submission view.journal n)) now placed) now) ∷ []) [] (Go Gone [] ∷ []) (record { is = refl }) (record { is = refl })

  retry_own-one : (n : Option ℕ) → OneOf (retry_own view now n ++ Go Gone [] ∷ [])
  retry_own-one None = (record { is = refl })
  retry_own-one (Some n) = retry-one n (placing view.journal n)

  pub close-one : (phase : Phase) → One (only (close view now phase))
  close-one phase = record { is = (retry_own-one (own_number phase)).is }

  -- sending

  send_from-one : (role : Side) (terms : SessionTerms) (key : Key) (source : Source) (offset : ℕ) → One (send_from role terms key source offset)
  send_from-one role terms key source offset = either (◌==◌ offset source.length) (only (Go (after_sending role terms key source) (message.End key source.length ∷ []) ∷ [])) (record { effects = []; later = Piece role terms key source offset }) (record { is = refl }) (record { is = refl })

  ready_from-one : (phase : Phase) (role : Side) (terms : SessionTerms) (key : Key) (source : Option Source) (offset : ℕ) → One (ready_from view now phase role terms key source offset)
  ready_from-one phase role terms key None offset = close-one phase
  ready_from-one phase role terms key (Some source) offset = either _ _ _ (send_from-one role terms key source offset) (close-one phase)

  push-one : (terms : SessionTerms) (key : Key) (step : CopyStep) (size : Option ℕ) → One (push terms key step size)
  push-one terms key step None = (record { is = refl })
  push-one terms key step (Some len) = either (leb len greatest_file) (only (Go (Await terms key (Some record { name = step.from; length = len; interval = interval_of step.ckpt })) (message.StepCopyTo key step.to step.disp (interval_of step.ckpt) len ∷ []) ∷ [])) (only (Go (Await terms key None) (message.Abort key TooLarge ∷ []) ∷ [])) (record { is = refl }) (record { is = refl })

  push_of-one : (phase : Phase) (terms : SessionTerms) (key : Key) (size : Option ℕ) (s : Option What) → One (push_of view now phase terms key size s)
  push_of-one phase terms key size (Some (what.Copy step)) = push-one terms key step size
  push_of-one phase terms key size _ = close-one phase

  begin-one : (phase : Phase) (terms : SessionTerms) (key : Key) (s : Option What) → One (begin view now phase terms key s)
  begin-one phase terms key None = (record { is = refl })
  begin-one phase terms key (Some (what.Copy step)) = either step.push (record { effects = Begin key (Await terms key None) ∷ []; later = Push terms key }) (pull terms key step) (record { is = refl }) (record { is = refl })
  begin-one phase terms key _ = close-one phase

  step_at-one : (phase : Phase) (terms : SessionTerms) (key : Key) (o : Option Outcomes) → One (step_at view now phase terms key o)
  step_at-one phase terms key (Some o) = (record { is = refl })
  step_at-one phase terms key None = begin-one phase terms key (what_at view.config.read view.journal key.number key.place)

  next_step-one : (phase : Phase) (terms : SessionTerms) (key : Option Key) → One (next_step view now phase terms key)
  next_step-one phase terms None = close-one phase
  next_step-one phase terms (Some key) = step_at-one phase terms key (outcome view.journal key)

  -- receiving

  answer-one : (role : Side) (terms : SessionTerms) (key : Key) (o : Outcomes) → One (answer role terms key o now)
  answer-one side.Pnode terms key o = (record { is = refl })
  answer-one side.Snode terms key o = (record { is = refl })

  undone-one : (phase : Phase) (role : Side) (terms : SessionTerms) (key : Key) (why : Cause) (s : Status) → One (undone view now phase role terms key why s)
  undone-one phase side.Pnode terms key why (status.Open r safe) = (record { is = refl })
  undone-one phase side.Snode terms key why (status.Open r safe) = (record { is = refl })
  undone-one phase role terms key why status.Fresh = close-one phase
  undone-one phase role terms key why (status.Started times kind) = close-one phase
  undone-one phase role terms key why (status.Done o) = close-one phase

  pub given_up-one : (role : Side) (terms : SessionTerms) (key : Key) (why : Cause) (s : Status) → One (given_up role terms key why now s)
  given_up-one role terms key why (status.Open r safe) = (record { is = refl })
  given_up-one role terms key why status.Fresh = answer-one role terms key (failed why)
  given_up-one role terms key why (status.Started times kind) = answer-one role terms key (failed why)
  given_up-one role terms key why (status.Done o) = answer-one role terms key (failed why)

  receive_again-one : (phase : Phase) (role : Side) (terms : SessionTerms) (r : Receiving) (safe : ℕ) (a : Announced) → One (receive_again view now phase role terms r safe a)
  receive_again-one phase role terms r safe a = either (not (is_same_receiving r a)) _ _ (close-one phase) (either (a.length == r.length) (resume role terms r safe) _ (record { is = refl }) (either (leb (r.base + a.length) greatest_file) (receive_anew role terms record { key = r.key; name = r.name; disp = r.disp; there = r.there; base = r.base; length = a.length; interval = r.interval }) (drop_back role terms r.key TooLarge) (record { is = refl }) (record { is = refl })))

  receive_first-one : (role : Side) (terms : SessionTerms) (key : Key) (a : Announced) → One (receive_first view now role terms key a)
  receive_first-one role terms key a = either (is_in_use view.journal key a.name) _ (record { effects = []; later = Onto role terms key a }) (answer-one role terms key (failed InUse)) (record { is = refl })

  receive_from-one : (phase : Phase) (role : Side) (terms : SessionTerms) (key : Key) (a : Announced) (s : Status) → One (receive_from view now phase role terms key a s)
  receive_from-one phase role terms key a (status.Open r safe) = receive_again-one phase role terms r safe a
  receive_from-one phase role terms key a status.Fresh = receive_first-one role terms key a
  receive_from-one phase role terms key a (status.Started times kind) = receive_first-one role terms key a
  receive_from-one phase role terms key a (status.Done o) = receive_first-one role terms key a

  pub receive-one : (phase : Phase) (role : Side) (terms : SessionTerms) (key : Key) (a : Announced) → One (receive view now phase role terms key a)
  receive-one phase role terms key a = receive_from-one phase role terms key a (status.status view.journal key)

  target_known-one : (role : Side) (terms : SessionTerms) (key : Key) (a : Announced) (there : Option ℕ) → One (target_known role terms key a now there)
  target_known-one role terms key a there = either (is_new a.disp && is_there there) _ _ (answer-one role terms key (failed Exists)) (either (leb (kept_base a.disp there + a.length) greatest_file) (receive_anew role terms (receiving_of key a there)) _ (record { is = refl }) (answer-one role terms key (failed TooLarge)))

  take_piece-one : (role : Side) (terms : SessionTerms) (r : Receiving) (came : ℕ) (bytes : List ℕ) → One (take_piece role terms r came bytes)
  take_piece-one role terms r came bytes = record { is = (ends (not (eqb r.interval 0) && eqb ((came + length bytes) % r.interval) 0) (Touch (SyncFile r.name) ∷ Keep (entry.Mark r.key (came + length bytes)) ∷ []) [] (Go (Take role terms r.key (came + length bytes)) (message.Ack r.key (came + length bytes) ∷ []) ∷ []) (record { is = refl }) (record { is = refl })).is }

  land-one : (role : Side) (terms : SessionTerms) (r : Receiving) → One (land role terms r now)
  land-one side.Pnode terms r = (record { is = refl })
  land-one side.Snode terms r = (record { is = refl })

  row_take_of-one : (phase : Phase) (role : Side) (terms : SessionTerms) (r : Receiving) (came : ℕ) (m : Message) → One (row_take_of view now phase role terms r came m)
  row_take_of-one phase role terms r came (message.Data step offset bytes) = either _ _ _ (take_piece-one role terms r came bytes) (close-one phase)
  row_take_of-one phase role terms r came (message.End step len) = either _ _ _ (land-one role terms r) (close-one phase)
  row_take_of-one phase role terms r came (message.Abort step why) = either (same_key step r.key && gives_up why) (drop_back role terms r.key why) _ (record { is = refl }) (close-one phase)
  row_take_of-one phase role terms r came _ = close-one phase

  row_take-one : (phase : Phase) (role : Side) (terms : SessionTerms) (came : ℕ) (m : Message) (s : Status) → One (row_take view now phase role terms came m s)
  row_take-one phase role terms came m (status.Open r safe) = row_take_of-one phase role terms r came m
  row_take-one phase role terms came m status.Fresh = close-one phase
  row_take-one phase role terms came m (status.Started times kind) = close-one phase
  row_take-one phase role terms came m (status.Done o) = close-one phase

  row_send-one : (phase : Phase) (role : Side) (terms : SessionTerms) (key : Key) (source : Source) (awaited : ℕ) (m : Message) → One (row_send view now phase role terms key source awaited m)
  row_send-one phase role terms key source awaited (message.Ack step offset) = either _ _ _ (send_from-one role terms key source offset) (close-one phase)
  row_send-one phase role terms key source awaited _ = close-one phase

  -- the PNODE

  held-one : (n : ℕ) (placed : Option Placing) → OneOf (held view now n placed ++ Go Gone [] ∷ [])
  held-one n None = (record { is = refl })
  held-one n (Some placed) = ends (is_live view.journal n) (Keep (place_in n now Hold Rejected placed) ∷ []) [] (Go Gone [] ∷ []) (record { is = refl }) (record { is = refl })

  run-one : (n : ℕ) (w : Welcome) (placed : Option Placing) (own : Option (List ℕ × ℕ)) → One (run view now n w placed own)
  run-one n w (Some placed) (Some own) = either (is_running now placed) (record { effects = Keep (place_in n now Execution Running placed) ∷ []; later = Next (own_terms own n view.config.block w) n }) _ (record { is = refl }) (close-one (Greet n))
  run-one n w None own = close-one (Greet n)
  run-one n w (Some placed) None = close-one (Greet n)

  row_greet-one : (n : ℕ) (m : Message) → One (row_greet view now n m)
  row_greet-one n (message.Welcome w) = either (is_called (submission view.journal n) w.name) _ (record { effects = held view now n (placing view.journal n) ++ Go Gone [] ∷ []; later = (rejected view now n).later }) (run-one n w (placing view.journal n) (own_home view.journal)) (record { is = (held-one n (placing view.journal n)).is })
  row_greet-one n (message.Reject (reject.Busy total)) = close-one (Greet n)
  row_greet-one n (message.Reject _) = record { is = (held-one n (placing view.journal n)).is }
  row_greet-one n _ = close-one (Greet n)

  row_await-one : (phase : Phase) (terms : SessionTerms) (key : Key) (source : Option Source) (m : Message) → One (row_await view now phase terms key source m)
  row_await-one phase terms key source (message.Ready step offset) = either _ _ _ (ready_from-one phase side.Pnode terms key source offset) (close-one phase)
  row_await-one phase terms key source (message.Result step o) = either (same_key step key) (ended terms key o now) _ (record { is = refl }) (close-one phase)
  row_await-one phase terms key source _ = close-one phase

  receive_announced-one : (phase : Phase) (terms : SessionTerms) (key : Key) (a : Option Announced) → One (receive_announced view now phase terms key a)
  receive_announced-one phase terms key None = close-one phase
  receive_announced-one phase terms key (Some a) = receive-one phase side.Pnode terms key a

  row_ask-one : (phase : Phase) (terms : SessionTerms) (key : Key) (m : Message) → One (row_ask view now phase terms key m)
  row_ask-one phase terms key (message.Length step len) =
      either _ _ _ (receive_announced-one phase terms key (announced_by (what_at view.config.read view.journal key.number key.place) len)) (close-one phase)
  row_ask-one phase terms key (message.Abort step why) = either _ _ _ (given_up-one side.Pnode terms key why (status.status view.journal key)) (close-one phase)
  row_ask-one phase terms key _ = close-one phase

  -- the SNODE

  welcome-one : (own : Option (List ℕ × ℕ)) (block : ℕ) (h : Hello) → One (welcome own block h)
  welcome-one None block h = (record { is = refl })
  welcome-one (Some own) block h = (record { is = refl })

  row_fresh-one : (m : Message) → One (row_fresh view now m)
  row_fresh-one (message.Hello h) = welcome-one (own_home view.journal) view.config.block h
  row_fresh-one _ = close-one Fresh

  unless_done-one : (terms : SessionTerms) (key : Key) (o : Option Outcomes) (reaction : Reaction) → One reaction → One (unless_done view now terms key o reaction)
  unless_done-one terms key None reaction one = either _ _ _ one (close-one (Ready terms (Some key)))
  unless_done-one terms key (Some o) reaction one = (record { is = refl })

  forget-one : (terms : SessionTerms) (last : Option Key) (n : ℕ) → One (forget view terms last n)
  forget-one terms last n = record { is = (ends (is_forgotten view.journal terms.pnode terms.home n) [] (Keep (entry.Forgot terms.pnode terms.home n) ∷ []) (Go (Ready (with_number n terms) last) [] ∷ []) (record { is = refl }) (record { is = refl })).is }

  offered-one : (terms : SessionTerms) (key : Key) (name : List ℕ) (interval : ℕ) (size : Option ℕ) → One (offered terms key name interval size)
  offered-one terms key name interval None = (record { is = refl })
  offered-one terms key name interval (Some len) = either (leb len greatest_file) (only (Go (Offer terms key record { name = name; length = len; interval = interval }) (message.Length key len ∷ []) ∷ [])) (only (Go (Ready terms (Some key)) (message.Abort key TooLarge ∷ []) ∷ [])) (record { is = refl }) (record { is = refl })

  module _ (sessions : Sessions) (sid : ℕ) (phase : Phase) where
    take_step-one : (terms : SessionTerms) (key : Key) (reaction : Reaction) → One reaction → One (take_step view sessions now sid phase terms key reaction)
    take_step-one terms key reaction one =
        either (is_of_terms terms key && not (is_over view.journal key) && not (is_newer sessions sid key (sessions.holder key)))
        (behind (Begin key (Ready (with_number key.number terms) (Some key))) (unless_done view now (with_number key.number terms) key (outcome view.journal key) reaction))
        (only (close view now phase)) (record { is = (unless_done-one (with_number key.number terms) key (outcome view.journal key) reaction one).is }) (close-one phase)

    row_ready-one : (terms : SessionTerms) (last : Option Key) (m : Message) → One (row_ready view sessions now sid phase terms last m)
    row_ready-one terms last (message.StepCopyTo key name disp interval len) = take_step-one terms key _ (receive-one (Ready (with_number key.number terms) (Some key)) side.Snode _ key _)
    row_ready-one terms last (message.StepCopyFrom key name interval) = take_step-one terms key _ (record { is = refl })
    row_ready-one terms last (message.Abort key why) = either _ _ _ (take_step-one terms key _ (given_up-one side.Snode _ key why (status.status view.journal key))) (close-one phase)
    row_ready-one terms last (message.Forget home n) = either _ _ _ (forget-one terms last n) (close-one phase)
    row_ready-one terms last message.Bye = (record { is = refl })
    row_ready-one terms last _ = close-one phase

    row_offer-one : (terms : SessionTerms) (key : Key) (source : Source) (m : Message) → One (row_offer view sessions now sid phase terms key source m)
    row_offer-one terms key source (message.Ready step offset) = either _ _ _ (ready_from-one phase side.Snode terms key (Some source) offset) (close-one phase)
    row_offer-one terms key source m = row_ready-one terms (Some key) m

  pub reaction_in-one : (sessions : Sessions) (sid : ℕ) (m : Message) (phase : Phase) → One (reaction_in view sessions now sid m phase)
  reaction_in-one sessions sid m Gone = (record { is = refl })
  reaction_in-one sessions sid m (Greet n) = row_greet-one n m
  reaction_in-one sessions sid m (Await terms key source) = row_await-one (Await terms key source) terms key source m
  reaction_in-one sessions sid m (Ask terms key) = row_ask-one (Ask terms key) terms key m
  reaction_in-one sessions sid m Fresh = row_fresh-one m
  reaction_in-one sessions sid m (Ready terms last) = row_ready-one sessions sid (Ready terms last) terms last m
  reaction_in-one sessions sid m (Offer terms key source) = row_offer-one sessions sid (Offer terms key source) terms key source m
  reaction_in-one sessions sid m (Send role terms key source awaited) = row_send-one (Send role terms key source awaited) role terms key source awaited m
  reaction_in-one sessions sid m (Take role terms key came) = row_take-one (Take role terms key came) role terms came m (status.status view.journal key)

  pub reaction_behind-one : (phase : Phase) (answers : Answers) (then : Continuation) → One (reaction_behind view now phase answers then)
  reaction_behind-one phase answers Done = (record { is = refl })
  reaction_behind-one phase answers (Next terms n) = next_step-one phase terms (key_at n (next_place view.config.read view.journal n) (own_home view.journal))
  reaction_behind-one phase answers (Undo role terms key why) = undone-one phase role terms key why (status.status view.journal key)
  reaction_behind-one phase answers (Push terms key) = push_of-one phase terms key answers.source (what_at view.config.read view.journal key.number key.place)
  reaction_behind-one phase answers (Offered terms key name interval) = offered-one terms key name interval answers.source
  reaction_behind-one phase answers (Onto role terms key a) = target_known-one role terms key a answers.there
  reaction_behind-one phase answers (Piece role terms key source offset) = either (length {A = ℕ} answers.bytes == piece_len terms source offset) (only (Go (Send role terms key source (offset + piece_len terms source offset)) (message.Data key offset answers.bytes ∷ []) ∷ [])) (only (Go (after_sending role terms key source) (message.Abort key SourceChanged ∷ []) ∷ [])) (record { is = refl }) (record { is = refl })

  -- what is tested before it is done, and what is done about a frame, an end and trouble

  pub checked-one : (phase : Phase) (reaction : Reaction) → One reaction → One (checked view now phase reaction)
  checked-one phase reaction one = either (are_allowed view.config.read now view.journal reaction.effects) reaction (only (close view now phase)) one (close-one phase)

  pub first_reaction-one : (sessions : Sessions) (sid : ℕ) (m : Message) → One (first_reaction view sessions now sid m)
  first_reaction-one sessions sid m =
      let phase = sessions.phase sid in
      either (is_dead view (own_number phase) || is_detached sessions sid (key_under_way phase)) (only (close view now phase)) (checked view now phase (reaction_in view sessions now sid m phase))
      (close-one phase) (checked-one phase (reaction_in view sessions now sid m phase) (reaction_in-one sessions sid m phase))

  pub trouble-one : (phase : Phase) → One (only (trouble view now phase))
  trouble-one phase = record { is = (close-one phase).is }
