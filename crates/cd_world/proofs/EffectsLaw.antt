-- What the effects of every row are like: which entries they record, which Results and pushes they send, and whose keys the
-- sessions have.
use Rattle.std.proofs.Common.{◌≡◌, ℕ, zero, suc, ◌+◌, Bool, true, false, cond, ◌&&◌, eqb, ltb, leb, List, [], ◌∷◌, ◌++◌, length, Option, Some, None, ◌⊎◌, inl, inr, refl, sym, ◌∙◌, ap, subst}
use Rattle.std.specs.Prelude.{◌||◌, not}
use Rattle.std.specs.Str.{bytes_eq}
use Rattle.std.proofs.lemmas.Bool.{cases_Bool, cond-true, cond-false, and_parts, eqb-true}
use Rattle.std.proofs.lemmas.Slice.Eq.{bytes_eq-Decides}
use Rattle.cd_types.specs.Choices.{disp_code}
use Rattle.cd_types.specs.declared.choices.Cause.{Cause}
use Rattle.cd_types.specs.declared.choices.Cause.TheVariants as cause
use Rattle.cd_types.specs.declared.choices.Disp.{Disp}
use Rattle.cd_types.specs.declared.choices.Side.{Side}
use Rattle.cd_types.specs.declared.choices.Side.TheVariants as side
use Rattle.cd_types.specs.declared.key.Key.{Key}
use Rattle.cd_types.specs.declared.rows.Outcomes.{Outcomes}
use Rattle.cd_types.specs.declared.rows.Placing.{Placing}
use Rattle.cd_types.specs.declared.rows.Receiving.{Receiving}
use Rattle.cd_entries.specs.declared.entry.Entry.{Entry}
use Rattle.cd_entries.specs.declared.entry.Entry.TheVariants as entry
use Rattle.cd_ast.specs.declared.process.CopyStep.{CopyStep}
use Rattle.cd_ast.specs.declared.process.What.{What}
use Rattle.cd_ast.specs.declared.process.What.TheVariants as what
use Rattle.cd_outside.specs.Shelf as shelves
use Rattle.cd_frames.specs.Message as message
use Rattle.cd_frames.specs.Message.{Message}
use Rattle.cd_frames.specs.declared.frame.Hello.{Hello}
use Rattle.cd_frames.specs.declared.frame.RejectCause.TheVariants as reject
use Rattle.cd_frames.specs.declared.frame.Welcome.{Welcome}
use Rattle.cd_rules.specs.Keys.{same_key, is_of}
use Rattle.cd_rules.proofs.KeysLaw.{same_key-refl, same_key-true}
use Rattle.cd_rules.specs.Openings.{is_in_use, is_receiving_for}
use Rattle.cd_rules.specs.Processes.{submission, own_home, is_live, is_forgotten, is_over}
use Rattle.cd_types.specs.declared.rows.Row.{Row}
use Rattle.cd_rules.specs.Queue.{Waits, placing, next_due}
use Rattle.cd_rules.specs.Status as status
use Rattle.cd_rules.specs.Status.{Status, outcome}
use Rattle.cd_rules.specs.Legal.{greatest_file}
use Rattle.cd_rules.specs.Steps.{Reading, next_place, what_at, is_such}
use Rattle.cd_protocol.specs.declared.session.SessionTerms.{SessionTerms}
use Rattle.cd_protocol.specs.declared.session.Source.{Source}
use Rattle.cd_protocol.specs.declared.session.Announced.{Announced}
use Rattle.cd_protocol.specs.declared.session.Phase.{Phase}
use Rattle.cd_protocol.specs.declared.session.Phase.TheVariants.{Gone, Greet, Await, Ask, Fresh, Ready, Offer, Send, Take}
use Rattle.cd_protocol.specs.declared.session.Continuation.{Continuation}
use Rattle.cd_protocol.specs.declared.session.Continuation.TheVariants.{Done, Next, Undo, Push, Offered, Onto, Piece}
use Rattle.cd_protocol.specs.Closing.{own_number, key_under_way, is_running, retry, retry_own, close, trouble_for, trouble}
use Rattle.cd_protocol.specs.Node.{Config, NodeView, Sessions, Node, Effect, Keep, Touch, AskSize, AskBytes, Begin, Go, Reaction, only, did, does, Answers}
use Rattle.cd_protocol.specs.Receiving.{failed, answer, drop_back, undone, given_up, resume, receive_anew, is_same_receiving, receive_again, receive_first, receive_from, receive, kept_base, is_there, is_new, receiving_of, target_known, is_piece_at, take_piece, landed_whole, land, gives_up}
use Rattle.cd_protocol.specs.Rows.{are_allowed, checked, held, rejected, is_called, run, row_greet, ready_from, row_await, announced_by, receive_announced, row_ask, row_send, row_take_of, row_take, welcome, row_fresh, is_number_of, is_of_terms, with_number, is_newer, unless_done, take_step, offered, forget, is_in_place, row_ready, row_offer, reaction_in, is_dead, is_detached, first_reaction, reaction_behind, asked, is_done, all_reactions, most_reactions, row, hello, connect, call, row_chosen, row_choose, busy}
use Rattle.cd_protocol.proofs.RowsLaw.{same_config}
use Rattle.cd_protocol.specs.Sending.{after_sending, send_from, piece_len, piece_read, interval_of, push, push_of, copy, begin, ended, step_at, key_at, next_step, next, settled}
use Rattle.cd_world.specs.Holds.{IsStepOf}
use Rattle.cd_world.proofs.KeptLaw.{disp_same}

-- The outcome that an entry gives.

outcome_of : (e : Entry) (journal : List Entry) (key : Key) (o : Outcomes) → is_of key e ≡ true → status.outcome_at e (outcome journal key) ≡ Some o → outcome (e ∷ journal) key ≡ Some o
unfolding outcome
outcome_of e journal key o own is = cond-true (is_of key e) (status.outcome_at e (outcome journal key)) (outcome journal key) own ∙ is

-- a node's name and home, and how it reads the texts of Processes
pub record Own : Type 0 where
  pub home : Option (List ℕ × ℕ)
  pub read : Reading

abbrev pub is_push : What → Bool
is_push (what.Copy step) = step.push
is_push _ = false

-- a push is announced as it stands in the Process of the node that sends
pub record Announces (read : Reading) (journal : List Entry) (key : Key) (name : List ℕ) (disp : Disp) (interval : ℕ) : Type 0 where
  pub step : CopyStep
  pub own_key : IsStepOf journal key
  pub stands : what_at read journal key.number key.place ≡ Some (what.Copy step)
  pub push : step.push ≡ true
  pub name_is : name ≡ step.to
  pub disp_is : disp ≡ step.disp
  pub interval_is : interval ≡ interval_of step.ckpt

-- a Result that is sent is the sender's outcome, and a push is as its statement
abbrev pub Tells : Reading → List Entry → Message → Type 0
Tells read journal (message.Result key o) = outcome journal key ≡ Some o
Tells read journal (message.StepCopyTo key name disp interval len) = Announces read journal key name disp interval
Tells read journal _ = Unit {0}

abbrev pub AllTell : Reading → List Entry → List Message → Type 0
AllTell read journal [] = Unit {0}
AllTell read journal (m ∷ frames) = Tells read journal m × AllTell read journal frames

-- the journal behind these effects
abbrev kept_in : List Effect → List Entry → List Entry
kept_in [] journal = journal
kept_in (Keep e ∷ effects) journal = kept_in effects (e ∷ journal)
kept_in (Touch change ∷ effects) journal = kept_in effects journal
kept_in (AskSize name ∷ effects) journal = kept_in effects journal
kept_in (AskBytes name at len ∷ effects) journal = kept_in effects journal
kept_in (Begin key phase ∷ effects) journal = kept_in effects journal
kept_in (Go phase frames ∷ effects) journal = kept_in effects journal

kept_does : (sid : ℕ) (effects : List Effect) (node : Node) → kept_in effects node.view.journal ≡ (does sid effects node).view.journal
kept_does sid [] node = refl
kept_does sid (Keep e ∷ effects) node = kept_does sid effects (did sid (Keep e) node)
kept_does sid (Touch change ∷ effects) node = kept_does sid effects (did sid (Touch change) node)
kept_does sid (AskSize name ∷ effects) node = kept_does sid effects node
kept_does sid (AskBytes name at len ∷ effects) node = kept_does sid effects node
kept_does sid (Begin key phase ∷ effects) node = kept_does sid effects (did sid (Begin key phase) node)
kept_does sid (Go phase frames ∷ effects) node = kept_does sid effects (did sid (Go phase frames) node)

-- `own` is this node, and `Says` what the other node tells.
module _ (own : Own) (Says : Message → Type 0) where
  -- a key of this node
  abbrev pub OwnKey : Key → Type 0
  OwnKey key = own.home ≡ Some (key.pnode, key.home)

  abbrev pub OwnFor : Side → Key → Type 0
  OwnFor side.Pnode key = OwnKey key
  OwnFor side.Snode key = Unit {0}

  -- the sessions of the PNODE have keys of this node
  abbrev pub PhaseOk : Phase → Type 0
  PhaseOk (Await terms key source) = OwnKey key
  PhaseOk (Ask terms key) = OwnKey key
  PhaseOk (Send role terms key source awaited) = OwnFor role key
  PhaseOk (Take role terms key came) = OwnFor role key
  PhaseOk _ = Unit {0}

  -- an Ended is of a step of this node, with an outcome that the other node told, or that this node recorded
  pub record EndedBy (journal : List Entry) (n place rc : ℕ) (why : Cause) (bytes : ℕ) : Type 0 where
    pub key : Key
    pub own_key : OwnKey key
    pub number : n ≡ key.number
    pub step : place ≡ key.place
    pub o : Outcomes
    pub rc_is : rc ≡ o.rc
    pub why_is : why ≡ o.cause
    pub bytes_is : bytes ≡ o.bytes
    pub says : Says (message.Result key o) ⊎ (outcome journal key ≡ Some o)

  -- what is received is of a step of this node, or the other node announced it
  abbrev pub IsHeard : Receiving → Type 0
  IsHeard r = OwnKey r.key ⊎ Says (message.StepCopyTo r.key r.name r.disp r.interval r.length)

  abbrev Comes : Side → Key → Announced → Type 0
  Comes side.Pnode key a = OwnKey key
  Comes side.Snode key a = Says (message.StepCopyTo key a.name a.disp a.interval a.length)

  own_for : (role : Side) (key : Key) (a : Announced) → Comes role key a → OwnFor role key
  own_for side.Pnode key a comes = comes
  own_for side.Snode key a comes = tt

  new_heard : (role : Side) (key : Key) (a : Announced) → Comes role key a → OwnKey key ⊎ Says (message.StepCopyTo key a.name a.disp a.interval a.length)
  new_heard side.Pnode key a comes = inl comes
  new_heard side.Snode key a comes = inr comes

  again_heard : (role : Side) (r : Receiving) (a : Announced) → is_same_receiving r a ≡ true → Comes role r.key a → OwnKey r.key ⊎ Says (message.StepCopyTo r.key r.name r.disp r.interval a.length)
  again_heard side.Pnode r a same comes = inl comes
  again_heard side.Snode r a same comes =
      let two = and_parts (bytes_eq r.name a.name && eqb (disp_code r.disp) (disp_code a.disp)) (eqb r.interval a.interval) same in
      let one = and_parts (bytes_eq r.name a.name) (eqb (disp_code r.disp) (disp_code a.disp)) two.0 in
      let named : Says (message.StepCopyTo r.key r.name a.disp a.interval a.length) =
      subst (λ (name : List ℕ). Says (message.StepCopyTo r.key name a.disp a.interval a.length)) (sym ((bytes_eq-Decides r.name a.name).0 one.0)) comes in
      let placed : Says (message.StepCopyTo r.key r.name r.disp a.interval a.length) =
      subst (λ (disp : Disp). Says (message.StepCopyTo r.key r.name disp a.interval a.length)) (sym (disp_same r.disp a.disp one.1)) named in
      inr (subst (λ (interval : ℕ). Says (message.StepCopyTo r.key r.name r.disp interval a.length)) (sym (eqb-true r.interval a.interval two.1)) placed)

  abbrev pub KeepOk : List Entry → Entry → Type 0
  KeepOk journal (entry.Ended n place rc why bytes moment) = EndedBy journal n place rc why bytes
  KeepOk journal (entry.Receiving r) = IsHeard r
  KeepOk journal (entry.Home name home) = ⊥
  KeepOk journal (entry.Submitted n moment origin card text) = ⊥
  KeepOk journal (entry.Started key kind try moment) = ⊥
  KeepOk journal _ = Unit {0}

  abbrev pub AllFit : List Entry → List Effect → Type 0
  AllFit journal [] = Unit {0}
  AllFit journal (Keep e ∷ effects) = KeepOk journal e × AllFit (e ∷ journal) effects
  AllFit journal (Touch change ∷ effects) = AllFit journal effects
  AllFit journal (AskSize name ∷ effects) = AllFit journal effects
  AllFit journal (AskBytes name at len ∷ effects) = AllFit journal effects
  AllFit journal (Begin key phase ∷ effects) = PhaseOk phase × AllFit journal effects
  AllFit journal (Go phase frames ∷ effects) = PhaseOk phase × AllTell own.read journal frames × AllFit journal effects

  -- what comes behind a reaction, in the journal that it leaves
  abbrev ThenOk : List Entry → Continuation → Type 0
  ThenOk journal (Undo role terms key why) = OwnFor role key
  ThenOk journal (Push terms key) = OwnKey key × (is_such is_push (what_at own.read journal key.number key.place) ≡ true)
  ThenOk journal (Onto role terms key a) = Comes role key a
  ThenOk journal (Piece role terms key source offset) = OwnFor role key
  ThenOk journal _ = Unit {0}

  record ReactionOk (journal : List Entry) (reaction : Reaction) : Type 0 where
    fit : AllFit journal reaction.effects
    then : ThenOk (kept_in reaction.effects journal) reaction.later

  either_known : (journal : List Entry) (b : Bool) (p q : Reaction) → (b ≡ true → ReactionOk journal p) → (b ≡ false → ReactionOk journal q) → ReactionOk journal (cond b p q)
  either_known journal true p q one other = one refl
  either_known journal false p q one other = other refl

  unless_known : (journal : List Entry) (b : Bool) (p q : Reaction) → ReactionOk journal p → (b ≡ true → ReactionOk journal q) → ReactionOk journal (cond (not b) p q)
  unless_known journal true p q one other = other refl
  unless_known journal false p q one other = one

  either : (journal : List Entry) (b : Bool) (p q : Reaction) → ReactionOk journal p → ReactionOk journal q → ReactionOk journal (cond b p q)
  either journal true p q one other = one
  either journal false p q one other = other

  both_all : (sid : ℕ) (first second : List Effect) (node : Node) → AllFit node.view.journal first → AllFit (does sid first node).view.journal second → AllFit node.view.journal (first ++ second)
  both_all sid [] second node one two = two
  both_all sid (Keep e ∷ first) second node one two = (one.0, both_all sid first second (did sid (Keep e) node) one.1 two)
  both_all sid (Touch change ∷ first) second node one two = both_all sid first second (did sid (Touch change) node) one two
  both_all sid (AskSize name ∷ first) second node one two = both_all sid first second node one two
  both_all sid (AskBytes name at len ∷ first) second node one two = both_all sid first second node one two
  both_all sid (Begin key phase ∷ first) second node one two = (one.0, both_all sid first second (did sid (Begin key phase) node) one.1 two)
  both_all sid (Go phase frames ∷ first) second node one two = (one.0, one.1, both_all sid first second (did sid (Go phase frames) node) one.2 two)

  -- the home stays
  pub same_home : (e : Entry) (journal : List Entry) → KeepOk journal e → own_home (e ∷ journal) ≡ own_home journal
  unfolding own_home
  same_home (entry.Home name home) journal ok = absurd ok
  same_home e journal ok = refl

  pub home_after : (sid : ℕ) (effects : List Effect) (node : Node) → AllFit node.view.journal effects → own_home (does sid effects node).view.journal ≡ own_home node.view.journal
  home_after sid [] node ok = refl
  home_after sid (Keep e ∷ effects) node ok = home_after sid effects (did sid (Keep e) node) ok.1 ∙ same_home e node.view.journal ok.0
  home_after sid (Touch change ∷ effects) node ok = home_after sid effects (did sid (Touch change) node) ok
  home_after sid (AskSize name ∷ effects) node ok = home_after sid effects node ok
  home_after sid (AskBytes name at len ∷ effects) node ok = home_after sid effects node ok
  home_after sid (Begin key phase ∷ effects) node ok = home_after sid effects (did sid (Begin key phase) node) ok.1
  home_after sid (Go phase frames ∷ effects) node ok = home_after sid effects (did sid (Go phase frames) node) ok.2

  -- Ends of sessions.

  placed_then_gone : (journal : List Entry) (b : Bool) (n : ℕ) (placed : Placing) (now : ℕ) (frames : List Message) → AllTell own.read journal frames → AllTell own.read (entry.Placed n placed now ∷ journal) frames
      → AllFit journal (cond b (Keep (entry.Placed n placed now) ∷ []) [] ++ Go Gone frames ∷ [])
  placed_then_gone journal true n placed now frames here there = (tt, (tt, there, tt))
  placed_then_gone journal false n placed now frames here there = (tt, here, tt)

  retry_ok : (view : NodeView) (now n : ℕ) (found : Option Placing) → AllFit view.journal (retry view now n found ++ Go Gone [] ∷ [])
  retry_ok view now n None = (tt, tt, tt)
  retry_ok view now n (Some placed) = placed_then_gone view.journal (is_live view.journal n && is_running now placed) n _ now [] tt tt

  own_ok : (view : NodeView) (now : ℕ) (number : Option ℕ) → AllFit view.journal (retry_own view now number ++ Go Gone [] ∷ [])
  own_ok view now None = (tt, tt, tt)
  own_ok view now (Some n) = retry_ok view now n (placing view.journal n)

  pub close_ok : (view : NodeView) (now : ℕ) (phase : Phase) → AllFit view.journal (close view now phase)
  close_ok view now phase = own_ok view now (own_number phase)

  abort_ok : (journal : List Entry) (key : Option Key) → AllTell own.read journal (trouble_for key)
  abort_ok journal None = tt
  abort_ok journal (Some key) = elim (ltb key.place 1024) as (λ b. AllTell own.read journal (cond b (message.Abort key cause.Trouble ∷ []) [])) [ true ↦ (tt, tt) | false ↦ tt ]

  pub trouble_ok : (view : NodeView) (now : ℕ) (phase : Phase) → PhaseOk phase → AllFit view.journal (trouble view now phase)
  trouble_ok view now phase ok = (ok, abort_ok view.journal (key_under_way phase), close_ok view now phase)

  -- Reactions.
  module _ (view : NodeView) (now : ℕ) where
    closed : (phase : Phase) → ReactionOk view.journal (only (close view now phase))
    closed phase = record { fit = close_ok view now phase; then = tt }

    checked_ok : (phase : Phase) (reaction : Reaction) → ReactionOk view.journal reaction → ReactionOk view.journal (checked view now phase reaction)
    checked_ok phase reaction ok = either view.journal (are_allowed view.config.read now view.journal reaction.effects) reaction _ ok (closed phase)

    settled_ok : (journal : List Entry) (role : Side) (terms : SessionTerms) (key : Key) (o : Outcomes) → outcome journal key ≡ Some o → ReactionOk journal (settled role terms key o)
    settled_ok journal side.Snode terms key o is = record { fit = (tt, (is, tt), tt); then = tt }
    settled_ok journal side.Pnode terms key o is = record { fit = tt; then = tt }

    answer_ok : (role : Side) (terms : SessionTerms) (key : Key) (o : Outcomes) → ReactionOk view.journal (answer role terms key o now)
    answer_ok role terms key o =
        let e : Entry = entry.Result key o now in
        let rest : ReactionOk (e ∷ view.journal) (settled role terms key o) = settled_ok (e ∷ view.journal) role terms key o (outcome_of e view.journal key o (same_key-refl key) refl) in
        record { fit = (tt, rest.fit); then = rest.then }

    drop_back_ok : (role : Side) (terms : SessionTerms) (key : Key) (why : Cause) → OwnFor role key → ReactionOk view.journal (drop_back role terms key why)
    drop_back_ok role terms key why is_own = record { fit = (tt, tt); then = is_own }

    undone_ok : (phase : Phase) (role : Side) (terms : SessionTerms) (key : Key) (why : Cause) (s : Status) → ReactionOk view.journal (undone view now phase role terms key why s)
    undone_ok phase role terms key why (status.Open r safe) =
        let e : Entry = entry.Dropped key 8 why now in
        let rest : ReactionOk (e ∷ view.journal) (settled role terms key (failed why)) =
        settled_ok (e ∷ view.journal) role terms key (failed why) (outcome_of e view.journal key (failed why) (same_key-refl key) refl) in
        record { fit = (tt, rest.fit); then = rest.then }
    undone_ok phase role terms key why s = closed phase

    given_up_ok : (role : Side) (terms : SessionTerms) (key : Key) (why : Cause) (s : Status) → OwnFor role key → ReactionOk view.journal (given_up role terms key why now s)
    given_up_ok role terms key why (status.Open r safe) is_own = drop_back_ok role terms key why is_own
    given_up_ok role terms key why s is_own = answer_ok role terms key (failed why)

    resume_ok : (journal : List Entry) (role : Side) (terms : SessionTerms) (r : Receiving) (safe : ℕ) → OwnFor role r.key → ReactionOk journal (resume role terms r safe)
    resume_ok journal role terms r safe is_own = record { fit = (is_own, (tt, tt), tt); then = tt }

    receive_anew_ok : (role : Side) (terms : SessionTerms) (r : Receiving) → OwnFor role r.key → IsHeard r → ReactionOk view.journal (receive_anew role terms r)
    receive_anew_ok role terms r is_own heard = let rest = resume_ok (entry.Receiving r ∷ view.journal) role terms r 0 is_own in record { fit = (heard, rest.fit); then = rest.then }

    receive_again_ok : (phase : Phase) (role : Side) (terms : SessionTerms) (r : Receiving) (safe : ℕ) (a : Announced) → Comes role r.key a → ReactionOk view.journal (receive_again view now phase role terms r safe a)
    receive_again_ok phase role terms r safe a comes =
        let is_own : OwnFor role r.key = own_for role r.key a comes in
        unless_known view.journal (is_same_receiving r a) _ _ (closed phase) (λ same.
        either view.journal (eqb a.length r.length) _ _ (resume_ok view.journal role terms r safe is_own)
        (either view.journal (leb (r.base + a.length) greatest_file) _ _
        (receive_anew_ok role terms (record r { length = a.length }) is_own (again_heard role r a same comes)) (drop_back_ok role terms r.key cause.TooLarge is_own)))

    receive_first_ok : (role : Side) (terms : SessionTerms) (key : Key) (a : Announced) → Comes role key a → ReactionOk view.journal (receive_first view now role terms key a)
    receive_first_ok role terms key a comes = either view.journal (is_in_use view.journal key a.name) _ _ (answer_ok role terms key (failed cause.InUse)) (record { fit = tt; then = comes })

    receive_from_ok : (phase : Phase) (role : Side) (terms : SessionTerms) (key : Key) (a : Announced) (s : Status) → Comes role key a → ((r : Receiving) (safe : ℕ) → s ≡ status.Open r safe → r.key ≡ key)
        → ReactionOk view.journal (receive_from view now phase role terms key a s)
    receive_from_ok phase role terms key a (status.Open r safe) comes keyed =
        receive_again_ok phase role terms r safe a (subst (λ (k : Key). Comes role k a) (sym (keyed r safe refl)) comes)
    receive_from_ok phase role terms key a s comes keyed = receive_first_ok role terms key a comes

    target_ok : (role : Side) (terms : SessionTerms) (key : Key) (a : Announced) (there : Option ℕ) → Comes role key a → ReactionOk view.journal (target_known role terms key a now there)
    target_ok role terms key a there comes =
        either view.journal (is_new a.disp && is_there there) _ _ (answer_ok role terms key (failed cause.Exists))
        (either view.journal (leb (kept_base a.disp there + a.length) greatest_file) _ _
        (receive_anew_ok role terms (receiving_of key a there) (own_for role key a comes) (new_heard role key a comes)) (answer_ok role terms key (failed cause.TooLarge)))

    marked_then : (b : Bool) (r : Receiving) (offset : ℕ) (phase : Phase) (frames : List Message) → PhaseOk phase → ((journal : List Entry) → AllTell own.read journal frames)
        → AllFit view.journal (cond b (Touch (shelves.SyncFile r.name) ∷ Keep (entry.Mark r.key offset) ∷ []) [] ++ Go phase frames ∷ [])
    marked_then true r offset phase frames ok sent = (tt, (ok, sent _, tt))
    marked_then false r offset phase frames ok sent = (ok, sent _, tt)

    take_piece_ok : (role : Side) (terms : SessionTerms) (r : Receiving) (came : ℕ) (bytes : List ℕ) → OwnFor role r.key → ReactionOk view.journal (take_piece role terms r came bytes)
    take_piece_ok role terms r came bytes is_own = record { fit = marked_then _ r (came + length bytes) (Take role terms r.key (came + length bytes)) _ is_own (λ journal. (tt, tt)); then = tt }

    land_ok : (role : Side) (terms : SessionTerms) (r : Receiving) → ReactionOk view.journal (land role terms r now)
    land_ok role terms r = let rest = answer_ok role terms r.key (landed_whole r) in record { fit = rest.fit; then = rest.then }

    -- sending
    after_sending_ok : (role : Side) (terms : SessionTerms) (key : Key) (source : Source) → OwnFor role key → PhaseOk (after_sending role terms key source)
    after_sending_ok side.Pnode terms key source is_own = is_own
    after_sending_ok side.Snode terms key source is_own = tt

    send_from_ok : (role : Side) (terms : SessionTerms) (key : Key) (source : Source) (offset : ℕ) → OwnFor role key → ReactionOk view.journal (send_from role terms key source offset)
    send_from_ok role terms key source offset is_own =
        either view.journal (eqb offset source.length) _ _ (record { fit = (after_sending_ok role terms key source is_own, (tt, tt), tt); then = tt }) (record { fit = tt; then = is_own })

    piece_ok : (role : Side) (terms : SessionTerms) (key : Key) (source : Source) (offset : ℕ) (bytes : List ℕ) → OwnFor role key → ReactionOk view.journal (piece_read role terms key source offset bytes)
    piece_ok role terms key source offset bytes is_own =
        either view.journal (eqb (length bytes) (piece_len terms source offset)) _ _ (record { fit = (is_own, (tt, tt), tt); then = tt })
        (record { fit = (after_sending_ok role terms key source is_own, (tt, tt), tt); then = tt })

    push_ok : (terms : SessionTerms) (key : Key) (step : CopyStep) (size : Option ℕ) → OwnKey key
        → ((len : ℕ) → Tells own.read view.journal (message.StepCopyTo key step.to step.disp (interval_of step.ckpt) len)) → ReactionOk view.journal (push terms key step size)
    push_ok terms key step None is_own told = record { fit = (is_own, (tt, tt), tt); then = tt }
    push_ok terms key step (Some len) is_own told =
        either view.journal (leb len greatest_file) _ _ (record { fit = (is_own, (told len, tt), tt); then = tt }) (record { fit = (is_own, (tt, tt), tt); then = tt })

    push_of_ok : (home : own_home view.journal ≡ own.home) (phase : Phase) (terms : SessionTerms) (key : Key) (size : Option ℕ) (w : Option What) → what_at own.read view.journal key.number key.place ≡ w
        → ThenOk view.journal (Push terms key) → ReactionOk view.journal (push_of view now phase terms key size w)
    push_of_ok home phase terms key size (Some (what.Copy step)) is ok =
        push_ok terms key step size ok.0
        (λ len. record { step = step; own_key = home ∙ ok.0; stands = is; push = sym (ap (is_such is_push) is) ∙ ok.1; name_is = refl; disp_is = refl; interval_is = refl })
    push_of_ok home phase terms key size w is ok = closed phase

    copy_ok : (terms : SessionTerms) (key : Key) (step : CopyStep) → what_at own.read view.journal key.number key.place ≡ Some (what.Copy step) → OwnKey key → ReactionOk view.journal (copy terms key step)
    copy_ok terms key step is is_own =
        either_known view.journal step.push _ _ (λ push. record { fit = (is_own, tt); then = (is_own, ap (is_such is_push) is ∙ push) })
        (λ pull. record { fit = (is_own, (is_own, (tt, tt), tt)); then = tt })

    begin_ok : (phase : Phase) (terms : SessionTerms) (key : Key) (w : Option What) → what_at own.read view.journal key.number key.place ≡ w → OwnKey key → ReactionOk view.journal (begin view now phase terms key w)
    begin_ok phase terms key None is is_own = record { fit = (tt, (tt, (tt, (tt, tt)), tt)); then = tt }
    begin_ok phase terms key (Some (what.Copy step)) is is_own = copy_ok terms key step is is_own
    begin_ok phase terms key w is is_own = closed phase

    ended_ok : (terms : SessionTerms) (key : Key) (o : Outcomes) → OwnKey key → Says (message.Result key o) ⊎ (outcome view.journal key ≡ Some o) → ReactionOk view.journal (ended terms key o now)
    ended_ok terms key o is_own says = record {
      fit = (record { key = key; own_key = is_own; number = refl; step = refl; o = o; rc_is = refl; why_is = refl; bytes_is = refl; says = says }, tt);
      then = tt;
    }

    -- how the texts of Processes are read here
    read_as : view.config.read ≡ own.read → (n place : ℕ) → what_at own.read view.journal n place ≡ what_at view.config.read view.journal n place
    read_as reads n place = ap (λ (read : Reading). what_at read view.journal n place) (sym reads)

    step_at_ok : (reads : view.config.read ≡ own.read) (phase : Phase) (terms : SessionTerms) (key : Key) (found : Option Outcomes) → OwnKey key → outcome view.journal key ≡ found
        → ReactionOk view.journal (step_at view now phase terms key found)
    step_at_ok reads phase terms key (Some o) is_own is = ended_ok terms key o is_own (inr is)
    step_at_ok reads phase terms key None is_own is = begin_ok phase terms key (what_at view.config.read view.journal key.number key.place) (read_as reads key.number key.place) is_own

    next_step_ok : (reads : view.config.read ≡ own.read) (phase : Phase) (terms : SessionTerms) (n place : ℕ) (found : Option (List ℕ × ℕ)) → own.home ≡ found
        → ReactionOk view.journal (next_step view now phase terms (key_at n place found))
    next_step_ok reads phase terms n place None is = closed phase
    next_step_ok reads phase terms n place (Some home) is = by_place (leb place 1024) where
      key : Key
      key = record { pnode = home.0; home = home.1; number = n; place = place }

      by_place : (b : Bool) → ReactionOk view.journal (next_step view now phase terms (cond b (Some key) None))
      by_place true = step_at_ok reads phase terms key (outcome view.journal key) is refl
      by_place false = closed phase

    next_ok : (home : own_home view.journal ≡ own.home) (reads : view.config.read ≡ own.read) (phase : Phase) (terms : SessionTerms) (n : ℕ) → ReactionOk view.journal (next view now phase terms n)
    next_ok home reads phase terms n = next_step_ok reads phase terms n (next_place view.config.read view.journal n) (own_home view.journal) (sym home)

    -- what comes behind a reaction
    behind_ok : (home : own_home view.journal ≡ own.home) (reads : view.config.read ≡ own.read) (phase : Phase) (answers : Answers) (later : Continuation) → ThenOk view.journal later
        → ReactionOk view.journal (reaction_behind view now phase answers later)
    behind_ok home reads phase answers Done ok = record { fit = tt; then = tt }
    behind_ok home reads phase answers (Next terms n) ok = next_ok home reads phase terms n
    behind_ok home reads phase answers (Undo role terms key why) ok = undone_ok phase role terms key why (status.status view.journal key)
    behind_ok home reads phase answers (Push terms key) ok =
        push_of_ok home phase terms key answers.source (what_at view.config.read view.journal key.number key.place) (read_as reads key.number key.place) ok
    behind_ok home reads phase answers (Offered terms key name interval) ok = offered_ok answers.source where
      offered_ok : (size : Option ℕ) → ReactionOk view.journal (offered terms key name interval size)
      offered_ok None = record { fit = (tt, (tt, tt), tt); then = tt }
      offered_ok (Some len) = either view.journal (leb len greatest_file) _ _ (record { fit = (tt, (tt, tt), tt); then = tt }) (record { fit = (tt, (tt, tt), tt); then = tt })
    behind_ok home reads phase answers (Onto role terms key a) ok = target_ok role terms key a answers.there ok
    behind_ok home reads phase answers (Piece role terms key source offset) ok = piece_ok role terms key source offset answers.bytes ok

  -- Rows.

  module _ (view : NodeView) (home : own_home view.journal ≡ own.home) (keyed : (key : Key) (r : Receiving) (safe : ℕ) → status.status view.journal key ≡ status.Open r safe → r.key ≡ key) (now : ℕ) where
    closing : (phase : Phase) → ReactionOk view.journal (only (close view now phase))
    closing phase = closed view now phase

    run_ok : (n : ℕ) (w : Welcome) (placed : Option Placing) (found : Option (List ℕ × ℕ)) → ReactionOk view.journal (run view now n w placed found)
    run_ok n w (Some placed) (Some is) = either view.journal (is_running now placed) _ _ (record { fit = (tt, tt); then = tt }) (closing (Greet n))
    run_ok n w None found = closing (Greet n)
    run_ok n w (Some placed) None = closing (Greet n)

    held_ok : (n : ℕ) (placed : Option Placing) → AllFit view.journal (held view now n placed ++ Go Gone [] ∷ [])
    held_ok n None = (tt, tt, tt)
    held_ok n (Some placed) = placed_then_gone view.journal (is_live view.journal n) n _ now [] tt tt

    rejected_ok : (n : ℕ) → ReactionOk view.journal (rejected view now n)
    rejected_ok n = record { fit = held_ok n (placing view.journal n); then = tt }

    greet_ok : (n : ℕ) (m : Message) → ReactionOk view.journal (row_greet view now n m)
    greet_ok n (message.Welcome w) = either view.journal (is_called (submission view.journal n) w.name) _ _ (run_ok n w (placing view.journal n) (own_home view.journal)) (rejected_ok n)
    greet_ok n (message.Reject (reject.Busy total)) = closing (Greet n)
    greet_ok n (message.Reject why) = rejected_ok n
    greet_ok n m = closing (Greet n)

    ready_ok : (phase : Phase) (role : Side) (terms : SessionTerms) (key : Key) (source : Option Source) (offset : ℕ) → OwnFor role key → ReactionOk view.journal (ready_from view now phase role terms key source offset)
    ready_ok phase role terms key None offset is_own = closing phase
    ready_ok phase role terms key (Some source) offset is_own = either view.journal (leb offset source.length) _ _ (send_from_ok view now role terms key source offset is_own) (closing phase)

    result_ok : (phase : Phase) (terms : SessionTerms) (key step : Key) (o : Outcomes) → OwnKey key → Says (message.Result step o) → ReactionOk view.journal (cond (same_key step key) (ended terms key o now) (only (close view now phase)))
    result_ok phase terms key step o is_own says =
        elim (cases_Bool (same_key step key)) [
          | inl same ↦
              subst (ReactionOk view.journal) (sym (cond-true (same_key step key) (ended terms key o now) (only (close view now phase)) same))
              (ended_ok view now terms key o is_own (inl (subst (λ (k : Key). Says (message.Result k o)) (same_key-true step key same) says)))
          | inr other ↦ subst (ReactionOk view.journal) (sym (cond-false (same_key step key) (ended terms key o now) (only (close view now phase)) other)) (closing phase)
        ]

    await_ok : (phase : Phase) (terms : SessionTerms) (key : Key) (source : Option Source) (m : Message) → OwnKey key → Says m → ReactionOk view.journal (row_await view now phase terms key source m)
    await_ok phase terms key source (message.Ready step offset) is_own heard = either view.journal (same_key step key) _ _ (ready_ok phase side.Pnode terms key source offset is_own) (closing phase)
    await_ok phase terms key source (message.Result step o) is_own heard = result_ok phase terms key step o is_own heard
    await_ok phase terms key source m is_own heard = closing phase

    receive_ok : (phase : Phase) (role : Side) (terms : SessionTerms) (key : Key) (a : Announced) → Comes role key a → ReactionOk view.journal (receive view now phase role terms key a)
    receive_ok phase role terms key a is_own = receive_from_ok view now phase role terms key a (status.status view.journal key) is_own (keyed key)

    announced_ok : (phase : Phase) (terms : SessionTerms) (key : Key) (a : Option Announced) → OwnKey key → ReactionOk view.journal (receive_announced view now phase terms key a)
    announced_ok phase terms key None is_own = closing phase
    announced_ok phase terms key (Some a) is_own = receive_ok phase side.Pnode terms key a is_own

    ask_ok : (phase : Phase) (terms : SessionTerms) (key : Key) (m : Message) → OwnKey key → ReactionOk view.journal (row_ask view now phase terms key m)
    ask_ok phase terms key (message.Length step len) is_own =
        either view.journal (same_key step key) _ _ (announced_ok phase terms key (announced_by (what_at view.config.read view.journal key.number key.place) len) is_own) (closing phase)
    ask_ok phase terms key (message.Abort step why) is_own =
        either view.journal (same_key step key && gives_up why) _ _ (given_up_ok view now side.Pnode terms key why (status.status view.journal key) is_own) (closing phase)
    ask_ok phase terms key m is_own = closing phase

    send_ok : (phase : Phase) (role : Side) (terms : SessionTerms) (key : Key) (source : Source) (awaited : ℕ) (m : Message) → OwnFor role key → ReactionOk view.journal (row_send view now phase role terms key source awaited m)
    send_ok phase role terms key source awaited (message.Ack step offset) is_own =
        either view.journal (same_key step key && eqb offset awaited) _ _ (send_from_ok view now role terms key source offset is_own) (closing phase)
    send_ok phase role terms key source awaited m is_own = closing phase

    take_of_ok : (phase : Phase) (role : Side) (terms : SessionTerms) (r : Receiving) (came : ℕ) (m : Message) → OwnFor role r.key → ReactionOk view.journal (row_take_of view now phase role terms r came m)
    take_of_ok phase role terms r came (message.Data step offset bytes) is_own =
        either view.journal (same_key step r.key && is_piece_at terms r came offset (length bytes)) _ _ (take_piece_ok view now role terms r came bytes is_own) (closing phase)
    take_of_ok phase role terms r came (message.End step len) is_own =
        either view.journal (same_key step r.key && eqb len r.length && eqb came r.length) _ _ (land_ok view now role terms r) (closing phase)
    take_of_ok phase role terms r came (message.Abort step why) is_own =
        either view.journal (same_key step r.key && gives_up why) _ _ (drop_back_ok view now role terms r.key why is_own) (closing phase)
    take_of_ok phase role terms r came m is_own = closing phase

    take_ok : (phase : Phase) (role : Side) (terms : SessionTerms) (key : Key) (came : ℕ) (m : Message) (s : Status) → OwnFor role key → ((r : Receiving) (safe : ℕ) → s ≡ status.Open r safe → r.key ≡ key)
        → ReactionOk view.journal (row_take view now phase role terms came m s)
    take_ok phase role terms key came m (status.Open r safe) is_own keyed_s = take_of_ok phase role terms r came m (subst (OwnFor role) (sym (keyed_s r safe refl)) is_own)
    take_ok phase role terms key came m s is_own keyed_s = closing phase

    welcome_ok : (found : Option (List ℕ × ℕ)) (block : ℕ) (h : Hello) → ReactionOk view.journal (welcome found block h)
    welcome_ok None block h = record { fit = (tt, tt, tt); then = tt }
    welcome_ok (Some is) block h = record { fit = (tt, (tt, tt), tt); then = tt }

    fresh_ok : (m : Message) → ReactionOk view.journal (row_fresh view now m)
    fresh_ok (message.Hello h) = welcome_ok (own_home view.journal) view.config.block h
    fresh_ok m = closing Fresh

    unless_done_ok : (terms : SessionTerms) (key : Key) (found : Option Outcomes) (reaction : Reaction) → outcome view.journal key ≡ found → ReactionOk view.journal reaction → ReactionOk view.journal (unless_done view now terms key found reaction)
    unless_done_ok terms key None reaction is ok = checked_ok view now (Ready terms (Some key)) reaction ok
    unless_done_ok terms key (Some o) reaction is ok = record { fit = (tt, (is, tt), tt); then = tt }

    step_ok : (sessions : Sessions) (sid : ℕ) (phase : Phase) (terms : SessionTerms) (key : Key) (reaction : Reaction) → ReactionOk view.journal reaction → ReactionOk view.journal (take_step view sessions now sid phase terms key reaction)
    step_ok sessions sid phase terms key reaction ok =
        let rest : ReactionOk view.journal (unless_done view now (with_number key.number terms) key (outcome view.journal key) reaction) =
        unless_done_ok (with_number key.number terms) key (outcome view.journal key) reaction refl ok in
        either view.journal (is_of_terms terms key && not (is_over view.journal key) && not (is_newer sessions sid key (sessions.holder key))) _ _
        (record { fit = (tt, rest.fit); then = rest.then }) (closing phase)

    forget_ok : (terms : SessionTerms) (last : Option Key) (n : ℕ) → ReactionOk view.journal (forget view terms last n)
    forget_ok terms last n = record { fit = by_known (is_forgotten view.journal terms.pnode terms.home n); then = tt } where
      by_known : (b : Bool) → AllFit view.journal (cond b [] (Keep (entry.Forgot terms.pnode terms.home n) ∷ []) ++ Go (Ready (with_number n terms) last) [] ∷ [])
      by_known true = (tt, tt, tt)
      by_known false = (tt, (tt, tt, tt))

    ready_row_ok : (sessions : Sessions) (sid : ℕ) (phase : Phase) (terms : SessionTerms) (last : Option Key) (m : Message) → Says m → ReactionOk view.journal (row_ready view sessions now sid phase terms last m)
    ready_row_ok sessions sid phase terms last (message.StepCopyTo key name disp interval len) heard =
        let anew : SessionTerms = with_number key.number terms in
        step_ok sessions sid phase terms key _ (receive_ok (Ready anew (Some key)) side.Snode anew key (record { name = name; disp = disp; interval = interval; length = len }) heard)
    ready_row_ok sessions sid phase terms last (message.StepCopyFrom key name interval) heard = step_ok sessions sid phase terms key _ (record { fit = tt; then = tt })
    ready_row_ok sessions sid phase terms last (message.Abort key why) heard =
        either view.journal (is_in_place why) _ _ (step_ok sessions sid phase terms key _ (given_up_ok view now side.Snode (with_number key.number terms) key why (status.status view.journal key) tt)) (closing phase)
    ready_row_ok sessions sid phase terms last (message.Forget known n) heard =
        either view.journal (eqb known terms.home && is_number_of terms.number n && not (is_receiving_for view.journal terms.pnode known n)) _ _ (forget_ok terms last n) (closing phase)
    ready_row_ok sessions sid phase terms last message.Bye heard = record { fit = (tt, tt, tt); then = tt }
    ready_row_ok sessions sid phase terms last m heard = closing phase

    offer_ok : (sessions : Sessions) (sid : ℕ) (phase : Phase) (terms : SessionTerms) (key : Key) (source : Source) (m : Message) → Says m → ReactionOk view.journal (row_offer view sessions now sid phase terms key source m)
    offer_ok sessions sid phase terms key source (message.Ready step offset) heard = either view.journal (same_key step key) _ _ (ready_ok phase side.Snode terms key (Some source) offset tt) (closing phase)
    offer_ok sessions sid phase terms key source m heard = ready_row_ok sessions sid phase terms (Some key) m heard

    reaction_in_ok : (sessions : Sessions) (sid : ℕ) (m : Message) (phase : Phase) → PhaseOk phase → Says m → ReactionOk view.journal (reaction_in view sessions now sid m phase)
    reaction_in_ok sessions sid m Gone ok heard = record { fit = (tt, tt, tt); then = tt }
    reaction_in_ok sessions sid m (Greet n) ok heard = greet_ok n m
    reaction_in_ok sessions sid m (Await terms key source) ok heard = await_ok (Await terms key source) terms key source m ok heard
    reaction_in_ok sessions sid m (Ask terms key) ok heard = ask_ok (Ask terms key) terms key m ok
    reaction_in_ok sessions sid m Fresh ok heard = fresh_ok m
    reaction_in_ok sessions sid m (Ready terms last) ok heard = ready_row_ok sessions sid (Ready terms last) terms last m heard
    reaction_in_ok sessions sid m (Offer terms key source) ok heard = offer_ok sessions sid (Offer terms key source) terms key source m heard
    reaction_in_ok sessions sid m (Send role terms key source awaited) ok heard = send_ok (Send role terms key source awaited) role terms key source awaited m ok
    reaction_in_ok sessions sid m (Take role terms key came) ok heard = take_ok (Take role terms key came) role terms key came m (status.status view.journal key) ok (keyed key)

    first_ok : (sessions : Sessions) (sid : ℕ) (m : Message) → PhaseOk (sessions.phase sid) → Says m → ReactionOk view.journal (first_reaction view sessions now sid m)
    first_ok sessions sid m ok heard =
        either view.journal (is_dead view (own_number (sessions.phase sid)) || is_detached sessions sid (key_under_way (sessions.phase sid))) _ _ (closing (sessions.phase sid))
        (checked_ok view now (sessions.phase sid) (reaction_in view sessions now sid m (sessions.phase sid)) (reaction_in_ok sessions sid m (sessions.phase sid) ok heard))

  -- questions do nothing
  asked_ok : (journal : List Entry) (view : NodeView) (later : Continuation) (more : List Effect) → AllFit journal more → AllFit journal (asked view later ++ more)
  asked_ok journal view Done more ok = ok
  asked_ok journal view (Next terms n) more ok = ok
  asked_ok journal view (Undo role terms key why) more ok = ok
  asked_ok journal view (Push terms key) more ok = ok
  asked_ok journal view (Offered terms key name interval) more ok = ok
  asked_ok journal view (Onto role terms key a) more ok = ok
  asked_ok journal view (Piece role terms key source offset) more ok = ok

  reactions_ok : (more : ℕ) (node : Node) (sid : ℕ) (answers : Answers) (reaction : Reaction) → own_home node.view.journal ≡ own.home → node.view.config.read ≡ own.read → ReactionOk node.view.journal reaction → AllFit node.view.journal (all_reactions more node sid answers reaction)
  unfolding all_reactions
  reactions_ok zero node sid answers reaction home reads ok = ok.fit
  reactions_ok (suc more) node sid answers reaction home reads ok =
      let after : Node = does sid reaction.effects node in
      let home2 : own_home after.view.journal ≡ own.home = home_after sid reaction.effects node ok.fit ∙ home in
      let reads2 : after.view.config.read ≡ own.read = ap (λ (c : Config). c.read) (same_config sid reaction.effects node) ∙ reads in
      let then2 : ThenOk after.view.journal reaction.later = subst (λ (journal : List Entry). ThenOk journal reaction.later) (kept_does sid reaction.effects node) ok.then in
      let following : Reaction = checked after.view answers.now (after.sessions.phase sid) (reaction_behind after.view answers.now (after.sessions.phase sid) answers reaction.later) in
      let ok2 : ReactionOk after.view.journal following = checked_ok after.view answers.now (after.sessions.phase sid) _ (behind_ok after.view answers.now home2 reads2 (after.sessions.phase sid) answers reaction.later then2) in
      let rest : AllFit after.view.journal (all_reactions more after sid answers following) = reactions_ok more after sid answers following home2 reads2 ok2 in
      both_all sid reaction.effects _ node ok.fit (unless (is_done reaction.later) _ (asked_ok after.view.journal after.view reaction.later _ rest))
    where
      unless : (b : Bool) (effects : List Effect) → AllFit (does sid reaction.effects node).view.journal effects → AllFit (does sid reaction.effects node).view.journal (cond b [] effects)
      unless true effects h = tt
      unless false effects h = h

  -- each row
  pub row_ok : (node : Node) (sid : ℕ) (answers : Answers) (m : Message) → own_home node.view.journal ≡ own.home → node.view.config.read ≡ own.read
      → ((key : Key) (r : Receiving) (safe : ℕ) → status.status node.view.journal key ≡ status.Open r safe → r.key ≡ key)
      → PhaseOk (node.sessions.phase sid) → Says m → AllFit node.view.journal (row node sid answers m)
  row_ok node sid answers m home reads keyed ok heard =
      reactions_ok most_reactions node sid answers (first_reaction node.view node.sessions answers.now sid m) home reads (first_ok node.view home keyed answers.now node.sessions sid m ok heard)

  connect_ok : (view : NodeView) (now : ℕ) (chosen : Row) (waits : Waits) (connected : Bool) → AllFit view.journal (connect view now chosen waits connected)
  connect_ok view now chosen waits true = (tt, hello_ok (own_home view.journal), tt) where
    hello_ok : (known : Option (List ℕ × ℕ)) → AllTell own.read view.journal (hello known view.config.block)
    hello_ok None = tt
    hello_ok (Some is) = (tt, tt)
  connect_ok view now chosen waits false = (tt, tt)

  call_ok : (view : NodeView) (now : ℕ) (connected : Bool) (chosen : Row) (waits : Option Waits) → AllFit view.journal (call view now connected chosen waits)
  call_ok view now connected chosen None = (tt, tt)
  call_ok view now connected chosen (Some waits) = connect_ok view now chosen waits connected

  chosen_ok : (view : NodeView) (now : ℕ) (connected : Bool) (chosen : Option Row) → AllFit view.journal (row_chosen view now connected chosen)
  chosen_ok view now connected None = tt
  chosen_ok view now connected (Some chosen) = call_ok view now connected chosen (view.config.partner chosen.snode)

  pub choose_ok : (node : Node) (now : ℕ) (connected : Bool) → AllFit node.view.journal (row_choose node now connected)
  choose_ok node now connected = chosen_ok node.view now connected (next_due node.view.journal now (busy node.sessions))
