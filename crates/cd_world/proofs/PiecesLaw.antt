-- What the effects of every row are like for the bytes that are received: who speaks in a session, what is marked, what lands,
-- and which bytes are written and sent.
use Rattle.std.proofs.Common.{◌≡◌, ℕ, zero, suc, ◌+◌, ◌-◌, ◌≤◌, Bool, true, false, cond, ◌&&◌, eqb, ltb, leb, List, [], ◌∷◌, ◌++◌, length, Option, Some, None, ◌⊎◌, inl, inr, refl, sym, ◌∙◌, ap, subst, min, take, arith, length-take}
use Rattle.std.specs.Prelude.{◌%◌, ◌||◌, not}
use Rattle.std.proofs.lemmas.Bool.{cases_Bool, and_parts, or_parts, cond-true, cond-false, false≢true, eqb-true, eq-eqb, leb-true}
use Rattle.std.specs.Str.{bytes_eq}
use Rattle.std.proofs.lemmas.List.{append-nil}
use Rattle.cd_outside.specs.Content.{overwritten}
use Rattle.cd_outside.specs.Disposition.{landed, dropped}
use Rattle.cd_types.specs.declared.choices.Cause.{Cause}
use Rattle.cd_types.specs.declared.choices.Cause.TheVariants as cause
use Rattle.cd_types.specs.declared.choices.Disp.{Disp}
use Rattle.cd_types.specs.declared.choices.Disp.TheVariants as disp
use Rattle.cd_types.specs.declared.choices.Side.{Side}
use Rattle.cd_types.specs.declared.choices.Side.TheVariants as side
use Rattle.cd_types.specs.declared.key.Key.{Key}
use Rattle.cd_types.specs.declared.rows.Outcomes.{Outcomes}
use Rattle.cd_types.specs.declared.rows.Placing.{Placing}
use Rattle.cd_types.specs.declared.rows.Receiving.{Receiving}
use Rattle.cd_entries.specs.declared.entry.Entry.{Entry}
use Rattle.cd_entries.specs.declared.entry.Entry.TheVariants as entry
use Rattle.cd_ast.specs.declared.process.CopyStep.{CopyStep}
use Rattle.cd_ast.specs.declared.process.What.{What}
use Rattle.cd_ast.specs.declared.process.What.TheVariants as what
use Rattle.cd_outside.specs.Shelf as shelves
use Rattle.cd_frames.specs.Message as message
use Rattle.cd_frames.specs.Message.{Message}
use Rattle.cd_frames.specs.declared.frame.Hello.{Hello}
use Rattle.cd_frames.specs.declared.frame.RejectCause.TheVariants as reject
use Rattle.cd_frames.specs.declared.frame.Welcome.{Welcome}
use Rattle.cd_rules.specs.Keys.{same_key}
use Rattle.cd_rules.proofs.KeysLaw.{same_key-refl, same_key-true}
use Rattle.cd_rules.specs.Openings.{is_in_use, is_receiving_for}
use Rattle.cd_rules.specs.Processes.{submission, own_home, is_live, moment_of, is_forgotten, is_over}
use Rattle.cd_types.specs.declared.rows.Row.{Row}
use Rattle.cd_rules.specs.Queue.{Waits, placing, next_due}
use Rattle.cd_rules.specs.Status as status
use Rattle.cd_rules.specs.Status.{Status, outcome}
use Rattle.cd_rules.proofs.StatusLaw.{status-own}
use Rattle.cd_rules.specs.Legal.{allowed, may_receive, may_receive_from, is_base_of, greatest_file}
use Rattle.cd_rules.proofs.LegalLaw.{allowed_follows}
use Rattle.cd_rules.specs.Steps.{Reading, next_place, what_at, fits_own, is_pull_of}
use Rattle.cd_protocol.specs.declared.session.SessionTerms.{SessionTerms}
use Rattle.cd_protocol.specs.declared.session.Source.{Source}
use Rattle.cd_protocol.specs.declared.session.Announced.{Announced}
use Rattle.cd_protocol.specs.declared.session.Phase.{Phase}
use Rattle.cd_protocol.specs.declared.session.Phase.TheVariants.{Gone, Greet, Await, Ask, Fresh, Ready, Offer, Send, Take}
use Rattle.cd_protocol.specs.declared.session.Continuation.{Continuation}
use Rattle.cd_protocol.specs.declared.session.Continuation.TheVariants.{Done, Next, Undo, Push, Offered, Onto, Piece}
use Rattle.cd_protocol.specs.Closing.{own_number, key_under_way, is_running, retry, retry_own, close, trouble_for}
use Rattle.cd_protocol.specs.Node.{NodeView, Sessions, Node, Effect, Keep, Touch, AskSize, AskBytes, Begin, Go, Reaction, only, put, does, Answers}
use Rattle.cd_protocol.specs.Receiving.{failed, answer, drop_back, undo, undone, given_up, resume, receive_anew, is_same_receiving, receive_again, receive_first, receive_from, receive, kept_base, is_there, is_new, receiving_of, target_known, is_piece_at, take_piece, landed_whole, land, gives_up}
use Rattle.cd_protocol.specs.Rows.{is_by, is_formed, may_record, are_allowed, checked, held, rejected, is_called, run, row_greet, ready_from, row_await, announced_by, receive_announced, row_ask, row_send, row_take_of, row_take, welcome, row_fresh, is_number_of, is_of_terms, with_number, is_newer, unless_done, take_step, offered, forget, is_in_place, row_ready, row_offer, reaction_in, is_dead, is_sid, is_detached, first_reaction, source_in, reaction_behind, asked, is_done, all_reactions, most_reactions, row, hello, connect, call, row_chosen, row_choose, busy}
use Rattle.cd_protocol.specs.Sending.{after_sending, send_from, piece_len, piece_read, push, push_of, copy, begin, ended, step_at, key_at, next_step, next, settled}
use Rattle.cd_outside.specs.Shelf.{FileChange, WriteFile, content_of, settled_file, name_of}
use Rattle.cd_world.specs.World.{At, Note, World, Unless, written_for, written_by, readied, world_did, world_does, AreTold, AllTold, bytes_told, read_for}
use Rattle.cd_world.proofs.FilesLaw.{KeepsSafe, NotSpoiled, front_of, size, ToldOf, OnFile, Held, AtRest, Rested, safe_begins, seen_same, same_name, doubt_synced, file_back, marked_opens, undo_name, undo_safe, undo_after, land_after, piece_after, rest_low, rest_came}
use Rattle.cd_world.specs.Holds.{journal_of, IsFoundIn, Agrees, Begins}
use Rattle.cd_world.proofs.FrontsLaw.{length_over}
use Rattle.cd_world.proofs.GrownLaw.{does_node}

-- Frames that await an answer.
abbrev pub speaks : Message → ℕ
speaks (message.Forget home n) = 0
speaks message.Bye = 0
speaks _ = 1

abbrev pub speaking : List Message → ℕ
speaking [] = 0
speaking (m ∷ frames) = speaks m + speaking frames

abbrev pub on_way : ℕ → World → ℕ
on_way sid w = speaking (w.a.way sid) + speaking (w.b.way sid)

abbrev pub NotTaking : Phase → Type 0
NotTaking (Take role terms key came) = ⊥
NotTaking _ = Unit {0}

-- frames of a node that goes on to receive
abbrev pub receives : List Message → Bool
receives [] = false
receives (message.Abort key why ∷ frames) = false
receives (m ∷ frames) = true

-- Whether a session is at rest behind these effects, where it was before or wasn't: it isn't where a file was changed for it, until it
-- goes on or has its outcome.
abbrev pub rests_in : Phase → List Message → Bool
rests_in (Take role terms key came) frames = receives frames
rests_in _ frames = true

abbrev pub rests_behind : Entry → Bool → Bool
rests_behind (entry.Mark key zero) b = b
rests_behind (entry.Mark key (suc offset)) b = false
rests_behind (entry.Result key o moment) b = true
rests_behind (entry.Dropped key rc why moment) b = true
rests_behind e b = b

abbrev pub rested : Bool → List Effect → Bool
rested b [] = b
rested b (Keep e ∷ effects) = rested (rests_behind e b) effects
rested b (Touch change ∷ effects) = rested false effects
rested b (AskSize name ∷ effects) = rested b effects
rested b (AskBytes name at len ∷ effects) = rested b effects
rested b (Begin key phase ∷ effects) = rested true effects
rested b (Go phase frames ∷ effects) = rested (rests_in phase frames) effects

rested_append : (b : Bool) (first second : List Effect) → rested b (first ++ second) ≡ rested (rested b first) second
rested_append b [] second = refl
rested_append b (Keep e ∷ first) second = rested_append (rests_behind e b) first second
rested_append b (Touch change ∷ first) second = rested_append false first second
rested_append b (AskSize name ∷ first) second = rested_append b first second
rested_append b (AskBytes name at len ∷ first) second = rested_append b first second
rested_append b (Begin key phase ∷ first) second = rested_append true first second
rested_append b (Go phase frames ∷ first) second = rested_append (rests_in phase frames) first second

-- a session that is closed is at rest, and so is one that goes on
pub rested_last : (b : Bool) (effects : List Effect) (phase : Phase) (frames : List Message) → rests_in phase frames ≡ true → rested b (effects ++ Go phase frames ∷ []) ≡ true
rested_last b effects phase frames rests = rested_append b effects (Go phase frames ∷ []) ∙ rests

pub rested_close : (b : Bool) (view : NodeView) (now : ℕ) (phase : Phase) → rested b (close view now phase) ≡ true
rested_close b view now phase = rested_last b (retry_own view now (own_number phase)) Gone [] refl

abbrev NotOpen : Status → Type 0
NotOpen (status.Open r safe) = ⊥
NotOpen _ = Unit {0}

-- of a receiving that is open
abbrev pub OfOpen : List Entry → Key → (Receiving → ℕ → Type 0) → Type 0
OfOpen journal key P = (r : Receiving) (safe : ℕ) → status.status journal key ≡ status.Open r safe → P r safe

module _ (x : At) (sid : ℕ) where
  abbrev pub Silent : World → Type 0
  Silent w = on_way sid w ≡ 0

  abbrev pub Calm : World → Type 0
  Calm w = on_way sid w ≤ 1

  -- a receiving begins in the session that holds its key; a mark is within what came; and what lands came whole
  -- Of a file that nobody else wrote: a receiving has what was told of it, what is marked is synced, and what has an outcome is
  -- what is to be settled.
  abbrev pub IsMarked : World → ℕ → Receiving → ℕ → Type 0
  IsMarked w offset r safe =
      (offset ≡ 0) ⊎ (NotSpoiled w.a r.name → Begins (front_of w.a r offset) (w.a.node.shelf.seen r.name) × (w.a.node.shelf.doubt r.name ≡ settled_file (w.a.node.shelf.seen r.name)))

  abbrev pub IsSettled : World → Receiving → Option (List ℕ) → Type 0
  IsSettled w r file = (w.a.node.shelf.seen r.name ≡ file) × (w.a.node.shelf.doubt r.name ≡ settled_file file)

  -- the session receives nothing, or this step
  abbrev pub Frees : World → Key → Type 0
  Frees w key = NotTaking (w.a.node.sessions.phase sid) ⊎ (key_under_way (w.a.node.sessions.phase sid) ≡ Some key)

  abbrev pub GoodKeep : World → Entry → Type 0
  GoodKeep w (entry.Receiving r) =
      (w.a.node.sessions.holder r.key ≡ Some sid) × NotTaking (w.a.node.sessions.phase sid) × Silent w
      × (OfOpen (journal_of w.a) r.key (λ before safe. ⊥) → ToldOf r (w.a.node.shelf.seen r.name))
  GoodKeep w (entry.Mark key offset) = (offset ≤ length (w.a.received key)) × (w.a.node.sessions.holder key ≡ Some sid) × OfOpen (journal_of w.a) key (IsMarked w offset)
  GoodKeep w (entry.Result key o moment) =
      OfOpen (journal_of w.a) key (λ r safe. r.length ≤ length (w.a.received key))
      × OfOpen (journal_of w.a) key (λ r safe. NotSpoiled w.a r.name → IsSettled w r (Some (landed r.disp (w.a.settled r.name) (w.a.received key)))) × Frees w key
  GoodKeep w (entry.Dropped key rc why moment) = OfOpen (journal_of w.a) key (λ r safe. NotSpoiled w.a r.name → IsSettled w r (dropped r.disp (w.a.settled r.name))) × Frees w key
  GoodKeep w (entry.Started key kind try moment) = ⊥
  GoodKeep w _ = Unit {0}

  -- a piece is written behind the bytes before it, and is what every source that agrees has there
  pub record Brought (w : World) (at : ℕ) (bytes : List ℕ) : Type 0 where
    pub key : Key
    pub r : Receiving
    pub safe : ℕ
    pub came : ℕ
    pub under : key_under_way (w.a.node.sessions.phase sid) ≡ Some key
    pub open_is : status.status (journal_of w.a) key ≡ status.Open r safe
    pub at_is : at - r.base ≡ came
    pub enough : came ≤ length (w.a.received key)
    pub within : came + length bytes ≤ r.length
    pub found : (source : List ℕ) → length source ≡ r.length → Agrees w.notes x key source → IsFoundIn bytes came source

  -- a file is changed for the receiving whose key the session holds, behind what is safe of it
  abbrev pub IsWrittenFor : World → Key → FileChange → Type 0
  IsWrittenFor w key (WriteFile name at bytes) = key_under_way (w.a.node.sessions.phase sid) ≡ Some key
  IsWrittenFor w key _ = Unit {0}

  pub record Under (w : World) (change : FileChange) : Type 0 where
    pub r : Receiving
    pub safe : ℕ
    pub open_is : status.status (journal_of w.a) r.key ≡ status.Open r safe
    pub name_is : r.name ≡ name_of change
    pub holds : w.a.node.sessions.holder r.key ≡ Some sid
    pub keeps : NotSpoiled w.a r.name → KeepsSafe (r.base + safe) change
    pub writes : IsWrittenFor w r.key change

  abbrev pub GoodWrite : World → FileChange → Type 0
  GoodWrite w (WriteFile name at bytes) = Brought w at bytes
  GoodWrite w _ = Unit {0}

  abbrev pub GoodChange : World → FileChange → Type 0
  GoodChange w change = GoodWrite w change × Under w change

  -- Ready goes out no lower than the mark, in the session that holds the key; and Data has what every source that agrees has
  abbrev pub SentTrue : World → Message → Type 0
  SentTrue w (message.Ready key offset) = (w.a.node.sessions.holder key ≡ Some sid) × OfOpen (journal_of w.a) key (λ r safe. safe ≤ offset)
  SentTrue w (message.Data key offset bytes) = (y : At) (source : List ℕ) → Agrees w.notes y key source → IsFoundIn bytes offset source
  SentTrue w _ = Unit {0}

  abbrev pub AllTrue : World → List Message → Type 0
  AllTrue w [] = Unit {0}
  AllTrue w (m ∷ frames) = SentTrue w m × AllTrue w frames

  -- so many bytes came
  abbrev pub TakesOn : World → List Message → Phase → Type 0
  TakesOn w frames (Take role terms key came) = w.a.node.sessions.holder key ≡ Some sid → OfOpen (journal_of w.a) key (λ r safe. came ≤ length (readied frames w.a.received key))
  TakesOn w frames _ = Unit {0}

  -- and the file has them, where the node goes on to receive
  abbrev pub RestsOn : World → List Message → Phase → Type 0
  RestsOn w frames (Take role terms key came) =
      receives frames ≡ true → w.a.node.sessions.holder key ≡ Some sid → OfOpen (journal_of w.a) key (λ r safe. AtRest (record w.a { received = readied frames w.a.received }) r safe came)
  RestsOn w frames _ = Unit {0}

  pub record GoesOn (w : World) (phase : Phase) (frames : List Message) : Type 0 where
    pub quiet : speaking frames + on_way sid w ≤ 1
    pub sent : AllTrue w frames
    pub takes : TakesOn w frames phase
    pub rests : RestsOn w frames phase

  abbrev pub AllGood : World → List Effect → Type 0
  AllGood w [] = Unit {0}
  AllGood w (Keep e ∷ effects) = GoodKeep w e × AllGood (world_did x sid (Keep e) w) effects
  AllGood w (Touch change ∷ effects) = Silent w × GoodChange w change × AllGood (world_did x sid (Touch change) w) effects
  AllGood w (AskSize name ∷ effects) = Silent w × AllGood (world_did x sid (AskSize name) w) effects
  AllGood w (AskBytes name at len ∷ effects) = Silent w × AllGood (world_did x sid (AskBytes name at len) w) effects
  AllGood w (Begin key phase ∷ effects) = Silent w × NotTaking phase × AllGood (world_did x sid (Begin key phase) w) effects
  AllGood w (Go phase frames ∷ effects) = GoesOn w phase frames × AllGood (world_did x sid (Go phase frames) w) effects

  -- what comes behind a reaction
  -- a receiving is dropped back: its mark is 0, and the old bytes are safe
  pub record Undoes (w : World) (key : Key) : Type 0 where
    pub holds : w.a.node.sessions.holder key ≡ Some sid
    pub frees : Frees w key
    pub backs : OfOpen (journal_of w.a) key (λ r safe. (r.key ≡ key) × (safe ≡ 0) × (NotSpoiled w.a r.name → OnFile w.a r 0))

  abbrev ThenGood : World → Continuation → Type 0
  ThenGood w (Undo role terms key why) = Silent w × Undoes w key
  ThenGood w Done = Unit {0}
  ThenGood w (Onto role terms key a) =
      Silent w × OfOpen (journal_of w.a) key (λ r safe. ⊥) × (w.a.node.sessions.holder key ≡ Some sid) × NotTaking (w.a.node.sessions.phase sid)
  ThenGood w (Piece role terms key source offset) = Silent w × (key_under_way (w.a.node.sessions.phase sid) ≡ Some key)
  ThenGood w _ = Silent w

  record Good (w : World) (reaction : Reaction) : Type 0 where
    fit : AllGood w reaction.effects
    back : rested true reaction.effects ≡ true
    then : ThenGood (world_does x sid reaction.effects w) reaction.later

  -- all effects of a row are good, and behind them the session is at rest
  pub record Goes (w : World) (effects : List Effect) : Type 0 where
    pub fit : AllGood w effects
    pub back : rested true effects ≡ true

  one_of : (w : World) (b : Bool) (p q : Reaction) → Good w p → Good w q → Good w (cond b p q)
  one_of w true p q one other = one
  one_of w false p q one other = other

  both_good : (first second : List Effect) (w : World) → AllGood w first → AllGood (world_does x sid first w) second → AllGood w (first ++ second)
  both_good [] second w one two = two
  both_good (Keep e ∷ first) second w one two = (one.0, both_good first second (world_did x sid (Keep e) w) one.1 two)
  both_good (Touch change ∷ first) second w one two = (one.0, one.1, both_good first second (world_did x sid (Touch change) w) one.2 two)
  both_good (AskSize name ∷ first) second w one two = (one.0, both_good first second (world_did x sid (AskSize name) w) one.1 two)
  both_good (AskBytes name at len ∷ first) second w one two = (one.0, both_good first second (world_did x sid (AskBytes name at len) w) one.1 two)
  both_good (Begin key phase ∷ first) second w one two = (one.0, one.1, both_good first second (world_did x sid (Begin key phase) w) one.2 two)
  both_good (Go phase frames ∷ first) second w one two = (one.0, both_good first second (world_did x sid (Go phase frames) w) one.1 two)

  -- Ends of sessions.
  gone_good : (w : World) → Calm w → AllGood w (Go Gone [] ∷ [])
  gone_good w calm = (record { quiet = omega (arith, calm); sent = tt; takes = tt; rests = tt }, tt)

  placed_gone_good : (w : World) (b : Bool) (n : ℕ) (placed : Placing) (now : ℕ) → Calm w → AllGood w (cond b (Keep (entry.Placed n placed now) ∷ []) [] ++ Go Gone [] ∷ [])
  placed_gone_good w true n placed now calm = (tt, gone_good (world_did x sid (Keep (entry.Placed n placed now)) w) calm)
  placed_gone_good w false n placed now calm = gone_good w calm

  retry_good : (w : World) (now n : ℕ) (found : Option Placing) → Calm w → AllGood w (retry w.a.node.view now n found ++ Go Gone [] ∷ [])
  retry_good w now n None calm = gone_good w calm
  retry_good w now n (Some placed) calm = placed_gone_good w (is_live (journal_of w.a) n && is_running now placed) n _ now calm

  own_good : (w : World) (now : ℕ) (number : Option ℕ) → Calm w → AllGood w (retry_own w.a.node.view now number ++ Go Gone [] ∷ [])
  own_good w now None calm = gone_good w calm
  own_good w now (Some n) calm = retry_good w now n (placing (journal_of w.a) n) calm

  pub close_good : (w : World) (now : ℕ) (phase : Phase) → Calm w → AllGood w (close w.a.node.view now phase)
  close_good w now phase calm = own_good w now (own_number phase) calm

  -- Reactions.
  module _ (now : ℕ) where
    closed_good : (w : World) (phase : Phase) → Calm w → Good w (only (close w.a.node.view now phase))
    closed_good w phase calm = record { fit = close_good w now phase calm; back = rested_close true w.a.node.view now phase; then = tt }

    calm_of : (w : World) → Silent w → Calm w
    calm_of w silent = omega (arith, silent)

    -- where its entries may follow
    abbrev Fits : World → Reaction → Type 0
    Fits w reaction = are_allowed w.a.node.view.config.read now (journal_of w.a) reaction.effects ≡ true

    one_when : (w : World) (b : Bool) (p q : Reaction) → (Fits w p → Good w p) → (Fits w q → Good w q) → Fits w (cond b p q) → Good w (cond b p q)
    one_when w true p q one other fits = one fits
    one_when w false p q one other fits = other fits

    checked_when : (w : World) (phase : Phase) (reaction : Reaction) → Calm w → (Fits w reaction → Good w reaction) → Good w (checked w.a.node.view now phase reaction)
    checked_when w phase reaction calm good =
        let fits : Bool = are_allowed w.a.node.view.config.read now (journal_of w.a) reaction.effects in
        elim (cases_Bool fits) [
          | inl all ↦ subst (Good w) (sym (cond-true fits reaction (only (close w.a.node.view now phase)) all)) (good all)
          | inr not_all ↦ subst (Good w) (sym (cond-false fits reaction (only (close w.a.node.view now phase)) not_all)) (closed_good w phase calm)
        ]

    checked_good : (w : World) (phase : Phase) (reaction : Reaction) → Calm w → Good w reaction → Good w (checked w.a.node.view now phase reaction)
    checked_good w phase reaction calm good = one_of w (are_allowed w.a.node.view.config.read now (journal_of w.a) reaction.effects) reaction _ good (closed_good w phase calm)

    settled_good : (w : World) (role : Side) (terms : SessionTerms) (key : Key) (o : Outcomes) → Silent w → Good w (settled role terms key o)
    settled_good w side.Snode terms key o silent = record { fit = (record { quiet = omega (arith, silent); sent = (tt, tt); takes = tt; rests = tt }, tt); back = refl; then = tt }
    settled_good w side.Pnode terms key o silent = record { fit = tt; back = refl; then = silent }

    answer_good : (w : World) (role : Side) (terms : SessionTerms) (key : Key) (o : Outcomes) → Silent w → GoodKeep w (entry.Result key o now) → Good w (answer role terms key o now)
    answer_good w role terms key o silent whole =
        let rest : Good (world_did x sid (Keep (entry.Result key o now)) w) (settled role terms key o) = settled_good (world_did x sid (Keep (entry.Result key o now)) w) role terms key o silent in
        record { fit = (whole, rest.fit); back = rest.back; then = rest.then }

    same_open : (a b : Receiving) (m n : ℕ) → status.Open a m ≡ status.Open b n → (a ≡ b) × (m ≡ n)
    same_open a b m n e = (cc, cc)

    closed_status : (journal : List Entry) (key : Key) (s : Status) → status.status journal key ≡ s → NotOpen s → OfOpen journal key (λ r safe. ⊥)
    closed_status journal key s is not_open r safe opens = subst NotOpen (sym is ∙ opens) not_open

    refuse_good : (w : World) (role : Side) (terms : SessionTerms) (key : Key) (why : Cause) → Silent w → OfOpen (journal_of w.a) key (λ r safe. ⊥) → Frees w key → Good w (answer role terms key (failed why) now)
    refuse_good w role terms key why silent not_open frees = answer_good w role terms key (failed why) silent (λ r safe is. absurd (not_open r safe is), λ r safe is. absurd (not_open r safe is), frees)

    -- what is known of the receivings
    pub record Known (w : World) : Type 0 where
      pub keyed : (key : Key) → OfOpen (journal_of w.a) key (λ r safe. r.key ≡ key)
      pub files : (key : Key) → OfOpen (journal_of w.a) key (λ r safe. Held w.a r safe)

    known_marks : (w : World) → Known w → (key : Key) → OfOpen (journal_of w.a) key (λ r safe. safe ≤ length (w.a.received key))
    known_marks w known key r safe is = subst (λ (k : Key). safe ≤ length (w.a.received k)) (known.keyed key r safe is) (known.files key r safe is).0

    drop_good : (w : World) (role : Side) (terms : SessionTerms) (key : Key) (why : Cause) → Silent w → Known w → w.a.node.sessions.holder key ≡ Some sid → Frees w key → Good w (drop_back role terms key why)
    drop_good w role terms key why silent known holds frees = record {
      fit = ((omega arith, holds, λ r safe is. inl refl), tt);
      back = refl;
      then = (
        silent,
        record {
          holds = holds;
          frees = frees;
          backs = λ r safe is.
              let before = marked_opens 0 (status.status (journal_of w.a) key) r safe (sym (status-own (entry.Mark key 0) (journal_of w.a) key (same_key-refl key)) ∙ is) in
              (known.keyed key r before.0 before.1, before.2, λ clean. let file : OnFile w.a r before.0 = (known.files key r before.0 before.1).2 clean in (file.0, file_back w.a r before.0 file));
        },
      );
    }

    undo_good : (w : World) (r : Receiving) (d : Disp) → GoodWrite w (undo r d)
    undo_good w r disp.New = tt
    undo_good w r disp.Rpl = tt
    undo_good w r disp.Mod = elim r.there as (λ b. GoodWrite w (cond b (shelves.CutFile r.name r.base) (shelves.RemoveFile r.name))) [ true ↦ tt | false ↦ tt ]

    undo_writes : (w : World) (r : Receiving) (d : Disp) → IsWrittenFor w r.key (undo r d)
    undo_writes w r disp.New = tt
    undo_writes w r disp.Rpl = tt
    undo_writes w r disp.Mod = elim r.there as (λ b. IsWrittenFor w r.key (cond b (shelves.CutFile r.name r.base) (shelves.RemoveFile r.name))) [ true ↦ tt | false ↦ tt ]

    undo_settles : (w : World) (r : Receiving) → OnFile w.a r 0
        → IsSettled (world_did x sid (Touch (shelves.SyncFile r.name)) (world_did x sid (Touch (undo r r.disp)) w)) r (dropped r.disp (w.a.settled r.name))
    undo_settles w r file =
        let old : Option (List ℕ) = w.a.settled r.name in
        let kept : List ℕ = take r.base (content_of old) in
        let shelf : shelves.Shelf = w.a.node.shelf in
        let change : FileChange = undo r r.disp in
        let begins : Begins kept (shelf.seen r.name) = subst (λ (front : List ℕ). Begins front (shelf.seen r.name)) (append-nil kept) (safe_begins (front_of w.a r 0) (shelf.seen r.name) (shelf.doubt r.name) file.1) in
        let same : bytes_eq (name_of change) r.name ≡ true = subst (λ (n : List ℕ). bytes_eq n r.name ≡ true) (undo_name r r.disp) (same_name r.name) in
        let seen : (shelves.changed change shelf).seen r.name ≡ dropped r.disp old = seen_same change shelf r.name same ∙ undo_after r (shelf.seen r.name) old r.disp file.0.0 file.0.1 begins in
        (seen, doubt_synced (shelves.changed change shelf) r.name ∙ ap settled_file seen)

    undone_good : (w : World) (phase : Phase) (role : Side) (terms : SessionTerms) (key : Key) (why : Cause) (s : Status) → status.status (journal_of w.a) key ≡ s → Silent w → Undoes w key
        → Good w (undone w.a.node.view now phase role terms key why s)
    undone_good w phase role terms key why (status.Open r safe) is silent undoes =
        let backs = undoes.backs r safe is in
        let key_is : r.key ≡ key = backs.0 in
        let opens : status.status (journal_of w.a) r.key ≡ status.Open r safe = subst (λ (k : Key). status.status (journal_of w.a) k ≡ status.Open r safe) (sym key_is) is in
        let holds : w.a.node.sessions.holder r.key ≡ Some sid = subst (λ (k : Key). w.a.node.sessions.holder k ≡ Some sid) (sym key_is) undoes.holds in
        let w1 : World = world_did x sid (Touch (undo r r.disp)) w in
        let w2 : World = world_did x sid (Touch (shelves.SyncFile r.name)) w1 in
        let w3 : World = world_did x sid (Keep (entry.Dropped key 8 why now)) w2 in
        let rest : Good w3 (settled role terms key (failed why)) = settled_good w3 role terms key (failed why) silent in
        let name_is : r.name ≡ name_of (undo r r.disp) = undo_name r r.disp in
        let one : Under w (undo r r.disp) = record { r = r; safe = safe; open_is = opens; name_is = name_is; holds = holds; keeps = λ clean. let file : OnFile w.a r 0 = backs.2 clean in let none : safe ≡ 0 = backs.1 in undo_safe r (w.a.settled r.name) r.disp (r.base + safe) file.0.0 file.0.1 (omega (arith, none)); writes = undo_writes w r r.disp } in
        let two : Under w1 (shelves.SyncFile r.name) = record { r = r; safe = safe; open_is = opens; name_is = refl; holds = holds; keeps = λ clean. tt; writes = tt } in
        let settled : OfOpen (journal_of w2.a) key (λ r2 safe2. NotSpoiled w2.a r2.name → IsSettled w2 r2 (dropped r2.disp (w2.a.settled r2.name))) =
        λ r2 safe2 is2. subst (λ (q : Receiving). NotSpoiled w2.a q.name → IsSettled w2 q (dropped q.disp (w2.a.settled q.name))) (same_open r r2 safe safe2 (sym is ∙ is2)).0
        (λ clean. undo_settles w r (backs.2 clean)) in
        record { fit = (silent, (undo_good w r r.disp, one), (silent, (tt, two), ((settled, undoes.frees), rest.fit))); back = rest.back; then = rest.then }
    undone_good w phase role terms key why s is silent undoes = closed_good w phase (calm_of w silent)

    given_up_good : (w : World) (role : Side) (terms : SessionTerms) (key : Key) (why : Cause) (s : Status) → status.status (journal_of w.a) key ≡ s → Silent w → Known w → w.a.node.sessions.holder key ≡ Some sid
        → NotTaking (w.a.node.sessions.phase sid) → Good w (given_up role terms key why now s)
    given_up_good w role terms key why (status.Open r safe) is silent known holds free = drop_good w role terms key why silent known holds (inl free)
    given_up_good w role terms key why status.Fresh is silent known holds free = refuse_good w role terms key why silent (closed_status (journal_of w.a) key status.Fresh is tt) (inl free)
    given_up_good w role terms key why (status.Started tries kind) is silent known holds free = refuse_good w role terms key why silent (closed_status (journal_of w.a) key (status.Started tries kind) is tt) (inl free)
    given_up_good w role terms key why (status.Done o) is silent known holds free = refuse_good w role terms key why silent (closed_status (journal_of w.a) key (status.Done o) is tt) (inl free)

    cut_length : (b : Bool) (k : ℕ) (bytes : List ℕ) → k ≤ length bytes → k ≤ length (cond b (take k bytes) bytes)
    cut_length true k bytes enough = let len : length (take k bytes) ≡ min k (length bytes) = length-take k bytes in omega (arith, len, enough)
    cut_length false k bytes enough = enough

    resume_good : (w : World) (role : Side) (terms : SessionTerms) (r : Receiving) (safe : ℕ) → Silent w → w.a.node.sessions.holder r.key ≡ Some sid → status.status (journal_of w.a) r.key ≡ status.Open r safe
        → safe ≤ length (w.a.received r.key) → Good w (resume role terms r safe)
    resume_good w role terms r safe silent holds opens enough =
        let w1 : World = world_did x sid (Touch (shelves.CutFile r.name (r.base + safe))) w in
        let one : Under w (shelves.CutFile r.name (r.base + safe)) = record { r = r; safe = safe; open_is = opens; name_is = refl; holds = holds; keeps = λ clean. omega arith; writes = tt } in
        let two : Under w1 (shelves.SyncFile r.name) = record { r = r; safe = safe; open_is = opens; name_is = refl; holds = holds; keeps = λ clean. tt; writes = tt } in
        let exact : OfOpen (journal_of w.a) r.key (λ r2 safe2. safe ≡ safe2) = λ r2 safe2 is. (same_open r r2 safe safe2 (sym opens ∙ is)).1 in
        record {
          fit = (
            silent,
            (tt, one),
            (
              silent,
              (tt, two),
              (
                record {
                  quiet = omega (arith, silent);
                  sent = ((holds, λ r2 safe2 is. let same : safe ≡ safe2 = exact r2 safe2 is in omega (arith, same)), tt);
                  takes = λ holds2 r2 safe2 is. cut_length (same_key r.key r.key) safe (w.a.received r.key) enough;
                  rests = λ goes holds2 r2 safe2 is. inl (exact r2 safe2 is);
                },
                tt,
              ),
            ),
          );
          back = refl;
          then = tt;
        }

    -- a receiving begins where its step has no outcome
    abbrev NotDone : Status → Type 0
    NotDone (status.Done o) = ⊥
    NotDone _ = Unit {0}

    opens_now : (r : Receiving) (s : Status) → NotDone s → status.opened r s ≡ status.Open r 0
    opens_now r status.Fresh fresh = refl
    opens_now r (status.Started tries kind) fresh = refl
    opens_now r (status.Open before safe) fresh = refl
    opens_now r (status.Done o) fresh = absurd fresh

    received_from : (r : Receiving) (s : Status) → may_receive_from s r ≡ true → NotDone s
    received_from r status.Fresh fits = tt
    received_from r (status.Started tries kind) fits = tt
    received_from r (status.Open before safe) fits = tt
    received_from r (status.Done o) fits = false≢true fits

    not_done_of : (w : World) (r : Receiving) (effects : List Effect) → are_allowed w.a.node.view.config.read now (journal_of w.a) (Keep (entry.Receiving r) ∷ effects) ≡ true
        → NotDone (status.status (journal_of w.a) r.key)
    not_done_of w r effects fits =
        let read : Reading = w.a.node.view.config.read in
        let journal : List Entry = journal_of w.a in
        let e : Entry = entry.Receiving r in
        let outer = and_parts (may_record read now journal e) (are_allowed read now (e ∷ journal) effects) fits in
        let inner = and_parts (allowed read journal e && is_by now (moment_of e)) (is_formed e) outer.0 in
        let both = and_parts (allowed read journal e) (is_by now (moment_of e)) inner.0 in
        let first : Bool = may_receive_from (status.status journal r.key) r in
        let follow : may_receive read journal r ≡ true = allowed_follows read e journal both.0 in
        let five = and_parts (first && not (is_over journal r.key) && not (is_in_use journal r.key r.name) && is_base_of r.disp r.there r.base && leb (r.base + r.length) greatest_file) (fits_own read journal r.key (is_pull_of r)) follow in
        let four = and_parts (first && not (is_over journal r.key) && not (is_in_use journal r.key r.name) && is_base_of r.disp r.there r.base) (leb (r.base + r.length) greatest_file) five.0 in
        let three = and_parts (first && not (is_over journal r.key) && not (is_in_use journal r.key r.name)) (is_base_of r.disp r.there r.base) four.0 in
        let two = and_parts (first && not (is_over journal r.key)) (not (is_in_use journal r.key r.name)) three.0 in
        received_from r (status.status journal r.key) (and_parts first (not (is_over journal r.key)) two.0).0

    anew_good : (w : World) (role : Side) (terms : SessionTerms) (r : Receiving) → Silent w → w.a.node.sessions.holder r.key ≡ Some sid → NotTaking (w.a.node.sessions.phase sid) → NotDone (status.status (journal_of w.a) r.key)
        → (OfOpen (journal_of w.a) r.key (λ before safe. ⊥) → ToldOf r (w.a.node.shelf.seen r.name)) → Good w (receive_anew role terms r)
    anew_good w role terms r silent holds free not_done told =
        let w1 : World = world_did x sid (Keep (entry.Receiving r)) w in
        let opens : status.status (journal_of w1.a) r.key ≡ status.Open r 0 =
        status-own (entry.Receiving r) (journal_of w.a) r.key (same_key-refl r.key) ∙ opens_now r (status.status (journal_of w.a) r.key) not_done in
        let rest : Good w1 (resume role terms r 0) = resume_good w1 role terms r 0 silent holds opens (omega arith) in
        record { fit = ((holds, free, silent, told), rest.fit); back = rest.back; then = rest.then }

    again_good : (w : World) (phase : Phase) (role : Side) (terms : SessionTerms) (r : Receiving) (safe : ℕ) (a : Announced) → Silent w → status.status (journal_of w.a) r.key ≡ status.Open r safe
        → w.a.node.sessions.holder r.key ≡ Some sid → NotTaking (w.a.node.sessions.phase sid) → Known w → Good w (receive_again w.a.node.view now phase role terms r safe a)
    again_good w phase role terms r safe a silent is holds free known =
        one_of w (not (is_same_receiving r a)) _ _ (closed_good w phase (calm_of w silent))
        (one_of w (eqb a.length r.length) _ _
        (resume_good w role terms r safe silent holds is (known_marks w known r.key r safe is))
        (one_of w (leb (r.base + a.length) greatest_file) _ _
        (anew_good w role terms (record r { length = a.length }) silent holds free (subst NotDone (sym is) tt) (λ none. absurd (none r safe is)))
        (drop_good w role terms r.key cause.TooLarge silent known holds (inl free))))

    first_good : (w : World) (role : Side) (terms : SessionTerms) (key : Key) (a : Announced) → Silent w → OfOpen (journal_of w.a) key (λ r safe. ⊥) → w.a.node.sessions.holder key ≡ Some sid → NotTaking (w.a.node.sessions.phase sid)
        → Good w (receive_first w.a.node.view now role terms key a)
    first_good w role terms key a silent not_open holds free =
        one_of w (is_in_use (journal_of w.a) key a.name) _ _ (refuse_good w role terms key cause.InUse silent not_open (inl free)) (record { fit = tt; back = refl; then = (silent, not_open, holds, free) })

    from_good : (w : World) (phase : Phase) (role : Side) (terms : SessionTerms) (key : Key) (a : Announced) (s : Status) → status.status (journal_of w.a) key ≡ s → Known w → Silent w
        → w.a.node.sessions.holder key ≡ Some sid → NotTaking (w.a.node.sessions.phase sid) → Good w (receive_from w.a.node.view now phase role terms key a s)
    from_good w phase role terms key a (status.Open r safe) is known silent holds free =
        let same : key ≡ r.key = sym (known.keyed key r safe is) in
        again_good w phase role terms r safe a silent (subst (λ (k : Key). status.status (journal_of w.a) k ≡ status.Open r safe) same is)
        (subst (λ (k : Key). w.a.node.sessions.holder k ≡ Some sid) same holds) free known
    from_good w phase role terms key a status.Fresh is known silent holds free = first_good w role terms key a silent (closed_status (journal_of w.a) key status.Fresh is tt) holds free
    from_good w phase role terms key a (status.Started tries kind) is known silent holds free =
        first_good w role terms key a silent (closed_status (journal_of w.a) key (status.Started tries kind) is tt) holds free
    from_good w phase role terms key a (status.Done o) is known silent holds free = first_good w role terms key a silent (closed_status (journal_of w.a) key (status.Done o) is tt) holds free

    target_good : (w : World) (role : Side) (terms : SessionTerms) (key : Key) (a : Announced) (there : Option ℕ) → Silent w → OfOpen (journal_of w.a) key (λ r safe. ⊥) → w.a.node.sessions.holder key ≡ Some sid
        → NotTaking (w.a.node.sessions.phase sid) → there ≡ size (w.a.node.shelf.seen a.name) → Fits w (target_known role terms key a now there) → Good w (target_known role terms key a now there)
    target_good w role terms key a there silent not_open holds free told =
        one_when w (is_new a.disp && is_there there) _ _ (λ fits. refuse_good w role terms key cause.Exists silent not_open (inl free))
        (one_when w (leb (kept_base a.disp there + a.length) greatest_file) _ _
        (λ fits. anew_good w role terms (receiving_of key a there) silent holds free (not_done_of w (receiving_of key a there) (resume role terms (receiving_of key a there) 0).effects fits) (λ none. (ap is_there told, ap (kept_base a.disp) told)))
        (λ fits. refuse_good w role terms key cause.TooLarge silent not_open (inl free)))

    -- a piece is taken
    written_length : (w : World) (name bytes : List ℕ) (at : ℕ) (b : Brought w at bytes) → b.came + length bytes ≤ length ((world_did x sid (Touch (WriteFile name at bytes)) w).a.received b.key)
    written_length w name bytes at b =
        let G : Key → List ℕ = w.a.received in
        let over : List ℕ = overwritten (at - b.r.base) bytes (G b.key) in
        let one : written_by (journal_of w.a) (key_under_way (w.a.node.sessions.phase sid)) (WriteFile name at bytes) G ≡ written_for b.key at bytes (status.status (journal_of w.a) b.key) G =
        ap (λ (k : Option Key). written_by (journal_of w.a) k (WriteFile name at bytes) G) b.under in
        let two : written_for b.key at bytes (status.status (journal_of w.a) b.key) G ≡ put same_key b.key over G = ap (λ (s : Status). written_for b.key at bytes s G) b.open_is in
        let here : put same_key b.key over G b.key ≡ over = cond-true (same_key b.key b.key) over (G b.key) (same_key-refl b.key) in
        let all : length (written_by (journal_of w.a) (key_under_way (w.a.node.sessions.phase sid)) (WriteFile name at bytes) G b.key) ≡ length over = ap (λ (g : Key → List ℕ). length (g b.key)) (one ∙ two) ∙ ap (λ (l : List ℕ). length l) here in
        let len : length over ≡ (at - b.r.base) + (length bytes + (length (G b.key) - ((at - b.r.base) + length bytes))) = length_over (at - b.r.base) bytes (G b.key) in
        let is_at : at - b.r.base ≡ b.came = b.at_is in
        omega (arith, all, len, is_at)

    -- what came is in the file
    abbrev Came : World → Receiving → ℕ → Type 0
    Came w r offset = NotSpoiled w.a r.name → Begins (front_of w.a r offset) (w.a.node.shelf.seen r.name)

    -- what the write of a piece makes of the bytes received
    written_bytes : (w : World) (name bytes : List ℕ) (at : ℕ) (b : Brought w at bytes) → (world_did x sid (Touch (WriteFile name at bytes)) w).a.received b.key ≡ overwritten b.came bytes (w.a.received b.key)
    written_bytes w name bytes at b =
        let G : Key → List ℕ = w.a.received in
        let over : List ℕ = overwritten (at - b.r.base) bytes (G b.key) in
        let one : written_by (journal_of w.a) (key_under_way (w.a.node.sessions.phase sid)) (WriteFile name at bytes) G ≡ written_for b.key at bytes (status.status (journal_of w.a) b.key) G =
        ap (λ (k : Option Key). written_by (journal_of w.a) k (WriteFile name at bytes) G) b.under in
        let two : written_for b.key at bytes (status.status (journal_of w.a) b.key) G ≡ put same_key b.key over G = ap (λ (s : Status). written_for b.key at bytes s G) b.open_is in
        ap (λ (g : Key → List ℕ). g b.key) (one ∙ two) ∙ cond-true (same_key b.key b.key) over (G b.key) (same_key-refl b.key) ∙ ap (λ (n : ℕ). overwritten n bytes (G b.key)) b.at_is

    piece_came : (w : World) (r : Receiving) (came : ℕ) (bytes : List ℕ) (b : Brought w (r.base + came) bytes) → b.key ≡ r.key → b.came ≡ came → ToldOf r (w.a.settled r.name)
        → Begins (front_of w.a r came) (w.a.node.shelf.seen r.name)
        → Begins (front_of (world_did x sid (Touch (WriteFile r.name (r.base + came) bytes)) w).a r (came + length bytes)) ((world_did x sid (Touch (WriteFile r.name (r.base + came) bytes)) w).a.node.shelf.seen r.name)
    piece_came w r came bytes b key_is came_is told begins =
        let change : FileChange = WriteFile r.name (r.base + came) bytes in
        let w1 : World = world_did x sid (Touch change) w in
        let kept : List ℕ = take r.base (content_of (w.a.settled r.name)) in
        let here : w1.a.received b.key ≡ overwritten b.came bytes (w.a.received b.key) = written_bytes w r.name bytes (r.base + came) b in
        let there : w1.a.received r.key ≡ overwritten came bytes (w.a.received r.key) =
        subst (λ (n : ℕ). w1.a.received r.key ≡ overwritten n bytes (w.a.received r.key)) came_is (subst (λ (k : Key). w1.a.received k ≡ overwritten b.came bytes (w.a.received k)) key_is here) in
        let enough : came ≤ length (w.a.received r.key) = subst (λ (n : ℕ). n ≤ length (w.a.received r.key)) came_is (subst (λ (k : Key). b.came ≤ length (w.a.received k)) key_is b.enough) in
        let seen : w1.a.node.shelf.seen r.name ≡ shelves.file_after change (w.a.node.shelf.seen r.name) = seen_same change w.a.node.shelf r.name (same_name r.name) in
        subst (λ (file : Option (List ℕ)). Begins (front_of w1.a r (came + length bytes)) file) (sym seen)
        (subst (λ (got : List ℕ). Begins (kept ++ take (came + length bytes) got) (shelves.file_after change (w.a.node.shelf.seen r.name))) (sym there)
        (piece_after r (w.a.node.shelf.seen r.name) (w.a.settled r.name) (w.a.received r.key) bytes came told enough begins))

    land_settles : (w : World) (r : Receiving) → length (w.a.received r.key) ≡ r.length → ToldOf r (w.a.settled r.name) → Begins (front_of w.a r r.length) (w.a.node.shelf.seen r.name)
        → IsSettled (world_did x sid (Touch (shelves.SyncFile r.name)) (world_did x sid (Touch (shelves.CutFile r.name (r.base + r.length))) w)) r (Some (landed r.disp (w.a.settled r.name) (w.a.received r.key)))
    land_settles w r whole told begins =
        let change : FileChange = shelves.CutFile r.name (r.base + r.length) in
        let shelf : shelves.Shelf = w.a.node.shelf in
        let seen : (shelves.changed change shelf).seen r.name ≡ Some (landed r.disp (w.a.settled r.name) (w.a.received r.key)) =
        seen_same change shelf r.name (same_name r.name) ∙ land_after r (shelf.seen r.name) (w.a.settled r.name) (w.a.received r.key) told whole begins in
        (seen, doubt_synced (shelves.changed change shelf) r.name ∙ ap settled_file seen)

    marks_good : (w : World) (b : Bool) (role : Side) (terms : SessionTerms) (r : Receiving) (safe offset : ℕ) → Silent w → offset ≤ length (w.a.received r.key) → status.status (journal_of w.a) r.key ≡ status.Open r safe
        → w.a.node.sessions.holder r.key ≡ Some sid → safe ≤ offset → Came w r offset
        → AllGood w (cond b (Touch (shelves.SyncFile r.name) ∷ Keep (entry.Mark r.key offset) ∷ []) [] ++ Go (Take role terms r.key offset) (message.Ack r.key offset ∷ []) ∷ [])
    marks_good w true role terms r safe offset silent enough opens holds low there =
        let w1 : World = world_did x sid (Touch (shelves.SyncFile r.name)) w in
        let w2 : World = world_did x sid (Keep (entry.Mark r.key offset)) w1 in
        let under : Under w (shelves.SyncFile r.name) = record { r = r; safe = safe; open_is = opens; name_is = refl; holds = holds; keeps = λ clean. tt; writes = tt } in
        let settled : OfOpen (journal_of w1.a) r.key (IsMarked w1 offset) =
        λ r2 safe2 is. subst (λ (q : Receiving). IsMarked w1 offset q safe2) (same_open r r2 safe safe2 (sym opens ∙ is)).0 (inr (λ clean. (there clean, doubt_synced w.a.node.shelf r.name))) in
        let now_open : OfOpen (journal_of w2.a) r.key (λ r2 safe2. offset ≡ safe2) =
        λ r2 safe2 is. sym (marked_opens offset (status.status (journal_of w.a) r.key) r2 safe2 (sym (status-own (entry.Mark r.key offset) (journal_of w.a) r.key (same_key-refl r.key)) ∙ is)).2 in
        (silent, (tt, under), ((enough, holds, settled), (record { quiet = omega (arith, silent); sent = (tt, tt); takes = λ holds2 r2 safe2 is. enough; rests = λ goes holds2 r2 safe2 is. inl (now_open r2 safe2 is) }, tt)))
    marks_good w false role terms r safe offset silent enough opens holds low there =
        let still : OfOpen (journal_of w.a) r.key (λ r2 safe2. AtRest w.a r2 safe2 offset) =
        λ r2 safe2 is.
        let same = same_open r r2 safe safe2 (sym opens ∙ is) in
        let m : safe ≡ safe2 = same.1 in
        subst (λ (q : Receiving). AtRest w.a q safe2 offset) same.0 (inr (omega (arith, low, m), there)) in
        (record { quiet = omega (arith, silent); sent = (tt, tt); takes = λ holds2 r2 safe2 is. enough; rests = λ goes holds2 r2 safe2 is. still r2 safe2 is }, tt)

    take_good : (w : World) (role : Side) (terms : SessionTerms) (r : Receiving) (safe came : ℕ) (bytes : List ℕ) → Silent w → (b : Brought w (r.base + came) bytes) → b.key ≡ r.key → b.came ≡ came
        → status.status (journal_of w.a) r.key ≡ status.Open r safe → w.a.node.sessions.holder r.key ≡ Some sid → safe ≤ came → (NotSpoiled w.a r.name → ToldOf r (w.a.settled r.name)) → Came w r came
        → Good w (take_piece role terms r came bytes)
    take_good w role terms r safe came bytes silent b key_is came_is opens holds low told there_now =
        let w1 : World = world_did x sid (Touch (WriteFile r.name (r.base + came) bytes)) w in
        let enough : b.came + length bytes ≤ length (w1.a.received b.key) = written_length w r.name bytes (r.base + came) b in
        let there : came + length bytes ≤ length (w1.a.received r.key) =
        subst (λ (k : Key). came + length bytes ≤ length (w1.a.received k)) key_is (subst (λ (n : ℕ). n + length bytes ≤ length (w1.a.received b.key)) came_is enough) in
        let under : Under w (WriteFile r.name (r.base + came) bytes) =
        record { r = r; safe = safe; open_is = opens; name_is = refl; holds = holds; keeps = λ clean. omega (arith, low); writes = b.under ∙ ap (λ (k : Key). Some k) key_is } in
        let marks : Bool = not (eqb r.interval 0) && eqb ((came + length bytes) % r.interval) 0 in
        let came_now : Came w1 r (came + length bytes) = λ clean. piece_came w r came bytes b key_is came_is (told clean) (there_now clean) in
        record {
          fit = (silent, (b, under), marks_good w1 marks role terms r safe (came + length bytes) silent there opens holds (omega (arith, low)) came_now);
          back = rested_last true (Touch (WriteFile r.name (r.base + came) bytes) ∷ cond marks (Touch (shelves.SyncFile r.name) ∷ Keep (entry.Mark r.key (came + length bytes)) ∷ []) []) (Take role terms r.key (came + length bytes)) (message.Ack r.key (came + length bytes) ∷ []) refl;
          then = tt;
        }

    land_good : (w : World) (role : Side) (terms : SessionTerms) (r : Receiving) (safe : ℕ) → Silent w → status.status (journal_of w.a) r.key ≡ status.Open r safe → w.a.node.sessions.holder r.key ≡ Some sid
        → key_under_way (w.a.node.sessions.phase sid) ≡ Some r.key → safe ≤ r.length → length (w.a.received r.key) ≡ r.length → (NotSpoiled w.a r.name → ToldOf r (w.a.settled r.name)) → Came w r r.length
        → Good w (land role terms r now)
    land_good w role terms r safe silent opens holds under_is low whole told there =
        let cut : FileChange = shelves.CutFile r.name (r.base + r.length) in
        let w1 : World = world_did x sid (Touch cut) w in
        let w2 : World = world_did x sid (Touch (shelves.SyncFile r.name)) w1 in
        let one : Under w cut = record { r = r; safe = safe; open_is = opens; name_is = refl; holds = holds; keeps = λ clean. omega (arith, low); writes = tt } in
        let two : Under w1 (shelves.SyncFile r.name) = record { r = r; safe = safe; open_is = opens; name_is = refl; holds = holds; keeps = λ clean. tt; writes = tt } in
        let all : OfOpen (journal_of w2.a) r.key (λ r2 safe2. r2.length ≤ length (w2.a.received r.key)) =
        λ r2 safe2 is. let same : r.length ≡ r2.length = ap (λ (q : Receiving). q.length) (same_open r r2 safe safe2 (sym opens ∙ is)).0 in omega (arith, same, whole) in
        let settled : OfOpen (journal_of w2.a) r.key (λ r2 safe2. NotSpoiled w2.a r2.name → IsSettled w2 r2 (Some (landed r2.disp (w2.a.settled r2.name) (w2.a.received r.key)))) =
        λ r2 safe2 is. subst (λ (q : Receiving). NotSpoiled w2.a q.name → IsSettled w2 q (Some (landed q.disp (w2.a.settled q.name) (w2.a.received r.key)))) (same_open r r2 safe safe2 (sym opens ∙ is)).0
        (λ clean. land_settles w r whole (told clean) (there clean)) in
        let rest : Good w2 (answer role terms r.key (landed_whole r) now) = answer_good w2 role terms r.key (landed_whole r) silent (all, settled, inr under_is) in
        record { fit = (silent, (tt, one), (silent, (tt, two), rest.fit)); back = rest.back; then = rest.then }

    -- sending
    ends_good : (w : World) (role : Side) (terms : SessionTerms) (key : Key) (source : Source) (frames : List Message) → TakesOn w frames (after_sending role terms key source)
    ends_good w side.Pnode terms key source frames = tt
    ends_good w side.Snode terms key source frames = tt

    ends_rest : (w : World) (role : Side) (terms : SessionTerms) (key : Key) (source : Source) (frames : List Message) → RestsOn w frames (after_sending role terms key source)
    ends_rest w side.Pnode terms key source frames = tt
    ends_rest w side.Snode terms key source frames = tt

    ends_back : (role : Side) (terms : SessionTerms) (key : Key) (source : Source) (frames : List Message) → rests_in (after_sending role terms key source) frames ≡ true
    ends_back side.Pnode terms key source frames = refl
    ends_back side.Snode terms key source frames = refl

    send_from_good : (w : World) (role : Side) (terms : SessionTerms) (key : Key) (source : Source) (offset : ℕ) → Silent w → key_under_way (w.a.node.sessions.phase sid) ≡ Some key → Good w (send_from role terms key source offset)
    send_from_good w role terms key source offset silent under =
        one_of w (eqb offset source.length) _ _
        (record { fit = (record { quiet = omega (arith, silent); sent = (tt, tt); takes = ends_good w role terms key source (message.End key source.length ∷ []); rests = ends_rest w role terms key source (message.End key source.length ∷ []) }, tt); back = ends_back role terms key source (message.End key source.length ∷ []); then = tt })
        (record { fit = tt; back = refl; then = (silent, under) })

    piece_good : (w : World) (role : Side) (terms : SessionTerms) (key : Key) (source : Source) (offset : ℕ) (bytes : List ℕ) → Silent w
        → ((y : At) (from : List ℕ) → Agrees w.notes y key from → IsFoundIn bytes offset from) → Good w (piece_read role terms key source offset bytes)
    piece_good w role terms key source offset bytes silent found =
        one_of w (eqb (length bytes) (piece_len terms source offset)) _ _
        (record { fit = (record { quiet = omega (arith, silent); sent = (found, tt); takes = tt; rests = tt }, tt); back = refl; then = tt })
        (record {
          fit = (
            record {
              quiet = omega (arith, silent);
              sent = (tt, tt);
              takes = ends_good w role terms key source (message.Abort key cause.SourceChanged ∷ []);
              rests = ends_rest w role terms key source (message.Abort key cause.SourceChanged ∷ []);
            },
            tt,
          );
          back = ends_back role terms key source (message.Abort key cause.SourceChanged ∷ []);
          then = tt;
        })

    said_good : (w : World) (phase : Phase) (m : Message) → Silent w → speaks m ≡ 1 → AllTrue w (m ∷ []) → TakesOn w (m ∷ []) phase → RestsOn w (m ∷ []) phase → rests_in phase (m ∷ []) ≡ true
        → Good w (only (Go phase (m ∷ []) ∷ []))
    said_good w phase m silent speaks_is sent takes rests back = record { fit = (record { quiet = omega (arith, silent, speaks_is); sent = sent; takes = takes; rests = rests }, tt); back = back; then = tt }

    push_good : (w : World) (terms : SessionTerms) (key : Key) (step : CopyStep) (size : Option ℕ) → Silent w → Good w (push terms key step size)
    push_good w terms key step None silent = said_good w _ _ silent refl (tt, tt) tt tt refl
    push_good w terms key step (Some len) silent = one_of w (leb len greatest_file) _ _ (said_good w _ _ silent refl (tt, tt) tt tt refl) (said_good w _ _ silent refl (tt, tt) tt tt refl)

    push_of_good : (w : World) (phase : Phase) (terms : SessionTerms) (key : Key) (size : Option ℕ) (s : Option What) → Silent w → Good w (push_of w.a.node.view now phase terms key size s)
    push_of_good w phase terms key size (Some (what.Copy step)) silent = push_good w terms key step size silent
    push_of_good w phase terms key size s silent = closed_good w phase (calm_of w silent)

    copy_good : (w : World) (terms : SessionTerms) (key : Key) (step : CopyStep) → Silent w → Good w (copy terms key step)
    copy_good w terms key step silent =
        one_of w step.push _ _ (record { fit = (silent, tt, tt); back = refl; then = silent })
        (record { fit = (silent, tt, (record { quiet = omega (arith, silent); sent = (tt, tt); takes = tt; rests = tt }, tt)); back = refl; then = tt })

    begin_good : (w : World) (phase : Phase) (terms : SessionTerms) (key : Key) (s : Option What) → Silent w → Good w (begin w.a.node.view now phase terms key s)
    begin_good w phase terms key None silent = record { fit = (tt, (record { quiet = omega (arith, silent); sent = (tt, (tt, tt)); takes = tt; rests = tt }, tt)); back = refl; then = tt }
    begin_good w phase terms key (Some (what.Copy step)) silent = copy_good w terms key step silent
    begin_good w phase terms key s silent = closed_good w phase (calm_of w silent)

    ended_good : (w : World) (terms : SessionTerms) (key : Key) (o : Outcomes) → Silent w → Good w (ended terms key o now)
    ended_good w terms key o silent = record { fit = (tt, tt); back = refl; then = silent }

    step_at_good : (w : World) (phase : Phase) (terms : SessionTerms) (key : Key) (found : Option Outcomes) → Silent w → Good w (step_at w.a.node.view now phase terms key found)
    step_at_good w phase terms key (Some o) silent = ended_good w terms key o silent
    step_at_good w phase terms key None silent = begin_good w phase terms key (what_at w.a.node.view.config.read (journal_of w.a) key.number key.place) silent

    next_step_good : (w : World) (phase : Phase) (terms : SessionTerms) (key : Option Key) → Silent w → Good w (next_step w.a.node.view now phase terms key)
    next_step_good w phase terms None silent = closed_good w phase (calm_of w silent)
    next_step_good w phase terms (Some key) silent = step_at_good w phase terms key (outcome (journal_of w.a) key) silent

    next_good : (w : World) (phase : Phase) (terms : SessionTerms) (n : ℕ) → Silent w → Good w (next w.a.node.view now phase terms n)
    next_good w phase terms n silent = next_step_good w phase terms (key_at n (next_place w.a.node.view.config.read (journal_of w.a) n) (own_home (journal_of w.a))) silent

    offered_good : (w : World) (terms : SessionTerms) (key : Key) (name : List ℕ) (interval : ℕ) (size : Option ℕ) → Silent w → Good w (offered terms key name interval size)
    offered_good w terms key name interval None silent = said_good w _ _ silent refl (tt, tt) tt tt refl
    offered_good w terms key name interval (Some len) silent = one_of w (leb len greatest_file) _ _ (said_good w _ _ silent refl (tt, tt) tt tt refl) (said_good w _ _ silent refl (tt, tt) tt tt refl)

    -- Rows.
    run_good : (w : World) (n : ℕ) (greeting : Welcome) (placed : Option Placing) (found : Option (List ℕ × ℕ)) → Silent w → Good w (run w.a.node.view now n greeting placed found)
    run_good w n greeting (Some placed) (Some is) silent = one_of w (is_running now placed) _ _ (record { fit = (tt, tt); back = refl; then = silent }) (closed_good w (Greet n) (calm_of w silent))
    run_good w n greeting None found silent = closed_good w (Greet n) (calm_of w silent)
    run_good w n greeting (Some placed) None silent = closed_good w (Greet n) (calm_of w silent)

    held_good : (w : World) (n : ℕ) (placed : Option Placing) → Calm w → AllGood w (held w.a.node.view now n placed ++ Go Gone [] ∷ [])
    held_good w n None calm = gone_good w calm
    held_good w n (Some placed) calm = placed_gone_good w (is_live (journal_of w.a) n) n _ now calm

    rejected_good : (w : World) (n : ℕ) → Calm w → Good w (rejected w.a.node.view now n)
    rejected_good w n calm = record { fit = held_good w n (placing (journal_of w.a) n) calm; back = rested_last true (held w.a.node.view now n (placing (journal_of w.a) n)) Gone [] refl; then = tt }

    greet_good : (w : World) (n : ℕ) (m : Message) → Calm w → (speaks m ≡ 1 → Silent w) → Good w (row_greet w.a.node.view now n m)
    greet_good w n (message.Welcome greeting) calm quiet =
        one_of w (is_called (submission (journal_of w.a) n) greeting.name) _ _ (run_good w n greeting (placing (journal_of w.a) n) (own_home (journal_of w.a)) (quiet refl)) (rejected_good w n calm)
    greet_good w n (message.Reject (reject.Busy total)) calm quiet = closed_good w (Greet n) calm
    greet_good w n (message.Reject why) calm quiet = rejected_good w n calm
    greet_good w n m calm quiet = closed_good w (Greet n) calm

    ready_good : (w : World) (phase : Phase) (role : Side) (terms : SessionTerms) (key : Key) (source : Option Source) (offset : ℕ) → Silent w → key_under_way (w.a.node.sessions.phase sid) ≡ Some key
        → Good w (ready_from w.a.node.view now phase role terms key source offset)
    ready_good w phase role terms key None offset silent under = closed_good w phase (calm_of w silent)
    ready_good w phase role terms key (Some source) offset silent under =
        one_of w (leb offset source.length) _ _ (send_from_good w role terms key source offset silent under) (closed_good w phase (calm_of w silent))

    await_good : (w : World) (phase : Phase) (terms : SessionTerms) (key : Key) (source : Option Source) (m : Message) → Calm w → (speaks m ≡ 1 → Silent w) → key_under_way (w.a.node.sessions.phase sid) ≡ Some key
        → Good w (row_await w.a.node.view now phase terms key source m)
    await_good w phase terms key source (message.Ready step offset) calm quiet under =
        one_of w (same_key step key) _ _ (ready_good w phase side.Pnode terms key source offset (quiet refl) under) (closed_good w phase calm)
    await_good w phase terms key source (message.Result step o) calm quiet under = one_of w (same_key step key) _ _ (ended_good w terms key o (quiet refl)) (closed_good w phase calm)
    await_good w phase terms key source m calm quiet under = closed_good w phase calm

    receive_good : (w : World) (phase : Phase) (role : Side) (terms : SessionTerms) (key : Key) (a : Announced) → Known w → Silent w → w.a.node.sessions.holder key ≡ Some sid → NotTaking (w.a.node.sessions.phase sid)
        → Good w (receive w.a.node.view now phase role terms key a)
    receive_good w phase role terms key a known silent holds free = from_good w phase role terms key a (status.status (journal_of w.a) key) refl known silent holds free

    announced_good : (w : World) (phase : Phase) (terms : SessionTerms) (key : Key) (a : Option Announced) → Known w → Silent w → w.a.node.sessions.holder key ≡ Some sid → NotTaking (w.a.node.sessions.phase sid)
        → Good w (receive_announced w.a.node.view now phase terms key a)
    announced_good w phase terms key None known silent holds free = closed_good w phase (calm_of w silent)
    announced_good w phase terms key (Some a) known silent holds free = receive_good w phase side.Pnode terms key a known silent holds free

    ask_good : (w : World) (phase : Phase) (terms : SessionTerms) (key : Key) (m : Message) → Known w → Calm w → (speaks m ≡ 1 → Silent w) → w.a.node.sessions.holder key ≡ Some sid → NotTaking (w.a.node.sessions.phase sid)
        → Good w (row_ask w.a.node.view now phase terms key m)
    ask_good w phase terms key (message.Length step len) known calm quiet holds free =
        one_of w (same_key step key) _ _
        (announced_good w phase terms key (announced_by (what_at w.a.node.view.config.read (journal_of w.a) key.number key.place) len) known (quiet refl) holds free) (closed_good w phase calm)
    ask_good w phase terms key (message.Abort step why) known calm quiet holds free =
        one_of w (same_key step key && gives_up why) _ _ (given_up_good w side.Pnode terms key why (status.status (journal_of w.a) key) refl (quiet refl) known holds free) (closed_good w phase calm)
    ask_good w phase terms key m known calm quiet holds free = closed_good w phase calm

    send_good : (w : World) (phase : Phase) (role : Side) (terms : SessionTerms) (key : Key) (source : Source) (awaited : ℕ) (m : Message) → Calm w → (speaks m ≡ 1 → Silent w) → key_under_way (w.a.node.sessions.phase sid) ≡ Some key
        → Good w (row_send w.a.node.view now phase role terms key source awaited m)
    send_good w phase role terms key source awaited (message.Ack step offset) calm quiet under =
        one_of w (same_key step key && eqb offset awaited) _ _ (send_from_good w role terms key source offset (quiet refl) under) (closed_good w phase calm)
    send_good w phase role terms key source awaited m calm quiet under = closed_good w phase calm

    -- Data that came has what every source that agrees has
    abbrev pub HeardTrue : World → Message → Type 0
    HeardTrue w (message.Data key offset bytes) = w.a.node.sessions.holder key ≡ Some sid → (source : List ℕ) → Agrees w.notes x key source → IsFoundIn bytes offset source
    HeardTrue w _ = Unit {0}

    data_good : (w : World) (phase : Phase) (role : Side) (terms : SessionTerms) (r : Receiving) (safe came : ℕ) (step : Key) (offset : ℕ) (bytes : List ℕ) → Calm w → Silent w
        → key_under_way (w.a.node.sessions.phase sid) ≡ Some r.key → status.status (journal_of w.a) r.key ≡ status.Open r safe → w.a.node.sessions.holder r.key ≡ Some sid → came ≤ length (w.a.received r.key)
        → Held w.a r safe → AtRest w.a r safe came → HeardTrue w (message.Data step offset bytes)
        → Good w (cond (same_key step r.key && is_piece_at terms r came offset (length bytes)) (take_piece role terms r came bytes) (only (close w.a.node.view now phase)))
    data_good w phase role terms r safe came step offset bytes calm silent under opens holds enough held_is rest heard =
        elim (cases_Bool (same_key step r.key && is_piece_at terms r came offset (length bytes))) [
          | inl fits ↦
              let reactions = and_parts (same_key step r.key) (is_piece_at terms r came offset (length bytes)) fits in
              let same : step ≡ r.key = same_key-true step r.key reactions.0 in
              let four = and_parts (eqb offset came && leb 1 (length bytes) && leb (length bytes) terms.block && leb (came + length bytes) r.length) (eqb r.interval 0 || leb (came % r.interval + length bytes) r.interval) reactions.1 in
              let three = and_parts (eqb offset came && leb 1 (length bytes) && leb (length bytes) terms.block) (leb (came + length bytes) r.length) four.0 in
              let two = and_parts (eqb offset came && leb 1 (length bytes)) (leb (length bytes) terms.block) three.0 in
              let one = and_parts (eqb offset came) (leb 1 (length bytes)) two.0 in
              let place : offset ≡ came = eqb-true offset came one.0 in
              let brought : Brought w (r.base + came) bytes = record {
                key = r.key;
                r = r;
                safe = safe;
                came = came;
                under = under;
                open_is = opens;
                at_is = omega arith;
                enough = enough;
                within = leb-true (came + length bytes) r.length three.1;
                found = λ source len agrees.
                    subst (λ (n : ℕ). IsFoundIn bytes n source) place
                    (heard (subst (λ (k : Key). w.a.node.sessions.holder k ≡ Some sid) (sym same) holds) source (subst (λ (k : Key). Agrees w.notes x k source) (sym same) agrees));
              } in
              subst (Good w) (sym (cond-true (same_key step r.key && is_piece_at terms r came offset (length bytes)) (take_piece role terms r came bytes) (only (close w.a.node.view now phase)) fits))
              (take_good w role terms r safe came bytes silent brought refl refl opens holds (rest_low w.a r safe came rest) (λ clean. (held_is.2 clean).0) (λ clean. rest_came w.a r safe came held_is rest clean))
          | inr not_fits ↦
              subst (Good w) (sym (cond-false (same_key step r.key && is_piece_at terms r came offset (length bytes)) (take_piece role terms r came bytes) (only (close w.a.node.view now phase)) not_fits))
              (closed_good w phase calm)
        ]

    end_good : (w : World) (phase : Phase) (role : Side) (terms : SessionTerms) (r : Receiving) (safe came : ℕ) (step : Key) (len : ℕ) → Calm w → Silent w → status.status (journal_of w.a) r.key ≡ status.Open r safe
        → came ≤ length (w.a.received r.key) → w.a.node.sessions.holder r.key ≡ Some sid → key_under_way (w.a.node.sessions.phase sid) ≡ Some r.key → Held w.a r safe → AtRest w.a r safe came
        → Good w (cond (same_key step r.key && eqb len r.length && eqb came r.length) (land role terms r now) (only (close w.a.node.view now phase)))
    end_good w phase role terms r safe came step len calm silent opens enough holds under held_is rest =
        elim (cases_Bool (same_key step r.key && eqb len r.length && eqb came r.length)) [
          | inl fits ↦
              let whole : came ≡ r.length = eqb-true came r.length (and_parts (same_key step r.key && eqb len r.length) (eqb came r.length) fits).1 in
              subst (Good w) (sym (cond-true (same_key step r.key && eqb len r.length && eqb came r.length) (land role terms r now) (only (close w.a.node.view now phase)) fits))
              (let short : length (w.a.received r.key) ≤ r.length = held_is.1 in
              let low : safe ≤ came = rest_low w.a r safe came rest in
              land_good w role terms r safe silent opens holds under (omega (arith, low, whole)) (omega (arith, whole, enough, short)) (λ clean. (held_is.2 clean).0)
              (λ clean. subst (λ (n : ℕ). Begins (front_of w.a r n) (w.a.node.shelf.seen r.name)) whole (rest_came w.a r safe came held_is rest clean)))
          | inr not_fits ↦
              subst (Good w) (sym (cond-false (same_key step r.key && eqb len r.length && eqb came r.length) (land role terms r now) (only (close w.a.node.view now phase)) not_fits)) (closed_good w phase calm)
        ]

    take_of_good : (w : World) (phase : Phase) (role : Side) (terms : SessionTerms) (r : Receiving) (safe came : ℕ) (m : Message) → Calm w → (speaks m ≡ 1 → Silent w)
        → key_under_way (w.a.node.sessions.phase sid) ≡ Some r.key → status.status (journal_of w.a) r.key ≡ status.Open r safe → w.a.node.sessions.holder r.key ≡ Some sid → came ≤ length (w.a.received r.key)
        → Known w → AtRest w.a r safe came → HeardTrue w m → Good w (row_take_of w.a.node.view now phase role terms r came m)
    take_of_good w phase role terms r safe came (message.Data step offset bytes) calm quiet under opens holds enough known rest heard =
        data_good w phase role terms r safe came step offset bytes calm (quiet refl) under opens holds enough (known.files r.key r safe opens) rest heard
    take_of_good w phase role terms r safe came (message.End step len) calm quiet under opens holds enough known rest heard =
        end_good w phase role terms r safe came step len calm (quiet refl) opens enough holds under (known.files r.key r safe opens) rest
    take_of_good w phase role terms r safe came (message.Abort step why) calm quiet under opens holds enough known rest heard =
        one_of w (same_key step r.key && gives_up why) _ _ (drop_good w role terms r.key why (quiet refl) known holds (inr under)) (closed_good w phase calm)
    take_of_good w phase role terms r safe came m calm quiet under opens holds enough known rest heard = closed_good w phase calm

    take_row_good : (w : World) (phase : Phase) (role : Side) (terms : SessionTerms) (key : Key) (came : ℕ) (m : Message) (s : Status) → status.status (journal_of w.a) key ≡ s → Known w → Calm w → (speaks m ≡ 1 → Silent w)
        → key_under_way (w.a.node.sessions.phase sid) ≡ Some key → w.a.node.sessions.holder key ≡ Some sid → OfOpen (journal_of w.a) key (λ r safe. came ≤ length (w.a.received key))
        → OfOpen (journal_of w.a) key (λ r safe. AtRest w.a r safe came) → HeardTrue w m → Good w (row_take w.a.node.view now phase role terms came m s)
    take_row_good w phase role terms key came m (status.Open r safe) is known calm quiet under holds enough rest heard =
        let same : key ≡ r.key = sym (known.keyed key r safe is) in
        take_of_good w phase role terms r safe came m calm quiet (under ∙ ap (λ (k : Key). Some k) same)
        (subst (λ (k : Key). status.status (journal_of w.a) k ≡ status.Open r safe) same is) (subst (λ (k : Key). w.a.node.sessions.holder k ≡ Some sid) same holds)
        (subst (λ (k : Key). came ≤ length (w.a.received k)) same (enough r safe is)) known (rest r safe is) heard
    take_row_good w phase role terms key came m s is known calm quiet under holds enough rest heard = closed_good w phase calm

    welcome_good : (w : World) (found : Option (List ℕ × ℕ)) (block : ℕ) (h : Hello) → Silent w → Good w (welcome found block h)
    welcome_good w None block h silent = record { fit = gone_good w (calm_of w silent); back = refl; then = tt }
    welcome_good w (Some is) block h silent = said_good w _ _ silent refl (tt, tt) tt tt refl

    fresh_good : (w : World) (m : Message) → Calm w → (speaks m ≡ 1 → Silent w) → Good w (row_fresh w.a.node.view now m)
    fresh_good w (message.Hello h) calm quiet = welcome_good w (own_home (journal_of w.a)) w.a.node.view.config.block h (quiet refl)
    fresh_good w m calm quiet = closed_good w Fresh calm

    unless_done_good : (w : World) (terms : SessionTerms) (key : Key) (found : Option Outcomes) (reaction : Reaction) → Silent w → Good w reaction → Good w (unless_done w.a.node.view now terms key found reaction)
    unless_done_good w terms key None reaction silent good = checked_good w (Ready terms (Some key)) reaction (calm_of w silent) good
    unless_done_good w terms key (Some o) reaction silent good = said_good w (Ready terms (Some key)) (message.Result key o) silent refl (tt, tt) tt tt refl

    -- where a step was begun
    abbrev begun : World → SessionTerms → Key → World
    begun w terms key = world_did x sid (Begin key (Ready (with_number key.number terms) (Some key))) w

    holds_here : (w : World) (terms : SessionTerms) (key : Key) → (begun w terms key).a.node.sessions.holder key ≡ Some sid
    holds_here w terms key = cond-true (same_key key key) (Some sid) (w.a.node.sessions.holder key) (same_key-refl key)

    free_here : (w : World) (terms : SessionTerms) (key : Key) → NotTaking ((begun w terms key).a.node.sessions.phase sid)
    free_here w terms key = subst NotTaking (sym (cond-true (eqb sid sid) (Ready (with_number key.number terms) (Some key)) (w.a.node.sessions.phase sid) (eq-eqb sid sid refl))) tt

    known_here : (w : World) (terms : SessionTerms) (key : Key) → Known w → Known (begun w terms key)
    known_here w terms key known = record { keyed = known.keyed; files = known.files }

    step_good : (w : World) (phase : Phase) (terms : SessionTerms) (key : Key) (reaction : Reaction) → Silent w → Good (begun w terms key) reaction → Good w (take_step w.a.node.view w.a.node.sessions now sid phase terms key reaction)
    step_good w phase terms key reaction silent good =
        let rest : Good (begun w terms key) (unless_done w.a.node.view now (with_number key.number terms) key (outcome (journal_of w.a) key) reaction) =
        unless_done_good (begun w terms key) (with_number key.number terms) key (outcome (journal_of w.a) key) reaction silent good in
        one_of w (is_of_terms terms key && not (is_over (journal_of w.a) key) && not (is_newer w.a.node.sessions sid key (w.a.node.sessions.holder key))) _ _
        (record { fit = (silent, tt, rest.fit); back = rest.back; then = rest.then }) (closed_good w phase (calm_of w silent))

    forget_good : (w : World) (terms : SessionTerms) (last : Option Key) (n : ℕ) → Calm w → Good w (forget w.a.node.view terms last n)
    forget_good w terms last n calm =
        record { fit = by_known (is_forgotten (journal_of w.a) terms.pnode terms.home n); back = rested_last true (cond (is_forgotten (journal_of w.a) terms.pnode terms.home n) [] (Keep (entry.Forgot terms.pnode terms.home n) ∷ [])) (Ready (with_number n terms) last) [] refl; then = tt } where
          by_known : (b : Bool) → AllGood w (cond b [] (Keep (entry.Forgot terms.pnode terms.home n) ∷ []) ++ Go (Ready (with_number n terms) last) [] ∷ [])
          by_known true = (record { quiet = omega (arith, calm); sent = tt; takes = tt; rests = tt }, tt)
          by_known false = (tt, (record { quiet = omega (arith, calm); sent = tt; takes = tt; rests = tt }, tt))

    ready_row_good : (w : World) (phase : Phase) (terms : SessionTerms) (last : Option Key) (m : Message) → Known w → Calm w → (speaks m ≡ 1 → Silent w) → Good w (row_ready w.a.node.view w.a.node.sessions now sid phase terms last m)
    ready_row_good w phase terms last (message.StepCopyTo key name disp interval len) known calm quiet =
        let anew : SessionTerms = with_number key.number terms in
        step_good w phase terms key _ (quiet refl)
        (receive_good (begun w terms key) (Ready anew (Some key)) side.Snode anew key (record { name = name; disp = disp; interval = interval; length = len }) (known_here w terms key known) (quiet refl) (holds_here w terms key) (free_here w terms key))
    ready_row_good w phase terms last (message.StepCopyFrom key name interval) known calm quiet = step_good w phase terms key _ (quiet refl) (record { fit = tt; back = refl; then = quiet refl })
    ready_row_good w phase terms last (message.Abort key why) known calm quiet =
        one_of w (is_in_place why) _ _
        (step_good w phase terms key _ (quiet refl) (given_up_good (begun w terms key) side.Snode (with_number key.number terms) key why (status.status (journal_of w.a) key) refl (quiet refl) (known_here w terms key known) (holds_here w terms key) (free_here w terms key))) (closed_good w phase calm)
    ready_row_good w phase terms last (message.Forget identity n) known calm quiet =
        one_of w (eqb identity terms.home && is_number_of terms.number n && not (is_receiving_for (journal_of w.a) terms.pnode identity n)) _ _ (forget_good w terms last n calm) (closed_good w phase calm)
    ready_row_good w phase terms last message.Bye known calm quiet = record { fit = gone_good w calm; back = refl; then = tt }
    ready_row_good w phase terms last m known calm quiet = closed_good w phase calm

    offer_good : (w : World) (phase : Phase) (terms : SessionTerms) (key : Key) (source : Source) (m : Message) → Known w → Calm w → (speaks m ≡ 1 → Silent w) → key_under_way (w.a.node.sessions.phase sid) ≡ Some key
        → Good w (row_offer w.a.node.view w.a.node.sessions now sid phase terms key source m)
    offer_good w phase terms key source (message.Ready step offset) known calm quiet under =
        one_of w (same_key step key) _ _ (ready_good w phase side.Snode terms key (Some source) offset (quiet refl) under) (closed_good w phase calm)
    offer_good w phase terms key source m known calm quiet under = ready_row_good w phase terms (Some key) m known calm quiet

    -- so many bytes came in the session that holds the key
    abbrev pub Took : World → Phase → Type 0
    Took w (Take role terms key came) = w.a.node.sessions.holder key ≡ Some sid → OfOpen (journal_of w.a) key (λ r safe. came ≤ length (w.a.received key))
    Took w _ = Unit {0}

    reaction_in_good : (w : World) (m : Message) (phase : Phase) → w.a.node.sessions.phase sid ≡ phase → Known w → Calm w → (speaks m ≡ 1 → Silent w)
        → ((key : Key) → key_under_way phase ≡ Some key → w.a.node.sessions.holder key ≡ Some sid) → Took w phase → Rested sid w.a phase → HeardTrue w m
        → Good w (reaction_in w.a.node.view w.a.node.sessions now sid m phase)
    reaction_in_good w m Gone is known calm quiet attached took rest heard = record { fit = gone_good w calm; back = refl; then = tt }
    reaction_in_good w m (Greet n) is known calm quiet attached took rest heard = greet_good w n m calm quiet
    reaction_in_good w m (Await terms key source) is known calm quiet attached took rest heard = await_good w (Await terms key source) terms key source m calm quiet (ap key_under_way is)
    reaction_in_good w m (Ask terms key) is known calm quiet attached took rest heard = ask_good w (Ask terms key) terms key m known calm quiet (attached key refl) (subst NotTaking (sym is) tt)
    reaction_in_good w m Fresh is known calm quiet attached took rest heard = fresh_good w m calm quiet
    reaction_in_good w m (Ready terms last) is known calm quiet attached took rest heard = ready_row_good w (Ready terms last) terms last m known calm quiet
    reaction_in_good w m (Offer terms key source) is known calm quiet attached took rest heard = offer_good w (Offer terms key source) terms key source m known calm quiet (ap key_under_way is)
    reaction_in_good w m (Send role terms key source awaited) is known calm quiet attached took rest heard = send_good w (Send role terms key source awaited) role terms key source awaited m calm quiet (ap key_under_way is)
    reaction_in_good w m (Take role terms key came) is known calm quiet attached took rest heard =
        take_row_good w (Take role terms key came) role terms key came m (status.status (journal_of w.a) key) refl known calm quiet (ap key_under_way is) (attached key refl) (took (attached key refl)) (rest (attached key refl)) heard

    attached_of : (sessions : Sessions) (key : Key) (found : Option ℕ) → sessions.holder key ≡ found → not (is_sid sid found) ≡ false → sessions.holder key ≡ Some sid
    attached_of sessions key None is apart = absurd (false≢true (sym apart))
    attached_of sessions key (Some holder) is apart =
        elim (cases_Bool (eqb sid holder)) [
          | inl same ↦ is ∙ ap (λ (n : ℕ). Some n) (sym (eqb-true sid holder same))
          | inr other ↦ absurd (false≢true (sym apart ∙ ap not other))
        ]

    attached_by : (sessions : Sessions) (under : Option Key) → is_detached sessions sid under ≡ false → (key : Key) → under ≡ Some key → sessions.holder key ≡ Some sid
    attached_by sessions None apart key is = absurd cc
    attached_by sessions (Some under) apart key is =
        let same : under ≡ key = cc in
        subst (λ (k : Key). sessions.holder k ≡ Some sid) same (attached_of sessions under (sessions.holder under) refl apart)

    first_reaction_good : (w : World) (m : Message) → Known w → Calm w → (speaks m ≡ 1 → Silent w) → Took w (w.a.node.sessions.phase sid) → Rested sid w.a (w.a.node.sessions.phase sid) → HeardTrue w m
        → Good w (first_reaction w.a.node.view w.a.node.sessions now sid m)
    first_reaction_good w m known calm quiet took rest heard =
        let phase : Phase = w.a.node.sessions.phase sid in
        let dead : Bool = is_dead w.a.node.view (own_number phase) in
        let apart : Bool = is_detached w.a.node.sessions sid (key_under_way phase) in
        let row_reaction : Reaction = checked w.a.node.view now phase (reaction_in w.a.node.view w.a.node.sessions now sid m phase) in
        elim (cases_Bool (dead || apart)) [
          | inl over ↦ subst (Good w) (sym (cond-true (dead || apart) (only (close w.a.node.view now phase)) row_reaction over)) (closed_good w phase calm)
          | inr goes ↦
              let attached = attached_by w.a.node.sessions (key_under_way phase) (or_parts dead apart goes).1 in
              subst (Good w) (sym (cond-false (dead || apart) (only (close w.a.node.view now phase)) row_reaction goes))
              (checked_good w phase (reaction_in w.a.node.view w.a.node.sessions now sid m phase) calm (reaction_in_good w m phase refl known calm quiet attached took rest heard))
        ]

  -- All reactions.

  abbrev following : ℕ → Answers → Node → Continuation → Reaction
  following now answers node later = checked node.view now (node.sessions.phase sid) (reaction_behind node.view now (node.sessions.phase sid) answers later)

  read_noted : (y : At) (key : Key) (at : ℕ) (bytes : List ℕ) (notes : List Note) (under : Option Key) (source : List ℕ) → under ≡ Some key → Agrees (read_for x under at bytes notes) y key source → IsFoundIn bytes at source
  read_noted y key at bytes notes None source is agrees = absurd cc
  read_noted y key at bytes notes (Some step) source is agrees =
      let same : step ≡ key = cc in
      agrees.0 (subst (λ (k : Key). same_key step k ≡ true) same (same_key-refl step))

  step_behind : (now more : ℕ) (w : World) (answers : Answers) (later : Continuation) → now ≡ answers.now
      → ((v : World) (reaction : Reaction) → Good v reaction → AllTold more v.a.node sid answers reaction → Goes v (all_reactions more v.a.node sid answers reaction))
      → ThenGood w later → AreTold w.a.node later answers → Unless (is_done later) (AllTold more w.a.node sid answers (following now answers w.a.node later))
      → Goes w (cond (is_done later) [] (asked w.a.node.view later ++ all_reactions more w.a.node sid answers (following now answers w.a.node later)))
  step_behind now more w answers Done at rest good told told_more = record { fit = tt; back = refl }
  step_behind now more w answers (Next terms n) at rest good told told_more =
      rest w (following now answers w.a.node (Next terms n)) (checked_good now w (w.a.node.sessions.phase sid) _ (calm_of now w good) (next_good now w (w.a.node.sessions.phase sid) terms n good)) told_more
  step_behind now more w answers (Undo role terms key why) at rest good told told_more =
      rest w (following now answers w.a.node (Undo role terms key why))
      (checked_good now w (w.a.node.sessions.phase sid) _ (calm_of now w good.0) (undone_good now w (w.a.node.sessions.phase sid) role terms key why (status.status (journal_of w.a) key) refl good.0 good.1)) told_more
  step_behind now more w answers (Push terms key) at rest good told told_more =
      let name : List ℕ = source_in (what_at w.a.node.view.config.read (journal_of w.a) key.number key.place) in
      let w2 : World = world_did x sid (AskSize name) w in
      let goes = rest w2 (following now answers w.a.node (Push terms key))
      (checked_good now w2 (w.a.node.sessions.phase sid) _ (calm_of now w2 good) (push_of_good now w2 (w.a.node.sessions.phase sid) terms key answers.source _ good)) told_more in
      record { fit = (good, goes.fit); back = goes.back }
  step_behind now more w answers (Offered terms key name interval) at rest good told told_more =
      let w2 : World = world_did x sid (AskSize name) w in
      let goes = rest w2 (following now answers w.a.node (Offered terms key name interval))
      (checked_good now w2 (w.a.node.sessions.phase sid) _ (calm_of now w2 good) (offered_good now w2 terms key name interval answers.source good)) told_more in
      record { fit = (good, goes.fit); back = goes.back }
  step_behind now more w answers (Onto role terms key a) at rest good told told_more =
      let w2 : World = world_did x sid (AskSize a.name) w in
      let goes = rest w2 (following now answers w.a.node (Onto role terms key a))
      (checked_when now w2 (w.a.node.sessions.phase sid) _ (calm_of now w2 good.0) (target_good now w2 role terms key a answers.there good.0 good.1 good.2 good.3 told)) told_more in
      record { fit = (good.0, goes.fit); back = goes.back }
  step_behind now more w answers (Piece role terms key source offset) at rest good told told_more =
      let len : ℕ = piece_len terms source offset in
      let w2 : World = world_did x sid (AskBytes source.name offset len) w in
      let goes = rest w2 (following now answers w.a.node (Piece role terms key source offset))
      (checked_good now w2 (w.a.node.sessions.phase sid) _ (calm_of now w2 good.0)
      (piece_good now w2 role terms key source offset answers.bytes good.0
      (λ y from agrees. subst (λ (bytes : List ℕ). IsFoundIn bytes offset from) (sym told)
      (read_noted y key offset (bytes_told w.a source.name offset len) w.notes (key_under_way (w.a.node.sessions.phase sid)) from good.1 agrees)))) told_more in
      record { fit = (good.0, goes.fit); back = goes.back }

  goes_both : (w : World) (first second : List Effect) → AllGood w first → rested true first ≡ true → Goes (world_does x sid first w) second → Goes w (first ++ second)
  goes_both w first second fit back goes =
      record { fit = both_good first second w fit goes.fit; back = rested_append true first second ∙ ap (λ (b : Bool). rested b second) back ∙ goes.back }

  all_reactions_good : (more : ℕ) (w : World) (answers : Answers) (reaction : Reaction) → Good w reaction → AllTold more w.a.node sid answers reaction → Goes w (all_reactions more w.a.node sid answers reaction)
  unfolding all_reactions AllTold
  all_reactions_good zero w answers reaction good told = record { fit = good.fit; back = good.back }
  all_reactions_good (suc more) w answers reaction good told =
      let w1 : World = world_does x sid reaction.effects w in
      let same : w1.a.node ≡ does sid reaction.effects w.a.node = does_node x sid reaction.effects w in
      let told_here = subst (λ (node : Node). AreTold node reaction.later answers) (sym same) told.0 in
      let told_more = subst (λ (node : Node). Unless (is_done reaction.later) (AllTold more node sid answers (following answers.now answers node reaction.later))) (sym same) told.1 in
      let rest = step_behind answers.now more w1 answers reaction.later refl (λ v p good2 told2. all_reactions_good more v answers p good2 told2) good.then told_here told_more in
      let there = subst (λ (node : Node). Goes w1 (cond (is_done reaction.later) [] (asked node.view reaction.later ++ all_reactions more node sid answers (following answers.now answers node reaction.later)))) same rest in
      goes_both w reaction.effects _ good.fit good.back there

  -- the row of a frame
  pub row_good : (w : World) (answers : Answers) (m : Message) → Known answers.now w → Calm w → (speaks m ≡ 1 → Silent w) → Took answers.now w (w.a.node.sessions.phase sid) → Rested sid w.a (w.a.node.sessions.phase sid) → HeardTrue answers.now w m
      → AllTold most_reactions w.a.node sid answers (first_reaction w.a.node.view w.a.node.sessions answers.now sid m) → Goes w (row w.a.node sid answers m)
  row_good w answers m known calm quiet took rest heard told =
      all_reactions_good most_reactions w answers (first_reaction w.a.node.view w.a.node.sessions answers.now sid m) (first_reaction_good answers.now w m known calm quiet took rest heard) told

  -- a choice, in a session in which nobody spoke
  hello_speaks : (known : Option (List ℕ × ℕ)) (block : ℕ) → speaking (hello known block) ≤ 1
  hello_speaks None block = omega arith
  hello_speaks (Some is) block = omega arith

  hello_true : (w : World) (known : Option (List ℕ × ℕ)) (block : ℕ) → AllTrue w (hello known block)
  hello_true w None block = tt
  hello_true w (Some is) block = (tt, tt)

  connect_good : (w : World) (view : NodeView) (now : ℕ) (chosen : Row) (waits : Waits) (connected : Bool) → Silent w → AllGood w (connect view now chosen waits connected)
  connect_good w view now chosen waits true silent =
      let few : speaking (hello (own_home view.journal) view.config.block) ≤ 1 = hello_speaks (own_home view.journal) view.config.block in
      (record { quiet = omega (arith, silent, few); sent = hello_true w (own_home view.journal) view.config.block; takes = tt; rests = tt }, tt)
  connect_good w view now chosen waits false silent = (tt, tt)

  call_good : (w : World) (view : NodeView) (now : ℕ) (connected : Bool) (chosen : Row) (waits : Option Waits) → Silent w → AllGood w (call view now connected chosen waits)
  call_good w view now connected chosen None silent = (tt, tt)
  call_good w view now connected chosen (Some waits) silent = connect_good w view now chosen waits connected silent

  chosen_good : (w : World) (view : NodeView) (now : ℕ) (connected : Bool) (chosen : Option Row) → Silent w → AllGood w (row_chosen view now connected chosen)
  chosen_good w view now connected None silent = tt
  chosen_good w view now connected (Some chosen) silent = call_good w view now connected chosen (view.config.partner chosen.snode) silent

  pub choose_good : (w : World) (node : Node) (now : ℕ) (connected : Bool) → Silent w → AllGood w (row_choose node now connected)
  choose_good w node now connected silent = chosen_good w node.view now connected (next_due node.view.journal now (busy node.sessions)) silent

  -- a fault, where nobody spoke yet
  pub told_abort : (key : Option Key) → (speaking (trouble_for key) ≤ 1) × ((w : World) → AllTrue w (trouble_for key)) × ((g : Key → List ℕ) → readied (trouble_for key) g ≡ g)
  told_abort None = (omega arith, λ w. tt, λ g. refl)
  told_abort (Some key) = by_place (ltb key.place 1024) where
    by_place : (b : Bool) → (speaking (cond b (message.Abort key cause.Trouble ∷ []) []) ≤ 1) × ((w : World) → AllTrue w (cond b (message.Abort key cause.Trouble ∷ []) []))
        × ((g : Key → List ℕ) → readied (cond b (message.Abort key cause.Trouble ∷ []) []) g ≡ g)
    by_place true = (omega arith, λ w. (tt, tt), λ g. refl)
    by_place false = (omega arith, λ w. tt, λ g. refl)

  pub still_takes : (w : World) (frames : List Message) (phase : Phase) (now : ℕ) → ((g : Key → List ℕ) → readied frames g ≡ g) → Took now w phase → TakesOn w frames phase
  still_takes w frames (Take role terms key came) now same took = λ holds r safe is. subst (λ (g : Key → List ℕ). came ≤ length (g key)) (sym (same w.a.received)) (took holds r safe is)
  still_takes w frames phase now same took = tt
