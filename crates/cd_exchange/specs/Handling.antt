-- What is done about a frame of a session, also where the files or the session fail in it.
use Rattle.std.specs.Prelude.{◌≡◌, ◌⊎◌, ℕ, List}
use Rattle.cd_outside.specs.Counts.{Rose}
use Rattle.cd_outside.specs.Lines.{LineCounts}
use Rattle.cd_frames.specs.Message.{Message}
use Rattle.cd_rules.specs.Steps.{Reading}
use Rattle.cd_protocol.specs.Node.{Node, Effect, does, Answers}
use Rattle.cd_protocol.specs.Rows.{first_reaction, most_reactions, row, row_end, row_trouble}
use Rattle.cd_effects.specs.Stands.{Spot, WereDone}
use Rattle.cd_effects.specs.declared.fault.Fault.{Fault}
use Rattle.cd_effects.specs.declared.fault.Fault.TheVariants as fault
use Rattle.cd_exchange.specs.Going.{AreTold, IsSo, WereStopped, RowStopped}
use Rattle.cd_exchange.specs.Question.{Setting}
use Rattle.cd_exchange.specs.Sessions.{IsAt}
use Rattle.cd_exchange.specs.declared.session.Session.{Session}
use Rattle.cd_exchange.specs.declared.ending.Ending.{Ending}
use Rattle.cd_exchange.specs.declared.ending.Ending.TheVariants.{Went, Lost, Troubled}

-- How a session ends, whether the files and the lines tell or not, at a node that is set up so.
module _ (files_told lines_told : Type 0) (setting : Setting) (read : Reading) (sid now : ℕ) where
  -- a rule of ending was done, of each node that stood so
  abbrev pub DidEnd : (Node → ℕ → ℕ → List Effect) → Spot → Spot → Type 0
  DidEnd rule before after = (node : Node) → IsSo files_told setting read sid node before → WereDone files_told lines_told sid (rule node sid now) before after

  -- or it was stopped by a fault
  abbrev pub EndStopped : (Node → ℕ → ℕ → List Effect) → Fault → Spot → Spot → Type 0
  EndStopped rule why before after = (node : Node) → IsSo files_told setting read sid node before → WereStopped files_told lines_told sid (rule node sid now) why before after

-- The same where the session may fail in it, by what the lines counted before and after.
module _ (files_told lines_told : Type 0) (setting : Setting) (read : Reading) (sid now : ℕ) (counts_before counts : LineCounts) where
  -- the telling of trouble was stopped by the session, which failed, and then that was lost
  pub record LostInTrouble (before after : Spot) : Type 0 where
    pub at : Spot
    pub cause : Rose (counts_before.faults sid) (counts.faults sid)
    pub stopped : EndStopped files_told lines_told setting read sid now row_trouble fault.Line before at
    pub ended : DidEnd files_told lines_told setting read sid now row_end at after

  -- the partner was told of trouble, or the session was lost in that
  abbrev pub GaveUp : Spot → Spot → Type 0
  GaveUp before after = DidEnd files_told lines_told setting read sid now row_trouble before after ⊎ LostInTrouble before after

  pub record FailedInLoss (why : Fault) (before after : Spot) : Type 0 where
    pub at : Spot
    pub cause : Rose (counts_before.faults sid) (counts.faults sid)
    pub stopped : EndStopped files_told lines_told setting read sid now row_trouble fault.Line before at
    pub ended : EndStopped files_told lines_told setting read sid now row_end why at after

  abbrev pub GivingUpFailed : Fault → Spot → Spot → Type 0
  GivingUpFailed why before after = EndStopped files_told lines_told setting read sid now row_trouble why before after ⊎ FailedInLoss why before after

-- A frame in a session of a node: whether files and lines tell, how the node is set up and reads texts, the session's number, the
-- moment, the other sessions, and the frame.
pub record Case : Type 1 where
  pub files_told : Type 0
  pub lines_told : Type 0
  pub setting : Setting
  pub read : Reading
  pub sid : ℕ
  pub now : ℕ
  pub others : List Session
  pub frame : Message

abbrev pub the_case : Type 0 → Type 0 → Setting → Reading → ℕ → ℕ → List Session → Message → Case
the_case files_told lines_told setting read sid now others frame = record { files_told = files_told; lines_told = lines_told; setting = setting; read = read; sid = sid; now = now; others = others; frame = frame }

-- a node that stands so, with these other sessions
abbrev pub IsOf : Case → Node → Spot → Type 0
IsOf it node at = IsAt it.files_told it.setting it.read it.sid it.others node at

-- All that the rules say was done, by answers of this moment, which are what the files held where they were asked for.
pub record AllDone (it : Case) (before after : Spot) : Type 0 where
  pub answers : Answers
  pub moment : answers.now ≡ it.now
  pub done : (node : Node) → IsOf it node before → WereDone it.files_told it.lines_told it.sid (row node it.sid answers it.frame) before after
  pub told : it.files_told → (node : Node) → IsOf it node before
      → AreTold most_reactions (does it.sid (first_reaction node.view node.sessions it.now it.sid it.frame).effects node) it.sid answers (first_reaction node.view node.sessions it.now it.sid it.frame).later

-- a first part of it was done, and a fault came
abbrev pub CutOff : Case → Fault → Spot → Spot → Type 0
CutOff it why before after = RowStopped it.files_told it.lines_told it.sid it.now why (λ node answers. row node it.sid answers it.frame) (λ node. IsOf it node before) before after

-- How a frame was handled, by what the lines counted before and after.
module _ (it : Case) (counts_before counts : LineCounts) where
  -- the session failed, and was lost then
  pub record LostBehind (before after : Spot) : Type 0 where
    pub at : Spot
    pub cause : Rose (counts_before.faults it.sid) (counts.faults it.sid)
    pub cut : CutOff it fault.Line before at
    pub ended : DidEnd it.files_told it.lines_told it.setting it.read it.sid it.now row_end at after

  -- the files failed, and the partner was told of trouble
  pub record TroubledBehind (before after : Spot) : Type 0 where
    pub at : Spot
    pub cut : CutOff it fault.Files before at
    pub ended : GaveUp it.files_told it.lines_told it.setting it.read it.sid it.now counts_before counts at after

  abbrev pub WasHandled : Ending → Spot → Spot → Type 0
  WasHandled Went before after = AllDone it before after
  WasHandled Lost before after = LostBehind before after
  WasHandled Troubled before after = TroubledBehind before after

  -- or what was done of it where a fault came that ends the node's run
  pub record FailedLosing (why : Fault) (before after : Spot) : Type 0 where
    pub at : Spot
    pub cause : Rose (counts_before.faults it.sid) (counts.faults it.sid)
    pub cut : CutOff it fault.Line before at
    pub ended : EndStopped it.files_told it.lines_told it.setting it.read it.sid it.now row_end why at after

  pub record FailedTelling (why : Fault) (before after : Spot) : Type 0 where
    pub at : Spot
    pub cut : CutOff it fault.Files before at
    pub ended : GivingUpFailed it.files_told it.lines_told it.setting it.read it.sid it.now counts_before counts why at after

  abbrev pub HasFailed : Fault → Spot → Spot → Type 0
  HasFailed why before after = CutOff it why before after ⊎ (FailedLosing why before after ⊎ FailedTelling why before after)
