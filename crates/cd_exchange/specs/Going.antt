-- What is left of a row while it is done, reaction by reaction.
use Rattle.std.specs.Prelude.{◌≡◌, ◌⊎◌, ℕ, zero, suc, List, ◌++◌, Bool, true, false}
use Rattle.cd_outside.specs.Moments.{Moments}
use Rattle.cd_rules.specs.Steps.{Reading}
use Rattle.cd_protocol.specs.declared.session.Continuation.{Continuation}
use Rattle.cd_protocol.specs.Node.{Node, Effect, does, Answers}
use Rattle.cd_protocol.specs.Rows.{is_done}
use Rattle.cd_effects.specs.Joint.{NodeImage, IsWithin}
use Rattle.cd_effects.specs.Stands.{Spot, Stands, WereDone, WereCut, IsFaultOfAsking}
use Rattle.cd_effects.specs.declared.fault.Fault.{Fault}
use Rattle.cd_effects.specs.declared.fault.Fault.TheVariants as fault
use Rattle.cd_exchange.specs.Question.{Setting, config_with, question_of, IsTold}
use Rattle.cd_exchange.specs.Rest.{reaction_after, rest, rank, Agrees}

-- where there is nothing left to ask, nothing is said
abbrev pub Unless : Bool → Type 0 → Type 0
Unless true P = Unit {0}
Unless false P = P

-- each answer of what is left of a row is what the files hold where it is asked for
unfoldable pub AreTold : ℕ → Node → ℕ → Answers → Continuation → Type 0
AreTold zero node sid answers then_what = Unit {0}
AreTold (suc more) node sid answers then_what =
    Unless (is_done then_what) (IsTold node.shelf (question_of node.view then_what) answers
    × AreTold more (does sid (reaction_after node sid answers then_what).effects node) sid answers (reaction_after node sid answers then_what).later)

-- A node that stands so is set up so.
pub record IsSo (told : Type 0) (setting : Setting) (read : Reading) (sid : ℕ) (node : Node) (at : Spot) : Type 0 where
  pub config : node.view.config ≡ config_with setting read
  pub stands : Stands told sid node at

-- A first part of what is left of a row was done: for each node that stood so, and for all answers that agree with those that
-- were given, that reaction and what is left behind it are the whole.
pub record IsOnItsWay (files_told lines_told : Type 0) (setting : Setting) (read : Reading) (sid whole left : ℕ) (first then_what : Continuation) (given : Answers) (before after : Spot) : Type 0 where
  pub done : List Effect
  pub was : WereDone files_told lines_told sid done before after
  pub row : (node : Node) → IsSo files_told setting read sid node before → (answers : Answers) → Agrees answers given (rank then_what)
      → rest whole node sid answers first ≡ done ++ rest left (does sid done node) sid answers then_what
  pub told : files_told → (node : Node) → IsSo files_told setting read sid node before → (answers : Answers) → Agrees answers given (rank then_what)
      → AreTold left (does sid done node) sid answers then_what → AreTold whole node sid answers first

-- A first part of the effects was done, and nothing of the rest: there a question failed, or memory ran out.
pub record WereLeft (files_told lines_told : Type 0) (sid : ℕ) (effects : List Effect) (fault : Fault) (before after : Spot) : Type 0 where
  pub done : List Effect
  pub more : List Effect
  pub reactions : effects ≡ done ++ more
  pub first : WereDone files_told lines_told sid done before after
  pub cause : IsFaultOfAsking fault

-- the fault is one of telling a partner of trouble, which records too
abbrev pub IsFaultOfTelling : Fault → Type 0
IsFaultOfTelling fault.Files = ⊥
IsFaultOfTelling _ = Unit {0}

-- so, or one of the effects was cut off
abbrev pub WereStopped : Type 0 → Type 0 → ℕ → List Effect → Fault → Spot → Spot → Type 0
WereStopped files_told lines_told sid effects fault before after = WereLeft files_told lines_told sid effects fault before after ⊎ WereCut files_told lines_told sid effects fault before after

-- A row was stopped: there are answers of this moment, and of each such node a first part of its row for them was done.
pub record RowStopped (files_told lines_told : Type 0) (sid now : ℕ) (fault : Fault) (effects : Node → Answers → List Effect) (is_it : Node → Type 0) (before after : Spot) : Type 0 where
  pub answers : Answers
  pub moment : answers.now ≡ now
  pub stopped : (node : Node) → is_it node → WereStopped files_told lines_told sid (effects node answers) fault before after

-- At each moment a crash leaves of this node what a first part of such effects leaves, for answers of this moment.
pub record MayLeave (sid now : ℕ) (effects : Answers → List Effect) (node : Node) (first last : ℕ → NodeImage → Type 0) (from : ℕ) : Type 0 where
  pub answers : Answers
  pub moment : answers.now ≡ now
  pub moments : Moments first last from (IsWithin sid (effects answers) node)
