-- What a crash leaves of a node within a turn of a session: what a first part of one of its rows leaves. A turn has the row of a frame, or
-- that of its session's end. Where the files fail in a frame's row, that of trouble is begun behind it; where the session fails in one of these, that
-- of its end.
use Rattle.std.specs.Prelude.{◌≡◌, ◌⊎◌, ℕ, List, [], ◌∷◌, Some}
use Rattle.cd_outside.specs.Lines.{Traffic}
use Rattle.cd_outside.specs.Moments.{Moments}
use Rattle.cd_frames.specs.Message.{Message}
use Rattle.cd_frames.specs.Reading as readers
use Rattle.cd_rules.specs.Steps.{Reading}
use Rattle.cd_protocol.specs.Node.{Node, Effect, Answers}
use Rattle.cd_protocol.specs.Rows.{row, row_end, row_trouble}
use Rattle.cd_effects.specs.Joint.{NodeImage, IsWithin}
use Rattle.cd_effects.specs.Stands.{Spot}
use Rattle.cd_effects.specs.declared.fault.Fault.TheVariants as fault
use Rattle.cd_exchange.specs.Going.{IsSo}
use Rattle.cd_exchange.specs.Question.{Setting}
use Rattle.cd_exchange.specs.declared.session.Session.{Session}
use Rattle.cd_exchange.specs.Handling.{EndStopped, Case, the_case, CutOff}
use Rattle.cd_exchange.specs.Turn.{WasHeard, heard_at}

-- a row that was begun, and the node that it was begun of
pub record Begun : Type 0 where
  pub node : Node
  pub effects : List Effect

-- the image is what a first part of one of these rows leaves
abbrev pub IsWithinOne : ℕ → List Begun → NodeImage → Type 0
IsWithinOne sid [] image = ⊥
IsWithinOne sid (one ∷ more) image = IsWithin sid one.effects one.node image ⊎ IsWithinOne sid more image

module _ (files_told lines_told : Type 0) (setting : Setting) (read : Reading) (sid now : ℕ) where
  -- a row of this rule, of a node that stands so
  pub record IsBegun (rule : Node → ℕ → ℕ → List Effect) (at : Spot) (begun : Begun) : Type 0 where
    pub so : IsSo files_told setting read sid begun.node at
    pub effects : begun.effects ≡ rule begun.node sid now

  -- the rows of a telling of trouble: its own, and where the session failed in it that of its end, from where the telling stopped
  pub data RowsOfTrouble (before : Spot) : List Begun → Type 0 where
    telling : {one : Begun} → IsBegun row_trouble before one → RowsOfTrouble before (one ∷ [])
    losing : {one last : Begun} {at : Spot} → IsBegun row_trouble before one → EndStopped files_told lines_told setting read sid now row_trouble fault.Line before at → IsBegun row_end at last → RowsOfTrouble before (one ∷ last ∷ [])

  -- At each moment a crash leaves what a first part of one of these rows leaves.
  pub record TroubleLeaves (before : Spot) (first last : ℕ → NodeImage → Type 0) (from : ℕ) : Type 0 where
    pub rows : List Begun
    pub are : RowsOfTrouble before rows
    pub moments : Moments first last from (IsWithinOne sid rows)

-- the rows behind that of a frame, from where that was cut off
pub data RowsBehind (it : Case) (before : Spot) : List Begun → Type 0 where
  alone : RowsBehind it before []
  lost_in_it : {last : Begun} {at : Spot} → CutOff it fault.Line before at → IsBegun it.files_told it.lines_told it.setting it.read it.sid it.now row_end at last → RowsBehind it before (last ∷ [])
  trouble_in_it : {rows : List Begun} {at : Spot} → CutOff it fault.Files before at → RowsOfTrouble it.files_told it.lines_told it.setting it.read it.sid it.now at rows → RowsBehind it before rows

-- At each moment a crash leaves what a first part of one of these rows leaves, for answers of this moment.
pub record FrameLeaves (it : Case) (before : Spot) (node : Node) (first last : ℕ → NodeImage → Type 0) (from : ℕ) : Type 0 where
  pub answers : Answers
  pub moment : answers.now ≡ it.now
  pub rows : List Begun
  pub behind : RowsBehind it before rows
  pub moments : Moments first last from (IsWithinOne it.sid ((record { node = node; effects = row node it.sid answers it.frame }) ∷ rows))

-- What comes next in a session was a frame, and a crash leaves what the rows of that frame leave.
pub record HeardLeaves (files_told lines_told : Type 0) (setting : Setting) (read : Reading) (sid now : ℕ) (others : List Session) (reader_before reader : readers.Reading) (before : Spot) (node : Node) (first last : ℕ → NodeImage → Type 0) (from : ℕ) : Type 0 where
  pub frame : Message
  pub heard : Traffic
  pub came : WasHeard lines_told sid (Some frame) before heard reader_before reader
  pub leaves : FrameLeaves (the_case files_told lines_told setting read sid now others frame) (heard_at heard before) node first last from

-- So it is in a turn: the rows are those of the frame that came, or that of the session's end.
abbrev pub TurnLeaves : Type 0 → Type 0 → Setting → Reading → ℕ → ℕ → List Session → readers.Reading → readers.Reading → Spot → Node → (ℕ → NodeImage → Type 0) → (ℕ → NodeImage → Type 0) → ℕ → Type 0
TurnLeaves files_told lines_told setting read sid now others reader_before reader before node first last from =
    HeardLeaves files_told lines_told setting read sid now others reader_before reader before node first last from
    ⊎ Moments first last from (IsWithin sid (row_end node sid now) node)
