-- What a crash leaves of a node within the turn of one of its sessions, or within the end of one that it leaves.
use Rattle.std.specs.Prelude.{◌≡◌, ℕ, Some, slice_get}
use Rattle.cd_outside.specs.Moments.{Moments}
use Rattle.cd_outside.specs.declared.sid.Sid.{Sid}
use Rattle.cd_frames.specs.Reading as readers
use Rattle.cd_rules.specs.Steps.{Reading}
use Rattle.cd_protocol.specs.Node.{Node}
use Rattle.cd_protocol.specs.Rows.{row_end}
use Rattle.cd_effects.specs.Joint.{NodeImage, IsWithin}
use Rattle.cd_exchange.specs.Going.{IsSo}
use Rattle.cd_exchange.specs.Sessions.{IsAt}
use Rattle.cd_exchange.specs.declared.session.Session.{Session}
use Rattle.cd_exchange.specs.Crash.{TurnLeaves}
use Rattle.cd_exchange.specs.Setting.{setting_of}
use Rattle.cd_plain.specs.NodeState.{NodeState}
use Rattle.cd_plain.specs.Turned.{Told, IsTurnOf, others_at, place_of, spot_of}

-- The open session of a number has its turn: whatever node of the rules stands so, a crash leaves what a first part of one of its rows leaves.
pub record NodeLeaves (files_told lines_told : Type 0) (read : Reading) (now : ℕ) (sid : Sid) (state : NodeState) (before : Told) (first last : ℕ → NodeImage → Type 0) (from : ℕ) : Type 0 where
  pub at : ℕ
  pub session : Session
  pub reader_before : readers.Reading
  pub reader : readers.Reading
  pub is : IsTurnOf at session reader_before sid state
  pub leaves : (node : Node) → IsAt files_told (setting_of state.config) read sid.number (others_at at session state.sessions) node (spot_of state session.phase before)
      → TurnLeaves files_told lines_told (setting_of state.config) read sid.number now (others_at at session state.sessions) reader_before reader (spot_of state session.phase before) node first last from

-- So it is for the open session of a number that is left: a first part of its end.
pub record LeaveLeaves (files_told : Type 0) (read : Reading) (now : ℕ) (sid : Sid) (state : NodeState) (before : Told) (first last : ℕ → NodeImage → Type 0) (from : ℕ) : Type 0 where
  pub at : ℕ
  pub session : Session
  pub open_at : place_of sid.number state.sessions ≡ Some at
  pub stands : slice_get state.sessions at ≡ Some session
  pub moments : (node : Node) → IsSo files_told (setting_of state.config) read sid.number node (spot_of state session.phase before) → Moments first last from (IsWithin sid.number (row_end node sid.number now) node)
