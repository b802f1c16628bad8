-- What a turn makes of a node.
use Rattle.std.specs.Prelude.{◌≡◌, ℕ, List, slice_get, slice_set, Bool, not, ◌==◌, ◌&&◌, Option, Some, None}
use Rattle.std.specs.List.{position}
use Rattle.cd_outside.specs.Counts.{Rose}
use Rattle.cd_outside.specs.Lines.{Traffic, LineCounts}
use Rattle.cd_outside.specs.Shelf.{Shelf}
use Rattle.cd_outside.specs.declared.sid.Sid.{Sid}
use Rattle.cd_frames.specs.Reading.{Reading}
use Rattle.cd_rules.specs.Steps as steps
use Rattle.cd_protocol.specs.Rows.{row_end}
use Rattle.cd_protocol.specs.declared.session.Phase.{Phase}
use Rattle.cd_protocol.specs.declared.session.Phase.TheVariants.{Gone}
use Rattle.cd_effects.specs.Stands.{Spot, spot}
use Rattle.cd_effects.specs.declared.fault.Fault.{Fault}
use Rattle.cd_exchange.specs.declared.session.Session.{Session}
use Rattle.cd_exchange.specs.Handling.{DidEnd, EndStopped}
use Rattle.cd_plain.specs.NodeState.{NodeState, is_gone}
use Rattle.cd_exchange.specs.Setting.{setting_of}
use Rattle.cd_exchange.specs.Turn.{MayBeLost, TookTurn, TurnFailed}
use Rattle.cd_exchange.specs.declared.ending.Ending.{Ending}
use Rattle.cd_exchange.specs.declared.ending.Ending.TheVariants as an_ending
use Rattle.cd_plain.specs.declared.handled.Handled.{Handled}
use Rattle.cd_plain.specs.declared.handled.Handled.TheVariants as handled

-- how an ending is answered
abbrev pub handled_of : Ending → Sid → Handled
handled_of an_ending.Went sid = handled.Went
handled_of an_ending.Lost sid = handled.Lost sid
handled_of an_ending.Troubled sid = handled.Aborted sid

-- the same session in this phase
abbrev pub in_phase : Phase → Session → Session
in_phase phase s = record { sid = s.sid; phase = phase }

-- What devices tell, before a turn and after it, with the count of the files' faults.
pub record Told : Type 0 where
  pub shelf : Shelf
  pub files : ℕ
  pub traffic : Traffic
  pub counts : LineCounts

abbrev pub told : Shelf → ℕ → Traffic → LineCounts → Told
told shelf files traffic counts = record { shelf = shelf; files = files; traffic = traffic; counts = counts }

-- a session of this number that isn't gone
abbrev pub is_open_as : ℕ → Session → Bool
is_open_as number s = s.sid.number == number && not (is_gone s.phase)

-- where the open session of a number stands
abbrev pub place_of : ℕ → List Session → Option ℕ
place_of number sessions = position (is_open_as number) sessions

-- The open session at this place has its turn, beside the others.
pub record IsTurnOf (at : ℕ) (session : Session) (reader : Reading) (sid : Sid) (node : NodeState) : Type 0 where
  pub first : place_of sid.number node.sessions ≡ Some at
  pub stands : slice_get node.sessions at ≡ Some session
  pub number : session.sid.number ≡ sid.number
  pub reads : slice_get node.readings at ≡ Some reader

abbrev pub others_at : ℕ → Session → List Session → List Session
others_at at session sessions = slice_set sessions at (in_phase Gone session)

-- what stands of a node for a session in this phase
abbrev pub spot_of : NodeState → Phase → Told → Spot
spot_of node phase devices = spot node.registry.entries devices.shelf phase node.holdings devices.traffic

-- Of the sessions one had its turn: its frame was handled, or its end; and it is in this phase then.
pub record HadTurn (files_told lines_told : Type 0) (read : steps.Reading) (now : ℕ) (sid : Sid) (answer : Handled) (node after : NodeState) (before now_told : Told) : Type 0 where
  pub at : ℕ
  pub session : Session
  pub phase : Phase
  pub reader_before : Reading
  pub reader : Reading
  pub ending : Ending
  pub is : IsTurnOf at session reader_before sid node
  pub sessions : after.sessions ≡ slice_set node.sessions at (in_phase phase session)
  pub readers : after.readings ≡ slice_set node.readings at reader
  pub answered : answer ≡ handled_of ending sid
  pub turn : TookTurn files_told lines_told (setting_of node.config) read sid.number now (others_at at session node.sessions) ending before.counts now_told.counts reader_before reader
      (spot_of node session.phase before) (spot_of after phase now_told)
  pub lost : ending ≡ an_ending.Lost → MayBeLost node.registry.entries session.phase reader sid.number before.counts now_told.counts
  pub troubled : ending ≡ an_ending.Troubled → Rose before.files now_told.files

-- no open session has this number, and nothing was done
pub record NoTurn (sid : Sid) (answer : Handled) (node after : NodeState) (before now_told : Told) : Type 0 where
  pub answered : answer ≡ handled.Lost sid
  pub none : place_of sid.number node.sessions ≡ None
  pub same : after ≡ node
  pub untouched : now_told ≡ before

-- What was done in the turn of a session where a fault comes that ends the node's run.
pub record FailedTurn (files_told lines_told : Type 0) (read : steps.Reading) (now : ℕ) (sid : Sid) (why : Fault) (node after : NodeState) (before now_told : Told) : Type 0 where
  pub at : ℕ
  pub session : Session
  pub phase : Phase
  pub reader_before : Reading
  pub reader : Reading
  pub is : IsTurnOf at session reader_before sid node
  pub sessions : after.sessions ≡ slice_set node.sessions at (in_phase phase session)
  pub readers : after.readings ≡ slice_set node.readings at reader
  pub failed : TurnFailed files_told lines_told (setting_of node.config) read sid.number now (others_at at session node.sessions) why before.counts now_told.counts reader_before reader
      (spot_of node session.phase before) (spot_of after phase now_told)

-- The open session of a number was left: its end was handled, as the rules say, and it is in this phase then.
pub record WasLeft (files_told lines_told : Type 0) (read : steps.Reading) (now : ℕ) (sid : Sid) (answer : Handled) (node after : NodeState) (before now_told : Told) : Type 0 where
  pub at : ℕ
  pub session : Session
  pub phase : Phase
  pub first : place_of sid.number node.sessions ≡ Some at
  pub stands : slice_get node.sessions at ≡ Some session
  pub sessions : after.sessions ≡ slice_set node.sessions at (in_phase phase session)
  pub readings : after.readings ≡ node.readings
  pub answered : answer ≡ handled.Lost sid
  pub ended : DidEnd files_told lines_told (setting_of node.config) read sid.number now row_end (spot_of node session.phase before) (spot_of after phase now_told)

-- what was done of that where a fault comes that ends the node's run
pub record FailedLeaving (files_told lines_told : Type 0) (read : steps.Reading) (now : ℕ) (sid : Sid) (why : Fault) (node after : NodeState) (before now_told : Told) : Type 0 where
  pub at : ℕ
  pub session : Session
  pub phase : Phase
  pub first : place_of sid.number node.sessions ≡ Some at
  pub stands : slice_get node.sessions at ≡ Some session
  pub sessions : after.sessions ≡ slice_set node.sessions at (in_phase phase session)
  pub readings : after.readings ≡ node.readings
  pub failed : EndStopped files_told lines_told (setting_of node.config) read sid.number now row_end why (spot_of node session.phase before) (spot_of after phase now_told)
