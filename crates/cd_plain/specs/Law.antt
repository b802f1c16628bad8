-- A node of the rules, as this node is one.
use Rattle.std.specs.Prelude.{◌≡◌, ℕ, map}
use Rattle.cd_types.specs.declared.key.Key.{Key}
use Rattle.cd_rules.specs.Steps.{Reading}
use Rattle.cd_protocol.specs.Node.{Node}
use Rattle.cd_effects.specs.Stands.{holder_of}
use Rattle.cd_exchange.specs.Sessions.{phase_among}
use Rattle.cd_exchange.specs.declared.session.Session.{Session}
use Rattle.cd_session_rules.specs.NodeView.{view_of}
use Rattle.cd_plain.specs.NodeState.{NodeState}

abbrev pub number_of : Session → ℕ
number_of s = s.sid.number

-- It has the same journal and is set up so; its sessions are numbered as they came, each in its phase; and the same sessions hold the keys.
pub record IsNodeOf (read : Reading) (state : NodeState) (node : Node) : Type 0 where
  pub view : node.view ≡ view_of read state.config state.registry.entries
  pub sids : node.sessions.sids ≡ map number_of state.sessions
  pub phases : (sid : ℕ) → node.sessions.phase sid ≡ phase_among state.sessions sid
  pub owners : (key : Key) → node.sessions.holder key ≡ holder_of state.holdings key
