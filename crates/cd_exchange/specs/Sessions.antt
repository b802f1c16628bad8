-- The sessions of a node while one of them is at hand.
use Rattle.std.specs.Prelude.{◌≡◌, ℕ, List, [], ◌∷◌, ◌==◌, if◌then◌else◌}
use Rattle.cd_rules.specs.Steps.{Reading}
use Rattle.cd_protocol.specs.declared.session.Phase.{Phase}
use Rattle.cd_protocol.specs.declared.session.Phase.TheVariants.{Gone}
use Rattle.cd_protocol.specs.Node.{Sessions, Node, put}
use Rattle.cd_effects.specs.declared.owners.Holding.{Holding}
use Rattle.cd_effects.specs.Stands.{Spot, holder_of}
use Rattle.cd_exchange.specs.declared.session.Session.{Session}
use Rattle.cd_exchange.specs.Going.{IsSo}
use Rattle.cd_exchange.specs.Question.{Setting}

-- the phase of a session among these, which is gone where there is none
abbrev pub phase_among : List Session → ℕ → Phase
phase_among [] sid = Gone
phase_among (one ∷ more) sid = if one.sid.number == sid then one.phase else phase_among more sid

-- the phases, where one session is at hand in this phase, beside the others
abbrev pub phases_with : ℕ → Phase → List Session → ℕ → Phase
phases_with sid phase others = put (λ a b. a == b) sid phase (phase_among others)

abbrev pub sessions_with : List ℕ → ℕ → Phase → List Session → List Holding → Sessions
sessions_with sids sid phase others holdings = record { sids = sids; phase = phases_with sid phase others; holder = holder_of holdings }

-- A node that stands so has these other sessions.
pub record IsAt (told : Type 0) (setting : Setting) (read : Reading) (sid : ℕ) (others : List Session) (node : Node) (at : Spot) : Type 0 where
  pub so : IsSo told setting read sid node at
  pub phases : node.sessions.phase ≡ phases_with sid at.phase others
  pub owners : node.sessions.holder ≡ holder_of at.holdings
