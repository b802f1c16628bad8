-- The choice of the next Process.
use Rattle.std.specs.Prelude.{◌≡◌, ◌⊎◌, ℕ, List, [], ◌∷◌, false, Option, Some, None}
use Rattle.cd_types.specs.declared.rows.Row.{Row}
use Rattle.cd_entries.specs.declared.entry.Entry.{Entry}
use Rattle.cd_entries.specs.declared.entry.Entry.TheVariants as entry
use Rattle.cd_rules.specs.Queue.{Waits}
use Rattle.cd_rules.specs.Steps.{Reading}
use Rattle.cd_protocol.specs.Closing.{own_number}
use Rattle.cd_protocol.specs.Node.{NodeView, Effect, Keep}
use Rattle.cd_protocol.specs.Rows.{may_record}
use Rattle.cd_exchange.specs.declared.session.Session.{Session}

abbrev pub busy_with : Option ℕ → List ℕ → List ℕ
busy_with None numbers = numbers
busy_with (Some n) numbers = n ∷ numbers

-- the numbers of the Processes that have an open session
abbrev pub busy_in : List Session → List ℕ
busy_in [] = []
busy_in (s ∷ sessions) = busy_with (own_number s.phase) (busy_in sessions)

-- the placing that effects record, where they record that alone
abbrev pub placed_in : List Effect → Option Entry
placed_in (Keep (entry.Placed number placing moment) ∷ []) = Some (entry.Placed number placing moment)
placed_in _ = None

-- it was recorded, where it may be
abbrev pub IsPlaced : Reading → ℕ → Option Entry → List Entry → List Entry → Type 0
IsPlaced read now None before after = after ≡ before
IsPlaced read now (Some e) before after = (after ≡ e ∷ before) ⊎ ((may_record read now before e ≡ false) × (after ≡ before))

-- the node can call the partner of a Process
abbrev pub IsCalled : Option Waits → Type 0
IsCalled None = ⊥
IsCalled (Some waits) = Unit {0}

abbrev pub IsKnown : NodeView → Row → Type 0
IsKnown view chosen = IsCalled (view.config.partner chosen.snode)
