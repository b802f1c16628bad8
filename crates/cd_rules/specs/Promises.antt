-- What legality promises of marks, of what is received, and of where Processes stand.
use Rattle.std.specs.Prelude.{◌≡◌, ℕ, ◌+◌, ◌≤◌, List, ◌⊎◌, Bool, true, ◌||◌, Some}
use Rattle.cd_types.specs.declared.key.Key.{Key}
use Rattle.cd_types.specs.declared.rows.Outcomes.{Outcomes}
use Rattle.cd_types.specs.declared.rows.Placing.{Placing}
use Rattle.cd_types.specs.declared.rows.Receiving.{Receiving}
use Rattle.cd_entries.specs.declared.entry.Entry.{Entry}
use Rattle.cd_rules.specs.Status.{Open, status}
use Rattle.cd_ast.specs.declared.process.Process.{Process}
use Rattle.cd_rules.specs.Legal.{last_mark, is_hold}
use Rattle.cd_rules.specs.Steps.{Reading}

-- a receiving with this mark lands with this outcome: all of it came, and its last mark was recorded
pub record Landed (r : Receiving) (safe : ℕ) (o : Outcomes) : Type 0 where
  pub code : o.rc ≡ 0
  pub whole : o.bytes ≡ r.length
  pub mark : (r.interval ≡ 0) ⊎ (safe ≡ last_mark r.interval r.length)

-- a mark of a step: a file is being received for it, and the mark is 0, or one interval further and within the length
pub record IsMark (journal : List Entry) (key : Key) (offset : ℕ) : Type 0 where
  pub receiving : Receiving
  pub safe : ℕ
  pub open_is : status journal key ≡ Open receiving safe
  pub step : (offset ≡ 0) ⊎ ((offset ≡ safe + receiving.interval) × (offset ≤ receiving.length))

-- the priority of each Process that has a canonical text is 1 to 15
abbrev pub HavePriorities : Reading → Type 0
HavePriorities read = (text : List ℕ) (process : Process) → read text ≡ Some process → (1 ≤ process.card.prty) × (process.card.prty ≤ 15)

-- where a Process stands: its priority is 1 to 15, and it stands in Hold where it doesn't run itself
pub record WellPlaced (runs : Bool) (placed : Placing) : Type 0 where
  pub low : 1 ≤ placed.prty
  pub high : placed.prty ≤ 15
  pub held : (runs || is_hold placed.queue) ≡ true
