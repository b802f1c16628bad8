-- What a row promises of the journal.
use Rattle.std.specs.Prelude.{◌≡◌, ◌≤◌, ℕ, List, ◌++◌, true}
use Rattle.cd_entries.specs.declared.entry.Entry.{Entry}
use Rattle.cd_rules.specs.Legal.{is_legal}
use Rattle.cd_rules.specs.Processes.{latest}
use Rattle.cd_protocol.specs.Node.{Node, Effect, does}

-- after these effects of a session the journal is legal, has the earlier one behind its new entries, and no moment later than now
pub record IsLegalAfter (sid now : ℕ) (node : Node) (done : List Effect) : Type 0 where
  pub legal : is_legal node.view.config.read (does sid done node).view.journal ≡ true
  pub later : List Entry
  pub extends : (does sid done node).view.journal ≡ later ++ node.view.journal
  pub on_time : latest (does sid done node).view.journal ≤ now

-- so it is after each first part of a row, and after all of it
abbrev pub StaysLegal : ℕ → ℕ → Node → List Effect → Type 0
StaysLegal sid now node effects = (done more : List Effect) → effects ≡ done ++ more → IsLegalAfter sid now node done
