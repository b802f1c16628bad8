-- How commands ended that could be started.
use Rattle.std.specs.Prelude.{ℕ, List, [], ◌∷◌}
use Rattle.cd_outside.specs.Spawner.{Child}
use Rattle.cd_outside.specs.declared.spawner.Outcome.{Outcome}
use Rattle.cd_outside.specs.declared.spawner.Outcome.TheVariants as outcome
use Rattle.cd_memory.specs.Children.{child_by}
use Rattle.cd_memory.specs.declared.begun.Way.{Way}
use Rattle.cd_memory.specs.declared.end.End.{End}
use Rattle.cd_memory.specs.declared.end.End.TheVariants as ends

-- the outcome
abbrev pub outcome_of : End → Outcome
outcome_of (ends.Exit code) = outcome.Exit code
outcome_of ends.Killed = outcome.Killed

-- the children of these commands, each of which was begun so
abbrev pub children_by : List Way → List (List ℕ) → List Child
children_by [] commands = []
children_by (way ∷ ways) [] = []
children_by (way ∷ ways) (command ∷ commands) = child_by way command ∷ children_by ways commands
