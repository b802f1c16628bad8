-- The children that were started.
use Rattle.std.specs.Prelude.{ℕ, List, [], ◌∷◌, ◌++◌}
use Rattle.cd_outside.specs.declared.spawner.Outcome.{Outcome}
use Rattle.cd_outside.specs.declared.spawner.Outcome.TheVariants.{Exit, Killed, Failed}

-- a command that was run to its end, with its outcome, or one that was only started
pub data Child : Type 0 where
  Ran : List ℕ → Outcome → Child
  Started : List ℕ → Child

-- the children after a command was run: one that couldn't be started is none
abbrev pub with_run : List ℕ → Outcome → List Child → List Child
with_run command (Exit code) children = children ++ Ran command (Exit code) ∷ []
with_run command Killed children = children ++ Ran command Killed ∷ []
with_run command Failed children = children

-- the children after a command was started
abbrev pub with_start : List ℕ → List Child → List Child
with_start command children = children ++ Started command ∷ []

-- a fact for the outcome of a command that couldn't be started
abbrev pub OnFailed : Outcome → Type 0 → Type 0
OnFailed (Exit code) P = Unit {0}
OnFailed Killed P = Unit {0}
OnFailed Failed P = P
