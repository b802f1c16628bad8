-- What a steady spawner in memory shows.
use Rattle.std.specs.Prelude.{ℕ, ◌-◌, min, List, [], ◌∷◌, map, slice_index_or, vec_len, vec_capacity}
use Rattle.cd_outside.specs.Spawner.{Child}
use Rattle.cd_outside.specs.declared.spawner.Outcome.{Outcome}
use Rattle.cd_outside.specs.declared.spawner.Outcome.TheVariants.{Exit, Killed}
use Rattle.cd_memory.specs.Ends.{outcome_of, children_by}
use Rattle.cd_memory.specs.declared.steady_spawner.SteadySpawner.{SteadySpawner}

-- the commands that it started, in their order
abbrev pub children_of : SteadySpawner → List Child
children_of spawner = children_by spawner.ways.items spawner.commands.items

-- how often it failed
abbrev pub spawner_faults : SteadySpawner → ℕ
spawner_faults spawner = spawner.faults

-- the outcomes that were set, in their order, and how many of them are used up
abbrev pub outcomes_of : SteadySpawner → List Outcome
outcomes_of spawner = map outcome_of spawner.ends.items

abbrev pub used_of : SteadySpawner → ℕ
used_of spawner = spawner.used

-- the outcome of the next call: exit status 0 where none is set
abbrev pub coming_outcome : SteadySpawner → Outcome
coming_outcome spawner = slice_index_or (outcomes_of spawner) (used_of spawner) (Exit 0)

-- for how many further calls it has room, and for how many bytes
abbrev pub calls_left : SteadySpawner → ℕ
calls_left spawner = min spawner.commands.parts_left (vec_capacity spawner.ways - vec_len spawner.ways)

abbrev pub bytes_left : SteadySpawner → ℕ
bytes_left spawner = spawner.commands.bytes_left
