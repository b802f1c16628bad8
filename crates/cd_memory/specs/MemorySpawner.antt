-- What a spawner in memory shows.
use Rattle.std.specs.Prelude.{ℕ, ◌==◌, Bool, List, map, slice_index_or}
use Rattle.std.specs.List.{list_any}
use Rattle.cd_outside.specs.Counts.{next}
use Rattle.cd_outside.specs.Spawner.{Child}
use Rattle.cd_outside.specs.declared.spawner.Outcome.{Outcome}
use Rattle.cd_outside.specs.declared.spawner.Outcome.TheVariants.{Exit}
use Rattle.cd_memory.specs.Children.{child_of}
use Rattle.cd_memory.specs.declared.spawner.MemorySpawner.{MemorySpawner}

-- the commands that it started, in their order
abbrev pub children_of : MemorySpawner → List Child
children_of spawner = map child_of spawner.begun.items

-- the numbers of the calls that fail, and of the calls so far; how often it failed
abbrev pub spawner_script : MemorySpawner → List ℕ
spawner_script spawner = spawner.tally.script

abbrev pub spawner_calls : MemorySpawner → ℕ
spawner_calls spawner = spawner.tally.calls

abbrev pub spawner_faults : MemorySpawner → ℕ
spawner_faults spawner = spawner.tally.faults

-- a call found no memory
abbrev pub is_spawner_starved : MemorySpawner → Bool
is_spawner_starved spawner = spawner.tally.starved

-- the outcomes that were set, in their order, and how many of them are used up
abbrev pub outcomes_of : MemorySpawner → List Outcome
outcomes_of spawner = spawner.outcomes.items

abbrev pub used_of : MemorySpawner → ℕ
used_of spawner = spawner.used

-- the outcome of the next call: exit status 0 where none is set
abbrev pub coming_outcome : MemorySpawner → Outcome
coming_outcome spawner = slice_index_or (outcomes_of spawner) (used_of spawner) (Exit 0)

-- the script says that the next call fails
abbrev pub spawner_fails_next : MemorySpawner → Bool
spawner_fails_next spawner = list_any (λ n. n == next (spawner_calls spawner)) (spawner_script spawner)
