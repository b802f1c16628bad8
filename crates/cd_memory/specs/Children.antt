-- The commands that a spawner in memory began.
use Rattle.std.specs.Prelude.{ℕ, List}
use Rattle.cd_outside.specs.Spawner.{Child, Ran, Started}
use Rattle.cd_memory.specs.declared.begun.Begun.{Begun}
use Rattle.cd_memory.specs.declared.begun.Way.{Way}
use Rattle.cd_memory.specs.declared.begun.Way.TheVariants as way

-- the child of a command that was begun
abbrev pub child_by : Way → List ℕ → Child
child_by (way.Run outcome) command = Ran command outcome
child_by way.Start command = Started command

abbrev pub child_of : Begun → Child
child_of begun = child_by begun.way begun.command.items
