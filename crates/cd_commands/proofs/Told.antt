-- A fault is told, and no command.
use Rattle.std.proofs.Common.{◌≡◌}
use Rattle.cd_commands.specs.declared.fault.CommandFault.{CommandFault}
use Rattle.cd_commands.specs.declared.fault.CommandFault.TheVariants.{Word, Process, NoMemory}
use Rattle.cd_commands.specs.Commands.{Fault, Left, Wrong}
use Rattle.cd_commands.specs.Told.{IsTold, IsNoMemory, IsAs}

pub none_told : (there : Fault → Type 0) (fault : CommandFault) → ((f : Fault) → there f → ⊥) → IsTold there fault → IsNoMemory fault
none_told there (Word at) none told = none (Left at) told
none_told there (Process name at) none told = none (Wrong (name, at)) told
none_told there NoMemory none told = tt

pub as_told : (there : Fault → Type 0) (fault : CommandFault) (f : Fault) → ((g : Fault) → there g → g ≡ f) → IsTold there fault → IsAs f fault
as_told there (Word at) f one told = one (Left at) told
as_told there (Process name at) f one told = one (Wrong (name, at)) told
as_told there NoMemory f one told = tt
