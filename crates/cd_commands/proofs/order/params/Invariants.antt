use Rattle.std.proofs.Common.{length}
use Rattle.cd_commands.specs.Given.{nothing}
use Rattle.cd_commands.specs.Machine.{At, said}
use Rattle.cd_commands.specs.Told.{Leads}
use Rattle.cd_commands.proofs.order.params.Given as goal

abbrev pub invariant-loop-turn : goal.invariant-loop-turn
invariant-loop-turn l = Leads (said l.len (At l.kind nothing) l.initial.tokens) l.len l.kind l.held l.turn l.tokens

abbrev pub decreases-loop-turn : goal.decreases-loop-turn
decreases-loop-turn l = length l.tokens
