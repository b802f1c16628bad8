use Rattle.std.proofs.Common.{◌≡◌, length}
use Rattle.cd_grammar.specs.declared.step.Step.TheVariants as step
use Rattle.cd_grammar.specs.Given.{nothing}
use Rattle.cd_automaton.specs.State.{At}
use Rattle.cd_parser.specs.Runs.{reads}
use Rattle.cd_parser.proofs.turn.statements.Given as goal

abbrev pub invariant-loop-next : goal.invariant-loop-next
invariant-loop-next l = reads l.len l.initial.reader (At (step.Head nothing)) l.initial.tokens ≡ reads l.len l.reader (At l.step) l.tokens

abbrev pub decreases-loop-next : goal.decreases-loop-next
decreases-loop-next l = length l.tokens
