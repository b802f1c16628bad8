use Rattle.std.proofs.Common.{◌≡◌, ◌≤◌, length}
use Rattle.cd_grammar.specs.declared.step.Step.{Step}
use Rattle.cd_grammar.specs.Reading.{Reading}
use Rattle.cd_automaton.specs.State.{Pairs}
use Rattle.cd_parser.specs.Runs.{reads}
use Rattle.cd_parser.proofs.value.pairs.Given as goal

abbrev pub invariant-loop-token : goal.invariant-loop-token
invariant-loop-token l = record {
  same : (r : Reading) (s : Step) → reads l.len r (Pairs s) l.initial.tokens ≡ reads l.len r (Pairs s) l.tokens;
  fewer : length l.tokens ≤ length l.initial.tokens;
}

abbrev pub decreases-loop-token : goal.decreases-loop-token
decreases-loop-token l = length l.tokens
