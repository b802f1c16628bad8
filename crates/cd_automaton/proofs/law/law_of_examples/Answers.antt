use Rattle.cd_automaton.proofs.Examples.{each_leaves}
use Rattle.cd_automaton.proofs.law.law_of_examples.Goals as goal

pub returns : goal.returns
returns c = each_leaves
