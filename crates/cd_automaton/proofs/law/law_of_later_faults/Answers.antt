use Rattle.cd_grammar.specs.Later.{late_faults}
use Rattle.cd_automaton.proofs.Later.{some_first, none_first, one_first}
use Rattle.cd_automaton.proofs.law.law_of_later_faults.Goals as goal

pub returns : goal.returns
returns c = record {
  some = λ r. some_first (late_faults r);
  none = λ r f e first. none_first (late_faults r) f e first;
  one_fault = λ r one other a b. one_first r one other a b;
}
