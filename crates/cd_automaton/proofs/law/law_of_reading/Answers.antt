use Rattle.cd_automaton.proofs.Walks.{read_once}
use Rattle.cd_automaton.proofs.Exact.{some_of_both, not_both_of, one_fault}
use Rattle.cd_automaton.proofs.law.law_of_reading.Goals as goal

pub returns : goal.returns
returns c = record {
  unique = λ tokens one other keyed a b. read_once tokens one other keyed a b;
  some = λ len tokens placed. some_of_both len tokens placed;
  not_both = λ len tokens all f placed read leaves. not_both_of len tokens placed all read leaves;
  one_fault = λ len tokens one other placed a b. one_fault len tokens placed a b;
}
