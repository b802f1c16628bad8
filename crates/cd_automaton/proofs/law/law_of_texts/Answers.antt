use Rattle.cd_automaton.proofs.Whole.{verdict, not_both, one_process, same_fault}
use Rattle.cd_automaton.proofs.law.law_of_texts.Goals as goal

pub returns : goal.returns
returns c = record {
  some = λ text. verdict text;
  not_both = λ text process f said wrong. not_both text process f said wrong;
  one_process = λ text one other a b. one_process text one other a b;
  one_fault = λ text one other a b. same_fault text one other a b;
}
