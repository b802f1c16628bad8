use Rattle.cd_automaton.proofs.Whole.{outcome, not_both_resolved, one_process_resolved, same_fault_resolved}
use Rattle.cd_automaton.proofs.law.law_of_resolved_texts.Goals as goal

pub returns : goal.returns
returns c = record {
  some = λ text overrides. outcome text overrides;
  not_both = λ text overrides process f said wrong. not_both_resolved text overrides process f said wrong;
  one_process = λ text overrides one other a b. one_process_resolved text overrides one other a b;
  one_fault = λ text overrides one other a b. same_fault_resolved text overrides one other a b;
}
