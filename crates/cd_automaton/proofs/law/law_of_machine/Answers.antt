use Rattle.cd_automaton.proofs.Sound.{whole_sound}
use Rattle.cd_automaton.proofs.Walks.{read_whole}
use Rattle.cd_automaton.proofs.Exact.{reached_goes_on, fault_leaves, leaves_fault}
use Rattle.cd_automaton.proofs.law.law_of_machine.Goals as goal

pub returns : goal.returns
returns c = record {
  sound = λ how len tokens all e. whole_sound how len tokens all e;
  complete = λ how len tokens all asks keyed read. read_whole how len tokens all asks keyed read;
  viable = λ how before r s reached. reached_goes_on how before r s reached;
  exact = λ len tokens f placed e. fault_leaves len tokens placed f e;
  first = λ len tokens f placed leaves. leaves_fault len tokens placed leaves;
}
