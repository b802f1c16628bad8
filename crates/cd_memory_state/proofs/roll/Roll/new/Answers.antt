use Rattle.std.proofs.Common.{◌≡◌, ℕ, List, ◌∙◌, ap}
use Rattle.cd_memory_state.specs.Numbered.{count_of}
use Rattle.cd_memory_state.proofs.Rolled.{count_none}
use Rattle.cd_memory_state.proofs.roll.Roll.new.Goals as goal

pub returns-clause-counts : goal.returns-clause-counts
returns-clause-counts c = record {
  faults = λ session. ap (λ (l : List ℕ). count_of l session) c.new-3.ensures.items ∙ count_none session;
  ends = λ session. ap (λ (l : List ℕ). count_of l session) c.new-4.ensures.items ∙ count_none session;
}
