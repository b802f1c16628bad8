use Rattle.std.proofs.Common.{◌≡◌, ℕ, List, ◌∙◌, ap}
use Rattle.cd_memory_state.specs.Sessions.{SessionHeld, session_at}
use Rattle.cd_memory_state.proofs.Fresh.{none_yet}
use Rattle.cd_memory_state.proofs.exchange.Exchange.new.Goals as goal

pub returns-clause-counts : goal.returns-clause-counts
returns-clause-counts c = record {
  faults = λ session. ap (λ (l : List SessionHeld). (session_at l session).faults) c.new.ensures.items ∙ ap (λ (h : SessionHeld). h.faults) (none_yet session);
  ends = λ session. ap (λ (l : List SessionHeld). (session_at l session).ends) c.new.ensures.items ∙ ap (λ (h : SessionHeld). h.ends) (none_yet session);
}
