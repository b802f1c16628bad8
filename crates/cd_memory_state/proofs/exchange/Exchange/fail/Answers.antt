use Rattle.std.proofs.Common.{◌≡◌, ℕ, ◌-◌, ◌<◌, ◌≤◌, suc, length, refl, sym, ◌∙◌, ap, arith}
use Rattle.cd_outside.specs.Counts.{next}
use Rattle.cd_memory_state.specs.Sessions.{SessionHeld}
use Rattle.cd_memory_state.proofs.Counted.{old_at, new_at, others_tested, each}
use Rattle.cd_memory_state.proofs.exchange.Exchange.fail.Goals as goal

pub returns-clause-counts : goal.returns-clause-counts
returns-clause-counts c =
    let sessions = c.args.self.now.sessions in
    let i = c.args.number - 1 in
    let is : c.args.number ≡ suc i = omega arith in
    let lt : i < length sessions.items = omega (arith, sessions.ok.0) in
    let old = c.index_mut-session.result.now in
    let new = c.fail.new.self in
    let was = c.index_mut-session.ensures.value in
    let at_old = old_at sessions.items c.args.number i old new is lt was in
    let at_new = new_at sessions.items c.args.number i old new is lt was in
    record {
      rose = ap (λ (s : SessionHeld). s.faults) at_new ∙ ap (λ (s : SessionHeld). s.faults) c.fail.ensures.count ∙ ap (λ (s : SessionHeld). next s.faults) (sym at_old);
      faults = each sessions.items c.args.number i old new is lt was (λ a b. a.faults ≤ b.faults) c.fail.ensures.later (λ s. omega arith);
      ends = each sessions.items c.args.number i old new is lt was (λ a b. b.ends ≡ a.ends) (ap (λ (s : SessionHeld). s.ends) c.fail.ensures.count) (λ s. refl);
      others = λ other apart. ap (λ (s : SessionHeld). s.faults) (others_tested sessions.items c.args.number i old new is lt was other apart);
    }
