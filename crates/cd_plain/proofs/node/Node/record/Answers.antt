use Rattle.std.proofs.Common.{◌≡◌, subst, ◌∙◌}
use Rattle.cd_outside.specs.Disk.{LeftAt}
use Rattle.cd_outside.specs.Moments.{Moments}
use Rattle.cd_effects.specs.Registry.{IsWithOrWithout}
use Rattle.cd_plain.specs.NodeState.{NodeState}
use Rattle.cd_plain.proofs.node.Node.record.Goals as goal
use Rattle.cd_plain.proofs.node.Node.record.Goals.{in-Ok, in-Err}

pub returns-clause-moments : goal.returns-clause-moments
returns-clause-moments g c = λ told other.
    let same : c.match-try_record.result ≡ c.try_record.result = elim c.match-try_record.branch [
      | in-Ok w ↦ let made = w.result-is in let was = w.in-Ok.is in cc
      | in-Err w ↦ let made = w.result-is in let was = w.in-Err.is in cc
    ] in
    subst (λ (n : NodeState). Moments (LeftAt (g.D.Disk.state c.args.disk.now)) (LeftAt (g.D.Disk.state c.try_record.new.disk)) c.args.beat.now (IsWithOrWithout c.args.entry n.registry.entries)) c.self.view_is
    (c.try_record.ensures.moments told (λ is. other (same ∙ is)))
