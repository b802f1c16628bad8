use Rattle.std.proofs.Common.{◌≡◌, true, sym, subst, refl}
use Rattle.cd_protocol.specs.Node.{Reaction}
use Rattle.cd_session_rules.specs.Single.{keeps_one}
use Rattle.cd_snode.proofs.ready.copy_from.Goals as goal

pub take_step-requires : goal.take_step-requires
take_step-requires g c = subst (λ (p : Reaction). keeps_one p.effects ≡ true) (sym c.later-row.ensures) refl
