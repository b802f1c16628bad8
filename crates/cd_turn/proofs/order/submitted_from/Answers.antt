use Rattle.std.proofs.Common.{◌≡◌, subst}
use Rattle.cd_turn.specs.Order.{WasSaid, WasRead}
use Rattle.cd_turn.proofs.order.submitted_from.Goals as goal

pub returns-in-Ok-clause-formed : goal.returns-in-Ok-clause-formed
returns-in-Ok-clause-formed c = λ read.
    let was : WasSaid c.in-Ok.process = subst WasRead c.in-Ok.is read in
    c.submitting.ensures.formed (c.kept_with.ensures.formed was.text was.overrides was.says) tt
