use Rattle.std.proofs.Common.{◌≡◌}
use Rattle.cd_turn.proofs.order.submitted.Goals as goal

pub returns-clause-formed : goal.returns-clause-formed
returns-clause-formed c = λ was. c.submitting.ensures.formed (c.kept_with.ensures.formed was.text was.overrides was.says) tt
