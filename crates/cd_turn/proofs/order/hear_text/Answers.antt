use Rattle.std.proofs.Common.{◌≡◌}
use Rattle.cd_turn.proofs.Submissions.{heard_said}
use Rattle.cd_turn.proofs.order.hear_text.Goals as goal

pub returns-in-Ok-clause-said : goal.returns-in-Ok-clause-said
returns-in-Ok-clause-said c = heard_said c.args.text.now c.in-Ok.said c.in-Ok.ensures (λ command is. c.law_of_hearing.ensures.command c.args.text.now command is)
