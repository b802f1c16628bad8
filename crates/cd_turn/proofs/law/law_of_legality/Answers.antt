use Rattle.std.proofs.Common.{◌≡◌}
use Rattle.cd_turn.proofs.Agreeing.{legal_agrees}
use Rattle.cd_turn.proofs.law.law_of_legality.Goals as goal

pub returns : goal.returns
returns c = legal_agrees (λ text process read. c.law_of_ranges.ensures.name text process (c.law_of_readings.ensures.means text process read))
