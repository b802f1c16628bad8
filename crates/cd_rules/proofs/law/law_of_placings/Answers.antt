use Rattle.cd_rules.proofs.PlacingsLaw.{well_placed}
use Rattle.cd_rules.proofs.law.law_of_placings.Goals as goal

pub returns : goal.returns
returns c = well_placed
