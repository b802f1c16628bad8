use Rattle.cd_walk.proofs.SingleStepsLaw.{path-walks}
use Rattle.cd_walk.proofs.law.law_of_walks.Goals as goal

pub returns : goal.returns
returns c = path-walks
