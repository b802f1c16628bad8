use Rattle.cd_walk.proofs.StepsLaw.{steps-path}
use Rattle.cd_walk.proofs.law.law_of_steps.Goals as goal

pub returns : goal.returns
returns c = steps-path
