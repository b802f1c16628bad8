use Rattle.cd_rules.proofs.StatusLaw.{outcome-status, status_says}
use Rattle.cd_rules.proofs.status_law.law_of_status.Goals as goal

pub returns-clause-ended : goal.returns-clause-ended
returns-clause-ended c = outcome-status

pub returns-clause-going : goal.returns-clause-going
returns-clause-going c = status_says
