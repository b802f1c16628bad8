use Rattle.cd_rules.proofs.OpeningsLaw.{open-on, on-open}
use Rattle.cd_rules.proofs.law.law_of_openings.Goals as goal

pub returns-clause-of_step : goal.returns-clause-of_step
returns-clause-of_step c = open-on

pub returns-clause-of_file : goal.returns-clause-of_file
returns-clause-of_file c = on-open
