use Rattle.cd_rules.proofs.LegalLaw.{outcome_stays, lands_whole, marks_grow}
use Rattle.cd_rules.proofs.law.law_of_outcomes.Goals as goal

pub returns-clause-stays : goal.returns-clause-stays
returns-clause-stays c = outcome_stays

pub returns-clause-landed : goal.returns-clause-landed
returns-clause-landed c = lands_whole

pub returns-clause-marks : goal.returns-clause-marks
returns-clause-marks c = marks_grow
