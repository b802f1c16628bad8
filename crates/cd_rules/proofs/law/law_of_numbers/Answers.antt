use Rattle.cd_rules.proofs.NumbersLaw.{number_is_next, number_was_given, submission_stays}
use Rattle.cd_rules.proofs.law.law_of_numbers.Goals as goal

pub returns-clause-next : goal.returns-clause-next
returns-clause-next c = number_is_next

pub returns-clause-given : goal.returns-clause-given
returns-clause-given c = number_was_given

pub returns-clause-stays : goal.returns-clause-stays
returns-clause-stays c = submission_stays
