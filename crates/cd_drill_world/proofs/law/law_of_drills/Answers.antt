use Rattle.cd_drill_world.proofs.RehearsedLaw.{rehearsed}
use Rattle.cd_drill_world.proofs.law.law_of_drills.Goals as goal

pub returns-clause-world : goal.returns-clause-world
returns-clause-world c = rehearsed c.law_of_choice.ensures.choice c.law_of_readings.ensures.priorities

pub returns-clause-drilled : goal.returns-clause-drilled
returns-clause-drilled c = λ script report bench was. rehearsed c.law_of_choice.ensures.choice c.law_of_readings.ensures.priorities _ was.course was.run.ran
