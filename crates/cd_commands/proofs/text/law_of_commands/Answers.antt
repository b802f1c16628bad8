use Rattle.cd_commands.proofs.Laws.{some_command, not_both, one_command, one_fault}
use Rattle.cd_commands.proofs.text.law_of_commands.Goals as goal

pub returns-clause-some : goal.returns-clause-some
returns-clause-some c = some_command c.law_of_resolved_texts.ensures.some

pub returns-clause-not_both : goal.returns-clause-not_both
returns-clause-not_both c = not_both c.law_of_resolved_texts.ensures.not_both c.law_of_resolved_texts.ensures.one_process

pub returns-clause-one_command : goal.returns-clause-one_command
returns-clause-one_command c = one_command c.law_of_resolved_texts.ensures.one_process

pub returns-clause-one_fault : goal.returns-clause-one_fault
returns-clause-one_fault c = one_fault c.law_of_resolved_texts.ensures.not_both c.law_of_resolved_texts.ensures.one_fault
