use Rattle.cd_exchange.proofs.RestLaw.{reactions_rest, after_rank}
use Rattle.cd_exchange.proofs.law.law_of_rests.Goals as goal

pub returns-clause-reactions : goal.returns-clause-reactions
returns-clause-reactions c = reactions_rest

pub returns-clause-questions : goal.returns-clause-questions
returns-clause-questions c = after_rank
