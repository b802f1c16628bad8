use Rattle.cd_pieces.proofs.CountLaw.{sent-counted, pieces-some}
use Rattle.cd_pieces.proofs.law.law_of_counts.Goals as goal

pub returns-clause-sent : goal.returns-clause-sent
returns-clause-sent c = sent-counted

pub returns-clause-whole : goal.returns-clause-whole
returns-clause-whole c len block interval count some sent = sent-counted len block interval 0 len count some sent

pub returns-clause-some : goal.returns-clause-some
returns-clause-some c = pieces-some
