use Rattle.cd_world.proofs.GuardsLaw.{front_image, front_settled, front_after, front_within, front_written, front_landed}
use Rattle.cd_world.proofs.law.law_of_fronts.Goals as goal

pub returns-clause-image : goal.returns-clause-image
returns-clause-image c = front_image

pub returns-clause-synced : goal.returns-clause-synced
returns-clause-synced c = front_settled

pub returns-clause-file : goal.returns-clause-file
returns-clause-file c = front_after

pub returns-clause-within : goal.returns-clause-within
returns-clause-within c = front_within

pub returns-clause-written : goal.returns-clause-written
returns-clause-written c = front_written

pub returns-clause-landed : goal.returns-clause-landed
returns-clause-landed c = front_landed
