use Rattle.cd_frames.proofs.FramesLaw.{frames_are, frames_found, frames_of_joined}
use Rattle.cd_frames.proofs.law.law_of_streams.Goals as goal

pub returns-clause-found : goal.returns-clause-found
returns-clause-found c = frames_found

pub returns-clause-only : goal.returns-clause-only
returns-clause-only c = frames_are

pub returns-clause-joined : goal.returns-clause-joined
returns-clause-joined c = frames_of_joined
