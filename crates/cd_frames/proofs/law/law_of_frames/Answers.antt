use Rattle.cd_frames.proofs.FrameLaw.{message_only}
use Rattle.cd_frames.proofs.StreamLaw.{no_frame_begins_another}
use Rattle.cd_frames.proofs.law.law_of_frames.Goals as goal

pub returns-clause-only : goal.returns-clause-only
returns-clause-only c = message_only

pub returns-clause-apart : goal.returns-clause-apart
returns-clause-apart c = no_frame_begins_another
