use Rattle.cd_frames.proofs.Fronts.{none_given}
use Rattle.cd_frames.proofs.reader.Reader.new.Goals as goal

pub returns-clause-given : goal.returns-clause-given
returns-clause-given c = none_given
