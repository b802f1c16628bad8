use Rattle.std.proofs.Common.{ap, ◌∙◌}
use Rattle.cd_frames.specs.Reading.{Reading}
use Rattle.cd_frames.proofs.Fronts.{none_between, none_given}
use Rattle.cd_frames.proofs.reader.Reader.make_room.Goals as goal
use Rattle.cd_frames.proofs.reader.Reader.make_room.Goals.{else-self-gt-GREATEST-via-then-self-gt-GREATEST+else-self, else-self-gt-GREATEST-via-else-self-gt-GREATEST}

pub returns-then-self-clause-given : goal.returns-then-self-clause-given
returns-then-self-clause-given c = none_given

pub returns-else-self-gt-GREATEST-clause-given : goal.returns-else-self-gt-GREATEST-clause-given
returns-else-self-gt-GREATEST-clause-given c =
    elim c.else-self-gt-GREATEST.branch [
      | else-self-gt-GREATEST-via-then-self-gt-GREATEST+else-self w ↦ ap (λ (r : Reading). r.given) w.self-is ∙ none_between c.self.inside.start c.self.inside.buffer.items
      | else-self-gt-GREATEST-via-else-self-gt-GREATEST w ↦ ap (λ (r : Reading). r.given) w.self-is ∙ none_between c.self.inside.start c.self.inside.buffer.items
    ]
