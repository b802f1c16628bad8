use Rattle.std.proofs.Common.{◌≡◌, sym, ap, ◌∙◌}
use Rattle.cd_commands.specs.Texts.{read_as}
use Rattle.cd_submission.specs.Reading.{of_text}
use Rattle.cd_submission.proofs.OfText.{reads, read_ok}
use Rattle.cd_submission.proofs.file_law.law_of_shown.Goals as goal

pub returns-clause-every_process : goal.returns-clause-every_process
returns-clause-every_process c = λ name text symbols process says.
    reads name text symbols ∙ ap of_text (c.law_of_resolved_readings.ensures.every_process text symbols process says)

pub returns-clause-said : goal.returns-clause-said
returns-clause-said c = λ name text symbols process read.
    c.law_of_resolved_readings.ensures.said text symbols process (read_ok (read_as text symbols) process (sym (reads name text symbols) ∙ read))

pub returns-clause-every_fault : goal.returns-clause-every_fault
returns-clause-every_fault c = λ name text symbols f is.
    reads name text symbols ∙ ap of_text (c.law_of_resolved_readings.ensures.every_fault text symbols f is)
