use Rattle.std.proofs.Common.{length, refl, ◌∙◌}
use Rattle.cd_commands.proofs.Laws.{whole_is}
use Rattle.cd_commands.proofs.Texts.{text_command, text_fault, stop_told}
use Rattle.cd_commands.proofs.text.read_text.Goals as goal

pub returns-in-Ok-Whole-clause-command : goal.returns-in-Ok-Whole-clause-command
returns-in-Ok-Whole-clause-command c =
    whole_is c.args.text.now (length c.args.text.now) c.deref.result.now c.in-Ok-Whole.command refl (c.deref.ensures.value ∙ c.in_ok-tokens.ensures)
    (rw c.in-Ok-Whole.field-0-is at c.in-Ok-Whole.ensures.ok)

pub returns-in-Ok-Text-clause-command : goal.returns-in-Ok-Text-clause-command
returns-in-Ok-Text-clause-command c =
    let r = rw c.in-Ok-Text.field-0-is at c.in-Ok-Text.ensures.ok in
    text_command c.args.text.now c.deref.result.now (c.deref.ensures.value ∙ c.in_ok-tokens.ensures) c.in-Ok-Text.given c.in-Ok-Text.at c.in-Ok-Text.end c.in-Ok-Text.behind
    r.0 r.1 r.2 r.3 c.submission.result c.submission.ensures.command

pub returns-in-Ok-Text-clause-fault : goal.returns-in-Ok-Text-clause-fault
returns-in-Ok-Text-clause-fault c =
    let r = rw c.in-Ok-Text.field-0-is at c.in-Ok-Text.ensures.ok in
    text_fault c.args.text.now c.deref.result.now (c.deref.ensures.value ∙ c.in_ok-tokens.ensures) c.in-Ok-Text.given c.in-Ok-Text.at c.in-Ok-Text.end c.in-Ok-Text.behind
    r.0 r.1 r.2 r.3 c.submission.result c.submission.ensures.fault

pub returns-clause-fault : goal.returns-clause-fault
returns-clause-fault c =
    stop_told c.args.text.now c.deref.result.now c.in-Err.stopped c.stop.result (c.deref.ensures.value ∙ c.in_ok-tokens.ensures) c.in-Err.ensures.err c.stop.ensures
