use Rattle.cd_canonical.specs.Read.{process_in}
use Rattle.cd_canonical.proofs.Read.{none_read}
use Rattle.cd_canonical.proofs.canonical.process_in.Goals as goal

pub returns-in-Err-Text : goal.returns-in-Err-Text
returns-in-Err-Text c = none_read (process_in c.args.text.now) c.in-Err-Text.field-0 c.in-Err-Text.field-0-0 c.in-Err-Text.field-0-1 c.in-Err-Text.field-0-is
    (λ process read. c.in-Err-Text.ensures.every_process process (c.law_of_readings.ensures.said c.args.text.now process read))
