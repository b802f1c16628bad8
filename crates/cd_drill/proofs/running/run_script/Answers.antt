use Rattle.cd_drill.proofs.Whole.{was_run}
use Rattle.cd_drill.proofs.running.run_script.Goals as goal

pub returns-in-Err-clause-fault : goal.returns-in-Err-clause-fault
returns-in-Err-clause-fault c = c.in-Err.ensures.fault

pub returns-clause-run : goal.returns-clause-run
returns-clause-run c =
    was_run c.args.script.now c.in-Ok-tell.told.report.items c.deref.result.now c.in-Ok.lines.items c.in-Ok-tell.told.course c.in-Ok.ensures.read c.deref.ensures.value
    c.in-Ok-tell.ensures.ran c.in-Ok-tell.ensures.rest c.in-Ok-tell.ensures.reported c.in-Ok-tell.ensures.named
