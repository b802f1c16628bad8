use Rattle.cd_drill.proofs.running.drill.Goals as goal

pub returns-in-Err-clause-fault : goal.returns-in-Err-clause-fault
returns-in-Err-clause-fault c = c.in-Err.ensures.fault

pub returns-clause-report : goal.returns-clause-report
returns-clause-report c = record { course = c.in-Ok.told.course; run = c.in-Ok.ensures.run; left = c.keep.ensures }
