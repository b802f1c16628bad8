use Rattle.std.proofs.Common.{List, ℕ, sym, ap, subst}
use Rattle.cd_drill.specs.Drilled.{WasRun}
use Rattle.cd_drill.proofs.running.rehearse.Goals as goal

pub returns-in-Err-clause-fault : goal.returns-in-Err-clause-fault
returns-in-Err-clause-fault c = c.in-Err.ensures.fault

-- the report is that of what was run
pub returns-in-Ok-clause-report : goal.returns-in-Ok-clause-report
returns-in-Ok-clause-report c =
    record {
      course = c.in-Ok.told.course;
      run = rw c.into_report.ensures c.in-Ok.ensures.run;
    }
