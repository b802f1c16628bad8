use Rattle.std.proofs.Common.{refl}
use Rattle.cd_drill_command.proofs.script.drilled.Goals as goal

-- the script was run
pub returns-in-Ok-clause-shown : goal.returns-in-Ok-clause-shown
returns-in-Ok-clause-shown c =
    let told = c.in-Ok.ensures.report in
    record {
      script = c.args.script.now;
      held_is = λ tells. refl;
      course = told.course;
      run = rw c.new.ensures told.run;
      world = told.world;
    }
