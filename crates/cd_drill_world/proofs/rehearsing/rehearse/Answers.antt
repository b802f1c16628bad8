use Rattle.cd_drill_world.proofs.rehearsing.rehearse.Goals as goal

-- what was run is a world
pub returns-in-Ok-clause-report : goal.returns-in-Ok-clause-report
returns-in-Ok-clause-report c =
    let was = c.in-Ok.ensures.report in
    record {
      course = was.course;
      run = was.run;
      world = c.law_of_drills.ensures.world _ was.course was.run.ran;
    }
