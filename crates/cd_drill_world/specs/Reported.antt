-- The report of a drill that shows a world of two nodes.
use Rattle.std.specs.Prelude.{ℕ, List}
use Rattle.cd_drill.specs.Drilled.{WasRun}
use Rattle.cd_drill.specs.declared.course.Course.{Course}
use Rattle.cd_drill_world.specs.Rehearsed.{IsRehearsed}

-- A script was run, and this is its report. The nodes of which it tells are those of a world.
pub record WasRehearsed (script report : List ℕ) : Type 0 where
  pub course : Course
  pub run : WasRun script report course
  pub world : IsRehearsed course.pair
