-- What the devices tell a turn.
use Rattle.std.specs.Prelude.{◌≡◌, ℕ}
use Rattle.cd_outside.specs.Shelf.{FileMap}
use Rattle.cd_drill_command.specs.Asked.{Shows}
use Rattle.cd_submission.specs.declared.file.Shown.TheVariants.{Failed}
use Rattle.cd_turn.specs.Order.{heard_in}
use Rattle.cd_turn.specs.Turn.{Turn}

-- A turn goes by what clock and files tell; the types say which of them tell, and rose that the files' count of failures rose.
pub record GoesBy (clock files : Type 0) (moment : ℕ) (held : FileMap) (rose : Type 0) (turn : Turn) : Type 0 where
  -- its moment is the clock's
  pub moment_is : clock → turn.now ≡ moment
  -- it was shown what the files hold of the file for which it asks, or that they failed; a drill, what its script comes to
  pub shown_is : Shows files held (heard_in turn.event) turn.shown
  -- they failed only where their count rose
  pub failed : turn.shown ≡ Failed → rose
