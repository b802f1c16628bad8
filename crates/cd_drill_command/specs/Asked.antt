-- What a command is shown of the file for which it asks.
use Rattle.std.specs.Prelude.{◌≡◌, ℕ, List, Option, Some, None, Err}
use Rattle.cd_commands.specs.declared.command.Command.{Command}
use Rattle.cd_commands.specs.declared.command.Command.TheVariants as command
use Rattle.cd_drill.specs.Drilled.{WasRun}
use Rattle.cd_drill.specs.Kept.{is_reserved}
use Rattle.cd_drill.specs.declared.course.Course.{Course}
use Rattle.cd_commands.specs.declared.heard.Heard.{Heard}
use Rattle.cd_commands.specs.declared.heard.Heard.TheVariants as said
use Rattle.cd_outside.specs.Shelf.{FileMap}
use Rattle.cd_drill_world.specs.Rehearsed.{IsRehearsed}
use Rattle.cd_drill_script.specs.Script.{orders_of}
use Rattle.cd_submission.specs.Shown.{IsShown}
use Rattle.cd_submission.specs.declared.file.Shown.{Shown}
use Rattle.cd_submission.specs.declared.file.Shown.TheVariants as shows
use Rattle.cd_turn.specs.Order.{asked_of, file_of}
use Rattle.cd_drill_command.specs.declared.script.Script.{Script}
use Rattle.cd_drill_command.specs.declared.script.Script.TheVariants as read

-- the file of the script that a command drills
abbrev pub script_for : Command → Option (List ℕ)
script_for (command.Drill name) = Some name
script_for _ = None

abbrev pub script_of : Heard → Option (List ℕ)
script_of (said.Command c) = script_for c
script_of (said.Fault name at) = None

-- this was read of what a file holds: there is none, or the files failed, or all of its bytes
abbrev pub IsRead : Option (List ℕ) → Script → Type 0
IsRead held read.Missing = held ≡ None
IsRead held read.Failed = Unit {0}
IsRead held (read.Text text) = held ≡ Some text

-- A script was run, and this is its report; it is the file, where the files tell. The two nodes of which it tells are those of a world
-- of the rules.
pub record HasReported (files : Type 0) (held : Option (List ℕ)) (report : List ℕ) : Type 0 where
  pub script : List ℕ
  pub held_is : files → held ≡ Some script
  pub course : Course
  pub run : WasRun script report course
  pub world : IsRehearsed course.pair

-- The first line of a text that asks for nothing begins here; it is the file, where the files tell.
pub record HasNoScript (files : Type 0) (held : Option (List ℕ)) (at : ℕ) : Type 0 where
  pub text : List ℕ
  pub held_is : files → held ≡ Some text
  pub first : orders_of is_reserved text ≡ Err at

-- A drill was shown this of what a file holds: there is none; the files failed; the report of its script, whole; or where it is none.
abbrev pub IsDrilled : Type 0 → Option (List ℕ) → Shown → Type 0
IsDrilled files held shows.Missing = files → held ≡ None
IsDrilled files held shows.Failed = Unit {0}
IsDrilled files held (shows.Long len) = ⊥
IsDrilled files held (shows.Text text) = ⊥
IsDrilled files held (shows.Report report) = HasReported files held report
IsDrilled files held (shows.NoScript at) = HasNoScript files held at

-- where there is the name of a script, a drill of it was shown this; else a command that asks for this file
abbrev pub ShownBy : Type 0 → FileMap → Option (List ℕ) → Option (List ℕ) → Shown → Type 0
ShownBy files held None file shown = files → IsShown (asked_of held file) shown
ShownBy files held (Some script) file shown = IsDrilled files (held script) shown

-- What was heard was shown this, where these files hold what they hold: a drill what its script comes to, and another command what
-- the files hold of the file for which it asks. The type says whether the files tell.
abbrev pub Shows : Type 0 → FileMap → Heard → Shown → Type 0
Shows files held heard shown = ShownBy files held (script_of heard) (file_of heard) shown
