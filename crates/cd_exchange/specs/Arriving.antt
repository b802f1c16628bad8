-- What comes in a session.
use Rattle.std.specs.Prelude.{◌≡◌, ◌⊎◌, ℕ, List, [], ◌∷◌, ◌++◌, Bool, true, false, not, ◌==◌, Option, Some, None, is_some}
use Rattle.cd_outside.specs.Counts.{Rose}
use Rattle.cd_outside.specs.Lines.{Traffic, LineCounts}
use Rattle.cd_entries.specs.declared.entry.Entry.{Entry}
use Rattle.cd_frames.specs.Message.{Message}
use Rattle.cd_frames.specs.Reading.{Reading, front}
use Rattle.cd_frames.specs.Stream.{Front, refuses, waits}
use Rattle.cd_rules.specs.Processes.{is_live}
use Rattle.cd_exchange.specs.declared.arriving.Came.{Came}
use Rattle.cd_exchange.specs.declared.arriving.Came.TheVariants as came

-- the frame that came, where one did
abbrev pub came_frame : Came → Option Message → Option Message
came_frame came.Frame given = given
came_frame _ given = None

-- the frames that were given, and the one that came
abbrev pub and_one : List Message → Option Message → List Message
and_one given (Some m) = given ++ m ∷ []
and_one given None = given

-- what stands at the front is no frame
abbrev pub IsRefused : Front → Type 0
IsRefused (refuses why) = Unit {0}
IsRefused _ = ⊥

-- the Process of a session isn't live any more
abbrev pub is_over_for : List Entry → Option ℕ → Bool
is_over_for entries None = false
is_over_for entries (Some n) = not (is_live entries n)

-- What came, and why: a whole frame stood at the front; or what is none; or no whole frame stands there, and the session gave no byte
-- more, or failed.
abbrev pub CameSo : Came → Reading → ℕ → LineCounts → LineCounts → Type 0
CameSo came.Frame reader sid before now = is_some reader.given ≡ true
CameSo came.Bad reader sid before now = IsRefused (front reader)
CameSo came.End reader sid before now = (front reader ≡ waits) × (Rose (before.ends sid) (now.ends sid) ⊎ Rose (before.faults sid) (now.faults sid))

-- of no other session bytes were taken
abbrev pub TookOfOne : ℕ → Traffic → Traffic → Type 0
TookOfOne sid before now = (other : ℕ) → (sid == other) ≡ false → now.taken other ≡ before.taken other

-- bytes were taken of one session, and nothing was given
pub record Heard (sid : ℕ) (before now : Traffic) : Type 0 where
  pub others : TookOfOne sid before now
  pub given : now.given ≡ before.given
  pub sends : now.sends ≡ before.sends
