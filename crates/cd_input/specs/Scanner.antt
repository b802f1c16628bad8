-- What the scanner's fields stand for.
use Rattle.std.specs.Prelude.{ℕ, List, [], ◌∷◌, Option, Some, None}
use Rattle.cd_input.specs.declared.input.Spot.{Spot}
use Rattle.cd_input.specs.declared.scanner.Phase.{Phase}
use Rattle.cd_input.specs.declared.scanner.Phase.TheVariants as phases
use Rattle.cd_input.specs.declared.scanner.Found.{Found}
use Rattle.cd_input.specs.declared.scanner.Found.TheVariants as found
use Rattle.cd_input.specs.Input.{Scan, Between, Within, Over, Event, Whole, TooLong, Unfinished}

abbrev pub scan_of : Phase → Spot → List ℕ → Scan
scan_of phases.Between spot text = Between spot
scan_of phases.Within spot text = Within spot text
scan_of phases.Over spot text = Over

abbrev pub event_of : Found → Event
event_of (found.Command text) = Whole text.items
event_of found.TooLong = TooLong
event_of found.Unfinished = Unfinished

abbrev pub events_of : Option Found → List Event
events_of None = []
events_of (Some found) = event_of found ∷ []

abbrev pub IsBetween : Scan → Type 0
IsBetween (Between spot) = Unit {0}
IsBetween _ = ⊥

abbrev pub IsWithin : Scan → Type 0
IsWithin (Within spot text) = Unit {0}
IsWithin _ = ⊥
