-- What is in doubt, as the fields of a content hold it.
use Rattle.std.specs.Prelude.{reverse, Bool}
use Rattle.cd_outside.specs.Doubt.{Doubt}
use Rattle.cd_outside.specs.Shelf.{FileDoubt}
use Rattle.cd_memory_state.specs.declared.image.InDoubt.{InDoubt}

abbrev pub doubt_in : InDoubt → Doubt
doubt_in a = record { base = a.base.now; ranges = reverse a.ranges.now; least = a.least; greatest = a.greatest }

-- and of a file
abbrev pub file_doubt : Bool → Bool → InDoubt → FileDoubt
file_doubt there moved a = record { there = there; moved = moved; bytes = doubt_in a }
