use Rattle.std.proofs.Common.{◌-◌, ◌<◌, ◌^◌, length}
use Rattle.cd_journal.specs.Index.{IsBelow, IsIndexed}
use Rattle.cd_journal.proofs.reading.entries.Given as goal

abbrev pub invariant-loop-end : goal.invariant-loop-end
invariant-loop-end l = record { indexed : IsIndexed l.bytes l.places.items l.end; below : IsBelow l.places.items l.end; small : length l.bytes < 2 ^ 32 }

abbrev pub decreases-loop-end : goal.decreases-loop-end
decreases-loop-end l = length l.bytes - l.end
