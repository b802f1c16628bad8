use Rattle.std.proofs.Common.{◌≡◌, reverse, take}
use Rattle.cd_rules.specs.Queue.{placing}
use Rattle.cd_book.proofs.queue.placing.Given as goal

abbrev pub invariant-loop-entry : goal.invariant-loop-entry
invariant-loop-entry l = l.found ≡ placing (reverse (take l.entry-index l.entries)) l.number
