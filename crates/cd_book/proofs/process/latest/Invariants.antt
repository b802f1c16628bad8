use Rattle.std.proofs.Common.{◌≡◌, reverse, take}
use Rattle.cd_rules.specs.Processes.{latest}
use Rattle.cd_book.proofs.process.latest.Given as goal

abbrev pub invariant-loop-entry : goal.invariant-loop-entry
invariant-loop-entry l = l.found ≡ latest (reverse (take l.entry-index l.entries))
