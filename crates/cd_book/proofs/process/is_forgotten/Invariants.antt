use Rattle.std.proofs.Common.{◌≡◌, reverse, take}
use Rattle.cd_rules.specs.Processes.{is_forgotten}
use Rattle.cd_book.proofs.process.is_forgotten.Given as goal

abbrev pub invariant-loop-entry : goal.invariant-loop-entry
invariant-loop-entry l = l.found ≡ is_forgotten (reverse (take l.entry-index l.entries)) l.name l.home l.number
