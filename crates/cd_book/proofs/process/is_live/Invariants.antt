use Rattle.std.proofs.Common.{◌≡◌, reverse, take}
use Rattle.cd_rules.specs.Processes.{is_live}
use Rattle.cd_book.proofs.process.is_live.Given as goal

abbrev pub invariant-loop-entry : goal.invariant-loop-entry
invariant-loop-entry l = l.found ≡ is_live (reverse (take l.entry-index l.entries)) l.number
