use Rattle.std.proofs.Common.{◌≡◌, reverse, take}
use Rattle.cd_rules.specs.Processes.{made_for}
use Rattle.cd_book.proofs.process.made_for.Given as goal

abbrev pub invariant-loop-entry : goal.invariant-loop-entry
invariant-loop-entry l = l.found ≡ made_for (reverse (take l.entry-index l.entries)) l.key
