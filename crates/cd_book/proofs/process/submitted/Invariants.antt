use Rattle.std.proofs.Common.{◌≡◌, ◌≤◌, reverse, take}
use Rattle.cd_rules.specs.Processes.{submitted}
use Rattle.cd_book.proofs.process.submitted.Given as goal

abbrev pub invariant-loop-entry : goal.invariant-loop-entry
invariant-loop-entry l = record { is : l.found ≡ submitted (reverse (take l.entry-index l.entries)); few : l.found ≤ l.entry-index }
