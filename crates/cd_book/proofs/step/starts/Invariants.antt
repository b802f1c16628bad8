use Rattle.std.proofs.Common.{◌≡◌, ◌≤◌, reverse, take}
use Rattle.cd_rules.specs.Status.{starts}
use Rattle.cd_book.proofs.step.starts.Given as goal

abbrev pub invariant-loop-entry : goal.invariant-loop-entry
invariant-loop-entry l = record { is : l.found ≡ starts (reverse (take l.entry-index l.entries)) l.key; few : l.found ≤ l.entry-index }
