use Rattle.std.proofs.Common.{◌≡◌, ◌≤◌, reverse, take}
use Rattle.cd_rules.specs.Status.{status}
use Rattle.cd_book.specs.Seen.{seen_status, times_of}
use Rattle.cd_book.proofs.step.status.Given as goal

abbrev pub invariant-loop-entry : goal.invariant-loop-entry
invariant-loop-entry l = record { is : seen_status l.found ≡ status (reverse (take l.entry-index l.entries)) l.key; few : times_of l.found ≤ l.entry-index }
