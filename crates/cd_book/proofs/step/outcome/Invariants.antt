use Rattle.std.proofs.Common.{◌≡◌, reverse, take}
use Rattle.cd_rules.specs.Status.{outcome}
use Rattle.cd_book.proofs.step.outcome.Given as goal

abbrev pub invariant-loop-entry : goal.invariant-loop-entry
invariant-loop-entry l = l.found ≡ outcome (reverse (take l.entry-index l.entries)) l.key
