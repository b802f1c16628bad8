use Rattle.std.proofs.Common.{◌≡◌, reverse, take}
use Rattle.cd_rules.specs.Status.{mark}
use Rattle.cd_book.proofs.step.mark.Given as goal

abbrev pub invariant-loop-entry : goal.invariant-loop-entry
invariant-loop-entry l = l.found ≡ mark (reverse (take l.entry-index l.entries)) l.key
