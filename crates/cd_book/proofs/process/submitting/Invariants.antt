use Rattle.std.proofs.Common.{◌≡◌, reverse, take}
use Rattle.cd_rules.specs.Processes.{submission}
use Rattle.cd_book.specs.Seen.{told_in}
use Rattle.cd_book.proofs.process.submitting.Given as goal

abbrev pub invariant-loop-entry : goal.invariant-loop-entry
invariant-loop-entry l = told_in l.found ≡ submission (reverse (take l.entry-index l.entries)) l.number
