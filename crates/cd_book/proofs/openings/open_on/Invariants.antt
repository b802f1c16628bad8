use Rattle.std.proofs.Common.{◌≡◌, reverse, drop, None}
use Rattle.cd_rules.specs.Openings.{openings, on_file}
use Rattle.cd_book.proofs.openings.open_on.Given as goal

abbrev pub invariant-loop-at : goal.invariant-loop-at
invariant-loop-at l = on_file (openings (reverse (drop l.at l.entries))) l.name ≡ None
