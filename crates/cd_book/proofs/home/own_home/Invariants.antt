use Rattle.std.proofs.Common.{◌≡◌, reverse, take}
use Rattle.cd_rules.specs.Processes.{own_home}
use Rattle.cd_book.proofs.home.own_home.Given as goal

abbrev pub invariant-loop-entry : goal.invariant-loop-entry
invariant-loop-entry l = l.found ≡ own_home (reverse (take l.entry-index l.entries))
