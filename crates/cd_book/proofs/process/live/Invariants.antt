use Rattle.std.proofs.Common.{◌≡◌, ◌≤◌, length, reverse}
use Rattle.std.specs.Prelude.{filter}
use Rattle.cd_rules.specs.Processes.{is_live}
use Rattle.cd_book.specs.Numbers.{upto}
use Rattle.cd_book.proofs.process.live.Given as goal

abbrev pub invariant-loop-before : goal.invariant-loop-before
invariant-loop-before l = record { is : l.found ≡ length (filter (is_live (reverse l.entries)) (upto l.before)); few : l.found ≤ l.before }
