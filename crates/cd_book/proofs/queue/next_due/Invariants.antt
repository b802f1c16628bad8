use Rattle.std.proofs.Common.{◌≡◌, drop, reverse}
use Rattle.std.specs.Prelude.{filter}
use Rattle.std.specs.List.{filter_map}
use Rattle.cd_rules.specs.Processes.{is_live, submitted}
use Rattle.cd_rules.specs.Queue.{choice, row_of}
use Rattle.cd_book.specs.Numbers.{upto}
use Rattle.cd_book.proofs.queue.next_due.Given as goal

abbrev pub invariant-loop-before : goal.invariant-loop-before
invariant-loop-before l =
    l.found ≡ choice l.now l.busy (filter_map (row_of (reverse l.entries)) (filter (is_live (reverse l.entries)) (drop l.before (upto (submitted (reverse l.entries))))))
