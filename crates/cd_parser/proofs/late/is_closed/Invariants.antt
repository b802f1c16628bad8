use Rattle.std.proofs.Common.{◌≡◌, ◌+◌, ◌≤◌, length}
use Rattle.cd_grammar.specs.Later.{is_closed}
use Rattle.cd_parser.proofs.late.is_closed.Given as goal

abbrev pub invariant-loop-mark : goal.invariant-loop-mark
invariant-loop-mark l = record {
  same : is_closed l.depth l.rest ≡ is_closed l.fn.depth l.fn.marks;
  room : l.depth + length l.rest ≤ l.fn.depth + length l.fn.marks;
}

abbrev pub decreases-loop-mark : goal.decreases-loop-mark
decreases-loop-mark l = length l.rest
