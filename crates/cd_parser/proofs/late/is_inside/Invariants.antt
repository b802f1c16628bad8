use Rattle.std.proofs.Common.{◌≡◌, ◌+◌, ◌≤◌, length}
use Rattle.cd_grammar.specs.Later.{is_inside}
use Rattle.cd_parser.proofs.late.is_inside.Given as goal

abbrev pub invariant-loop-mark : goal.invariant-loop-mark
invariant-loop-mark l = record {
  same : is_inside l.name l.depth l.rest ≡ is_inside l.name 0 l.fn.marks;
  room : l.depth + length l.rest ≤ length l.fn.marks;
}

abbrev pub decreases-loop-mark : goal.decreases-loop-mark
decreases-loop-mark l = length l.rest
