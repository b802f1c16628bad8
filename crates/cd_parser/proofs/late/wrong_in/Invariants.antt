use Rattle.std.proofs.Common.{◌≤◌, length, take, drop}
use Rattle.cd_grammar.specs.Later.{wrong_from}
use Rattle.cd_parser.specs.Best.{IsBest}
use Rattle.cd_parser.proofs.late.wrong_in.Given as goal

abbrev pub invariant-loop-place : goal.invariant-loop-place
invariant-loop-place l = record {
  within : l.place ≤ length l.marks;
  best : IsBest l.best (wrong_from (take l.place l.marks) (drop l.place l.marks));
}

abbrev pub decreases-loop-place : goal.decreases-loop-place
decreases-loop-place l = l.place
