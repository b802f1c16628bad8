use Rattle.std.proofs.Common.{◌≡◌, ◌+◌, drop}
use Rattle.std.specs.Prelude.{◌%◌, sum}
use Rattle.cd_drill.proofs.report.sum_of.Given as goal

abbrev pub invariant-loop-byte : goal.invariant-loop-byte
invariant-loop-byte l = (l.sum + sum (drop l.byte-index l.bytes)) % 4294967296 ≡ sum l.bytes % 4294967296
