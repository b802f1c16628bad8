use Rattle.std.proofs.Common.{◌≤◌, length}
use Rattle.cd_prog.proofs.files.fill.Given as goal

abbrev pub invariant-loop : goal.invariant-loop
invariant-loop l = l.count ≤ length l.into
