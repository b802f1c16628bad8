use Rattle.std.proofs.Common.{◌≡◌, true}
use Rattle.test_runs.proofs.limits.append_often.Given as goal

abbrev pub invariant-loop : goal.invariant-loop
invariant-loop l = (l.journal.sound ≡ true) × (l.journal.has_header ≡ true)
