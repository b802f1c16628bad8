use Rattle.std.proofs.Common.{◌≡◌, ◌+◌, length, take}
use Rattle.std.specs.Prelude.{sum_by}
use Rattle.cd_legality.proofs.symbols.are_few.Given as goal

abbrev pub invariant-loop-place : goal.invariant-loop-place
invariant-loop-place l = l.left + sum_by (λ pair. 5 + length pair.0 + length pair.1) (take l.place l.symbols) ≡ 119998
