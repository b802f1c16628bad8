use Rattle.std.proofs.Common.{◌≡◌, ◌*◌, ◌+◌, ◌-◌, ◌<◌, ◌^◌, drop}
use Rattle.std.specs.Prelude.{fold}
use Rattle.cd_drill_script.proofs.words.value_of.Given as goal

abbrev pub invariant-loop-digit : goal.invariant-loop-digit
invariant-loop-digit l = record {
  rest : fold (λ n digit. 10 * n + (digit - 48)) l.value (drop l.digit-index l.digits) ≡ fold (λ n digit. 10 * n + (digit - 48)) 0 l.digits;
  small : l.value < 10 ^ l.digit-index;
}
