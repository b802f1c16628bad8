use Rattle.std.proofs.Common.{ℕ, ◌≡◌, ◌*◌, ◌+◌, ◌-◌, ◌<◌, ◌≤◌, ◌^◌, length, arith}
use Rattle.std.proofs.Math.Nat.{pow-le-pow_right}
use Rattle.cd_grammar.proofs.Digits.{digit_at}
use Rattle.cd_grammar.proofs.values.number_of.Goals as goal

-- before a digit of at most 10 the value is below 10 ^ 9
below : (value i n : ℕ) → value < 10 ^ i → i < n → n ≤ 10 → value < 10 ^ 9
below value i n small lt most =
    let ten : 0 < 10 = omega arith in
    let top : 10 ^ i ≤ 10 ^ 9 = pow-le-pow_right {n = 10} ten {i = i} {j = 9} (omega arith) in
    omega arith

pub overflow_mul-value : goal.overflow_mul-value
overflow_mul-value c =
    let digits = c.args.digits.now in
    let small = below c.loop-digit.value c.loop-digit.digit-index (length digits) c.loop-digit.invariant.small c.loop-digit-test.true c.requires.short in
    omega arith

pub overflow_add-value : goal.overflow_add-value
overflow_add-value c =
    let digits = c.args.digits.now in
    let small = below c.loop-digit.value c.loop-digit.digit-index (length digits) c.loop-digit.invariant.small c.loop-digit-test.true c.requires.short in
    let digit = digit_at digits c.loop-digit.digit-index c.requires.digits c.loop-digit-test.true in
    omega arith

pub returns-clause-small : goal.returns-clause-small
returns-clause-small c =
    let ten : 0 < 10 = omega arith in
    let within : c.loop-digit.digit-index ≤ 10 = omega (arith, c.requires.short, c.loop-digit.auto.digit-index-end) in
    let top : 10 ^ c.loop-digit.digit-index ≤ 10 ^ 10 = pow-le-pow_right {n = 10} ten {i = c.loop-digit.digit-index} {j = 10} within in
    omega (arith, top, c.loop-digit.invariant.small)
