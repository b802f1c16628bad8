use Rattle.std.proofs.Common.{ℕ, ◌<◌, ◌≤◌, ◌^◌, length, arith}
use Rattle.std.proofs.Math.Nat.{pow-le-pow_right}
use Rattle.cd_commands.proofs.Digits.{digit_at}
use Rattle.cd_commands.proofs.number.number_of.Goals as goal

-- before a digit of at most 20 the value is below 10 ^ 19
below : (value i n : ℕ) → value < 10 ^ i → i < n → n ≤ 20 → value < 10 ^ 19
below value i n small lt most =
    let ten : 0 < 10 = omega arith in
    let top : 10 ^ i ≤ 10 ^ 19 = pow-le-pow_right {n = 10} ten {i = i} {j = 19} (omega arith) in
    omega arith

pub overflow_mul-value : goal.overflow_mul-value
overflow_mul-value c =
    let digits = c.args.digits.now in
    let small = below c.loop-digit.value c.loop-digit.digit-index (length digits) c.loop-digit.invariant.small c.loop-digit-test.true c.requires.short in
    omega arith

pub overflow_add-value : goal.overflow_add-value
overflow_add-value c =
    let digits = c.args.digits.now in
    let small = below c.loop-digit.value c.loop-digit.digit-index (length digits) c.loop-digit.invariant.small c.loop-digit-test.true c.requires.short in
    let digit = digit_at digits c.loop-digit.digit-index c.requires.digits c.loop-digit-test.true in
    omega arith
