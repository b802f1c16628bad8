use Rattle.std.proofs.Common.{ℕ, ◌≡◌, ◌*◌, ◌+◌, ◌-◌, ◌<◌, ◌≤◌, ◌^◌, ◌&&◌, leb, length, arith}
use Rattle.std.specs.Char.{is_ascii_digit}
use Rattle.std.specs.List.{list_all}
use Rattle.std.proofs.Math.Nat.{pow-le-pow_right}
use Rattle.std.proofs.lemmas.Bool.{leb-true}
use Rattle.cd_types.specs.TextLaw.{both_true}
use Rattle.cd_drill_script.proofs.Digits.{digit_at}
use Rattle.cd_drill_script.proofs.words.value_of.Goals as goal

-- before a digit of at most 20 the value is below 10 ^ 19
below : (value i n : ℕ) → value < 10 ^ i → i < n → n ≤ 20 → value < 10 ^ 19
below value i n small lt most =
    let ten : 0 < 10 = omega arith in
    let top : 10 ^ i ≤ 10 ^ 19 = pow-le-pow_right {n = 10} ten {i = i} {j = 19} (omega arith) in
    omega arith

pub overflow_mul-value : goal.overflow_mul-value
overflow_mul-value c =
    let digits = c.args.digits.now in
    let tests = both_true (leb 1 (length digits) && leb (length digits) 20) (list_all is_ascii_digit digits) c.requires in
    let most = leb-true _ _ (both_true (leb 1 (length digits)) (leb (length digits) 20) tests.0).1 in
    let small = below c.loop-digit.value c.loop-digit.digit-index (length digits) c.loop-digit.invariant.small c.loop-digit-test.true most in
    omega arith

pub overflow_add-value : goal.overflow_add-value
overflow_add-value c =
    let digits = c.args.digits.now in
    let tests = both_true (leb 1 (length digits) && leb (length digits) 20) (list_all is_ascii_digit digits) c.requires in
    let most = leb-true _ _ (both_true (leb 1 (length digits)) (leb (length digits) 20) tests.0).1 in
    let small = below c.loop-digit.value c.loop-digit.digit-index (length digits) c.loop-digit.invariant.small c.loop-digit-test.true most in
    let digit = digit_at digits c.loop-digit.digit-index tests.1 c.loop-digit-test.true in
    omega arith
