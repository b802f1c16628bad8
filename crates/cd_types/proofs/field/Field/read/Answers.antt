use Rattle.std.proofs.Common.{length, ap, sym, arith, length-append}
use Rattle.cd_types.proofs.field.Field.read.Goals as goal

pub overflow_sub-result : goal.overflow_sub-result
overflow_sub-result g c =
    let field = c.in_ok-field.field in
    let rest = c.in_ok-field.rest.now in
    let whole = g.met.Self.Field.law.only c.args.bytes.now field rest (λ i. omega (arith, c.type_inv.bytes i)) (sym c.in_ok-field.ensures) in
    omega (arith, ap length whole.0, length-append (g.Self.Field.spelled field) rest)
