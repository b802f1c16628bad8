use Rattle.std.proofs.Common.{sym, subst}
use Rattle.std.proofs.lemmas.Result.{err_from_is_err_and}
use Rattle.cd_commands.specs.Machine.{Said}
use Rattle.cd_commands.specs.Told.{Tells, IsRead}
use Rattle.cd_commands.proofs.order.order_of.Goals as goal

pub returns-in_err-order-in-Ends-clause-err : goal.returns-in_err-order-in-Ends-clause-err
returns-in_err-order-in-Ends-clause-err c =
    let p = err_from_is_err_and c.from_residual-in_err-order-in-Ends.result c.from_residual-in_err-order-in-Ends.ensures.1 in
    let e = rw c.in-Ends.is at c.in_ok-given.ensures.ok in
    rw (p.1, p.2) (subst (λ (y : Said). Tells c.in_err-order-in-Ends.field-0.0 y) (sym e) (c.in_err-order-in-Ends.ensures.err c.args.len))

pub returns-in_ok-order-in-Ends-clause-ok : goal.returns-in_ok-order-in-Ends-clause-ok
returns-in_ok-order-in-Ends-clause-ok c =
    let e = rw c.in-Ends.is at c.in_ok-given.ensures.ok in
    subst (λ (y : Said). IsRead y c.args.len c.in_ok-order-in-Ends.order) (sym e) (c.in_ok-order-in-Ends.ensures.ok c.args.len)
