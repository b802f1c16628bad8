use Rattle.std.proofs.Common.{sym, arith}
use Rattle.cd_session_rules.proofs.Within.{open_within}
use Rattle.cd_session_rules.proofs.rows.row_take.Goals as goal

pub row_take_of-requires : goal.row_take_of-requires
row_take_of-requires g c =
    let within = open_within g.T.Texts.read c.args.view.now.book.now.entries c.args.key.now c.in-Open.receiving.now c.in-Open.field-1 c.requires (sym c.in-Open.ensures) in
    omega (arith, within.whole)
