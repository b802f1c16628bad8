use Rattle.std.proofs.Common.{sym, arith}
use Rattle.cd_session_rules.proofs.Within.{open_within}
use Rattle.cd_session_rules.proofs.steps.receive.Goals as goal

pub receive_again-requires : goal.receive_again-requires
receive_again-requires g c =
    let within = open_within g.T.Texts.read c.args.view.now.book.now.entries c.args.key.now c.in-Open.receiving.now c.in-Open.mark c.requires (sym c.in-Open.ensures) in
    omega (arith, within.whole, within.mark)
