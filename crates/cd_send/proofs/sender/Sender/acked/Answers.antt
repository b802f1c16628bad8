use Rattle.std.proofs.Common.{arith}
use Rattle.cd_send.proofs.Stays.{acked_stays}
use Rattle.cd_send.proofs.sender.Sender.acked.Goals as goal

pub invariant_of-self : goal.invariant_of-self
invariant_of-self c =
    acked_stays (record { length = c.self.inside.length; block = c.self.inside.block; interval = c.self.inside.interval; start = c.self.inside.start; sent = c.self.inside.sent; acked = c.self.inside.acked })
    c.args.offset c.self.invariant (omega (arith, c.if-self.false)) (omega (arith, c.if-offset-piece_end.false, c.piece_end.ensures.end))
