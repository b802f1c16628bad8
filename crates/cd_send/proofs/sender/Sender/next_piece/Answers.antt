use Rattle.std.proofs.Common.{◌≡◌, arith}
use Rattle.cd_send.proofs.Stays.{sent_stays_at, piece_at_cut}
use Rattle.cd_send.specs.Sending.{Sending}
use Rattle.cd_send.proofs.sender.Sender.next_piece.Goals as goal

pub invariant_of-self : goal.invariant_of-self
invariant_of-self g c =
    sent_stays_at (record { length = c.self.inside.length; block = c.self.inside.block; interval = c.self.inside.interval; start = c.self.inside.start; sent = c.self.inside.sent; acked = c.self.inside.acked })
    c.piece_end-end.result c.self.invariant (omega (arith, c.if-self.false, c.self.invariant.within)) c.piece_end-end.ensures.end

pub returns-in-Ok-true-clause-cut : goal.returns-in-Ok-true-clause-cut
returns-in-Ok-true-clause-cut g c =
    let inside : Sending = record { length = c.self.inside.length; block = c.self.inside.block; interval = c.self.inside.interval; start = c.self.inside.start; sent = c.self.inside.sent; acked = c.self.inside.acked } in
    let same : inside ≡ c.args.self.now = cc in
    piece_at_cut inside c.args.self.now c.piece_end-end.result same c.self.invariant (omega (arith, c.if-self.false, c.self.invariant.within)) c.piece_end-end.ensures.end
