use Rattle.std.proofs.Common.{sym, arith}
use Rattle.cd_frames.proofs.StreamLaw.{number_front}
use Rattle.cd_frames.proofs.next.front_of.Goals as goal

pub returns-in-Some-frame_of-clause-within : goal.returns-in-Some-frame_of-clause-within
returns-in-Some-frame_of-clause-within c =
    omega (arith, number_front 4 c.args.bytes.now c.in-Some.len c.in-Some.rest.now (sym c.in-Some.ensures), c.if-rest-len.false)
