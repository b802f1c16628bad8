use Rattle.std.proofs.Common.{◌-◌, ◌≤◌, drop, length, sym, arith, length-take}
use Rattle.cd_frames.proofs.StreamLaw.{number_front}
use Rattle.cd_frames.proofs.Fronts.{form_writable, short_frame}
use Rattle.cd_frames.proofs.reader.Reader.frame.Goals as goal

pub returns-clause-form : goal.returns-clause-form
returns-clause-form c =
    let b = c.self.inside in
    let short : length c.in_ok-body.body.now ≤ 131072 =
    omega (arith, number_front 4 _ _ _ (sym c.in_ok-body.ensures), length-take (b.start - b.last) (drop b.last c.deref.result.now), c.self.invariant.short) in
    short_frame c.in_ok-body.body.now c.frame_of.result short c.frame_of.ensures.form c.frame_of.ensures.whole

pub returns-clause-writable : goal.returns-clause-writable
returns-clause-writable c = form_writable c.frame_of.result c.frame_of.ensures.form
