use Rattle.std.proofs.Common.{◌≤◌, ℕ, sym, subst, ◌∙◌}
use Rattle.cd_effects.proofs.Frames.{frames_next}
use Rattle.cd_effects.proofs.Sending.{sendable_here, giving_here, gave_some, gave_next, fell_then, rose_later}
use Rattle.cd_effects.proofs.session.send_all.Goals as goal

pub send-requires-clause-to : goal.send-requires-clause-to
send-requires-clause-to g c = subst (λ (n : ℕ). c.args.sid.number ≤ n) (sym c.loop-frame.invariant.last) c.requires.to

pub send-requires-clause-ready : goal.send-requires-clause-ready
send-requires-clause-ready g c = sendable_here c.args.frames.now c.loop-frame.frame-index c.frame-item.result c.loop-frame-test.true c.frame-item.is c.requires.ready

pub loop-frame-preserved : goal.loop-frame-preserved
loop-frame-preserved g c = let e = c.in-Ok.ensures in record {
  sent = λ told. gave_next c.args.sid.number c.args.frames.now c.loop-frame.frame-index c.frame-item.result (g.L.Lines.traffic c.args.lines.now) (g.L.Lines.traffic c.loop-frame.lines) (g.L.Lines.traffic c.send.new.lines) c.loop-frame-test.true c.frame-item.is (c.loop-frame.invariant.sent told) (e.sent told);
  form = frames_next c.args.frames.now c.loop-frame.frame-index c.frame-item.result c.loop-frame-test.true c.frame-item.is c.loop-frame.invariant.form e.form;
  last = e.last ∙ c.loop-frame.invariant.last;
  later = fell_then (g.L.Lines.counts c.args.lines.now) (g.L.Lines.counts c.loop-frame.lines) (g.L.Lines.counts c.send.new.lines) c.loop-frame.invariant.later e.later;
  nones = e.nones ∙ c.loop-frame.invariant.nones;
}

pub returns-in-Err-clause-some : goal.returns-in-Err-clause-some
returns-in-Err-clause-some g c = λ told. gave_some c.args.sid.number c.args.frames.now c.loop-frame.frame-index c.frame-item.result (g.L.Lines.traffic c.args.lines.now) (g.L.Lines.traffic c.loop-frame.lines) (g.L.Lines.traffic c.send.new.lines) c.loop-frame-test.true c.frame-item.is (c.loop-frame.invariant.sent told) (c.in-Err.ensures.front told)

pub returns-in-Err-clause-later : goal.returns-in-Err-clause-later
returns-in-Err-clause-later g c = fell_then (g.L.Lines.counts c.args.lines.now) (g.L.Lines.counts c.loop-frame.lines) (g.L.Lines.counts c.send.new.lines) c.loop-frame.invariant.later c.in-Err.ensures.later

pub returns-in-Err-clause-last : goal.returns-in-Err-clause-last
returns-in-Err-clause-last g c = c.in-Err.ensures.last ∙ c.loop-frame.invariant.last

pub returns-in-Err-clause-cause : goal.returns-in-Err-clause-cause
returns-in-Err-clause-cause g c = λ is. rose_later ((g.L.Lines.counts c.args.lines.now).faults c.args.sid.number) ((g.L.Lines.counts c.loop-frame.lines).faults c.args.sid.number) ((g.L.Lines.counts c.send.new.lines).faults c.args.sid.number) (c.loop-frame.invariant.later.faults c.args.sid.number) (c.in-Err.ensures.cause is)

pub returns-in-Err-clause-fault : goal.returns-in-Err-clause-fault
returns-in-Err-clause-fault g c = giving_here c.args.frames.now c.loop-frame.frame-index c.frame-item.result c.in-Err.fault c.loop-frame-test.true c.frame-item.is c.in-Err.ensures.fault

pub returns-in-Err-clause-nones : goal.returns-in-Err-clause-nones
returns-in-Err-clause-nones g c = c.in-Err.ensures.nones ∙ c.loop-frame.invariant.nones
