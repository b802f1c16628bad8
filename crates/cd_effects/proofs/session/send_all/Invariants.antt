use Rattle.std.proofs.Common.{◌≡◌, take, map}
use Rattle.cd_outside.specs.Lines.{NeverFell}
use Rattle.cd_protocol.specs.Seen.{seen_frame}
use Rattle.cd_effects.specs.Stands.{gave, AreFrames}
use Rattle.cd_effects.proofs.session.send_all.Given as goal

abbrev pub invariant-loop-frame : goal.invariant-loop-frame
invariant-loop-frame g l = record {
  sent : g.L.Lines.observable → g.L.Lines.traffic l.lines ≡ gave l.fn.sid.number (map seen_frame (take l.frame-index l.fn.frames)) (g.L.Lines.traffic l.fn.lines);
  form : AreFrames (map seen_frame (take l.frame-index l.fn.frames));
  last : g.L.Lines.last l.lines ≡ g.L.Lines.last l.fn.lines;
  later : NeverFell (g.L.Lines.counts l.fn.lines) (g.L.Lines.counts l.lines);
  nones : (g.L.Lines.counts l.lines).nones ≡ (g.L.Lines.counts l.fn.lines).nones;
}
