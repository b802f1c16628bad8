use Rattle.std.proofs.Common.{◌≡◌, ◌≤◌, List, length}
use Rattle.cd_outside.specs.Lines.{NeverFell}
use Rattle.cd_frames.specs.Message.{Message}
use Rattle.cd_frames.specs.Reading.{front}
use Rattle.cd_frames.specs.Run.{Run}
use Rattle.cd_frames.specs.Stream.{waits}
use Rattle.cd_exchange.specs.Arriving.{Heard}
use Rattle.cd_exchange.proofs.arriving.next_frame.Given as goal

abbrev pub invariant-loop-piece : goal.invariant-loop-piece
invariant-loop-piece g l = record {
  run : g.L.Lines.observable → (given : List Message) → Run ((g.L.Lines.traffic l.fn.lines).taken l.fn.sid.number) given l.fn.reader → Run ((g.L.Lines.traffic l.lines).taken l.fn.sid.number) given l.reader;
  more : l._piece ≤ length l.reader.rest;
  most : l._piece ≤ 131076;
  at_hand : (front l.fn.reader ≡ waits → ⊥) → (l.reader ≡ l.fn.reader) × (l.lines ≡ l.fn.lines);
  heard : g.L.Lines.observable → Heard l.fn.sid.number (g.L.Lines.traffic l.fn.lines) (g.L.Lines.traffic l.lines);
  last : g.L.Lines.last l.lines ≡ g.L.Lines.last l.fn.lines;
  later : NeverFell (g.L.Lines.counts l.fn.lines) (g.L.Lines.counts l.lines);
  nones : (g.L.Lines.counts l.lines).nones ≡ (g.L.Lines.counts l.fn.lines).nones;
}
