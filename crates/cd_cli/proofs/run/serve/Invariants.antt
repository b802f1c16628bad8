use Rattle.std.proofs.Common.{◌≡◌, ◌≤◌, ◌++◌, [], true, false}
use Rattle.cd_outside.specs.Disk.{last_of}
use Rattle.cd_turn.specs.Legal.{IsLegal}
use Rattle.cd_cli.specs.Flow.{was_refused}
use Rattle.cd_outside.specs.Counts.{Rose}
use Rattle.cd_cli.specs.Run.{GoneOn}
use Rattle.cd_cli.specs.Told.{GoesBy}
use Rattle.cd_cli.specs.Stretch.{standing}
use Rattle.cd_cli.proofs.Leaving.{ReadSafely}
use Rattle.cd_cli.proofs.run.serve.Given as goal

abbrev pub invariant-loop-i : goal.invariant-loop-i
invariant-loop-i g l = record {
  legal : IsLegal l.home.entries;
  sound : l.home.journal.sound ≡ true;
  goes : g.P.Disk.observable → GoneOn l.fn.home.entries (g.P.Disk.state l.fn.journal) l.fn.beat l.home (g.P.Disk.state l.journal) l.beat;
  safe : ReadSafely ((g.P.Disk.state l.fn.journal).seen ≡ []) g.P.Disk.observable g.S.Source.observable g.O.Sink.observable (GoesBy g.C.Clock.observable g.F.Files.observable (g.C.Clock.moment l.fn.clock) (g.F.Files.state l.fn.files).shelf.seen (Rose (g.F.Files.faults l.fn.files) (g.F.Files.faults l.files))) (standing l.fn.home.entries (g.O.Sink.taken l.fn.out) false) (g.S.Source.remaining l.fn.input) (l.reader ++ g.S.Source.remaining l.input) l._i
      l.scanner (standing l.home.entries (g.O.Sink.taken l.out) (was_refused l.last)) (g.P.Disk.state l.fn.journal) (g.P.Disk.state l.journal) l.fn.beat;
  clock : g.C.Clock.observable → g.C.Clock.moment l.clock ≡ g.C.Clock.moment l.fn.clock;
  files : g.F.Files.observable → g.F.Files.state l.files ≡ g.F.Files.state l.fn.files;
  later_files : g.F.Files.faults l.fn.files ≤ g.F.Files.faults l.files;
  order : g.P.Disk.observable → last_of (g.P.Disk.state l.journal).calls ≤ l.beat;
  forward : l.fn.beat ≤ l.beat;
  later : g.P.Disk.faults l.fn.journal ≤ g.P.Disk.faults l.journal;
  later_in : g.S.Source.faults l.fn.input ≤ g.S.Source.faults l.input;
  later_out : g.O.Sink.faults l.fn.out ≤ g.O.Sink.faults l.out;
}
