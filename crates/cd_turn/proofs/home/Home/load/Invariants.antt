use Rattle.std.proofs.Common.{◌≡◌, ◌≤◌, ◌<◌, length, map, take}
use Rattle.std.specs.Prelude.{IfOk}
use Rattle.cd_journal.specs.Bytes.{list_of}
use Rattle.cd_journal.specs.Journal.{KeepsList}
use Rattle.cd_entries.specs.Entry.{entry_bytes}
use Rattle.cd_turn.specs.Home.{place_behind}
use Rattle.cd_turn.specs.Legal.{IsLegal}
use Rattle.cd_turn.proofs.home.Home.load.Given as goal

abbrev pub invariant-loop-i : goal.invariant-loop-i
invariant-loop-i g l = record {
  legal : IsLegal l.self.entries;
  kept : KeepsList l.fn.self.journal l.self.journal;
  sound : l.self.journal.sound ≡ l.fn.self.journal.sound;
  same : g.P.Disk.observable → g.P.Disk.state l.disk ≡ g.P.Disk.state l.fn.disk;
  read : g.P.Disk.observable → IfOk (list_of (g.P.Disk.state l.fn.disk).seen) (λ bodies. take l.i bodies ≡ map entry_bytes l.self.entries);
  place : g.P.Disk.observable → l.at ≡ place_behind (map entry_bytes l.self.entries);
  later : g.P.Disk.faults l.fn.disk ≤ g.P.Disk.faults l.disk;
}
