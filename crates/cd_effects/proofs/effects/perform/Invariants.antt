use Rattle.std.proofs.Common.{◌≡◌, ◌≤◌, true, map}
use Rattle.cd_outside.specs.Disk.{last_of}
use Rattle.cd_outside.specs.Files.{files_last_of}
use Rattle.cd_outside.specs.Lines.{NeverFell}
use Rattle.cd_outside.specs.Moments.{Moments}
use Rattle.cd_protocol.specs.Node.{Node}
use Rattle.cd_protocol.specs.Seen.{seen_effect}
use Rattle.cd_effects.specs.Joint.{JointAt, IsWithin}
use Rattle.cd_effects.specs.Registry.{IsRegistry}
use Rattle.cd_effects.specs.Stands.{spot, Stands, WereDone}
use Rattle.cd_effects.proofs.Rows.{kept_all}
use Rattle.cd_effects.proofs.effects.perform.Given as goal

abbrev pub invariant-loop-effect : goal.invariant-loop-effect
invariant-loop-effect g l = record {
  entries : l.registry.entries ≡ kept_all (map seen_effect l.yielded) l.fn.registry.entries;
  done : WereDone g.F.Files.observable g.L.Lines.observable l.fn.sid.number (map seen_effect l.yielded) (spot l.fn.registry.entries (g.F.Files.state l.fn.files).shelf l.fn.phase l.fn.owners (g.L.Lines.traffic l.fn.lines)) (spot l.registry.entries (g.F.Files.state l.files).shelf l.phase l.owners (g.L.Lines.traffic l.lines));
  moments : g.D.Disk.observable → g.F.Files.observable → (node : Node) → Stands g.F.Files.observable l.fn.sid.number node (spot l.fn.registry.entries (g.F.Files.state l.fn.files).shelf l.fn.phase l.fn.owners (g.L.Lines.traffic l.fn.lines)) → Moments (JointAt (g.D.Disk.state l.fn.disk) (g.F.Files.state l.fn.files)) (JointAt (g.D.Disk.state l.disk) (g.F.Files.state l.files)) l.fn.beat (IsWithin l.fn.sid.number (map seen_effect l.fn.effects.items) node);
  registry : g.D.Disk.observable → IsRegistry l.registry (g.D.Disk.state l.disk);
  header : l.registry.journal.has_header ≡ true;
  sound : l.registry.journal.sound ≡ true;
  order : g.D.Disk.observable → last_of (g.D.Disk.state l.disk).calls ≤ l.beat;
  files_order : g.F.Files.observable → files_last_of (g.F.Files.state l.files).calls ≤ l.beat;
  beat : l.fn.beat ≤ l.beat;
  last : g.L.Lines.last l.lines ≡ g.L.Lines.last l.fn.lines;
  disk_later : g.D.Disk.faults l.fn.disk ≤ g.D.Disk.faults l.disk;
  files_later : g.F.Files.faults l.fn.files ≤ g.F.Files.faults l.files;
  lines_later : NeverFell (g.L.Lines.counts l.fn.lines) (g.L.Lines.counts l.lines);
  nones : (g.L.Lines.counts l.lines).nones ≡ (g.L.Lines.counts l.fn.lines).nones;
}
