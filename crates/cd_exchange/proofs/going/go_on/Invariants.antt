use Rattle.std.proofs.Common.{◌≡◌, ◌≤◌, ◌-◌, true}
use Rattle.cd_outside.specs.Disk.{last_of}
use Rattle.cd_outside.specs.Files.{files_last_of}
use Rattle.cd_outside.specs.Lines.{NeverFell}
use Rattle.cd_outside.specs.Moments.{Moments}
use Rattle.cd_protocol.specs.Node.{Node, Answers}
use Rattle.cd_effects.specs.Joint.{JointAt, IsWithin}
use Rattle.cd_rules.specs.Processes.{latest}
use Rattle.cd_rules.specs.Legal.{is_legal}
use Rattle.cd_effects.specs.Registry.{IsRegistry}
use Rattle.cd_effects.specs.Stands.{spot}
use Rattle.cd_exchange.specs.Going.{IsSo, IsOnItsWay}
use Rattle.cd_exchange.specs.Rest.{rest, rank, Agrees}
use Rattle.cd_exchange.specs.Question.{answers_of}
use Rattle.cd_exchange.proofs.going.go_on.Given as goal

abbrev pub invariant-loop-turn : goal.invariant-loop-turn
invariant-loop-turn g l = record {
  way : IsOnItsWay g.F.Files.observable g.L.Lines.observable (g.R.Rules.setting l.fn.rules) g.T.Texts.read l.fn.sid.number 1030 (1030 - l._turn) l.fn.then l.later (answers_of l.fn.now l.given l.buffer.items)
      (spot l.fn.registry.entries (g.F.Files.state l.fn.files).shelf l.fn.phase l.fn.owners (g.L.Lines.traffic l.fn.lines))
      (spot l.registry.entries (g.F.Files.state l.files).shelf l.phase l.owners (g.L.Lines.traffic l.lines));
  moments : g.D.Disk.observable → g.F.Files.observable → (node : Node)
      → IsSo g.F.Files.observable (g.R.Rules.setting l.fn.rules) g.T.Texts.read l.fn.sid.number node (spot l.fn.registry.entries (g.F.Files.state l.fn.files).shelf l.fn.phase l.fn.owners (g.L.Lines.traffic l.fn.lines))
      → (answers : Answers) → Agrees answers (answers_of l.fn.now l.given l.buffer.items) (rank l.later)
      → Moments (JointAt (g.D.Disk.state l.fn.disk) (g.F.Files.state l.fn.files)) (JointAt (g.D.Disk.state l.disk) (g.F.Files.state l.files)) l.fn.beat (IsWithin l.fn.sid.number (rest 1030 node l.fn.sid.number answers l.fn.then) node);
  legal : is_legal g.T.Texts.read l.registry.entries ≡ true;
  on_time : latest l.registry.entries ≤ l.fn.now;
  registry : g.D.Disk.observable → IsRegistry l.registry (g.D.Disk.state l.disk);
  header : l.registry.journal.has_header ≡ true;
  sound : l.registry.journal.sound ≡ true;
  order : g.D.Disk.observable → last_of (g.D.Disk.state l.disk).calls ≤ l.beat;
  files_order : g.F.Files.observable → files_last_of (g.F.Files.state l.files).calls ≤ l.beat;
  beat : l.fn.beat ≤ l.beat;
  last : g.L.Lines.last l.lines ≡ g.L.Lines.last l.fn.lines;
  disk_later : g.D.Disk.faults l.fn.disk ≤ g.D.Disk.faults l.disk;
  files_later : g.F.Files.faults l.fn.files ≤ g.F.Files.faults l.files;
  lines_later : NeverFell (g.L.Lines.counts l.fn.lines) (g.L.Lines.counts l.lines);
  nones : (g.L.Lines.counts l.lines).nones ≡ (g.L.Lines.counts l.fn.lines).nones;
}
