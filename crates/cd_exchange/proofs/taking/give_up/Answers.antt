use Rattle.std.proofs.Common.{inr, ap, subst, Some}
use Rattle.cd_protocol.specs.Rows.{row_trouble}
use Rattle.cd_effects.specs.Joint.{JointAt}
use Rattle.cd_effects.specs.Stands.{spot}
use Rattle.cd_effects.specs.declared.fault.Fault.{Fault}
use Rattle.cd_effects.specs.declared.fault.Fault.TheVariants as fault
use Rattle.cd_exchange.specs.Handling.{EndStopped}
use Rattle.cd_exchange.proofs.Coming.{rose_later}
use Rattle.cd_exchange.proofs.Crashing.{told_leaves, lost_leaves}
use Rattle.cd_exchange.proofs.OpenLaw.{not_disk, open_again, advanced_then, cause_since}
use Rattle.cd_exchange.proofs.taking.give_up.Goals as goal

pub returns-in-Ok-on_end-clause-done : goal.returns-in-Ok-on_end-clause-done
returns-in-Ok-on_end-clause-done g c = inr (record {
  at = (spot c.on_trouble.new.registry.entries (g.F.Files.state c.on_trouble.new.files).shelf c.on_trouble.new.phase c.on_trouble.new.owners (g.L.Lines.traffic c.on_trouble.new.lines));
  cause = rose_later ((g.L.Lines.counts c.args.lines.now).faults c.args.sid.number) ((g.L.Lines.counts c.on_trouble.new.lines).faults c.args.sid.number) ((g.L.Lines.counts c.on_end.new.lines).faults c.args.sid.number)
      (c.in-Err-Line.ensures.cause.line (ap (λ (f : Fault). Some f) c.in-Err-Line.field-0-is)) (c.on_end.ensures.advanced.lines_later.faults c.args.sid.number);
  stopped = subst (λ (f : Fault). EndStopped g.F.Files.observable g.L.Lines.observable (g.R.Rules.setting c.args.rules.now) g.T.Texts.read c.args.sid.number c.args.now row_trouble f (spot c.args.registry.now.entries (g.F.Files.state c.args.files.now).shelf c.args.phase.now c.args.owners.now (g.L.Lines.traffic c.args.lines.now)) (spot c.on_trouble.new.registry.entries (g.F.Files.state c.on_trouble.new.files).shelf c.on_trouble.new.phase c.on_trouble.new.owners (g.L.Lines.traffic c.on_trouble.new.lines))) c.in-Err-Line.field-0-is c.in-Err-Line.ensures.stopped;
  ended = c.in-Ok-on_end.ensures.done;
})

pub returns-in-Err-on_end-clause-failed : goal.returns-in-Err-on_end-clause-failed
returns-in-Err-on_end-clause-failed g c = inr (record {
  at = (spot c.on_trouble.new.registry.entries (g.F.Files.state c.on_trouble.new.files).shelf c.on_trouble.new.phase c.on_trouble.new.owners (g.L.Lines.traffic c.on_trouble.new.lines));
  cause = rose_later ((g.L.Lines.counts c.args.lines.now).faults c.args.sid.number) ((g.L.Lines.counts c.on_trouble.new.lines).faults c.args.sid.number) ((g.L.Lines.counts c.on_end.new.lines).faults c.args.sid.number)
      (c.in-Err-Line.ensures.cause.line (ap (λ (f : Fault). Some f) c.in-Err-Line.field-0-is)) (c.on_end.ensures.advanced.lines_later.faults c.args.sid.number);
  stopped = subst (λ (f : Fault). EndStopped g.F.Files.observable g.L.Lines.observable (g.R.Rules.setting c.args.rules.now) g.T.Texts.read c.args.sid.number c.args.now row_trouble f (spot c.args.registry.now.entries (g.F.Files.state c.args.files.now).shelf c.args.phase.now c.args.owners.now (g.L.Lines.traffic c.args.lines.now)) (spot c.on_trouble.new.registry.entries (g.F.Files.state c.on_trouble.new.files).shelf c.on_trouble.new.phase c.on_trouble.new.owners (g.L.Lines.traffic c.on_trouble.new.lines))) c.in-Err-Line.field-0-is c.in-Err-Line.ensures.stopped;
  ended = c.in-Err-on_end.ensures.stopped;
})

pub returns-in-Ok-on_end-clause-crash : goal.returns-in-Ok-on_end-clause-crash
returns-in-Ok-on_end-clause-crash g c = λ told files_told. lost_leaves g.F.Files.observable g.L.Lines.observable (g.R.Rules.setting c.args.rules.now) g.T.Texts.read c.args.sid.number c.args.now
    (spot c.args.registry.now.entries (g.F.Files.state c.args.files.now).shelf c.args.phase.now c.args.owners.now (g.L.Lines.traffic c.args.lines.now))
    (spot c.on_trouble.new.registry.entries (g.F.Files.state c.on_trouble.new.files).shelf c.on_trouble.new.phase c.on_trouble.new.owners (g.L.Lines.traffic c.on_trouble.new.lines))
    (JointAt (g.D.Disk.state c.args.disk.now) (g.F.Files.state c.args.files.now)) (JointAt (g.D.Disk.state c.on_trouble.new.disk) (g.F.Files.state c.on_trouble.new.files)) (JointAt (g.D.Disk.state c.on_end.new.disk) (g.F.Files.state c.on_end.new.files)) c.args.beat.now c.on_trouble.new.beat c.on_trouble.ensures.advanced.beat
    (c.on_trouble.ensures.moments told files_told)
    (subst (λ (f : Fault). EndStopped g.F.Files.observable g.L.Lines.observable (g.R.Rules.setting c.args.rules.now) g.T.Texts.read c.args.sid.number c.args.now row_trouble f (spot c.args.registry.now.entries (g.F.Files.state c.args.files.now).shelf c.args.phase.now c.args.owners.now (g.L.Lines.traffic c.args.lines.now)) (spot c.on_trouble.new.registry.entries (g.F.Files.state c.on_trouble.new.files).shelf c.on_trouble.new.phase c.on_trouble.new.owners (g.L.Lines.traffic c.on_trouble.new.lines))) c.in-Err-Line.field-0-is c.in-Err-Line.ensures.stopped)
    (c.on_end.ensures.moments told files_told)

pub returns-in-Err-on_end-clause-crash : goal.returns-in-Err-on_end-clause-crash
returns-in-Err-on_end-clause-crash g c = λ told files_told. lost_leaves g.F.Files.observable g.L.Lines.observable (g.R.Rules.setting c.args.rules.now) g.T.Texts.read c.args.sid.number c.args.now
    (spot c.args.registry.now.entries (g.F.Files.state c.args.files.now).shelf c.args.phase.now c.args.owners.now (g.L.Lines.traffic c.args.lines.now))
    (spot c.on_trouble.new.registry.entries (g.F.Files.state c.on_trouble.new.files).shelf c.on_trouble.new.phase c.on_trouble.new.owners (g.L.Lines.traffic c.on_trouble.new.lines))
    (JointAt (g.D.Disk.state c.args.disk.now) (g.F.Files.state c.args.files.now)) (JointAt (g.D.Disk.state c.on_trouble.new.disk) (g.F.Files.state c.on_trouble.new.files)) (JointAt (g.D.Disk.state c.on_end.new.disk) (g.F.Files.state c.on_end.new.files)) c.args.beat.now c.on_trouble.new.beat c.on_trouble.ensures.advanced.beat
    (c.on_trouble.ensures.moments told files_told)
    (subst (λ (f : Fault). EndStopped g.F.Files.observable g.L.Lines.observable (g.R.Rules.setting c.args.rules.now) g.T.Texts.read c.args.sid.number c.args.now row_trouble f (spot c.args.registry.now.entries (g.F.Files.state c.args.files.now).shelf c.args.phase.now c.args.owners.now (g.L.Lines.traffic c.args.lines.now)) (spot c.on_trouble.new.registry.entries (g.F.Files.state c.on_trouble.new.files).shelf c.on_trouble.new.phase c.on_trouble.new.owners (g.L.Lines.traffic c.on_trouble.new.lines))) c.in-Err-Line.field-0-is c.in-Err-Line.ensures.stopped)
    (c.on_end.ensures.moments told files_told)

pub returns-in-Ok-clause-crash : goal.returns-in-Ok-clause-crash
returns-in-Ok-clause-crash g c = λ told files_told. told_leaves g.F.Files.observable g.L.Lines.observable (g.R.Rules.setting c.args.rules.now) g.T.Texts.read c.args.sid.number c.args.now
    (spot c.args.registry.now.entries (g.F.Files.state c.args.files.now).shelf c.args.phase.now c.args.owners.now (g.L.Lines.traffic c.args.lines.now))
    (JointAt (g.D.Disk.state c.args.disk.now) (g.F.Files.state c.args.files.now)) (JointAt (g.D.Disk.state c.on_trouble.new.disk) (g.F.Files.state c.on_trouble.new.files)) c.args.beat.now (c.on_trouble.ensures.moments told files_told)

pub returns-in-Err-clause-crash : goal.returns-in-Err-clause-crash
returns-in-Err-clause-crash g c = λ told files_told. told_leaves g.F.Files.observable g.L.Lines.observable (g.R.Rules.setting c.args.rules.now) g.T.Texts.read c.args.sid.number c.args.now
    (spot c.args.registry.now.entries (g.F.Files.state c.args.files.now).shelf c.args.phase.now c.args.owners.now (g.L.Lines.traffic c.args.lines.now))
    (JointAt (g.D.Disk.state c.args.disk.now) (g.F.Files.state c.args.files.now)) (JointAt (g.D.Disk.state c.on_trouble.new.disk) (g.F.Files.state c.on_trouble.new.files)) c.args.beat.now (c.on_trouble.ensures.moments told files_told)

pub on_end-requires-clause-home : goal.on_end-requires-clause-home
on_end-requires-clause-home g c = open_again c.requires.home c.in-Err-Line.ensures.home (not_disk c.in-Err-Line.field-0 fault.Line c.in-Err-Line.field-0-is (λ h. let k : ⊥ = cc in k)) c.on_trouble.ensures.advanced.last

pub returns-in-Ok-clause-home : goal.returns-in-Ok-clause-home
returns-in-Ok-clause-home g c = c.in-Ok.ensures.home

pub returns-in-Ok-on_end-clause-home : goal.returns-in-Ok-on_end-clause-home
returns-in-Ok-on_end-clause-home g c = c.in-Ok-on_end.ensures.home

pub returns-in-Ok-clause-cause : goal.returns-in-Ok-clause-cause
returns-in-Ok-clause-cause g c = c.in-Ok.ensures.cause

pub returns-in-Ok-on_end-clause-cause : goal.returns-in-Ok-on_end-clause-cause
returns-in-Ok-on_end-clause-cause g c = cause_since c.on_trouble.ensures.advanced c.in-Ok-on_end.ensures.cause

pub returns-in-Ok-clause-advanced : goal.returns-in-Ok-clause-advanced
returns-in-Ok-clause-advanced g c = c.on_trouble.ensures.advanced

pub returns-in-Ok-on_end-clause-advanced : goal.returns-in-Ok-on_end-clause-advanced
returns-in-Ok-on_end-clause-advanced g c = advanced_then c.on_trouble.ensures.advanced c.on_end.ensures.advanced

pub returns-in-Err-clause-home : goal.returns-in-Err-clause-home
returns-in-Err-clause-home g c = c.in-Err.ensures.home

pub returns-in-Err-on_end-clause-home : goal.returns-in-Err-on_end-clause-home
returns-in-Err-on_end-clause-home g c = c.in-Err-on_end.ensures.home

pub returns-in-Err-clause-cause : goal.returns-in-Err-clause-cause
returns-in-Err-clause-cause g c = c.in-Err.ensures.cause

pub returns-in-Err-on_end-clause-cause : goal.returns-in-Err-on_end-clause-cause
returns-in-Err-on_end-clause-cause g c = cause_since c.on_trouble.ensures.advanced c.in-Err-on_end.ensures.cause

pub returns-in-Err-clause-advanced : goal.returns-in-Err-clause-advanced
returns-in-Err-clause-advanced g c = c.on_trouble.ensures.advanced

pub returns-in-Err-on_end-clause-advanced : goal.returns-in-Err-on_end-clause-advanced
returns-in-Err-on_end-clause-advanced g c = advanced_then c.on_trouble.ensures.advanced c.on_end.ensures.advanced
