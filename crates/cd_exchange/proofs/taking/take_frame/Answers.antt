use Rattle.std.proofs.Common.{inl, inr, [], ◌∷◌, refl, ap, subst, Some}
use Rattle.cd_frames.specs.Message.{message_of}
use Rattle.cd_protocol.specs.Rows.{row_end}
use Rattle.cd_effects.specs.Joint.{JointAt}
use Rattle.cd_effects.specs.Stands.{spot}
use Rattle.cd_effects.specs.declared.fault.Fault.{Fault}
use Rattle.cd_effects.specs.declared.fault.Fault.TheVariants as fault
use Rattle.cd_exchange.specs.Question.{answers_of}
use Rattle.cd_exchange.specs.Crash.{Begun, lost_in_it, trouble_in_it}
use Rattle.cd_exchange.specs.Handling.{the_case, CutOff}
use Rattle.cd_exchange.proofs.Coming.{rose_later}
use Rattle.cd_exchange.proofs.Taken.{gave_up_since, gave_failed_since}
use Rattle.cd_exchange.proofs.Crashing.{begun_at, is_begun, begun_moments, frame_alone, frame_then}
use Rattle.cd_exchange.proofs.OpenLaw.{not_disk, open_again, advanced_then, cause_since}
use Rattle.cd_exchange.proofs.taking.take_frame.Goals as goal

pub returns-in-Ok-clause-handled : goal.returns-in-Ok-clause-handled
returns-in-Ok-clause-handled g c = record {
  answers = answers_of c.args.now c.in-Ok.field-0 c.on_frame.new.buffer.items;
  moment = refl;
  done = c.in-Ok.ensures.done;
  told = c.in-Ok.ensures.told;
}

pub returns-in-Err-give_up-clause-failed : goal.returns-in-Err-give_up-clause-failed
returns-in-Err-give_up-clause-failed g c = inr (inr (record {
  at = (spot c.on_frame.new.registry.entries (g.F.Files.state c.on_frame.new.files).shelf c.on_frame.new.phase c.on_frame.new.owners (g.L.Lines.traffic c.on_frame.new.lines));
  cut = subst (λ (f : Fault). CutOff (the_case g.F.Files.observable g.L.Lines.observable (g.R.Rules.setting c.args.rules.now) g.T.Texts.read c.args.sid.number c.args.now c.args.others.now (message_of c.args.frame.now)) f (spot c.args.registry.now.entries (g.F.Files.state c.args.files.now).shelf c.args.phase.now c.args.owners.now (g.L.Lines.traffic c.args.lines.now)) (spot c.on_frame.new.registry.entries (g.F.Files.state c.on_frame.new.files).shelf c.on_frame.new.phase c.on_frame.new.owners (g.L.Lines.traffic c.on_frame.new.lines))) c.in-Err-Files.field-0-is c.in-Err-Files.ensures.stopped;
  ended = gave_failed_since g.F.Files.observable g.L.Lines.observable (g.R.Rules.setting c.args.rules.now) g.T.Texts.read c.args.sid.number c.args.now (g.L.Lines.counts c.on_frame.new.lines) (g.L.Lines.counts c.give_up.new.lines) (g.L.Lines.counts c.args.lines.now) c.in-Err-give_up.fault
      (spot c.on_frame.new.registry.entries (g.F.Files.state c.on_frame.new.files).shelf c.on_frame.new.phase c.on_frame.new.owners (g.L.Lines.traffic c.on_frame.new.lines))
      (spot c.give_up.new.registry.entries (g.F.Files.state c.give_up.new.files).shelf c.give_up.new.phase c.give_up.new.owners (g.L.Lines.traffic c.give_up.new.lines))
      c.on_frame.ensures.advanced.lines_later c.in-Err-give_up.ensures.failed;
}))

pub returns-in-Ok-on_end-clause-handled : goal.returns-in-Ok-on_end-clause-handled
returns-in-Ok-on_end-clause-handled g c = record {
  at = (spot c.on_frame.new.registry.entries (g.F.Files.state c.on_frame.new.files).shelf c.on_frame.new.phase c.on_frame.new.owners (g.L.Lines.traffic c.on_frame.new.lines));
  cause = rose_later ((g.L.Lines.counts c.args.lines.now).faults c.args.sid.number) ((g.L.Lines.counts c.on_frame.new.lines).faults c.args.sid.number) ((g.L.Lines.counts c.on_end.new.lines).faults c.args.sid.number)
      (c.in-Err-Line.ensures.cause.line (ap (λ (f : Fault). Some f) c.in-Err-Line.field-0-is)) (c.on_end.ensures.advanced.lines_later.faults c.args.sid.number);
  cut = subst (λ (f : Fault). CutOff (the_case g.F.Files.observable g.L.Lines.observable (g.R.Rules.setting c.args.rules.now) g.T.Texts.read c.args.sid.number c.args.now c.args.others.now (message_of c.args.frame.now)) f (spot c.args.registry.now.entries (g.F.Files.state c.args.files.now).shelf c.args.phase.now c.args.owners.now (g.L.Lines.traffic c.args.lines.now)) (spot c.on_frame.new.registry.entries (g.F.Files.state c.on_frame.new.files).shelf c.on_frame.new.phase c.on_frame.new.owners (g.L.Lines.traffic c.on_frame.new.lines))) c.in-Err-Line.field-0-is c.in-Err-Line.ensures.stopped;
  ended = c.in-Ok-on_end.ensures.done;
}

pub returns-in-Err-on_end-clause-failed : goal.returns-in-Err-on_end-clause-failed
returns-in-Err-on_end-clause-failed g c = inr (inl (record {
  at = (spot c.on_frame.new.registry.entries (g.F.Files.state c.on_frame.new.files).shelf c.on_frame.new.phase c.on_frame.new.owners (g.L.Lines.traffic c.on_frame.new.lines));
  cause = rose_later ((g.L.Lines.counts c.args.lines.now).faults c.args.sid.number) ((g.L.Lines.counts c.on_frame.new.lines).faults c.args.sid.number) ((g.L.Lines.counts c.on_end.new.lines).faults c.args.sid.number)
      (c.in-Err-Line.ensures.cause.line (ap (λ (f : Fault). Some f) c.in-Err-Line.field-0-is)) (c.on_end.ensures.advanced.lines_later.faults c.args.sid.number);
  cut = subst (λ (f : Fault). CutOff (the_case g.F.Files.observable g.L.Lines.observable (g.R.Rules.setting c.args.rules.now) g.T.Texts.read c.args.sid.number c.args.now c.args.others.now (message_of c.args.frame.now)) f (spot c.args.registry.now.entries (g.F.Files.state c.args.files.now).shelf c.args.phase.now c.args.owners.now (g.L.Lines.traffic c.args.lines.now)) (spot c.on_frame.new.registry.entries (g.F.Files.state c.on_frame.new.files).shelf c.on_frame.new.phase c.on_frame.new.owners (g.L.Lines.traffic c.on_frame.new.lines))) c.in-Err-Line.field-0-is c.in-Err-Line.ensures.stopped;
  ended = c.in-Err-on_end.ensures.stopped;
}))

pub returns-in-Ok-give_up-clause-handled : goal.returns-in-Ok-give_up-clause-handled
returns-in-Ok-give_up-clause-handled g c = record {
  at = (spot c.on_frame.new.registry.entries (g.F.Files.state c.on_frame.new.files).shelf c.on_frame.new.phase c.on_frame.new.owners (g.L.Lines.traffic c.on_frame.new.lines));
  cut = subst (λ (f : Fault). CutOff (the_case g.F.Files.observable g.L.Lines.observable (g.R.Rules.setting c.args.rules.now) g.T.Texts.read c.args.sid.number c.args.now c.args.others.now (message_of c.args.frame.now)) f (spot c.args.registry.now.entries (g.F.Files.state c.args.files.now).shelf c.args.phase.now c.args.owners.now (g.L.Lines.traffic c.args.lines.now)) (spot c.on_frame.new.registry.entries (g.F.Files.state c.on_frame.new.files).shelf c.on_frame.new.phase c.on_frame.new.owners (g.L.Lines.traffic c.on_frame.new.lines))) c.in-Err-Files.field-0-is c.in-Err-Files.ensures.stopped;
  ended = gave_up_since g.F.Files.observable g.L.Lines.observable (g.R.Rules.setting c.args.rules.now) g.T.Texts.read c.args.sid.number c.args.now (g.L.Lines.counts c.on_frame.new.lines) (g.L.Lines.counts c.give_up.new.lines) (g.L.Lines.counts c.args.lines.now)
      (spot c.on_frame.new.registry.entries (g.F.Files.state c.on_frame.new.files).shelf c.on_frame.new.phase c.on_frame.new.owners (g.L.Lines.traffic c.on_frame.new.lines))
      (spot c.give_up.new.registry.entries (g.F.Files.state c.give_up.new.files).shelf c.give_up.new.phase c.give_up.new.owners (g.L.Lines.traffic c.give_up.new.lines))
      c.on_frame.ensures.advanced.lines_later c.in-Ok-give_up.ensures.done;
}

pub returns-in-Ok-on_end-clause-crash : goal.returns-in-Ok-on_end-clause-crash
returns-in-Ok-on_end-clause-crash g c = λ told files_told node is.
    let last : Begun = begun_at (g.R.Rules.setting c.args.rules.now) g.T.Texts.read c.args.sid.number c.args.now row_end (spot c.on_frame.new.registry.entries (g.F.Files.state c.on_frame.new.files).shelf c.on_frame.new.phase c.on_frame.new.owners (g.L.Lines.traffic c.on_frame.new.lines)) in
    frame_then (the_case g.F.Files.observable g.L.Lines.observable (g.R.Rules.setting c.args.rules.now) g.T.Texts.read c.args.sid.number c.args.now c.args.others.now (message_of c.args.frame.now))
    (spot c.args.registry.now.entries (g.F.Files.state c.args.files.now).shelf c.args.phase.now c.args.owners.now (g.L.Lines.traffic c.args.lines.now)) node (last ∷ [])
    (JointAt (g.D.Disk.state c.args.disk.now) (g.F.Files.state c.args.files.now)) (JointAt (g.D.Disk.state c.on_frame.new.disk) (g.F.Files.state c.on_frame.new.files)) (JointAt (g.D.Disk.state c.on_end.new.disk) (g.F.Files.state c.on_end.new.files)) c.args.beat.now c.on_frame.new.beat c.on_frame.ensures.advanced.beat
    (c.in-Err-Line.ensures.crash told files_told node is)
    (lost_in_it (subst (λ (f : Fault). CutOff (the_case g.F.Files.observable g.L.Lines.observable (g.R.Rules.setting c.args.rules.now) g.T.Texts.read c.args.sid.number c.args.now c.args.others.now (message_of c.args.frame.now)) f (spot c.args.registry.now.entries (g.F.Files.state c.args.files.now).shelf c.args.phase.now c.args.owners.now (g.L.Lines.traffic c.args.lines.now)) (spot c.on_frame.new.registry.entries (g.F.Files.state c.on_frame.new.files).shelf c.on_frame.new.phase c.on_frame.new.owners (g.L.Lines.traffic c.on_frame.new.lines))) c.in-Err-Line.field-0-is c.in-Err-Line.ensures.stopped)
    (is_begun g.F.Files.observable g.L.Lines.observable (g.R.Rules.setting c.args.rules.now) g.T.Texts.read c.args.sid.number c.args.now row_end (spot c.on_frame.new.registry.entries (g.F.Files.state c.on_frame.new.files).shelf c.on_frame.new.phase c.on_frame.new.owners (g.L.Lines.traffic c.on_frame.new.lines))))
    (begun_moments g.F.Files.observable g.L.Lines.observable (g.R.Rules.setting c.args.rules.now) g.T.Texts.read c.args.sid.number c.args.now row_end (spot c.on_frame.new.registry.entries (g.F.Files.state c.on_frame.new.files).shelf c.on_frame.new.phase c.on_frame.new.owners (g.L.Lines.traffic c.on_frame.new.lines)) (JointAt (g.D.Disk.state c.on_frame.new.disk) (g.F.Files.state c.on_frame.new.files)) (JointAt (g.D.Disk.state c.on_end.new.disk) (g.F.Files.state c.on_end.new.files)) c.on_frame.new.beat (c.on_end.ensures.moments told files_told))

pub returns-in-Err-on_end-clause-crash : goal.returns-in-Err-on_end-clause-crash
returns-in-Err-on_end-clause-crash g c = λ told files_told node is.
    let last : Begun = begun_at (g.R.Rules.setting c.args.rules.now) g.T.Texts.read c.args.sid.number c.args.now row_end (spot c.on_frame.new.registry.entries (g.F.Files.state c.on_frame.new.files).shelf c.on_frame.new.phase c.on_frame.new.owners (g.L.Lines.traffic c.on_frame.new.lines)) in
    frame_then (the_case g.F.Files.observable g.L.Lines.observable (g.R.Rules.setting c.args.rules.now) g.T.Texts.read c.args.sid.number c.args.now c.args.others.now (message_of c.args.frame.now))
    (spot c.args.registry.now.entries (g.F.Files.state c.args.files.now).shelf c.args.phase.now c.args.owners.now (g.L.Lines.traffic c.args.lines.now)) node (last ∷ [])
    (JointAt (g.D.Disk.state c.args.disk.now) (g.F.Files.state c.args.files.now)) (JointAt (g.D.Disk.state c.on_frame.new.disk) (g.F.Files.state c.on_frame.new.files)) (JointAt (g.D.Disk.state c.on_end.new.disk) (g.F.Files.state c.on_end.new.files)) c.args.beat.now c.on_frame.new.beat c.on_frame.ensures.advanced.beat
    (c.in-Err-Line.ensures.crash told files_told node is)
    (lost_in_it (subst (λ (f : Fault). CutOff (the_case g.F.Files.observable g.L.Lines.observable (g.R.Rules.setting c.args.rules.now) g.T.Texts.read c.args.sid.number c.args.now c.args.others.now (message_of c.args.frame.now)) f (spot c.args.registry.now.entries (g.F.Files.state c.args.files.now).shelf c.args.phase.now c.args.owners.now (g.L.Lines.traffic c.args.lines.now)) (spot c.on_frame.new.registry.entries (g.F.Files.state c.on_frame.new.files).shelf c.on_frame.new.phase c.on_frame.new.owners (g.L.Lines.traffic c.on_frame.new.lines))) c.in-Err-Line.field-0-is c.in-Err-Line.ensures.stopped)
    (is_begun g.F.Files.observable g.L.Lines.observable (g.R.Rules.setting c.args.rules.now) g.T.Texts.read c.args.sid.number c.args.now row_end (spot c.on_frame.new.registry.entries (g.F.Files.state c.on_frame.new.files).shelf c.on_frame.new.phase c.on_frame.new.owners (g.L.Lines.traffic c.on_frame.new.lines))))
    (begun_moments g.F.Files.observable g.L.Lines.observable (g.R.Rules.setting c.args.rules.now) g.T.Texts.read c.args.sid.number c.args.now row_end (spot c.on_frame.new.registry.entries (g.F.Files.state c.on_frame.new.files).shelf c.on_frame.new.phase c.on_frame.new.owners (g.L.Lines.traffic c.on_frame.new.lines)) (JointAt (g.D.Disk.state c.on_frame.new.disk) (g.F.Files.state c.on_frame.new.files)) (JointAt (g.D.Disk.state c.on_end.new.disk) (g.F.Files.state c.on_end.new.files)) c.on_frame.new.beat (c.on_end.ensures.moments told files_told))

pub returns-in-Ok-give_up-clause-crash : goal.returns-in-Ok-give_up-clause-crash
returns-in-Ok-give_up-clause-crash g c = λ told files_told node is.
    let more = c.give_up.ensures.crash told files_told in
    frame_then (the_case g.F.Files.observable g.L.Lines.observable (g.R.Rules.setting c.args.rules.now) g.T.Texts.read c.args.sid.number c.args.now c.args.others.now (message_of c.args.frame.now))
    (spot c.args.registry.now.entries (g.F.Files.state c.args.files.now).shelf c.args.phase.now c.args.owners.now (g.L.Lines.traffic c.args.lines.now)) node more.rows
    (JointAt (g.D.Disk.state c.args.disk.now) (g.F.Files.state c.args.files.now)) (JointAt (g.D.Disk.state c.on_frame.new.disk) (g.F.Files.state c.on_frame.new.files)) (JointAt (g.D.Disk.state c.give_up.new.disk) (g.F.Files.state c.give_up.new.files)) c.args.beat.now c.on_frame.new.beat c.on_frame.ensures.advanced.beat
    (c.in-Err-Files.ensures.crash told files_told node is)
    (trouble_in_it (subst (λ (f : Fault). CutOff (the_case g.F.Files.observable g.L.Lines.observable (g.R.Rules.setting c.args.rules.now) g.T.Texts.read c.args.sid.number c.args.now c.args.others.now (message_of c.args.frame.now)) f (spot c.args.registry.now.entries (g.F.Files.state c.args.files.now).shelf c.args.phase.now c.args.owners.now (g.L.Lines.traffic c.args.lines.now)) (spot c.on_frame.new.registry.entries (g.F.Files.state c.on_frame.new.files).shelf c.on_frame.new.phase c.on_frame.new.owners (g.L.Lines.traffic c.on_frame.new.lines))) c.in-Err-Files.field-0-is c.in-Err-Files.ensures.stopped) more.are)
    more.moments

pub returns-in-Err-give_up-clause-crash : goal.returns-in-Err-give_up-clause-crash
returns-in-Err-give_up-clause-crash g c = λ told files_told node is.
    let more = c.give_up.ensures.crash told files_told in
    frame_then (the_case g.F.Files.observable g.L.Lines.observable (g.R.Rules.setting c.args.rules.now) g.T.Texts.read c.args.sid.number c.args.now c.args.others.now (message_of c.args.frame.now))
    (spot c.args.registry.now.entries (g.F.Files.state c.args.files.now).shelf c.args.phase.now c.args.owners.now (g.L.Lines.traffic c.args.lines.now)) node more.rows
    (JointAt (g.D.Disk.state c.args.disk.now) (g.F.Files.state c.args.files.now)) (JointAt (g.D.Disk.state c.on_frame.new.disk) (g.F.Files.state c.on_frame.new.files)) (JointAt (g.D.Disk.state c.give_up.new.disk) (g.F.Files.state c.give_up.new.files)) c.args.beat.now c.on_frame.new.beat c.on_frame.ensures.advanced.beat
    (c.in-Err-Files.ensures.crash told files_told node is)
    (trouble_in_it (subst (λ (f : Fault). CutOff (the_case g.F.Files.observable g.L.Lines.observable (g.R.Rules.setting c.args.rules.now) g.T.Texts.read c.args.sid.number c.args.now c.args.others.now (message_of c.args.frame.now)) f (spot c.args.registry.now.entries (g.F.Files.state c.args.files.now).shelf c.args.phase.now c.args.owners.now (g.L.Lines.traffic c.args.lines.now)) (spot c.on_frame.new.registry.entries (g.F.Files.state c.on_frame.new.files).shelf c.on_frame.new.phase c.on_frame.new.owners (g.L.Lines.traffic c.on_frame.new.lines))) c.in-Err-Files.field-0-is c.in-Err-Files.ensures.stopped) more.are)
    more.moments

pub returns-in-Ok-clause-crash : goal.returns-in-Ok-clause-crash
returns-in-Ok-clause-crash g c = λ told files_told node is. frame_alone (the_case g.F.Files.observable g.L.Lines.observable (g.R.Rules.setting c.args.rules.now) g.T.Texts.read c.args.sid.number c.args.now c.args.others.now (message_of c.args.frame.now))
    (spot c.args.registry.now.entries (g.F.Files.state c.args.files.now).shelf c.args.phase.now c.args.owners.now (g.L.Lines.traffic c.args.lines.now)) node (answers_of c.args.now c.in-Ok.field-0 c.on_frame.new.buffer.items)
    (JointAt (g.D.Disk.state c.args.disk.now) (g.F.Files.state c.args.files.now)) (JointAt (g.D.Disk.state c.on_frame.new.disk) (g.F.Files.state c.on_frame.new.files)) c.args.beat.now refl (c.in-Ok.ensures.moments told files_told node is)

pub returns-in-Err-clause-crash : goal.returns-in-Err-clause-crash
returns-in-Err-clause-crash g c = λ told files_told node is.
    let may = c.in-Err.ensures.crash told files_told node is in
    frame_alone (the_case g.F.Files.observable g.L.Lines.observable (g.R.Rules.setting c.args.rules.now) g.T.Texts.read c.args.sid.number c.args.now c.args.others.now (message_of c.args.frame.now))
    (spot c.args.registry.now.entries (g.F.Files.state c.args.files.now).shelf c.args.phase.now c.args.owners.now (g.L.Lines.traffic c.args.lines.now)) node may.answers
    (JointAt (g.D.Disk.state c.args.disk.now) (g.F.Files.state c.args.files.now)) (JointAt (g.D.Disk.state c.on_frame.new.disk) (g.F.Files.state c.on_frame.new.files)) c.args.beat.now may.moment may.moments

pub on_end-requires-clause-home : goal.on_end-requires-clause-home
on_end-requires-clause-home g c = open_again c.requires.home c.in-Err-Line.ensures.home (not_disk c.in-Err-Line.field-0 fault.Line c.in-Err-Line.field-0-is (λ h. let k : ⊥ = cc in k)) c.on_frame.ensures.advanced.last

pub give_up-requires-clause-home : goal.give_up-requires-clause-home
give_up-requires-clause-home g c = open_again c.requires.home c.in-Err-Files.ensures.home (not_disk c.in-Err-Files.field-0 fault.Files c.in-Err-Files.field-0-is (λ h. let k : ⊥ = cc in k)) c.on_frame.ensures.advanced.last

pub returns-in-Ok-clause-home : goal.returns-in-Ok-clause-home
returns-in-Ok-clause-home g c = c.in-Ok.ensures.home

pub returns-in-Ok-clause-cause : goal.returns-in-Ok-clause-cause
returns-in-Ok-clause-cause g c = c.in-Ok.ensures.cause

pub returns-in-Ok-clause-advanced : goal.returns-in-Ok-clause-advanced
returns-in-Ok-clause-advanced g c = c.on_frame.ensures.advanced

pub returns-in-Ok-on_end-clause-home : goal.returns-in-Ok-on_end-clause-home
returns-in-Ok-on_end-clause-home g c = c.in-Ok-on_end.ensures.home

pub returns-in-Ok-on_end-clause-cause : goal.returns-in-Ok-on_end-clause-cause
returns-in-Ok-on_end-clause-cause g c = cause_since c.on_frame.ensures.advanced c.in-Ok-on_end.ensures.cause

pub returns-in-Ok-on_end-clause-advanced : goal.returns-in-Ok-on_end-clause-advanced
returns-in-Ok-on_end-clause-advanced g c = advanced_then c.on_frame.ensures.advanced c.on_end.ensures.advanced

pub returns-in-Ok-give_up-clause-home : goal.returns-in-Ok-give_up-clause-home
returns-in-Ok-give_up-clause-home g c = c.in-Ok-give_up.ensures.home

pub returns-in-Ok-give_up-clause-cause : goal.returns-in-Ok-give_up-clause-cause
returns-in-Ok-give_up-clause-cause g c = cause_since c.on_frame.ensures.advanced c.in-Ok-give_up.ensures.cause

pub returns-in-Ok-give_up-clause-advanced : goal.returns-in-Ok-give_up-clause-advanced
returns-in-Ok-give_up-clause-advanced g c = advanced_then c.on_frame.ensures.advanced c.give_up.ensures.advanced

pub returns-in-Err-clause-home : goal.returns-in-Err-clause-home
returns-in-Err-clause-home g c = c.in-Err.ensures.home

pub returns-in-Err-clause-cause : goal.returns-in-Err-clause-cause
returns-in-Err-clause-cause g c = c.in-Err.ensures.cause

pub returns-in-Err-clause-advanced : goal.returns-in-Err-clause-advanced
returns-in-Err-clause-advanced g c = c.on_frame.ensures.advanced

pub returns-in-Err-on_end-clause-home : goal.returns-in-Err-on_end-clause-home
returns-in-Err-on_end-clause-home g c = c.in-Err-on_end.ensures.home

pub returns-in-Err-on_end-clause-cause : goal.returns-in-Err-on_end-clause-cause
returns-in-Err-on_end-clause-cause g c = cause_since c.on_frame.ensures.advanced c.in-Err-on_end.ensures.cause

pub returns-in-Err-on_end-clause-advanced : goal.returns-in-Err-on_end-clause-advanced
returns-in-Err-on_end-clause-advanced g c = advanced_then c.on_frame.ensures.advanced c.on_end.ensures.advanced

pub returns-in-Err-give_up-clause-home : goal.returns-in-Err-give_up-clause-home
returns-in-Err-give_up-clause-home g c = c.in-Err-give_up.ensures.home

pub returns-in-Err-give_up-clause-cause : goal.returns-in-Err-give_up-clause-cause
returns-in-Err-give_up-clause-cause g c = cause_since c.on_frame.ensures.advanced c.in-Err-give_up.ensures.cause

pub returns-in-Err-give_up-clause-advanced : goal.returns-in-Err-give_up-clause-advanced
returns-in-Err-give_up-clause-advanced g c = advanced_then c.on_frame.ensures.advanced c.give_up.ensures.advanced
