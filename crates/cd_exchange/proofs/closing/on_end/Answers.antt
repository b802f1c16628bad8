use Rattle.std.proofs.Common.{inr, List, map, subst, refl, ◌≡◌, Some, Err, ap}
use Rattle.cd_outside.specs.Moments.{Moments}
use Rattle.cd_protocol.specs.Closing.{close}
use Rattle.cd_protocol.specs.Node.{Effect}
use Rattle.cd_protocol.specs.Rows.{row_end}
use Rattle.cd_protocol.specs.Seen.{seen_effect}
use Rattle.cd_effects.specs.Joint.{JointAt, IsWithin}
use Rattle.cd_effects.specs.Stands.{spot, WereDone, WereCut}
use Rattle.cd_effects.specs.declared.fault.Fault.{Fault}
use Rattle.cd_effects.specs.declared.fault.Fault.TheVariants as fault
use Rattle.cd_exchange.proofs.Crash.{nothing_moves}
use Rattle.cd_exchange.proofs.Ends.{ends_is, ends_fit, close_may, none_stopped, close_fault}
use Rattle.cd_exchange.specs.Question.{view_with}
use Rattle.cd_exchange.proofs.Reactions.{done_legal, done_on_time, cut_legal, cut_on_time}
use Rattle.cd_exchange.proofs.OpenLaw.{stays_still, advanced_none, no_cause, no_cause_memory}
use Rattle.cd_exchange.proofs.closing.on_end.Goals as goal

pub perform-requires-clause-allowed : goal.perform-requires-clause-allowed
perform-requires-clause-allowed g c = (
  c.args.now,
  (ends_fit (g.R.Rules.setting c.args.rules.now) g.T.Texts.read c.args.now close c.book.result.now.entries (map seen_effect c.in-Ok.effects.items) c.args.registry.now.entries c.args.phase.now c.book.ensures c.in-Ok.ensures.effects
      (close_may (g.R.Rules.setting c.args.rules.now) g.T.Texts.read c.requires.priorities c.args.now c.args.registry.now.entries c.args.phase.now c.requires.home.journal.legal c.requires.home.journal.on_time)),
)

pub returns-in-Ok-perform-clause-done : goal.returns-in-Ok-perform-clause-done
returns-in-Ok-perform-clause-done g c = λ node is.
    subst (λ (ds : List Effect). WereDone g.F.Files.observable g.L.Lines.observable c.args.sid.number ds
    (spot c.args.registry.now.entries (g.F.Files.state c.args.files.now).shelf c.args.phase.now c.args.owners.now (g.L.Lines.traffic c.args.lines.now))
    (spot c.perform.new.registry.entries (g.F.Files.state c.perform.new.files).shelf c.perform.new.phase c.perform.new.owners (g.L.Lines.traffic c.perform.new.lines)))
    (ends_is (g.R.Rules.setting c.args.rules.now) g.T.Texts.read c.args.now close c.book.result.now.entries (map seen_effect c.in-Ok.effects.items) g.F.Files.observable c.args.sid.number node
    (spot c.args.registry.now.entries (g.F.Files.state c.args.files.now).shelf c.args.phase.now c.args.owners.now (g.L.Lines.traffic c.args.lines.now))
    is c.book.ensures c.in-Ok.ensures.effects)
    c.in-Ok-perform.ensures.done

pub returns-in-Err-perform-clause-stopped : goal.returns-in-Err-perform-clause-stopped
returns-in-Err-perform-clause-stopped g c = λ node is. inr
    (subst (λ (ds : List Effect). WereCut g.F.Files.observable g.L.Lines.observable c.args.sid.number ds c.in-Err-perform.fault
    (spot c.args.registry.now.entries (g.F.Files.state c.args.files.now).shelf c.args.phase.now c.args.owners.now (g.L.Lines.traffic c.args.lines.now))
    (spot c.perform.new.registry.entries (g.F.Files.state c.perform.new.files).shelf c.perform.new.phase c.perform.new.owners (g.L.Lines.traffic c.perform.new.lines)))
    (ends_is (g.R.Rules.setting c.args.rules.now) g.T.Texts.read c.args.now close c.book.result.now.entries (map seen_effect c.in-Ok.effects.items) g.F.Files.observable c.args.sid.number node
    (spot c.args.registry.now.entries (g.F.Files.state c.args.files.now).shelf c.args.phase.now c.args.owners.now (g.L.Lines.traffic c.args.lines.now))
    is c.book.ensures c.in-Ok.ensures.effects)
    c.in-Err-perform.ensures.cut)

pub returns-in-Err-clause-stopped : goal.returns-in-Err-clause-stopped
returns-in-Err-clause-stopped g c = λ node is.
    none_stopped g.F.Files.observable g.L.Lines.observable c.args.sid.number (row_end node c.args.sid.number c.args.now) fault.NoMemory
    (spot c.args.registry.now.entries (g.F.Files.state c.args.files.now).shelf c.args.phase.now c.args.owners.now (g.L.Lines.traffic c.args.lines.now))
    tt

pub returns-in-Ok-perform-clause-moments : goal.returns-in-Ok-perform-clause-moments
returns-in-Ok-perform-clause-moments g c = λ told files_told node is.
    subst (λ (ds : List Effect). Moments (JointAt (g.D.Disk.state c.args.disk.now) (g.F.Files.state c.args.files.now)) (JointAt (g.D.Disk.state c.perform.new.disk) (g.F.Files.state c.perform.new.files)) c.args.beat.now (IsWithin c.args.sid.number ds node))
    (ends_is (g.R.Rules.setting c.args.rules.now) g.T.Texts.read c.args.now close c.book.result.now.entries (map seen_effect c.in-Ok.effects.items) g.F.Files.observable c.args.sid.number node
    (spot c.args.registry.now.entries (g.F.Files.state c.args.files.now).shelf c.args.phase.now c.args.owners.now (g.L.Lines.traffic c.args.lines.now))
    is c.book.ensures c.in-Ok.ensures.effects)
    (c.perform.ensures.moments told files_told node is.stands)

pub returns-in-Err-perform-clause-moments : goal.returns-in-Err-perform-clause-moments
returns-in-Err-perform-clause-moments g c = λ told files_told node is.
    subst (λ (ds : List Effect). Moments (JointAt (g.D.Disk.state c.args.disk.now) (g.F.Files.state c.args.files.now)) (JointAt (g.D.Disk.state c.perform.new.disk) (g.F.Files.state c.perform.new.files)) c.args.beat.now (IsWithin c.args.sid.number ds node))
    (ends_is (g.R.Rules.setting c.args.rules.now) g.T.Texts.read c.args.now close c.book.result.now.entries (map seen_effect c.in-Ok.effects.items) g.F.Files.observable c.args.sid.number node
    (spot c.args.registry.now.entries (g.F.Files.state c.args.files.now).shelf c.args.phase.now c.args.owners.now (g.L.Lines.traffic c.args.lines.now))
    is c.book.ensures c.in-Ok.ensures.effects)
    (c.perform.ensures.moments told files_told node is.stands)

pub returns-in-Err-clause-moments : goal.returns-in-Err-clause-moments
returns-in-Err-clause-moments g c = λ told files_told node is.
    nothing_moves c.args.sid.number (row_end node c.args.sid.number c.args.now) node c.args.registry.now (g.D.Disk.state c.args.disk.now) (g.F.Files.state c.args.files.now) (g.F.Files.state c.args.files.now) c.args.beat.now
    refl is.stands.journal (is.stands.shelf files_told) (c.requires.home.journal.registry told) (c.requires.home.journal.order told) (c.requires.home.files_order files_told)

pub returns-in-Err-perform-clause-fault : goal.returns-in-Err-perform-clause-fault
returns-in-Err-perform-clause-fault g c =
    close_fault g.F.Files.observable g.L.Lines.observable c.args.sid.number (map seen_effect c.in-Ok.effects.items) c.in-Err-perform.fault
    (spot c.args.registry.now.entries (g.F.Files.state c.args.files.now).shelf c.args.phase.now c.args.owners.now (g.L.Lines.traffic c.args.lines.now))
    (spot c.perform.new.registry.entries (g.F.Files.state c.perform.new.files).shelf c.perform.new.phase c.perform.new.owners (g.L.Lines.traffic c.perform.new.lines))
    (view_with (g.R.Rules.setting c.args.rules.now) g.T.Texts.read c.book.result.now.entries) c.args.now c.args.phase.now c.in-Ok.ensures.effects c.in-Err-perform.ensures.cut

pub perform-requires-clause-header : goal.perform-requires-clause-header
perform-requires-clause-header g c = c.requires.home.journal.header

pub perform-requires-clause-sound : goal.perform-requires-clause-sound
perform-requires-clause-sound g c = c.requires.home.journal.sound

pub perform-requires-clause-registry : goal.perform-requires-clause-registry
perform-requires-clause-registry g c = c.requires.home.journal.registry

pub perform-requires-clause-order : goal.perform-requires-clause-order
perform-requires-clause-order g c = c.requires.home.journal.order

pub perform-requires-clause-files_order : goal.perform-requires-clause-files_order
perform-requires-clause-files_order g c = c.requires.home.files_order

pub perform-requires-clause-from : goal.perform-requires-clause-from
perform-requires-clause-from g c = c.requires.home.from

pub perform-requires-clause-to : goal.perform-requires-clause-to
perform-requires-clause-to g c = c.requires.home.to

pub returns-in-Ok-perform-clause-home : goal.returns-in-Ok-perform-clause-home
returns-in-Ok-perform-clause-home g c = record {
  journal = record {
    legal = done_legal (g.R.Rules.setting c.args.rules.now) g.T.Texts.read c.requires.priorities c.args.now g.F.Files.observable g.L.Lines.observable c.args.sid.number (map seen_effect c.in-Ok.effects.items)
        (spot c.args.registry.now.entries (g.F.Files.state c.args.files.now).shelf c.args.phase.now c.args.owners.now (g.L.Lines.traffic c.args.lines.now))
        (spot c.perform.new.registry.entries (g.F.Files.state c.perform.new.files).shelf c.perform.new.phase c.perform.new.owners (g.L.Lines.traffic c.perform.new.lines))
        c.requires.home.journal.legal (ends_fit (g.R.Rules.setting c.args.rules.now) g.T.Texts.read c.args.now close c.book.result.now.entries (map seen_effect c.in-Ok.effects.items) c.args.registry.now.entries c.args.phase.now c.book.ensures c.in-Ok.ensures.effects
        (close_may (g.R.Rules.setting c.args.rules.now) g.T.Texts.read c.requires.priorities c.args.now c.args.registry.now.entries c.args.phase.now c.requires.home.journal.legal c.requires.home.journal.on_time)) c.in-Ok-perform.ensures.done;
    on_time = done_on_time (g.R.Rules.setting c.args.rules.now) g.T.Texts.read c.requires.priorities c.args.now g.F.Files.observable g.L.Lines.observable c.args.sid.number (map seen_effect c.in-Ok.effects.items)
        (spot c.args.registry.now.entries (g.F.Files.state c.args.files.now).shelf c.args.phase.now c.args.owners.now (g.L.Lines.traffic c.args.lines.now))
        (spot c.perform.new.registry.entries (g.F.Files.state c.perform.new.files).shelf c.perform.new.phase c.perform.new.owners (g.L.Lines.traffic c.perform.new.lines))
        c.requires.home.journal.on_time (ends_fit (g.R.Rules.setting c.args.rules.now) g.T.Texts.read c.args.now close c.book.result.now.entries (map seen_effect c.in-Ok.effects.items) c.args.registry.now.entries c.args.phase.now c.book.ensures c.in-Ok.ensures.effects
        (close_may (g.R.Rules.setting c.args.rules.now) g.T.Texts.read c.requires.priorities c.args.now c.args.registry.now.entries c.args.phase.now c.requires.home.journal.legal c.requires.home.journal.on_time)) c.in-Ok-perform.ensures.done;
    header = c.in-Ok-perform.ensures.header;
    sound = λ other. c.in-Ok-perform.ensures.sound (λ h. let k : ⊥ = cc in k);
    registry = λ told other. c.in-Ok-perform.ensures.registry told (λ h. let k : ⊥ = cc in k);
    order = c.in-Ok-perform.ensures.order;
    full = λ len h. let k : ⊥ = cc in absurd k;
  };
  files_order = c.in-Ok-perform.ensures.files_order;
}

pub returns-in-Err-perform-clause-home : goal.returns-in-Err-perform-clause-home
returns-in-Err-perform-clause-home g c = record {
  journal = record {
    legal = cut_legal (g.R.Rules.setting c.args.rules.now) g.T.Texts.read c.requires.priorities c.args.now g.F.Files.observable g.L.Lines.observable c.args.sid.number (map seen_effect c.in-Ok.effects.items) c.in-Err-perform.fault
        (spot c.args.registry.now.entries (g.F.Files.state c.args.files.now).shelf c.args.phase.now c.args.owners.now (g.L.Lines.traffic c.args.lines.now))
        (spot c.perform.new.registry.entries (g.F.Files.state c.perform.new.files).shelf c.perform.new.phase c.perform.new.owners (g.L.Lines.traffic c.perform.new.lines))
        c.requires.home.journal.legal (ends_fit (g.R.Rules.setting c.args.rules.now) g.T.Texts.read c.args.now close c.book.result.now.entries (map seen_effect c.in-Ok.effects.items) c.args.registry.now.entries c.args.phase.now c.book.ensures c.in-Ok.ensures.effects
        (close_may (g.R.Rules.setting c.args.rules.now) g.T.Texts.read c.requires.priorities c.args.now c.args.registry.now.entries c.args.phase.now c.requires.home.journal.legal c.requires.home.journal.on_time)) c.in-Err-perform.ensures.cut;
    on_time = cut_on_time (g.R.Rules.setting c.args.rules.now) g.T.Texts.read c.requires.priorities c.args.now g.F.Files.observable g.L.Lines.observable c.args.sid.number (map seen_effect c.in-Ok.effects.items) c.in-Err-perform.fault
        (spot c.args.registry.now.entries (g.F.Files.state c.args.files.now).shelf c.args.phase.now c.args.owners.now (g.L.Lines.traffic c.args.lines.now))
        (spot c.perform.new.registry.entries (g.F.Files.state c.perform.new.files).shelf c.perform.new.phase c.perform.new.owners (g.L.Lines.traffic c.perform.new.lines))
        c.requires.home.journal.on_time (ends_fit (g.R.Rules.setting c.args.rules.now) g.T.Texts.read c.args.now close c.book.result.now.entries (map seen_effect c.in-Ok.effects.items) c.args.registry.now.entries c.args.phase.now c.book.ensures c.in-Ok.ensures.effects
        (close_may (g.R.Rules.setting c.args.rules.now) g.T.Texts.read c.requires.priorities c.args.now c.args.registry.now.entries c.args.phase.now c.requires.home.journal.legal c.requires.home.journal.on_time)) c.in-Err-perform.ensures.cut;
    header = c.in-Err-perform.ensures.header;
    sound = λ other. c.in-Err-perform.ensures.sound (λ h. let is : c.in-Err-perform.fault ≡ fault.Disk = cc in other (ap (λ (f : Fault). Some f) is));
    registry = λ told other. c.in-Err-perform.ensures.registry told (λ h. let is : c.in-Err-perform.fault ≡ fault.Disk = cc in other (ap (λ (f : Fault). Some f) is));
    order = c.in-Err-perform.ensures.order;
    full = λ len h. c.in-Err-perform.ensures.full len (let is : c.in-Err-perform.fault ≡ fault.JournalFull len = cc in ap (λ (f : Fault). Err f) is);
  };
  files_order = c.in-Err-perform.ensures.files_order;
}

pub returns-in-Err-clause-home : goal.returns-in-Err-clause-home
returns-in-Err-clause-home g c = stays_still c.requires.home

pub returns-in-Ok-perform-clause-cause : goal.returns-in-Ok-perform-clause-cause
returns-in-Ok-perform-clause-cause g c = no_cause

pub returns-in-Err-perform-clause-cause : goal.returns-in-Err-perform-clause-cause
returns-in-Err-perform-clause-cause g c = record {
  disk = λ h. c.in-Err-perform.ensures.disk (let is : c.in-Err-perform.fault ≡ fault.Disk = cc in ap (λ (f : Fault). Err f) is);
  files = λ h. c.in-Err-perform.ensures.files (let is : c.in-Err-perform.fault ≡ fault.Files = cc in ap (λ (f : Fault). Err f) is);
  line = λ h. c.in-Err-perform.ensures.line (let is : c.in-Err-perform.fault ≡ fault.Line = cc in ap (λ (f : Fault). Err f) is);
}

pub returns-in-Err-clause-cause : goal.returns-in-Err-clause-cause
returns-in-Err-clause-cause g c = no_cause_memory

pub returns-in-Ok-perform-clause-advanced : goal.returns-in-Ok-perform-clause-advanced
returns-in-Ok-perform-clause-advanced g c = record {
  beat = c.in-Ok-perform.ensures.beat;
  last = c.in-Ok-perform.ensures.last;
  disk_later = c.in-Ok-perform.ensures.disk_later;
  files_later = c.in-Ok-perform.ensures.files_later;
  lines_later = c.in-Ok-perform.ensures.lines_later;
  nones = c.in-Ok-perform.ensures.nones;
}

pub returns-in-Err-perform-clause-advanced : goal.returns-in-Err-perform-clause-advanced
returns-in-Err-perform-clause-advanced g c = record {
  beat = c.in-Err-perform.ensures.beat;
  last = c.in-Err-perform.ensures.last;
  disk_later = c.in-Err-perform.ensures.disk_later;
  files_later = c.in-Err-perform.ensures.files_later;
  lines_later = c.in-Err-perform.ensures.lines_later;
  nones = c.in-Err-perform.ensures.nones;
}

pub returns-in-Err-clause-advanced : goal.returns-in-Err-clause-advanced
returns-in-Err-clause-advanced g c = advanced_none _
