use Rattle.std.proofs.Common.{◌≡◌, ℕ, None, [], refl, sym, subst, Some, Err, ap}
use Rattle.cd_frames.specs.Message.{message_of}
use Rattle.cd_protocol.specs.Rows.{most_reactions, all_reactions, first_reaction, row}
use Rattle.cd_outside.specs.Moments.{Moments}
use Rattle.cd_protocol.specs.Node.{Reaction}
use Rattle.cd_effects.specs.Joint.{JointAt, IsWithin}
use Rattle.cd_exchange.proofs.Crash.{nothing_moves}
use Rattle.cd_protocol.specs.Seen.{seen_reaction}
use Rattle.cd_effects.specs.Stands.{spot}
use Rattle.cd_effects.specs.declared.fault.Fault.{Fault}
use Rattle.cd_effects.specs.declared.fault.Fault.TheVariants as fault
use Rattle.cd_exchange.specs.Question.{answers_of}
use Rattle.cd_exchange.proofs.FirstReaction.{first_is, first_made_fits, frame_done, frame_told, frame_stopped, frame_left}
use Rattle.cd_exchange.proofs.OpenLaw.{stays_still, advanced_none, no_cause, no_cause_memory}
use Rattle.cd_exchange.proofs.frame.on_frame.Goals as goal

pub go_all-requires-clause-allowed : goal.go_all-requires-clause-allowed
go_all-requires-clause-allowed g c =
    first_made_fits (g.R.Rules.setting c.args.rules.now) g.T.Texts.read c.requires.priorities c.args.now c.args.registry.now.entries c.book.result.now.entries c.args.sid.number c.args.phase.now c.args.others.now c.args.owners.now
    (message_of c.args.frame.now) (seen_reaction c.in-Ok.reaction) c.book.ensures c.in-Ok.ensures.reaction c.requires.home.journal.legal c.requires.home.journal.on_time

pub returns-in-Ok-go_all-clause-done : goal.returns-in-Ok-go_all-clause-done
returns-in-Ok-go_all-clause-done g c =
    frame_done g.F.Files.observable g.L.Lines.observable (g.R.Rules.setting c.args.rules.now) g.T.Texts.read c.args.sid.number c.args.others.now (message_of c.args.frame.now) (seen_reaction c.in-Ok.reaction) c.book.result.now.entries
    (answers_of c.args.now c.in-Ok-go_all.given c.go_all.new.buffer.items)
    (spot c.args.registry.now.entries (g.F.Files.state c.args.files.now).shelf c.args.phase.now c.args.owners.now (g.L.Lines.traffic c.args.lines.now))
    (spot c.go_all.new.registry.entries (g.F.Files.state c.go_all.new.files).shelf c.go_all.new.phase c.go_all.new.owners (g.L.Lines.traffic c.go_all.new.lines))
    c.book.ensures c.in-Ok.ensures.reaction c.in-Ok-go_all.ensures.done

pub returns-in-Ok-go_all-clause-told : goal.returns-in-Ok-go_all-clause-told
returns-in-Ok-go_all-clause-told g c = λ told.
    frame_told g.F.Files.observable g.L.Lines.observable (g.R.Rules.setting c.args.rules.now) g.T.Texts.read c.args.sid.number c.args.others.now (message_of c.args.frame.now) (seen_reaction c.in-Ok.reaction) c.book.result.now.entries
    (answers_of c.args.now c.in-Ok-go_all.given c.go_all.new.buffer.items)
    (spot c.args.registry.now.entries (g.F.Files.state c.args.files.now).shelf c.args.phase.now c.args.owners.now (g.L.Lines.traffic c.args.lines.now))
    c.book.ensures c.in-Ok.ensures.reaction (c.in-Ok-go_all.ensures.told told)

pub returns-in-Err-clause-stopped : goal.returns-in-Err-clause-stopped
returns-in-Err-clause-stopped g c =
    frame_left g.F.Files.observable g.L.Lines.observable (g.R.Rules.setting c.args.rules.now) g.T.Texts.read c.args.sid.number c.args.now c.args.others.now (message_of c.args.frame.now) (answers_of c.args.now (record { there = None; source = None }) []) fault.NoMemory
    (spot c.args.registry.now.entries (g.F.Files.state c.args.files.now).shelf c.args.phase.now c.args.owners.now (g.L.Lines.traffic c.args.lines.now))
    refl tt

pub returns-in-Err-go_all-clause-stopped : goal.returns-in-Err-go_all-clause-stopped
returns-in-Err-go_all-clause-stopped g c =
    frame_stopped g.F.Files.observable g.L.Lines.observable (g.R.Rules.setting c.args.rules.now) g.T.Texts.read c.args.sid.number c.args.others.now (message_of c.args.frame.now) (seen_reaction c.in-Ok.reaction) c.book.result.now.entries (answers_of c.args.now (record { there = None; source = None }) [])
    c.args.now c.in-Err-go_all.fault
    (spot c.args.registry.now.entries (g.F.Files.state c.args.files.now).shelf c.args.phase.now c.args.owners.now (g.L.Lines.traffic c.args.lines.now))
    (spot c.go_all.new.registry.entries (g.F.Files.state c.go_all.new.files).shelf c.go_all.new.phase c.go_all.new.owners (g.L.Lines.traffic c.go_all.new.lines))
    refl c.book.ensures c.in-Ok.ensures.reaction c.in-Err-go_all.ensures.stopped

pub returns-in-Ok-go_all-clause-moments : goal.returns-in-Ok-go_all-clause-moments
returns-in-Ok-go_all-clause-moments g c = λ told files_told node is.
    subst (λ (p : Reaction). Moments (JointAt (g.D.Disk.state c.args.disk.now) (g.F.Files.state c.args.files.now)) (JointAt (g.D.Disk.state c.go_all.new.disk) (g.F.Files.state c.go_all.new.files)) c.args.beat.now (IsWithin c.args.sid.number (all_reactions most_reactions node c.args.sid.number (answers_of c.args.now c.in-Ok-go_all.given c.go_all.new.buffer.items) p) node))
    (first_is g.F.Files.observable g.L.Lines.observable (g.R.Rules.setting c.args.rules.now) g.T.Texts.read c.args.sid.number c.args.others.now (message_of c.args.frame.now) (seen_reaction c.in-Ok.reaction) c.book.result.now.entries (answers_of c.args.now c.in-Ok-go_all.given c.go_all.new.buffer.items) node
    (spot c.args.registry.now.entries (g.F.Files.state c.args.files.now).shelf c.args.phase.now c.args.owners.now (g.L.Lines.traffic c.args.lines.now))
    is c.book.ensures c.in-Ok.ensures.reaction)
    (c.in-Ok-go_all.ensures.moments told files_told node is.so)

pub returns-in-Err-clause-crash : goal.returns-in-Err-clause-crash
returns-in-Err-clause-crash g c = λ told files_told node is. record {
  answers = (answers_of c.args.now (record { there = None; source = None }) []);
  moment = refl;
  moments = nothing_moves c.args.sid.number (row node c.args.sid.number (answers_of c.args.now (record { there = None; source = None }) []) (message_of c.args.frame.now)) node c.args.registry.now (g.D.Disk.state c.args.disk.now) (g.F.Files.state c.args.files.now) (g.F.Files.state c.args.files.now) c.args.beat.now refl is.so.stands.journal (is.so.stands.shelf files_told) (c.requires.home.journal.registry told) (c.requires.home.journal.order told) (c.requires.home.files_order files_told);
}

pub returns-in-Err-go_all-clause-crash : goal.returns-in-Err-go_all-clause-crash
returns-in-Err-go_all-clause-crash g c = λ told files_told node is.
    let left = c.in-Err-go_all.ensures.crash told files_told node is.so in
    record {
      answers = left.answers;
      moment = left.moment;
      moments = subst (λ (p : Reaction). Moments (JointAt (g.D.Disk.state c.args.disk.now) (g.F.Files.state c.args.files.now)) (JointAt (g.D.Disk.state c.go_all.new.disk) (g.F.Files.state c.go_all.new.files)) c.args.beat.now (IsWithin c.args.sid.number (all_reactions most_reactions node c.args.sid.number left.answers p) node))
          (subst (λ (n : ℕ). seen_reaction c.in-Ok.reaction ≡ first_reaction node.view node.sessions n c.args.sid.number (message_of c.args.frame.now)) (sym left.moment)
          (first_is g.F.Files.observable g.L.Lines.observable (g.R.Rules.setting c.args.rules.now) g.T.Texts.read c.args.sid.number c.args.others.now (message_of c.args.frame.now) (seen_reaction c.in-Ok.reaction) c.book.result.now.entries (answers_of c.args.now (record { there = None; source = None }) []) node
          (spot c.args.registry.now.entries (g.F.Files.state c.args.files.now).shelf c.args.phase.now c.args.owners.now (g.L.Lines.traffic c.args.lines.now))
          is c.book.ensures c.in-Ok.ensures.reaction))
          left.moments;
    }

pub go_all-requires-clause-legal : goal.go_all-requires-clause-legal
go_all-requires-clause-legal g c = c.requires.home.journal.legal

pub go_all-requires-clause-on_time : goal.go_all-requires-clause-on_time
go_all-requires-clause-on_time g c = c.requires.home.journal.on_time

pub go_all-requires-clause-header : goal.go_all-requires-clause-header
go_all-requires-clause-header g c = c.requires.home.journal.header

pub go_all-requires-clause-sound : goal.go_all-requires-clause-sound
go_all-requires-clause-sound g c = c.requires.home.journal.sound

pub go_all-requires-clause-registry : goal.go_all-requires-clause-registry
go_all-requires-clause-registry g c = c.requires.home.journal.registry

pub go_all-requires-clause-order : goal.go_all-requires-clause-order
go_all-requires-clause-order g c = c.requires.home.journal.order

pub go_all-requires-clause-files_order : goal.go_all-requires-clause-files_order
go_all-requires-clause-files_order g c = c.requires.home.files_order

pub go_all-requires-clause-from : goal.go_all-requires-clause-from
go_all-requires-clause-from g c = c.requires.home.from

pub go_all-requires-clause-to : goal.go_all-requires-clause-to
go_all-requires-clause-to g c = c.requires.home.to

pub returns-in-Ok-go_all-clause-home : goal.returns-in-Ok-go_all-clause-home
returns-in-Ok-go_all-clause-home g c = record {
  journal = record {
    legal = c.in-Ok-go_all.ensures.legal;
    on_time = c.in-Ok-go_all.ensures.on_time;
    header = c.in-Ok-go_all.ensures.header;
    sound = λ other. c.in-Ok-go_all.ensures.sound (λ h. let k : ⊥ = cc in k);
    registry = λ told other. c.in-Ok-go_all.ensures.registry told (λ h. let k : ⊥ = cc in k);
    order = c.in-Ok-go_all.ensures.order;
    full = λ len h. let k : ⊥ = cc in absurd k;
  };
  files_order = c.in-Ok-go_all.ensures.files_order;
}

pub returns-in-Err-go_all-clause-home : goal.returns-in-Err-go_all-clause-home
returns-in-Err-go_all-clause-home g c = record {
  journal = record {
    legal = c.in-Err-go_all.ensures.legal;
    on_time = c.in-Err-go_all.ensures.on_time;
    header = c.in-Err-go_all.ensures.header;
    sound = λ other. c.in-Err-go_all.ensures.sound (λ h. let is : c.in-Err-go_all.fault ≡ fault.Disk = cc in other (ap (λ (f : Fault). Some f) is));
    registry = λ told other. c.in-Err-go_all.ensures.registry told (λ h. let is : c.in-Err-go_all.fault ≡ fault.Disk = cc in other (ap (λ (f : Fault). Some f) is));
    order = c.in-Err-go_all.ensures.order;
    full = λ len h. c.in-Err-go_all.ensures.full len (let is : c.in-Err-go_all.fault ≡ fault.JournalFull len = cc in ap (λ (f : Fault). Err f) is);
  };
  files_order = c.in-Err-go_all.ensures.files_order;
}

pub returns-in-Err-clause-home : goal.returns-in-Err-clause-home
returns-in-Err-clause-home g c = stays_still c.requires.home

pub returns-in-Ok-go_all-clause-cause : goal.returns-in-Ok-go_all-clause-cause
returns-in-Ok-go_all-clause-cause g c = no_cause

pub returns-in-Err-go_all-clause-cause : goal.returns-in-Err-go_all-clause-cause
returns-in-Err-go_all-clause-cause g c = record {
  disk = λ h. c.in-Err-go_all.ensures.disk (let is : c.in-Err-go_all.fault ≡ fault.Disk = cc in ap (λ (f : Fault). Err f) is);
  files = λ h. c.in-Err-go_all.ensures.files (let is : c.in-Err-go_all.fault ≡ fault.Files = cc in ap (λ (f : Fault). Err f) is);
  line = λ h. c.in-Err-go_all.ensures.line (let is : c.in-Err-go_all.fault ≡ fault.Line = cc in ap (λ (f : Fault). Err f) is);
}

pub returns-in-Err-clause-cause : goal.returns-in-Err-clause-cause
returns-in-Err-clause-cause g c = no_cause_memory

pub returns-in-Ok-go_all-clause-advanced : goal.returns-in-Ok-go_all-clause-advanced
returns-in-Ok-go_all-clause-advanced g c = record {
  beat = c.in-Ok-go_all.ensures.beat;
  last = c.in-Ok-go_all.ensures.last;
  disk_later = c.in-Ok-go_all.ensures.disk_later;
  files_later = c.in-Ok-go_all.ensures.files_later;
  lines_later = c.in-Ok-go_all.ensures.lines_later;
  nones = c.in-Ok-go_all.ensures.nones;
}

pub returns-in-Err-go_all-clause-advanced : goal.returns-in-Err-go_all-clause-advanced
returns-in-Err-go_all-clause-advanced g c = record {
  beat = c.in-Err-go_all.ensures.beat;
  last = c.in-Err-go_all.ensures.last;
  disk_later = c.in-Err-go_all.ensures.disk_later;
  files_later = c.in-Err-go_all.ensures.files_later;
  lines_later = c.in-Err-go_all.ensures.lines_later;
  nones = c.in-Err-go_all.ensures.nones;
}

pub returns-in-Err-clause-advanced : goal.returns-in-Err-clause-advanced
returns-in-Err-clause-advanced g c = advanced_none _
