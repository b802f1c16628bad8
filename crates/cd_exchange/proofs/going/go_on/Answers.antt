use Rattle.std.proofs.Common.{◌≡◌, ◌-◌, ◌∙◌, Err, refl, sym, ap, arith}
use Rattle.cd_effects.specs.Stands.{spot}
use Rattle.cd_effects.specs.declared.fault.Fault.{Fault}
use Rattle.cd_effects.specs.declared.fault.Fault.TheVariants as fault
use Rattle.cd_exchange.specs.Question.{answers_of}
use Rattle.cd_exchange.specs.Rest.{rest, rank}
use Rattle.cd_effects.specs.Joint.{JointAt}
use Rattle.cd_exchange.proofs.Crash.{nothing_moves, way_moves, way_leaves}
use Rattle.cd_exchange.proofs.Way.{agrees_self, way_none, way_next, way_over, way_end, way_told, way_out, way_out_told, way_stopped, fell_then, fell_none}
use Rattle.cd_exchange.proofs.going.go_on.Goals as goal

pub loop-turn-init : goal.loop-turn-init
loop-turn-init g c = record {
  way = way_none g.F.Files.observable g.L.Lines.observable (g.R.Rules.setting c.args.rules.now) g.T.Texts.read c.args.sid.number 1030 c.args.then (spot c.args.registry.now.entries (g.F.Files.state c.args.files.now).shelf c.args.phase.now c.args.owners.now (g.L.Lines.traffic c.args.lines.now)) (answers_of c.args.now c.args.given.now c.args.buffer.now.items);
  moments = λ told files_told node is answers agrees.
      nothing_moves c.args.sid.number (rest 1030 node c.args.sid.number answers c.args.then) node c.args.registry.now (g.D.Disk.state c.args.disk.now) (g.F.Files.state c.args.files.now) (g.F.Files.state c.args.files.now) c.args.beat.now refl is.stands.journal (is.stands.shelf files_told) (c.requires.registry told) (c.requires.order told) (c.requires.files_order files_told);
  legal = c.requires.legal;
  on_time = c.requires.on_time;
  registry = c.requires.registry;
  header = c.requires.header;
  sound = c.requires.sound;
  order = c.requires.order;
  files_order = c.requires.files_order;
  beat = omega arith;
  last = refl;
  disk_later = omega arith;
  files_later = omega arith;
  lines_later = fell_none (g.L.Lines.counts c.args.lines.now);
  nones = refl;
}

pub returns-then-is_done-clause-done : goal.returns-then-is_done-clause-done
returns-then-is_done-clause-done g c =
    way_end g.F.Files.observable g.L.Lines.observable (g.R.Rules.setting c.args.rules.now) g.T.Texts.read c.args.sid.number 1030 c.args.then (spot c.args.registry.now.entries (g.F.Files.state c.args.files.now).shelf c.args.phase.now c.args.owners.now (g.L.Lines.traffic c.args.lines.now))
    (1030 - c.loop-turn._turn) c.loop-turn.later (answers_of c.args.now c.loop-turn.given c.loop-turn.buffer.items) (spot c.loop-turn.registry.entries (g.F.Files.state c.loop-turn.files).shelf c.loop-turn.phase c.loop-turn.owners (g.L.Lines.traffic c.loop-turn.lines)) c.loop-turn.invariant.way (sym c.is_done.ensures ∙ c.if-is_done.true)

pub returns-then-is_done-clause-told : goal.returns-then-is_done-clause-told
returns-then-is_done-clause-told g c = λ told.
    way_told g.F.Files.observable g.L.Lines.observable (g.R.Rules.setting c.args.rules.now) g.T.Texts.read c.args.sid.number 1030 c.args.then (spot c.args.registry.now.entries (g.F.Files.state c.args.files.now).shelf c.args.phase.now c.args.owners.now (g.L.Lines.traffic c.args.lines.now))
    (1030 - c.loop-turn._turn) c.loop-turn.later (answers_of c.args.now c.loop-turn.given c.loop-turn.buffer.items) (spot c.loop-turn.registry.entries (g.F.Files.state c.loop-turn.files).shelf c.loop-turn.phase c.loop-turn.owners (g.L.Lines.traffic c.loop-turn.lines)) c.loop-turn.invariant.way (sym c.is_done.ensures ∙ c.if-is_done.true) told

pub returns-in-Err-clause-registry : goal.returns-in-Err-clause-registry
returns-in-Err-clause-registry g c = λ told other. c.in-Err.ensures.registry told (λ h. let is : c.in-Err.fault ≡ fault.Disk = cc in other (ap (λ (f : Fault). Err f) is))

pub loop-turn-preserved : goal.loop-turn-preserved
loop-turn-preserved g c =
    let i = c.loop-turn.invariant in
    let e = c.in-Ok.ensures in
    record {
      way = way_next g.F.Files.observable g.L.Lines.observable (g.R.Rules.setting c.args.rules.now) g.T.Texts.read c.args.sid.number 1030 c.args.then (spot c.args.registry.now.entries (g.F.Files.state c.args.files.now).shelf c.args.phase.now c.args.owners.now (g.L.Lines.traffic c.args.lines.now))
          c.loop-turn._turn c.loop-turn.later c.in-Ok.behind (answers_of c.args.now c.loop-turn.given c.loop-turn.buffer.items) (answers_of c.args.now c.go_behind.new.given c.go_behind.new.buffer.items)
          (spot c.loop-turn.registry.entries (g.F.Files.state c.loop-turn.files).shelf c.loop-turn.phase c.loop-turn.owners (g.L.Lines.traffic c.loop-turn.lines))
          (spot c.go_behind.new.registry.entries (g.F.Files.state c.go_behind.new.files).shelf c.go_behind.new.phase c.go_behind.new.owners (g.L.Lines.traffic c.go_behind.new.lines))
          c.loop-turn-test.true (sym c.is_done.ensures ∙ c.if-is_done.false) e.answered (λ told. e.told told) e.done e.later i.way;
      moments = λ told files_told node is.
          way_moves g.F.Files.observable g.L.Lines.observable (g.R.Rules.setting c.args.rules.now) g.T.Texts.read c.args.sid.number 1030 c.args.then
          (spot c.args.registry.now.entries (g.F.Files.state c.args.files.now).shelf c.args.phase.now c.args.owners.now (g.L.Lines.traffic c.args.lines.now))
          (JointAt (g.D.Disk.state c.args.disk.now) (g.F.Files.state c.args.files.now)) (JointAt (g.D.Disk.state c.loop-turn.disk) (g.F.Files.state c.loop-turn.files)) (JointAt (g.D.Disk.state c.go_behind.new.disk) (g.F.Files.state c.go_behind.new.files)) c.args.beat.now c.loop-turn.beat i.beat
          c.loop-turn._turn c.loop-turn.later c.in-Ok.behind (answers_of c.args.now c.loop-turn.given c.loop-turn.buffer.items) (answers_of c.args.now c.go_behind.new.given c.go_behind.new.buffer.items)
          (spot c.loop-turn.registry.entries (g.F.Files.state c.loop-turn.files).shelf c.loop-turn.phase c.loop-turn.owners (g.L.Lines.traffic c.loop-turn.lines))
          c.loop-turn-test.true (sym c.is_done.ensures ∙ c.if-is_done.false) i.way e.answered e.later node is (i.moments told files_told node is) (e.moments told files_told);
      legal = e.legal;
      on_time = e.on_time;
      registry = λ told. e.registry told (λ h. let k : ⊥ = cc in k);
      header = e.header;
      sound = e.sound (λ h. let k : ⊥ = cc in k);
      order = e.order;
      files_order = e.files_order;
      beat = omega (arith, i.beat, e.beat);
      last = e.last ∙ i.last;
      disk_later = omega (arith, i.disk_later, e.disk_later);
      files_later = omega (arith, i.files_later, e.files_later);
      lines_later = fell_then (g.L.Lines.counts c.args.lines.now) (g.L.Lines.counts c.loop-turn.lines) (g.L.Lines.counts c.go_behind.new.lines) i.lines_later e.lines_later;
      nones = e.nones ∙ i.nones;
    }

pub returns-clause-done : goal.returns-clause-done
returns-clause-done g c =
    way_out g.F.Files.observable g.L.Lines.observable (g.R.Rules.setting c.args.rules.now) g.T.Texts.read c.args.sid.number 1030 c.args.then (spot c.args.registry.now.entries (g.F.Files.state c.args.files.now).shelf c.args.phase.now c.args.owners.now (g.L.Lines.traffic c.args.lines.now))
    c.loop-turn.later (answers_of c.args.now c.loop-turn.given c.loop-turn.buffer.items) (spot c.loop-turn.registry.entries (g.F.Files.state c.loop-turn.files).shelf c.loop-turn.phase c.loop-turn.owners (g.L.Lines.traffic c.loop-turn.lines))
    (way_over g.F.Files.observable g.L.Lines.observable (g.R.Rules.setting c.args.rules.now) g.T.Texts.read c.args.sid.number 1030 c.args.then (spot c.args.registry.now.entries (g.F.Files.state c.args.files.now).shelf c.args.phase.now c.args.owners.now (g.L.Lines.traffic c.args.lines.now)) c.loop-turn._turn c.loop-turn.later (answers_of c.args.now c.loop-turn.given c.loop-turn.buffer.items) (spot c.loop-turn.registry.entries (g.F.Files.state c.loop-turn.files).shelf c.loop-turn.phase c.loop-turn.owners (g.L.Lines.traffic c.loop-turn.lines)) c.loop-turn-test.false c.loop-turn.invariant.way)

pub returns-clause-told : goal.returns-clause-told
returns-clause-told g c = λ told.
    way_out_told g.F.Files.observable g.L.Lines.observable (g.R.Rules.setting c.args.rules.now) g.T.Texts.read c.args.sid.number 1030 c.args.then (spot c.args.registry.now.entries (g.F.Files.state c.args.files.now).shelf c.args.phase.now c.args.owners.now (g.L.Lines.traffic c.args.lines.now))
    c.loop-turn.later (answers_of c.args.now c.loop-turn.given c.loop-turn.buffer.items) (spot c.loop-turn.registry.entries (g.F.Files.state c.loop-turn.files).shelf c.loop-turn.phase c.loop-turn.owners (g.L.Lines.traffic c.loop-turn.lines))
    (way_over g.F.Files.observable g.L.Lines.observable (g.R.Rules.setting c.args.rules.now) g.T.Texts.read c.args.sid.number 1030 c.args.then (spot c.args.registry.now.entries (g.F.Files.state c.args.files.now).shelf c.args.phase.now c.args.owners.now (g.L.Lines.traffic c.args.lines.now)) c.loop-turn._turn c.loop-turn.later (answers_of c.args.now c.loop-turn.given c.loop-turn.buffer.items) (spot c.loop-turn.registry.entries (g.F.Files.state c.loop-turn.files).shelf c.loop-turn.phase c.loop-turn.owners (g.L.Lines.traffic c.loop-turn.lines)) c.loop-turn-test.false c.loop-turn.invariant.way) told

pub returns-in-Err-clause-stopped : goal.returns-in-Err-clause-stopped
returns-in-Err-clause-stopped g c =
    way_stopped g.F.Files.observable g.L.Lines.observable (g.R.Rules.setting c.args.rules.now) g.T.Texts.read c.args.sid.number 1030 c.args.now c.args.then
    (spot c.args.registry.now.entries (g.F.Files.state c.args.files.now).shelf c.args.phase.now c.args.owners.now (g.L.Lines.traffic c.args.lines.now))
    c.loop-turn._turn c.loop-turn.later (answers_of c.args.now c.loop-turn.given c.loop-turn.buffer.items) (answers_of c.args.now c.go_behind.new.given c.go_behind.new.buffer.items) c.in-Err.fault
    (spot c.loop-turn.registry.entries (g.F.Files.state c.loop-turn.files).shelf c.loop-turn.phase c.loop-turn.owners (g.L.Lines.traffic c.loop-turn.lines))
    (spot c.go_behind.new.registry.entries (g.F.Files.state c.go_behind.new.files).shelf c.go_behind.new.phase c.go_behind.new.owners (g.L.Lines.traffic c.go_behind.new.lines))
    c.loop-turn-test.true refl refl (sym c.is_done.ensures ∙ c.if-is_done.false) c.loop-turn.invariant.way c.in-Err.ensures.stopped

pub returns-in-Err-clause-crash : goal.returns-in-Err-clause-crash
returns-in-Err-clause-crash g c = λ told files_told node is.
    let i = c.loop-turn.invariant in
    way_leaves g.F.Files.observable g.L.Lines.observable (g.R.Rules.setting c.args.rules.now) g.T.Texts.read c.args.sid.number 1030 c.args.then
    (spot c.args.registry.now.entries (g.F.Files.state c.args.files.now).shelf c.args.phase.now c.args.owners.now (g.L.Lines.traffic c.args.lines.now))
    (JointAt (g.D.Disk.state c.args.disk.now) (g.F.Files.state c.args.files.now)) (JointAt (g.D.Disk.state c.loop-turn.disk) (g.F.Files.state c.loop-turn.files)) (JointAt (g.D.Disk.state c.go_behind.new.disk) (g.F.Files.state c.go_behind.new.files)) c.args.beat.now c.loop-turn.beat i.beat
    c.args.now c.loop-turn._turn c.loop-turn.later (answers_of c.args.now c.loop-turn.given c.loop-turn.buffer.items) (answers_of c.args.now c.go_behind.new.given c.go_behind.new.buffer.items)
    (spot c.loop-turn.registry.entries (g.F.Files.state c.loop-turn.files).shelf c.loop-turn.phase c.loop-turn.owners (g.L.Lines.traffic c.loop-turn.lines))
    c.loop-turn-test.true (sym c.is_done.ensures ∙ c.if-is_done.false) refl refl i.way node is (i.moments told files_told node is) (c.in-Err.ensures.crash told files_told)

pub returns-then-is_done-clause-moments : goal.returns-then-is_done-clause-moments
returns-then-is_done-clause-moments g c = λ told files_told node is. c.loop-turn.invariant.moments told files_told node is (answers_of c.args.now c.loop-turn.given c.loop-turn.buffer.items) (agrees_self (answers_of c.args.now c.loop-turn.given c.loop-turn.buffer.items) (rank c.loop-turn.later))

pub returns-clause-moments : goal.returns-clause-moments
returns-clause-moments g c = λ told files_told node is. c.loop-turn.invariant.moments told files_told node is (answers_of c.args.now c.loop-turn.given c.loop-turn.buffer.items) (agrees_self (answers_of c.args.now c.loop-turn.given c.loop-turn.buffer.items) (rank c.loop-turn.later))
