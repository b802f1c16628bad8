use Rattle.std.proofs.Common.{refl}
use Rattle.cd_protocol.specs.Seen.{seen_effect}
use Rattle.cd_effects.specs.Stands.{spot}
use Rattle.cd_effects.proofs.Doing.{done_one, shelf_did, shelf_torn, shelf_kept, traffic_kept, one_torn, one_run}
use Rattle.cd_effects.proofs.one.one.Goals as goal

pub returns-in-Err-clause-torn : goal.returns-in-Err-clause-torn
returns-in-Err-clause-torn g c = record {
  entries = refl;
  phase = refl;
  holdings = refl;
  shelf = λ told. shelf_torn (seen_effect c.args.effect) c.args.beat.now c.touch.new.beat (g.F.Files.state c.args.files.now) (g.F.Files.state c.touch.new.files) (c.in-Err.ensures.torn told);
  traffic = λ told. traffic_kept c.args.sid.number (seen_effect c.args.effect) (g.L.Lines.traffic c.args.lines.now) c.in-Err.ensures.fault;
}

pub returns-in-Err-clause-moments : goal.returns-in-Err-clause-moments
returns-in-Err-clause-moments g c = λ told files_told node is.
    one_torn c.args.sid.number (seen_effect c.args.effect) node c.args.registry.now (g.D.Disk.state c.args.disk.now) (g.F.Files.state c.args.files.now) (g.F.Files.state c.touch.new.files) c.args.beat.now
    is.journal (is.shelf files_told) (c.requires.registry told) (c.requires.order told) (c.touch.ensures.moments files_told)

pub returns-in-Ok-act-clause-done : goal.returns-in-Ok-act-clause-done
returns-in-Ok-act-clause-done g c =
    let e = c.in-Ok-act.ensures in
    done_one g.F.Files.observable g.L.Lines.observable c.args.sid.number (seen_effect c.args.effect)
    (spot c.args.registry.now.entries (g.F.Files.state c.args.files.now).shelf c.args.phase.now c.args.owners.now (g.L.Lines.traffic c.args.lines.now))
    (spot c.act.new.registry.entries (g.F.Files.state c.touch.new.files).shelf c.act.new.phase c.act.new.owners (g.L.Lines.traffic c.act.new.lines))
    e.entries
    (λ told. shelf_did (seen_effect c.args.effect) c.touch.new.beat (g.F.Files.state c.args.files.now) (g.F.Files.state c.touch.new.files) (c.in-Ok.ensures.done told))
    e.phase e.owners e.given e.frames

pub returns-in-Ok-act-clause-moments : goal.returns-in-Ok-act-clause-moments
returns-in-Ok-act-clause-moments g c = λ told files_told node is.
    one_run c.args.sid.number (seen_effect c.args.effect) node c.args.registry.now (g.D.Disk.state c.args.disk.now) (g.F.Files.state c.args.files.now) (g.F.Files.state c.touch.new.files) c.args.beat.now
    is.journal (is.shelf files_told) (c.requires.registry told) (c.requires.order told)
    c.touch.new.beat (g.D.Disk.state c.act.new.disk) c.touch.ensures.beat (c.touch.ensures.order files_told)
    (shelf_did (seen_effect c.args.effect) c.touch.new.beat (g.F.Files.state c.args.files.now) (g.F.Files.state c.touch.new.files) (c.in-Ok.ensures.done files_told))
    (c.touch.ensures.moments files_told) (c.act.ensures.moments told)

pub returns-in-Err-act-clause-torn : goal.returns-in-Err-act-clause-torn
returns-in-Err-act-clause-torn g c =
    let e = c.in-Err-act.ensures in
    record {
      entries = e.same.0;
      phase = e.same.1;
      holdings = e.same.2;
      shelf = λ told. shelf_kept (seen_effect c.args.effect) (g.F.Files.state c.args.files.now).shelf (g.F.Files.state c.touch.new.files).shelf e.kind
          (shelf_did (seen_effect c.args.effect) c.touch.new.beat (g.F.Files.state c.args.files.now) (g.F.Files.state c.touch.new.files) (c.in-Ok.ensures.done told));
      traffic = e.torn;
    }

pub returns-in-Err-act-clause-moments : goal.returns-in-Err-act-clause-moments
returns-in-Err-act-clause-moments g c = λ told files_told node is.
    one_run c.args.sid.number (seen_effect c.args.effect) node c.args.registry.now (g.D.Disk.state c.args.disk.now) (g.F.Files.state c.args.files.now) (g.F.Files.state c.touch.new.files) c.args.beat.now
    is.journal (is.shelf files_told) (c.requires.registry told) (c.requires.order told)
    c.touch.new.beat (g.D.Disk.state c.act.new.disk) c.touch.ensures.beat (c.touch.ensures.order files_told)
    (shelf_did (seen_effect c.args.effect) c.touch.new.beat (g.F.Files.state c.args.files.now) (g.F.Files.state c.touch.new.files) (c.in-Ok.ensures.done files_told))
    (c.touch.ensures.moments files_told) (c.act.ensures.moments told)
