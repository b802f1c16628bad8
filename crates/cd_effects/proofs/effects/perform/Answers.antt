use Rattle.std.proofs.Common.{◌∙◌, map, refl, arith, rules}
use Rattle.std.proofs.lemmas.Iterator.Adapters.{YieldsList-from_vec}
use Rattle.std.proofs.lemmas.Iterator.Consumers.{YieldsList-so_far, YieldsList-turn}
use Rattle.cd_protocol.specs.Node.{does}
use Rattle.cd_protocol.specs.Seen.{seen_effect}
use Rattle.cd_effects.specs.Joint.{JointAt}
use Rattle.cd_effects.specs.Stands.{spot}
use Rattle.cd_effects.proofs.Doing.{row_none}
use Rattle.cd_effects.proofs.Ready.{ready_of}
use Rattle.cd_effects.proofs.Rows.{done_none, row_run, behind, effects_split, ready_here, kept_here, done_here, cut_here}
use Rattle.cd_effects.proofs.Sending.{fell_then, fell_none}
use Rattle.cd_effects.proofs.effects.perform.Goals as goal

pub loop-effect-init : goal.loop-effect-init
loop-effect-init g c = record {
  entries = refl;
  done = done_none g.F.Files.observable g.L.Lines.observable c.args.sid.number (spot c.args.registry.now.entries (g.F.Files.state c.args.files.now).shelf c.args.phase.now c.args.owners.now (g.L.Lines.traffic c.args.lines.now));
  moments = λ told files_told node is. row_none c.args.sid.number (map seen_effect c.args.effects.items) node c.args.registry.now (g.D.Disk.state c.args.disk.now) (g.F.Files.state c.args.files.now) c.args.beat.now is.journal (is.shelf files_told) (c.requires.registry told) (c.requires.order told) (c.requires.files_order files_told);
  registry = c.requires.registry;
  header = c.requires.header;
  sound = c.requires.sound;
  order = c.requires.order;
  files_order = c.requires.files_order;
  beat = omega arith;
  last = refl;
  disk_later = omega arith;
  files_later = omega arith;
  lines_later = fell_none (g.L.Lines.counts c.args.lines.now);
  nones = refl;
}

pub one-requires-clause-ready : goal.one-requires-clause-ready
one-requires-clause-ready g c =
    let road = YieldsList-from_vec {s = c.into_iter-effect-iterator.result} c.args.effects.items (search rules) (search rules) in
    let so_far = YieldsList-so_far road c.loop-effect.yielded c.loop-effect.effect-iterator c.loop-effect.yielded_by in
    let turn = YieldsList-turn road c.loop-effect.yielded c.loop-effect.effect-iterator c.loop-effect.yielded_by c.next.result c.next.new.self c.in-Some.effect c.in-Some.is c.next.ensures.steps in
    let split = effects_split c.args.effects.items c.loop-effect.yielded c.in-Some.effect so_far turn in
    ready_here g.T.Texts.read c.args.effects.items c.loop-effect.yielded c.in-Some.effect c.args.registry.now.entries c.loop-effect.registry.entries split (ready_of g.T.Texts.read c.requires.allowed.0 c.args.registry.now.entries (map seen_effect c.args.effects.items) c.requires.allowed.1 c.requires.origins) c.loop-effect.invariant.entries

pub loop-effect-preserved : goal.loop-effect-preserved
loop-effect-preserved g c =
    let road = YieldsList-from_vec {s = c.into_iter-effect-iterator.result} c.args.effects.items (search rules) (search rules) in
    let so_far = YieldsList-so_far road c.loop-effect.yielded c.loop-effect.effect-iterator c.loop-effect.yielded_by in
    let turn = YieldsList-turn road c.loop-effect.yielded c.loop-effect.effect-iterator c.loop-effect.yielded_by c.next.result c.next.new.self c.in-Some.effect c.in-Some.is c.next.ensures.steps in
    let split = effects_split c.args.effects.items c.loop-effect.yielded c.in-Some.effect so_far turn in
    let i = c.loop-effect.invariant in
    let e = c.in-Ok.ensures in
    record {
      entries = kept_here c.loop-effect.yielded c.in-Some.effect c.args.registry.now.entries c.loop-effect.registry.entries c.one.new.registry.entries i.entries e.entries;
      done = done_here g.F.Files.observable g.L.Lines.observable c.args.sid.number c.loop-effect.yielded c.in-Some.effect
          (spot c.args.registry.now.entries (g.F.Files.state c.args.files.now).shelf c.args.phase.now c.args.owners.now (g.L.Lines.traffic c.args.lines.now))
          (spot c.loop-effect.registry.entries (g.F.Files.state c.loop-effect.files).shelf c.loop-effect.phase c.loop-effect.owners (g.L.Lines.traffic c.loop-effect.lines))
          (spot c.one.new.registry.entries (g.F.Files.state c.one.new.files).shelf c.one.new.phase c.one.new.owners (g.L.Lines.traffic c.one.new.lines))
          i.done e.done;
      moments = λ told files_told node is. row_run c.args.sid.number (map seen_effect c.args.effects.items) (map seen_effect c.loop-effect.yielded) (behind c.args.effects.items c.loop-effect.yielded) (seen_effect c.in-Some.effect) node
          (JointAt (g.D.Disk.state c.args.disk.now) (g.F.Files.state c.args.files.now))
          (JointAt (g.D.Disk.state c.loop-effect.disk) (g.F.Files.state c.loop-effect.files))
          (JointAt (g.D.Disk.state c.one.new.disk) (g.F.Files.state c.one.new.files))
          c.args.beat.now c.loop-effect.beat split i.beat (i.moments told files_told node is)
          (c.one.ensures.moments told files_told (does c.args.sid.number (map seen_effect c.loop-effect.yielded) node) (i.done.node node is));
      registry = λ told. e.registry told (λ h. let k : ⊥ = cc in k);
      header = e.header;
      sound = e.sound (λ h. let k : ⊥ = cc in k);
      order = e.order;
      files_order = e.files_order;
      beat = omega (arith, i.beat, e.beat);
      last = e.last ∙ i.last;
      disk_later = omega (arith, i.disk_later, e.disk_later);
      files_later = omega (arith, i.files_later, e.files_later);
      lines_later = fell_then (g.L.Lines.counts c.args.lines.now) (g.L.Lines.counts c.loop-effect.lines) (g.L.Lines.counts c.one.new.lines) i.lines_later e.lines_later;
      nones = e.nones ∙ i.nones;
    }

pub returns-in-Err-clause-cut : goal.returns-in-Err-clause-cut
returns-in-Err-clause-cut g c =
    let road = YieldsList-from_vec {s = c.into_iter-effect-iterator.result} c.args.effects.items (search rules) (search rules) in
    let so_far = YieldsList-so_far road c.loop-effect.yielded c.loop-effect.effect-iterator c.loop-effect.yielded_by in
    let turn = YieldsList-turn road c.loop-effect.yielded c.loop-effect.effect-iterator c.loop-effect.yielded_by c.next.result c.next.new.self c.in-Some.effect c.in-Some.is c.next.ensures.steps in
    let split = effects_split c.args.effects.items c.loop-effect.yielded c.in-Some.effect so_far turn in
    cut_here g.F.Files.observable g.L.Lines.observable c.args.sid.number c.args.effects.items c.loop-effect.yielded c.in-Some.effect c.in-Err.fault
    (spot c.args.registry.now.entries (g.F.Files.state c.args.files.now).shelf c.args.phase.now c.args.owners.now (g.L.Lines.traffic c.args.lines.now))
    (spot c.loop-effect.registry.entries (g.F.Files.state c.loop-effect.files).shelf c.loop-effect.phase c.loop-effect.owners (g.L.Lines.traffic c.loop-effect.lines))
    (spot c.one.new.registry.entries (g.F.Files.state c.one.new.files).shelf c.one.new.phase c.one.new.owners (g.L.Lines.traffic c.one.new.lines))
    split c.loop-effect.invariant.done c.in-Err.ensures.torn c.in-Err.ensures.fault

pub returns-in-Err-clause-moments : goal.returns-in-Err-clause-moments
returns-in-Err-clause-moments g c = λ told files_told node is.
    let road = YieldsList-from_vec {s = c.into_iter-effect-iterator.result} c.args.effects.items (search rules) (search rules) in
    let so_far = YieldsList-so_far road c.loop-effect.yielded c.loop-effect.effect-iterator c.loop-effect.yielded_by in
    let turn = YieldsList-turn road c.loop-effect.yielded c.loop-effect.effect-iterator c.loop-effect.yielded_by c.next.result c.next.new.self c.in-Some.effect c.in-Some.is c.next.ensures.steps in
    let split = effects_split c.args.effects.items c.loop-effect.yielded c.in-Some.effect so_far turn in
    let i = c.loop-effect.invariant in
    row_run c.args.sid.number (map seen_effect c.args.effects.items) (map seen_effect c.loop-effect.yielded) (behind c.args.effects.items c.loop-effect.yielded) (seen_effect c.in-Some.effect) node
    (JointAt (g.D.Disk.state c.args.disk.now) (g.F.Files.state c.args.files.now))
    (JointAt (g.D.Disk.state c.loop-effect.disk) (g.F.Files.state c.loop-effect.files))
    (JointAt (g.D.Disk.state c.one.new.disk) (g.F.Files.state c.one.new.files))
    c.args.beat.now c.loop-effect.beat split i.beat (i.moments told files_told node is)
    (c.one.ensures.moments told files_told (does c.args.sid.number (map seen_effect c.loop-effect.yielded) node) (i.done.node node is))
