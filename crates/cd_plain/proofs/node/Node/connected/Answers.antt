use Rattle.std.proofs.Common.{◌≡◌, ◌≤◌, ◌<◌, List, true, Err, sym, ap, subst, ◌∙◌, arith}
use Rattle.cd_outside.specs.Lines.{Traffic}
use Rattle.cd_entries.specs.declared.entry.Entry.{Entry}
use Rattle.cd_frames.specs.Frame.{is_block}
use Rattle.cd_frames.specs.Reading.{Reading}
use Rattle.cd_rules.specs.Processes.{latest}
use Rattle.cd_rules.specs.Legal.{is_legal}
use Rattle.cd_protocol.specs.declared.session.Phase.TheVariants.{Gone}
use Rattle.cd_effects.specs.Registry.{RegistryState, IsRegistry}
use Rattle.cd_effects.specs.declared.fault.Fault.{Fault}
use Rattle.cd_effects.specs.declared.fault.Fault.TheVariants as fault
use Rattle.cd_session_rules.specs.declared.config.Config.{Config}
use Rattle.cd_plain.specs.NodeState.{NodeState, IsReady, IsNewest, HasNewReader}
use Rattle.cd_plain.proofs.Opening.{opened}
use Rattle.cd_plain.proofs.node.Node.connected.Goals as goal

pub returns-in-Ok-open-clause-ready : goal.returns-in-Ok-open-clause-ready
returns-in-Ok-open-clause-ready g c =
    let ready = subst (λ (n : NodeState). IsReady g.D.Disk.observable g.F.Files.observable g.L.Lines.observable g.T.Texts.read n (g.D.Disk.state c.args.disk.now) (g.F.Files.state c.args.files.now) (g.L.Lines.traffic c.args.lines.now) c.args.beat.now (g.L.Lines.last c.args.lines.now) c.args.now) (sym c.self.view_is) c.requires.ready in
    let newest = subst (λ (n : NodeState). IsNewest c.args.sid.number n.sessions) (sym c.self.view_is) c.requires.newest in
    let registry = sym c.in-Ok-open.ensures.registry in
    let same = sym c.greet.ensures.same in
    let from : 0 < c.args.sid.number = omega (arith, c.requires.from) in
    let to : c.args.sid.number ≤ g.L.Lines.last c.greet.new.lines = omega (arith, c.requires.to, c.greet.ensures.last) in
    record {
      home = record {
        legal = subst (λ (r : RegistryState). is_legal g.T.Texts.read r.entries ≡ true) registry (subst (λ (es : List Entry). is_legal g.T.Texts.read es ≡ true) same ready.home.legal);
        on_time = subst (λ (r : RegistryState). latest r.entries ≤ c.args.now) registry (subst (λ (es : List Entry). latest es ≤ c.args.now) same ready.home.on_time);
        header = subst (λ (r : RegistryState). r.journal.has_header ≡ true) registry c.greet.ensures.header;
        sound = subst (λ (r : RegistryState). r.journal.sound ≡ true) registry c.greet.ensures.sound;
        registry = λ told. subst (λ (r : RegistryState). IsRegistry r (g.D.Disk.state c.greet.new.disk)) registry (c.greet.ensures.registry told);
        order = c.greet.ensures.order;
      };
      files_order = c.greet.ensures.files_order;
      sessions = opened g.L.Lines.observable (record { registry = c.self.inside.registry; config = c.self.inside.config; sessions = c.self.inside.sessions.items; readings = c.self.inside.readers.items; holdings = c.self.inside.owners }) c.open.new.self
          (g.L.Lines.traffic c.args.lines.now) (g.L.Lines.traffic c.greet.new.lines) (g.L.Lines.last c.args.lines.now) (g.L.Lines.last c.greet.new.lines) (record { sid = c.args.sid; phase = c.greet.new.phase }) ready.sessions newest from to
          c.greet.ensures.taken (λ told. (c.requires.fresh told).taken) c.in-Ok-open.ensures.opened c.in-Ok-open.ensures.read;
      block = subst (λ (k : Config). is_block k.block ≡ true) (sym c.in-Ok-open.ensures.config) ready.block;
    }

pub returns-in-Ok-place-clause-ready : goal.returns-in-Ok-place-clause-ready
returns-in-Ok-place-clause-ready g c =
    let ready = subst (λ (n : NodeState). IsReady g.D.Disk.observable g.F.Files.observable g.L.Lines.observable g.T.Texts.read n (g.D.Disk.state c.args.disk.now) (g.F.Files.state c.args.files.now) (g.L.Lines.traffic c.args.lines.now) c.args.beat.now (g.L.Lines.last c.args.lines.now) c.args.now) (sym c.self.view_is) c.requires.ready in
    let newest = subst (λ (n : NodeState). IsNewest c.args.sid.number n.sessions) (sym c.self.view_is) c.requires.newest in
    let home = c.in-Ok-place.ensures.home (λ h. let k : ⊥ = cc in k) in
    let kept = c.in-Ok-place.ensures.kept in
    let from : 0 < c.args.sid.number = omega (arith, c.requires.from) in
    let to : c.args.sid.number ≤ g.L.Lines.last c.close.new.self = omega (arith, c.requires.to, c.greet.ensures.last, c.close.ensures.last) in
    record {
      home = home;
      files_order = λ told. let before = c.greet.ensures.files_order told in let later = c.in-Ok-place.ensures.beat in omega (arith, before, later);
      sessions = opened g.L.Lines.observable (record { registry = c.self.inside.registry; config = c.self.inside.config; sessions = c.self.inside.sessions.items; readings = c.self.inside.readers.items; holdings = c.self.inside.owners }) c.place.new.self
          (g.L.Lines.traffic c.args.lines.now) (g.L.Lines.traffic c.close.new.self) (g.L.Lines.last c.args.lines.now) (g.L.Lines.last c.close.new.self) (record { sid = c.args.sid; phase = Gone }) ready.sessions newest from to
          (λ told. ap (λ (t : Traffic). t.taken) (c.close.ensures.same told) ∙ c.greet.ensures.taken told) (λ told. (c.requires.fresh told).taken)
          (kept.sessions ∙ c.in-Ok-open-2.ensures.opened)
          (subst (λ (l : List Reading). HasNewReader c.self.inside.readers.items l) (sym kept.readings) c.in-Ok-open-2.ensures.read);
      block = subst (λ (k : Config). is_block k.block ≡ true) (sym (c.in-Ok-place.ensures.config ∙ c.in-Ok-open-2.ensures.config)) ready.block;
    }

pub returns-in-Ok-open-2-clause-home : goal.returns-in-Ok-open-2-clause-home
returns-in-Ok-open-2-clause-home g c = λ other. c.in-Err-place.ensures.home (λ h. let is : c.in-Err-place.fault ≡ fault.Disk = cc in other (ap (λ (f : Fault). Err f) is))
