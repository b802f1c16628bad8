use Rattle.std.proofs.Common.{◌≡◌, inl, inr, ⊎_elim, true, Some, sym, ap, subst, ◌∙◌, arith}
use Rattle.cd_types.specs.declared.rows.Row.{Row}
use Rattle.cd_outside.specs.Lines.{Traffic}
use Rattle.cd_protocol.specs.Rows.{row_chosen}
use Rattle.cd_protocol.specs.declared.session.Phase.TheVariants.{Gone}
use Rattle.cd_effects.specs.Stands.{spot}
use Rattle.cd_effects.specs.declared.fault.Fault.TheVariants as fault
use Rattle.cd_session_rules.specs.NodeView.{view_of}
use Rattle.cd_plain.specs.Choice.{WasConnected, WasLost, WasChosen}
use Rattle.cd_plain.specs.Turned.{told}
use Rattle.cd_exchange.proofs.Coming.{later_rose}
use Rattle.cd_plain.proofs.Greeting.{retold, recut, some_is}
use Rattle.cd_plain.proofs.Places.{newest_of, rising_later, read_same}
use Rattle.cd_plain.proofs.node.Node.choose.Goals as goal

pub connected-requires-clause-ready : goal.connected-requires-clause-ready
connected-requires-clause-ready g c =
    let ready = c.requires.ready in
    let newest = c.in-Ok-connect.ensures.newest in
    record {
      home = ready.home;
      files_order = ready.files_order;
      sessions = record {
        sids = rising_later 0 (g.L.Lines.last c.args.lines.now) (g.L.Lines.last c.connect.new.self) c.args.self.now.sessions ready.sessions.sids (omega (arith, newest.0, newest.1));
        reads = λ told. read_same (g.L.Lines.traffic c.args.lines.now) (g.L.Lines.traffic c.connect.new.self) c.args.self.now.sessions c.args.self.now.readings (ap (λ (t : Traffic). t.taken) (c.connect.ensures.same told)) (ready.sessions.reads told);
      };
      block = ready.block;
    }

pub connected-requires-clause-newest : goal.connected-requires-clause-newest
connected-requires-clause-newest g c = newest_of 0 (g.L.Lines.last c.args.lines.now) c.in-Ok-connect.sid.number c.args.self.now.sessions c.requires.ready.sessions.sids c.in-Ok-connect.ensures.newest.0

pub returns-in-Ok-connected-clause-chosen : goal.returns-in-Ok-connected-clause-chosen
returns-in-Ok-connected-clause-chosen g c = λ row is.
    let same : c.in-Some.chosen ≡ row = some_is c.in-Some.chosen row (sym c.in-Some.is ∙ c.in-Ok.ensures ∙ is) in
    let sid = c.in-Ok-connect.sid in
    let effects = row_chosen (view_of g.T.Texts.read c.args.self.now.config c.args.self.now.registry.entries) c.args.now true (Some c.in-Some.chosen) in
    let start = told (g.F.Files.state c.args.files.now).shelf (g.F.Files.faults c.args.files.now) (g.L.Lines.traffic c.args.lines.now) (g.L.Lines.counts c.args.lines.now) in
    let middle = told (g.F.Files.state c.args.files.now).shelf (g.F.Files.faults c.args.files.now) (g.L.Lines.traffic c.connect.new.self) (g.L.Lines.counts c.connect.new.self) in
    let end = told (g.F.Files.state c.connected.new.files).shelf (g.F.Files.faults c.connected.new.files) (g.L.Lines.traffic c.connected.new.lines) (g.L.Lines.counts c.connected.new.lines) in
    subst (λ (r : Row). WasChosen g.F.Files.observable g.L.Lines.observable g.T.Texts.read c.args.now r c.in-Ok-connected.handled c.args.self.now c.connected.new.self start end) same
    (inl (record {
      sid = sid;
      began = ⊎_elim
          (λ (was : WasConnected g.F.Files.observable g.L.Lines.observable g.T.Texts.read c.args.now c.in-Some.chosen c.in-Ok-connected.handled c.args.self.now c.connected.new.self middle end sid). inl (record {
            answered = was.answered;
            known = was.known;
            newest = was.newest;
            phase = was.phase;
            sessions = was.sessions;
            readings = was.readings;
            done = retold g.F.Files.observable g.L.Lines.observable sid.number effects c.args.self.now.registry.entries (g.F.Files.state c.args.files.now).shelf Gone c.args.self.now.holdings
                (g.L.Lines.traffic c.args.lines.now) (g.L.Lines.traffic c.connect.new.self) (spot c.connected.new.self.registry.entries (g.F.Files.state c.connected.new.files).shelf was.phase c.connected.new.self.holdings (g.L.Lines.traffic c.connected.new.lines))
                c.connect.ensures.same was.done;
          }))
          (λ (lost : WasLost g.F.Files.observable g.L.Lines.observable g.T.Texts.read c.args.now c.in-Some.chosen c.in-Ok-connected.handled c.args.self.now c.connected.new.self middle end sid). inr (record {
            answered = lost.answered;
            known = lost.known;
            newest = lost.newest;
            sessions = lost.sessions;
            readings = lost.readings;
            cause = later_rose ((g.L.Lines.counts c.args.lines.now).faults sid.number) ((g.L.Lines.counts c.connect.new.self).faults sid.number) ((g.L.Lines.counts c.connected.new.lines).faults sid.number) (c.connect.ensures.later.faults sid.number) lost.cause;
            at = lost.at;
            cut = recut g.F.Files.observable g.L.Lines.observable sid.number effects fault.Line c.args.self.now.registry.entries (g.F.Files.state c.args.files.now).shelf Gone c.args.self.now.holdings
                (g.L.Lines.traffic c.args.lines.now) (g.L.Lines.traffic c.connect.new.self) lost.at c.connect.ensures.same lost.cut;
            shelf = lost.shelf;
            traffic = lost.traffic;
            holdings = lost.holdings;
            placed = lost.placed;
          }))
          c.in-Ok-connected.ensures.begun;
    }))
