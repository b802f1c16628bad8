use Rattle.std.proofs.Common.{◌≡◌, inl, inr, ℕ, ◌<◌, ◌≤◌, List, length, Some, Ok, Err, refl, sym, ap, subst, ◌∙◌, arith}
use Rattle.std.specs.Prelude.{slice_set}
use Rattle.std.proofs.lemmas.Option.{slice_get_read}
use Rattle.cd_effects.specs.Joint.{JointAt}
use Rattle.cd_effects.specs.Stands.{spot}
use Rattle.cd_effects.specs.declared.fault.Fault.{Fault}
use Rattle.cd_effects.specs.declared.fault.Fault.TheVariants as fault
use Rattle.cd_exchange.specs.declared.session.Session.{Session}
use Rattle.cd_plain.specs.Crash.{NodeLeaves}
use Rattle.cd_plain.specs.NodeState.{NodeState, HasSessions, IsReady}
use Rattle.cd_exchange.specs.Setting.{setting_of}
use Rattle.cd_plain.specs.Turned.{place_of, told, HadTurn, FailedTurn}
use Rattle.cd_plain.specs.declared.handled.Handled.{Handled}
use Rattle.cd_exchange.proofs.Coming.{lost_later}
use Rattle.cd_plain.proofs.Places.{found, rising_at}
use Rattle.cd_exchange.proofs.Taken.{turn_then}
use Rattle.cd_plain.proofs.AfterTurn.{swapped_back, had_turn, failed_turn, node_leaves, sessions_turned}
use Rattle.cd_exchange.proofs.OpenLaw.{advanced_then, lines_advanced}
use Rattle.cd_plain.proofs.node.Node.turn.Goals as goal

pub take_turn-ending-requires-clause-home : goal.take_turn-ending-requires-clause-home
take_turn-ending-requires-clause-home g c =
    let ready = subst (λ (n : NodeState). IsReady g.D.Disk.observable g.F.Files.observable g.L.Lines.observable g.T.Texts.read n (g.D.Disk.state c.args.disk.now) (g.F.Files.state c.args.files.now) (g.L.Lines.traffic c.args.lines.now) c.args.beat.now (g.L.Lines.last c.args.lines.now) c.args.now) (sym c.self.view_is) c.requires.ready in
    let first = subst (λ (xs : List Session). place_of c.args.sid.number xs ≡ Some c.in-Some.at) c.deref.ensures.value (sym c.in-Some.ensures) in
    let one = found c.self.inside.sessions.items c.in-Some.at c.args.sid.number first in
    let within = rising_at 0 (g.L.Lines.last c.args.lines.now) c.self.inside.sessions.items c.in-Some.at one.session ready.sessions.sids one.is in
    record {
      journal = record {
        legal = ready.home.legal;
        on_time = ready.home.on_time;
        header = ready.home.header;
        sound = ready.home.sound;
        registry = ready.home.registry;
        order = ready.home.order;
      };
      files_order = ready.files_order;
      from = subst (λ (n : ℕ). 1 ≤ n) one.number_is (omega (arith, within.0));
      to = subst (λ (n : ℕ). n ≤ g.L.Lines.last c.args.lines.now) one.number_is within.1;
    }

pub close_gone-requires-clause-from : goal.close_gone-requires-clause-from
close_gone-requires-clause-from g c =
    let ready = subst (λ (n : NodeState). IsReady g.D.Disk.observable g.F.Files.observable g.L.Lines.observable g.T.Texts.read n (g.D.Disk.state c.args.disk.now) (g.F.Files.state c.args.files.now) (g.L.Lines.traffic c.args.lines.now) c.args.beat.now (g.L.Lines.last c.args.lines.now) c.args.now) (sym c.self.view_is) c.requires.ready in
    let first = subst (λ (xs : List Session). place_of c.args.sid.number xs ≡ Some c.in-Some.at) c.deref.ensures.value (sym c.in-Some.ensures) in
    let one = found c.self.inside.sessions.items c.in-Some.at c.args.sid.number first in
    let within = rising_at 0 (g.L.Lines.last c.args.lines.now) c.self.inside.sessions.items c.in-Some.at one.session ready.sessions.sids one.is in
    subst (λ (n : ℕ). 1 ≤ n) one.number_is (omega (arith, within.0))

pub close_gone-requires-clause-to : goal.close_gone-requires-clause-to
close_gone-requires-clause-to g c =
    let ready = subst (λ (n : NodeState). IsReady g.D.Disk.observable g.F.Files.observable g.L.Lines.observable g.T.Texts.read n (g.D.Disk.state c.args.disk.now) (g.F.Files.state c.args.files.now) (g.L.Lines.traffic c.args.lines.now) c.args.beat.now (g.L.Lines.last c.args.lines.now) c.args.now) (sym c.self.view_is) c.requires.ready in
    let first = subst (λ (xs : List Session). place_of c.args.sid.number xs ≡ Some c.in-Some.at) c.deref.ensures.value (sym c.in-Some.ensures) in
    let one = found c.self.inside.sessions.items c.in-Some.at c.args.sid.number first in
    let within = rising_at 0 (g.L.Lines.last c.args.lines.now) c.self.inside.sessions.items c.in-Some.at one.session ready.sessions.sids one.is in
    subst (λ (n : ℕ). c.args.sid.number ≤ n) (sym c.take_turn-ending.ensures.advanced.last) (subst (λ (n : ℕ). n ≤ g.L.Lines.last c.args.lines.now) one.number_is within.1)

pub returns-in-Ok-clause-turned : goal.returns-in-Ok-clause-turned
returns-in-Ok-clause-turned g c =
    let xs : List Session = c.self.inside.sessions.items in
    let at : ℕ = c.in-Some.at in
    let first = subst (λ (l : List Session). place_of c.args.sid.number l ≡ Some at) c.deref.ensures.value (sym c.in-Some.ensures) in
    let one = found xs at c.args.sid.number first in
    let s : Session = one.session in
    let swapped = c.swap_phase-phase.ensures.swapped s one.is in
    let second = swapped_back xs c.swap_phase-phase.new.sessions.items c.swap_phase.new.sessions.items at s c.swap_phase.result c.take_turn-ending.new.phase one.is swapped.1 c.swap_phase.ensures.swapped in
    let within : at < length c.self.inside.readers.items = omega (arith, one.within, c.self.invariant) in
    let node : NodeState = record { registry = c.self.inside.registry; config = c.self.inside.config; sessions = xs; readings = c.self.inside.readers.items; holdings = c.self.inside.owners } in
    let after : NodeState = record { registry = c.take_turn-ending.new.registry; config = c.self.inside.config; sessions = c.swap_phase.new.sessions.items; readings = slice_set c.self.inside.readers.items at c.take_turn-ending.new.reader; holdings = c.take_turn-ending.new.owners } in
    let start = told (g.F.Files.state c.args.files.now).shelf (g.F.Files.faults c.args.files.now) (g.L.Lines.traffic c.args.lines.now) (g.L.Lines.counts c.args.lines.now) in
    let end = told (g.F.Files.state c.take_turn-ending.new.files).shelf (g.F.Files.faults c.take_turn-ending.new.files) (g.L.Lines.traffic c.close_gone.new.lines) (g.L.Lines.counts c.close_gone.new.lines) in
    inl (subst (λ (n : NodeState). HadTurn g.F.Files.observable g.L.Lines.observable g.T.Texts.read c.args.now c.args.sid c.handled.result n after start end) c.self.view_is
    (subst (λ (h : Handled). HadTurn g.F.Files.observable g.L.Lines.observable g.T.Texts.read c.args.now c.args.sid h node after start end) (sym c.handled.ensures)
    (had_turn g.F.Files.observable g.L.Lines.observable g.T.Texts.read c.args.now c.args.sid node after start end at s c.swap_phase-phase.result c.take_turn-ending.new.phase c.deref-2.result.now c.index_mut.result.now c.take_turn-ending.new.reader
    first one.is one.number_is (slice_get_read c.self.inside.readers.items (length c.self.inside.readers.items) at c.index_mut.result.now refl within c.index_mut.ensures.value)
    second refl swapped.0 (c.deref-2.ensures.value ∙ swapped.1) c.in-Ok.ending
    (turn_then g.F.Files.observable g.L.Lines.observable (setting_of c.self.inside.config) g.T.Texts.read c.args.sid.number c.args.now c.deref-2.result.now c.in-Ok.ending (g.L.Lines.counts c.args.lines.now) (g.L.Lines.counts c.take_turn-ending.new.lines) c.index_mut.result.now c.take_turn-ending.new.reader
    (spot c.self.inside.registry.entries (g.F.Files.state c.args.files.now).shelf c.swap_phase-phase.result c.self.inside.owners (g.L.Lines.traffic c.args.lines.now))
    (spot c.take_turn-ending.new.registry.entries (g.F.Files.state c.take_turn-ending.new.files).shelf c.take_turn-ending.new.phase c.take_turn-ending.new.owners (g.L.Lines.traffic c.take_turn-ending.new.lines))
    (g.L.Lines.counts c.close_gone.new.lines) (g.L.Lines.traffic c.close_gone.new.lines) c.close_gone.ensures.later c.close_gone.ensures.same c.in-Ok.ensures.handled)
    (λ lost. lost_later c.self.inside.registry.entries c.swap_phase-phase.result c.take_turn-ending.new.reader c.args.sid.number (g.L.Lines.counts c.args.lines.now) (g.L.Lines.counts c.take_turn-ending.new.lines) (g.L.Lines.counts c.close_gone.new.lines) (c.in-Ok.ensures.lost (ap Ok lost)) c.close_gone.ensures.later)
    (λ troubled. c.in-Ok.ensures.troubled (ap Ok troubled)))))

pub returns-in-Ok-clause-ready : goal.returns-in-Ok-clause-ready
returns-in-Ok-clause-ready g c =
    let ready = subst (λ (n : NodeState). IsReady g.D.Disk.observable g.F.Files.observable g.L.Lines.observable g.T.Texts.read n (g.D.Disk.state c.args.disk.now) (g.F.Files.state c.args.files.now) (g.L.Lines.traffic c.args.lines.now) c.args.beat.now (g.L.Lines.last c.args.lines.now) c.args.now) (sym c.self.view_is) c.requires.ready in
    let xs : List Session = c.self.inside.sessions.items in
    let at : ℕ = c.in-Some.at in
    let first = subst (λ (l : List Session). place_of c.args.sid.number l ≡ Some at) c.deref.ensures.value (sym c.in-Some.ensures) in
    let one = found xs at c.args.sid.number first in
    let s : Session = one.session in
    let swapped = c.swap_phase-phase.ensures.swapped s one.is in
    let second = swapped_back xs c.swap_phase-phase.new.sessions.items c.swap_phase.new.sessions.items at s c.swap_phase.result c.take_turn-ending.new.phase one.is swapped.1 c.swap_phase.ensures.swapped in
    let within : at < length c.self.inside.readers.items = omega (arith, one.within, c.self.invariant) in
    let node : NodeState = record { registry = c.self.inside.registry; config = c.self.inside.config; sessions = xs; readings = c.self.inside.readers.items; holdings = c.self.inside.owners } in
    let after : NodeState = record { registry = c.take_turn-ending.new.registry; config = c.self.inside.config; sessions = c.swap_phase.new.sessions.items; readings = slice_set c.self.inside.readers.items at c.take_turn-ending.new.reader; holdings = c.take_turn-ending.new.owners } in
    let start = told (g.F.Files.state c.args.files.now).shelf (g.F.Files.faults c.args.files.now) (g.L.Lines.traffic c.args.lines.now) (g.L.Lines.counts c.args.lines.now) in
    let end = told (g.F.Files.state c.take_turn-ending.new.files).shelf (g.F.Files.faults c.take_turn-ending.new.files) (g.L.Lines.traffic c.close_gone.new.lines) (g.L.Lines.counts c.close_gone.new.lines) in
    let has = subst (λ (n : ℕ). HasSessions g.L.Lines.observable node (g.L.Lines.traffic c.args.lines.now) n) (sym (c.close_gone.ensures.last ∙ c.take_turn-ending.ensures.advanced.last)) ready.sessions in
    let e = c.in-Ok.ensures in
    record {
      home = record {
        legal = e.home.journal.legal;
        on_time = e.home.journal.on_time;
        header = e.home.journal.header;
        sound = e.home.journal.sound (λ h. let k : ⊥ = cc in k);
        registry = λ told. e.home.journal.registry told (λ h. let k : ⊥ = cc in k);
        order = e.home.journal.order;
      };
      files_order = e.home.files_order;
      sessions = sessions_turned g.F.Files.observable g.L.Lines.observable g.T.Texts.read c.args.now c.args.sid node after start end at s c.swap_phase-phase.result c.take_turn-ending.new.phase c.deref-2.result.now c.index_mut.result.now c.take_turn-ending.new.reader
          first one.is one.number_is (slice_get_read c.self.inside.readers.items (length c.self.inside.readers.items) at c.index_mut.result.now refl within c.index_mut.ensures.value)
          second refl swapped.0 (c.deref-2.ensures.value ∙ swapped.1) (g.L.Lines.last c.close_gone.new.lines) c.in-Ok.ending
          (turn_then g.F.Files.observable g.L.Lines.observable (setting_of c.self.inside.config) g.T.Texts.read c.args.sid.number c.args.now c.deref-2.result.now c.in-Ok.ending (g.L.Lines.counts c.args.lines.now) (g.L.Lines.counts c.take_turn-ending.new.lines) c.index_mut.result.now c.take_turn-ending.new.reader
          (spot c.self.inside.registry.entries (g.F.Files.state c.args.files.now).shelf c.swap_phase-phase.result c.self.inside.owners (g.L.Lines.traffic c.args.lines.now))
          (spot c.take_turn-ending.new.registry.entries (g.F.Files.state c.take_turn-ending.new.files).shelf c.take_turn-ending.new.phase c.take_turn-ending.new.owners (g.L.Lines.traffic c.take_turn-ending.new.lines))
          (g.L.Lines.counts c.close_gone.new.lines) (g.L.Lines.traffic c.close_gone.new.lines) c.close_gone.ensures.later c.close_gone.ensures.same e.handled)
          has;
      block = ready.block;
    }

pub returns-in-Err-clause-failed : goal.returns-in-Err-clause-failed
returns-in-Err-clause-failed g c =
    let xs : List Session = c.self.inside.sessions.items in
    let at : ℕ = c.in-Some.at in
    let first = subst (λ (l : List Session). place_of c.args.sid.number l ≡ Some at) c.deref.ensures.value (sym c.in-Some.ensures) in
    let one = found xs at c.args.sid.number first in
    let s : Session = one.session in
    let swapped = c.swap_phase-phase.ensures.swapped s one.is in
    let second = swapped_back xs c.swap_phase-phase.new.sessions.items c.swap_phase-in-Err.new.sessions.items at s c.swap_phase-in-Err.result c.take_turn-ending.new.phase one.is swapped.1 c.swap_phase-in-Err.ensures.swapped in
    let within : at < length c.self.inside.readers.items = omega (arith, one.within, c.self.invariant) in
    let node : NodeState = record { registry = c.self.inside.registry; config = c.self.inside.config; sessions = xs; readings = c.self.inside.readers.items; holdings = c.self.inside.owners } in
    let after : NodeState = record { registry = c.take_turn-ending.new.registry; config = c.self.inside.config; sessions = c.swap_phase-in-Err.new.sessions.items; readings = slice_set c.self.inside.readers.items at c.take_turn-ending.new.reader; holdings = c.take_turn-ending.new.owners } in
    let start = told (g.F.Files.state c.args.files.now).shelf (g.F.Files.faults c.args.files.now) (g.L.Lines.traffic c.args.lines.now) (g.L.Lines.counts c.args.lines.now) in
    let end = told (g.F.Files.state c.take_turn-ending.new.files).shelf (g.F.Files.faults c.take_turn-ending.new.files) (g.L.Lines.traffic c.take_turn-ending.new.lines) (g.L.Lines.counts c.take_turn-ending.new.lines) in
    subst (λ (n : NodeState). FailedTurn g.F.Files.observable g.L.Lines.observable g.T.Texts.read c.args.now c.args.sid c.in-Err.fault n after start end) c.self.view_is
    (failed_turn g.F.Files.observable g.L.Lines.observable g.T.Texts.read c.args.now c.args.sid node after start end at s c.swap_phase-phase.result c.take_turn-ending.new.phase c.deref-2.result.now c.index_mut.result.now c.take_turn-ending.new.reader
    first one.is one.number_is (slice_get_read c.self.inside.readers.items (length c.self.inside.readers.items) at c.index_mut.result.now refl within c.index_mut.ensures.value)
    second refl swapped.0 (c.deref-2.ensures.value ∙ swapped.1) c.in-Err.fault c.in-Err.ensures.failed)

pub returns-in-Err-clause-home : goal.returns-in-Err-clause-home
returns-in-Err-clause-home g c = λ other.
    let e = c.in-Err.ensures in
    let not_disk = λ (is : c.in-Err.fault ≡ fault.Disk). other (ap (λ (f : Fault). Err f) is) in
    record {
      legal = e.home.journal.legal;
      on_time = e.home.journal.on_time;
      header = e.home.journal.header;
      sound = e.home.journal.sound (λ h. let is : c.in-Err.fault ≡ fault.Disk = cc in not_disk is);
      registry = λ told. e.home.journal.registry told (λ h. let is : c.in-Err.fault ≡ fault.Disk = cc in not_disk is);
      order = e.home.journal.order;
    }

pub returns-in-Err-clause-crash : goal.returns-in-Err-clause-crash
returns-in-Err-clause-crash g c = λ told_disk files_told.
    let xs : List Session = c.self.inside.sessions.items in
    let at : ℕ = c.in-Some.at in
    let first = subst (λ (l : List Session). place_of c.args.sid.number l ≡ Some at) c.deref.ensures.value (sym c.in-Some.ensures) in
    let one = found xs at c.args.sid.number first in
    let s : Session = one.session in
    let swapped = c.swap_phase-phase.ensures.swapped s one.is in
    let second = swapped_back xs c.swap_phase-phase.new.sessions.items c.swap_phase-in-Err.new.sessions.items at s c.swap_phase-in-Err.result c.take_turn-ending.new.phase one.is swapped.1 c.swap_phase-in-Err.ensures.swapped in
    let within : at < length c.self.inside.readers.items = omega (arith, one.within, c.self.invariant) in
    let node : NodeState = record { registry = c.self.inside.registry; config = c.self.inside.config; sessions = xs; readings = c.self.inside.readers.items; holdings = c.self.inside.owners } in
    let after : NodeState = record { registry = c.take_turn-ending.new.registry; config = c.self.inside.config; sessions = c.swap_phase-in-Err.new.sessions.items; readings = slice_set c.self.inside.readers.items at c.take_turn-ending.new.reader; holdings = c.take_turn-ending.new.owners } in
    let start = told (g.F.Files.state c.args.files.now).shelf (g.F.Files.faults c.args.files.now) (g.L.Lines.traffic c.args.lines.now) (g.L.Lines.counts c.args.lines.now) in
    let end = told (g.F.Files.state c.take_turn-ending.new.files).shelf (g.F.Files.faults c.take_turn-ending.new.files) (g.L.Lines.traffic c.take_turn-ending.new.lines) (g.L.Lines.counts c.take_turn-ending.new.lines) in
    inr (subst (λ (n : NodeState). NodeLeaves g.F.Files.observable g.L.Lines.observable g.T.Texts.read c.args.now c.args.sid n start (JointAt (g.D.Disk.state c.args.disk.now) (g.F.Files.state c.args.files.now)) (JointAt (g.D.Disk.state c.take_turn-ending.new.disk) (g.F.Files.state c.take_turn-ending.new.files)) c.args.beat.now) c.self.view_is
    (node_leaves g.F.Files.observable g.L.Lines.observable g.T.Texts.read c.args.now c.args.sid node after start end at s c.swap_phase-phase.result c.take_turn-ending.new.phase c.deref-2.result.now c.index_mut.result.now c.take_turn-ending.new.reader
    first one.is one.number_is (slice_get_read c.self.inside.readers.items (length c.self.inside.readers.items) at c.index_mut.result.now refl within c.index_mut.ensures.value)
    second refl swapped.0 (c.deref-2.ensures.value ∙ swapped.1)
    (JointAt (g.D.Disk.state c.args.disk.now) (g.F.Files.state c.args.files.now)) (JointAt (g.D.Disk.state c.take_turn-ending.new.disk) (g.F.Files.state c.take_turn-ending.new.files)) c.args.beat.now
    (c.take_turn-ending.ensures.crash told_disk files_told)))

pub returns-in-Ok-clause-crash : goal.returns-in-Ok-clause-crash
returns-in-Ok-clause-crash g c = λ told_disk files_told.
    let xs : List Session = c.self.inside.sessions.items in
    let at : ℕ = c.in-Some.at in
    let first = subst (λ (l : List Session). place_of c.args.sid.number l ≡ Some at) c.deref.ensures.value (sym c.in-Some.ensures) in
    let one = found xs at c.args.sid.number first in
    let s : Session = one.session in
    let swapped = c.swap_phase-phase.ensures.swapped s one.is in
    let second = swapped_back xs c.swap_phase-phase.new.sessions.items c.swap_phase.new.sessions.items at s c.swap_phase.result c.take_turn-ending.new.phase one.is swapped.1 c.swap_phase.ensures.swapped in
    let within : at < length c.self.inside.readers.items = omega (arith, one.within, c.self.invariant) in
    let node : NodeState = record { registry = c.self.inside.registry; config = c.self.inside.config; sessions = xs; readings = c.self.inside.readers.items; holdings = c.self.inside.owners } in
    let after : NodeState = record { registry = c.take_turn-ending.new.registry; config = c.self.inside.config; sessions = c.swap_phase.new.sessions.items; readings = slice_set c.self.inside.readers.items at c.take_turn-ending.new.reader; holdings = c.take_turn-ending.new.owners } in
    let start = told (g.F.Files.state c.args.files.now).shelf (g.F.Files.faults c.args.files.now) (g.L.Lines.traffic c.args.lines.now) (g.L.Lines.counts c.args.lines.now) in
    let end = told (g.F.Files.state c.take_turn-ending.new.files).shelf (g.F.Files.faults c.take_turn-ending.new.files) (g.L.Lines.traffic c.close_gone.new.lines) (g.L.Lines.counts c.close_gone.new.lines) in
    inr (subst (λ (n : NodeState). NodeLeaves g.F.Files.observable g.L.Lines.observable g.T.Texts.read c.args.now c.args.sid n start (JointAt (g.D.Disk.state c.args.disk.now) (g.F.Files.state c.args.files.now)) (JointAt (g.D.Disk.state c.take_turn-ending.new.disk) (g.F.Files.state c.take_turn-ending.new.files)) c.args.beat.now) c.self.view_is
    (node_leaves g.F.Files.observable g.L.Lines.observable g.T.Texts.read c.args.now c.args.sid node after start end at s c.swap_phase-phase.result c.take_turn-ending.new.phase c.deref-2.result.now c.index_mut.result.now c.take_turn-ending.new.reader
    first one.is one.number_is (slice_get_read c.self.inside.readers.items (length c.self.inside.readers.items) at c.index_mut.result.now refl within c.index_mut.ensures.value)
    second refl swapped.0 (c.deref-2.ensures.value ∙ swapped.1)
    (JointAt (g.D.Disk.state c.args.disk.now) (g.F.Files.state c.args.files.now)) (JointAt (g.D.Disk.state c.take_turn-ending.new.disk) (g.F.Files.state c.take_turn-ending.new.files)) c.args.beat.now
    (c.take_turn-ending.ensures.crash told_disk files_told)))

pub returns-in-Ok-clause-beat : goal.returns-in-Ok-clause-beat
returns-in-Ok-clause-beat g c = (advanced_then c.take_turn-ending.ensures.advanced (lines_advanced (g.D.Disk.faults c.take_turn-ending.new.disk) (g.F.Files.faults c.take_turn-ending.new.files) (g.L.Lines.counts c.take_turn-ending.new.lines) (g.L.Lines.counts c.close_gone.new.lines) (g.L.Lines.last c.take_turn-ending.new.lines) (g.L.Lines.last c.close_gone.new.lines) c.take_turn-ending.new.beat c.close_gone.ensures.last c.close_gone.ensures.later c.close_gone.ensures.nones)).beat

pub returns-in-Err-clause-beat : goal.returns-in-Err-clause-beat
returns-in-Err-clause-beat g c = c.take_turn-ending.ensures.advanced.beat

pub returns-in-Ok-clause-last : goal.returns-in-Ok-clause-last
returns-in-Ok-clause-last g c = (advanced_then c.take_turn-ending.ensures.advanced (lines_advanced (g.D.Disk.faults c.take_turn-ending.new.disk) (g.F.Files.faults c.take_turn-ending.new.files) (g.L.Lines.counts c.take_turn-ending.new.lines) (g.L.Lines.counts c.close_gone.new.lines) (g.L.Lines.last c.take_turn-ending.new.lines) (g.L.Lines.last c.close_gone.new.lines) c.take_turn-ending.new.beat c.close_gone.ensures.last c.close_gone.ensures.later c.close_gone.ensures.nones)).last

pub returns-in-Err-clause-last : goal.returns-in-Err-clause-last
returns-in-Err-clause-last g c = c.take_turn-ending.ensures.advanced.last

pub returns-in-Ok-clause-disk_later : goal.returns-in-Ok-clause-disk_later
returns-in-Ok-clause-disk_later g c = (advanced_then c.take_turn-ending.ensures.advanced (lines_advanced (g.D.Disk.faults c.take_turn-ending.new.disk) (g.F.Files.faults c.take_turn-ending.new.files) (g.L.Lines.counts c.take_turn-ending.new.lines) (g.L.Lines.counts c.close_gone.new.lines) (g.L.Lines.last c.take_turn-ending.new.lines) (g.L.Lines.last c.close_gone.new.lines) c.take_turn-ending.new.beat c.close_gone.ensures.last c.close_gone.ensures.later c.close_gone.ensures.nones)).disk_later

pub returns-in-Err-clause-disk_later : goal.returns-in-Err-clause-disk_later
returns-in-Err-clause-disk_later g c = c.take_turn-ending.ensures.advanced.disk_later

pub returns-in-Ok-clause-files_later : goal.returns-in-Ok-clause-files_later
returns-in-Ok-clause-files_later g c = (advanced_then c.take_turn-ending.ensures.advanced (lines_advanced (g.D.Disk.faults c.take_turn-ending.new.disk) (g.F.Files.faults c.take_turn-ending.new.files) (g.L.Lines.counts c.take_turn-ending.new.lines) (g.L.Lines.counts c.close_gone.new.lines) (g.L.Lines.last c.take_turn-ending.new.lines) (g.L.Lines.last c.close_gone.new.lines) c.take_turn-ending.new.beat c.close_gone.ensures.last c.close_gone.ensures.later c.close_gone.ensures.nones)).files_later

pub returns-in-Err-clause-files_later : goal.returns-in-Err-clause-files_later
returns-in-Err-clause-files_later g c = c.take_turn-ending.ensures.advanced.files_later

pub returns-in-Ok-clause-lines_later : goal.returns-in-Ok-clause-lines_later
returns-in-Ok-clause-lines_later g c = (advanced_then c.take_turn-ending.ensures.advanced (lines_advanced (g.D.Disk.faults c.take_turn-ending.new.disk) (g.F.Files.faults c.take_turn-ending.new.files) (g.L.Lines.counts c.take_turn-ending.new.lines) (g.L.Lines.counts c.close_gone.new.lines) (g.L.Lines.last c.take_turn-ending.new.lines) (g.L.Lines.last c.close_gone.new.lines) c.take_turn-ending.new.beat c.close_gone.ensures.last c.close_gone.ensures.later c.close_gone.ensures.nones)).lines_later

pub returns-in-Err-clause-lines_later : goal.returns-in-Err-clause-lines_later
returns-in-Err-clause-lines_later g c = c.take_turn-ending.ensures.advanced.lines_later

pub returns-in-Ok-clause-nones : goal.returns-in-Ok-clause-nones
returns-in-Ok-clause-nones g c = (advanced_then c.take_turn-ending.ensures.advanced (lines_advanced (g.D.Disk.faults c.take_turn-ending.new.disk) (g.F.Files.faults c.take_turn-ending.new.files) (g.L.Lines.counts c.take_turn-ending.new.lines) (g.L.Lines.counts c.close_gone.new.lines) (g.L.Lines.last c.take_turn-ending.new.lines) (g.L.Lines.last c.close_gone.new.lines) c.take_turn-ending.new.beat c.close_gone.ensures.last c.close_gone.ensures.later c.close_gone.ensures.nones)).nones

pub returns-in-Err-clause-nones : goal.returns-in-Err-clause-nones
returns-in-Err-clause-nones g c = c.take_turn-ending.ensures.advanced.nones

pub returns-in-Ok-clause-legal : goal.returns-in-Ok-clause-legal
returns-in-Ok-clause-legal g c = c.take_turn-ending.ensures.home.journal.legal

pub returns-in-Err-clause-legal : goal.returns-in-Err-clause-legal
returns-in-Err-clause-legal g c = c.take_turn-ending.ensures.home.journal.legal

pub returns-in-Err-clause-disk : goal.returns-in-Err-clause-disk
returns-in-Err-clause-disk g c = λ h. c.in-Err.ensures.cause.disk (let is : c.in-Err.fault ≡ fault.Disk = cc in ap (λ (f : Fault). Some f) is)

pub returns-in-Err-clause-files : goal.returns-in-Err-clause-files
returns-in-Err-clause-files g c = λ h. c.in-Err.ensures.cause.files (let is : c.in-Err.fault ≡ fault.Files = cc in ap (λ (f : Fault). Some f) is)

pub returns-in-Err-clause-line : goal.returns-in-Err-clause-line
returns-in-Err-clause-line g c = λ h. c.in-Err.ensures.cause.line (let is : c.in-Err.fault ≡ fault.Line = cc in ap (λ (f : Fault). Some f) is)

pub returns-in-Err-clause-full : goal.returns-in-Err-clause-full
returns-in-Err-clause-full g c = λ len h. c.in-Err.ensures.home.journal.full len (let is : c.in-Err.fault ≡ fault.JournalFull len = cc in ap (λ (f : Fault). Some f) is)
