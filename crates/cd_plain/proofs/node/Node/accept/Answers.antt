use Rattle.std.proofs.Common.{◌≡◌, ℕ, ◌<◌, [], ◌∷◌, ◌++◌, Option, Ok, inl, refl, sym, ap, subst, ◌∙◌, arith}
use Rattle.std.specs.Prelude.{IfSome}
use Rattle.cd_outside.specs.Lines.{Traffic, IsFresh, CountsIf, is_no_session}
use Rattle.cd_outside.specs.declared.sid.Sid.{Sid}
use Rattle.cd_protocol.specs.declared.session.Phase.TheVariants.{Fresh}
use Rattle.cd_exchange.specs.declared.session.Session.{Session}
use Rattle.cd_plain.specs.NodeState.{NodeState, HasSessions}
use Rattle.cd_plain.proofs.Opening.{opened}
use Rattle.cd_plain.proofs.Places.{newest_of, rising_later, read_same}
use Rattle.cd_plain.proofs.node.Node.accept.Goals as goal

pub returns-in-Ok-clause-accepted : goal.returns-in-Ok-clause-accepted
returns-in-Ok-clause-accepted g c =
    let newest = subst (λ (o : Option Sid). IfSome o (λ s. (g.L.Lines.last c.args.lines.now < s.number) × (g.L.Lines.last c.accept.new.self ≡ s.number))) c.in-Ok-Some.field-0-is c.in-Ok-Some.ensures.newest in
    let newer : g.L.Lines.last c.args.lines.now < g.L.Lines.last c.accept.new.self = omega (arith, newest.0, newest.1) in
    inl (record {
      answered = refl;
      made = newer;
      newest = newest_of 0 (g.L.Lines.last c.args.lines.now) (g.L.Lines.last c.accept.new.self) c.args.self.now.sessions c.requires.sessions.sids newer;
      sessions = subst (λ (n : ℕ). c.open.new.self.sessions ≡ c.args.self.now.sessions ++ (record { sid = record { number = n }; phase = Fresh }) ∷ []) (sym newest.1) c.in-Ok.ensures.opened;
      readings = c.in-Ok.ensures.read;
      nones = subst (λ (o : Option Sid). CountsIf (is_no_session (Ok o)) (g.L.Lines.counts c.args.lines.now).nones (g.L.Lines.counts c.accept.new.self).nones) c.in-Ok-Some.field-0-is c.in-Ok-Some.ensures.nones;
    })

pub returns-in-Ok-clause-sessions : goal.returns-in-Ok-clause-sessions
returns-in-Ok-clause-sessions g c =
    let newest = subst (λ (o : Option Sid). IfSome o (λ s. (g.L.Lines.last c.args.lines.now < s.number) × (g.L.Lines.last c.accept.new.self ≡ s.number))) c.in-Ok-Some.field-0-is c.in-Ok-Some.ensures.newest in
    let s : Session = record { sid = c.in-Ok-Some.sid; phase = Fresh } in
    opened g.L.Lines.observable c.args.self.now c.open.new.self (g.L.Lines.traffic c.args.lines.now) (g.L.Lines.traffic c.accept.new.self) (g.L.Lines.last c.args.lines.now) (g.L.Lines.last c.accept.new.self) s c.requires.sessions
    (newest_of 0 (g.L.Lines.last c.args.lines.now) c.in-Ok-Some.sid.number c.args.self.now.sessions c.requires.sessions.sids newest.0)
    (omega (arith, newest.0)) (omega (arith, newest.1))
    (λ told. ap (λ (t : Traffic). t.taken) (c.accept.ensures.same told))
    (λ told. ap (λ (t : Traffic). t.taken c.in-Ok-Some.sid.number) (sym (c.accept.ensures.same told)) ∙ (subst (λ (o : Option Sid). IfSome o (λ s. IsFresh s.number (g.L.Lines.traffic c.accept.new.self))) c.in-Ok-Some.field-0-is (c.in-Ok-Some.ensures.fresh told)).taken)
    c.in-Ok.ensures.opened c.in-Ok.ensures.read

pub returns-in-Err-open-clause-sessions : goal.returns-in-Err-open-clause-sessions
returns-in-Err-open-clause-sessions g c =
    let newest = subst (λ (o : Option Sid). IfSome o (λ s. (g.L.Lines.last c.args.lines.now < s.number) × (g.L.Lines.last c.accept.new.self ≡ s.number))) c.in-Ok-Some.field-0-is c.in-Ok-Some.ensures.newest in
    subst (λ (n : NodeState). HasSessions g.L.Lines.observable n (g.L.Lines.traffic c.accept.new.self) (g.L.Lines.last c.accept.new.self)) (sym c.in-Err-open.ensures.err) (record {
      sids = rising_later 0 (g.L.Lines.last c.args.lines.now) (g.L.Lines.last c.accept.new.self) c.args.self.now.sessions c.requires.sessions.sids (omega (arith, newest.0, newest.1));
      reads = λ told. read_same (g.L.Lines.traffic c.args.lines.now) (g.L.Lines.traffic c.accept.new.self) c.args.self.now.sessions c.args.self.now.readings (ap (λ (t : Traffic). t.taken) (c.accept.ensures.same told)) (c.requires.sessions.reads told);
    })
