use Rattle.std.proofs.Common.{◌≡◌, List, [], ◌∷◌, ap, sym, subst, ◌∙◌}
use Rattle.cd_input.specs.Input.{Scan, Event, scan_after}
use Rattle.cd_input.specs.Scanner.{events_of}
use Rattle.cd_outside.specs.Disk.{LeftAt}
use Rattle.cd_outside.specs.Moments.{Moments}
use Rattle.cd_cli.specs.Flow.{was_refused}
use Rattle.cd_outside.specs.Counts.{Rose}
use Rattle.cd_cli.specs.Run.{TurnsMayLeave}
use Rattle.cd_cli.specs.Told.{GoesBy}
use Rattle.cd_cli.specs.Stretch.{standing, Went, Halted}
use Rattle.cd_cli.proofs.Going.{gone_none}
use Rattle.cd_cli.proofs.Halting.{went_none, halted_none}
use Rattle.cd_turn.proofs.Homes.{rests_kept}
use Rattle.cd_cli.proofs.run.byte_turn.Goals as goal

-- nothing came to its end
pub returns-in-Ok-None-clause-went : goal.returns-in-Ok-None-clause-went
returns-in-Ok-None-clause-went g c =
    went_none g.P.Disk.observable g.O.Sink.observable (GoesBy g.C.Clock.observable g.F.Files.observable (g.C.Clock.moment c.args.clock.now) (g.F.Files.state c.args.files.now).shelf.seen (Rose (g.F.Files.faults c.args.files.now) (g.F.Files.faults c.args.files.now))) c.args.home.now.entries (g.O.Sink.taken c.args.out.now) c.args.last (scan_after c.args.scanner.now c.args.byte).1
    (ap (λ (p : Scan × List Event). p.1) c.in-Ok-None.ensures.ok ∙ ap events_of c.in-Ok-None.field-0-is)

pub returns-in-Ok-None-clause-goes : goal.returns-in-Ok-None-clause-goes
returns-in-Ok-None-clause-goes g c = λ told.
    gone_none c.args.home.now (g.P.Disk.state c.args.journal.now) c.args.beat.now (c.requires.home told) (c.requires.order told)

-- a turn was made
pub returns-in-Ok-clause-went : goal.returns-in-Ok-clause-went
returns-in-Ok-clause-went g c =
    subst (λ (es : List Event).
    Went g.P.Disk.observable g.O.Sink.observable (GoesBy g.C.Clock.observable g.F.Files.observable (g.C.Clock.moment c.args.clock.now) (g.F.Files.state c.args.files.now).shelf.seen (Rose (g.F.Files.faults c.args.files.now) (g.F.Files.faults c.found_turn.new.files))) (standing c.args.home.now.entries (g.O.Sink.taken c.args.out.now) (was_refused c.args.last)) es
    c.found_turn.new.home.entries (g.O.Sink.taken c.found_turn.new.out) c.in-Ok.flow)
    (sym (ap (λ (p : Scan × List Event). p.1) c.in-Ok-Some.ensures.ok ∙ ap events_of c.in-Ok-Some.field-0-is)) (c.in-Ok.ensures.went (was_refused c.args.last))

-- memory ran out
pub returns-clause-halted : goal.returns-clause-halted
returns-clause-halted g c =
    halted_none ((g.P.Disk.state c.args.journal.now).seen ≡ []) g.P.Disk.observable g.O.Sink.observable (GoesBy g.C.Clock.observable g.F.Files.observable (g.C.Clock.moment c.args.clock.now) (g.F.Files.state c.args.files.now).shelf.seen (Rose (g.F.Files.faults c.args.files.now) (g.F.Files.faults c.args.files.now))) c.args.home.now.entries (g.O.Sink.taken c.args.out.now) (was_refused c.args.last) (scan_after c.args.scanner.now c.args.byte).1
    (g.P.Disk.state c.args.journal.now) (λ told. rests_kept c.args.home.now (g.P.Disk.state c.args.journal.now) c.requires.legal (c.requires.home told))

-- what a crash may leave
pub returns-in-Ok-clause-moments : goal.returns-in-Ok-clause-moments
returns-in-Ok-clause-moments g c = λ told.
    let before = g.P.Disk.state c.args.journal.now in
    subst (λ (es : List Event). Moments (LeftAt before) (LeftAt (g.P.Disk.state c.found_turn.new.journal)) c.args.beat.now (TurnsMayLeave (before.seen ≡ []) (Unit {0}) (GoesBy g.C.Clock.observable g.F.Files.observable (g.C.Clock.moment c.args.clock.now) (g.F.Files.state c.args.files.now).shelf.seen (Rose (g.F.Files.faults c.args.files.now) (g.F.Files.faults c.found_turn.new.files))) c.args.home.now.entries es))
    (sym (ap (λ (p : Scan × List Event). p.1) c.in-Ok-Some.ensures.ok ∙ ap events_of c.in-Ok-Some.field-0-is)) (c.found_turn.ensures.moments told)
