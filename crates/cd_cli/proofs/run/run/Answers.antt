use Rattle.std.proofs.Common.{◌≡◌, ◌⊎◌, inl, inr, [], ℕ, ◌≤◌, ap, sym, ◌∙◌, arith}
use Rattle.cd_outside.specs.Counts.{Rose}
use Rattle.cd_journal.specs.Bytes.{list_of}
use Rattle.cd_turn.specs.Home.{IsUnfit}
use Rattle.cd_cli.specs.Told.{GoesBy}
use Rattle.cd_cli.proofs.Acknowledging.{keeps_number}
use Rattle.cd_cli.proofs.Going.{ended_weaker, rose_since}
use Rattle.cd_cli.proofs.Halting.{ran_fresh}
use Rattle.cd_cli.proofs.Leaving.{run_moments}
use Rattle.cd_cli.proofs.run.run.Goals as goal

-- the home was opened, and the node ran
pub returns-clause-came : goal.returns-clause-came
returns-clause-came g c =
    let before = g.P.Disk.state c.args.journal.now in
    let opened = g.P.Disk.state c.open.new.disk in
    let entries = c.in-Ok.home.entries in
    let now = g.P.Disk.state c.serve.new.journal in
    let ran =
    ran_fresh (before.seen ≡ []) (opened.seen ≡ []) g.P.Disk.observable g.S.Source.observable g.O.Sink.observable (GoesBy g.C.Clock.observable g.F.Files.observable (g.C.Clock.moment c.args.clock.now) (g.F.Files.state c.args.files.now).shelf.seen (Rose (g.F.Files.faults c.args.files.now) (g.F.Files.faults c.serve.new.files))) entries (g.O.Sink.taken c.args.out.now) (g.S.Source.remaining c.args.input.now) (g.S.Source.remaining c.serve.new.input)
    now (g.O.Sink.taken c.serve.new.out) c.serve.result (λ told none. sym (c.in-Ok.ensures.same told) ∙ none) c.serve.ensures.ran in
    inr (record {
      entries = entries;
      stood = λ told. ap list_of (sym (c.in-Ok.ensures.same told)) ∙ (c.in-Ok.ensures.home told).list;
      legal = c.in-Ok.ensures.legal;
      ran = ran;
      acknowledged = keeps_number (before.seen ≡ []) g.P.Disk.observable g.S.Source.observable g.O.Sink.observable (GoesBy g.C.Clock.observable g.F.Files.observable (g.C.Clock.moment c.args.clock.now) (g.F.Files.state c.args.files.now).shelf.seen (Rose (g.F.Files.faults c.args.files.now) (g.F.Files.faults c.serve.new.files))) entries (g.O.Sink.taken c.args.out.now) (g.S.Source.remaining c.args.input.now)
          (g.S.Source.remaining c.serve.new.input) now (g.O.Sink.taken c.serve.new.out) c.serve.result ran;
    })

pub returns-clause-moments : goal.returns-clause-moments
returns-clause-moments g c = λ told.
    run_moments (g.P.Disk.state c.args.journal.now) (g.P.Disk.state c.open.new.disk) (g.P.Disk.state c.serve.new.journal) c.args.beat.now c.open.new.beat g.S.Source.observable (GoesBy g.C.Clock.observable g.F.Files.observable (g.C.Clock.moment c.args.clock.now) (g.F.Files.state c.args.files.now).shelf.seen (Rose (g.F.Files.faults c.args.files.now) (g.F.Files.faults c.serve.new.files))) (g.S.Source.remaining c.args.input.now) c.in-Ok.home
    (c.in-Ok.ensures.home told) (c.in-Ok.ensures.same told) c.in-Ok.ensures.beat (c.in-Ok.ensures.moments told) (c.serve.ensures.moments told)

pub returns-clause-reason : goal.returns-clause-reason
returns-clause-reason g c =
    let opened = c.in-Ok.ensures.later in
    ended_weaker (Rose (g.P.Disk.faults c.open.new.disk) (g.P.Disk.faults c.serve.new.journal)) (Rose (g.P.Disk.faults c.args.journal.now) (g.P.Disk.faults c.serve.new.journal))
    (λ at. g.P.Disk.observable → ⊥) (λ at. g.P.Disk.observable → IsUnfit (g.P.Disk.state c.args.journal.now).seen at)
    (Rose (g.S.Source.faults c.args.input.now) (g.S.Source.faults c.serve.new.input)) (Rose (g.S.Source.faults c.args.input.now) (g.S.Source.faults c.serve.new.input))
    (Rose (g.O.Sink.faults c.args.out.now) (g.O.Sink.faults c.serve.new.out)) (Rose (g.O.Sink.faults c.args.out.now) (g.O.Sink.faults c.serve.new.out))
    (rose_since (g.P.Disk.faults c.args.journal.now) (g.P.Disk.faults c.open.new.disk) (g.P.Disk.faults c.serve.new.journal) opened) (λ at never told. absurd (never told)) (λ rose. rose) (λ rose. rose) c.serve.result c.serve.ensures.reason
