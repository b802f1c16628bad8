use Rattle.std.proofs.Common.{◌≡◌, ◌≤◌, ◌∙◌}
use Rattle.cd_outside.specs.Counts.{Rose}
use Rattle.cd_turn.specs.Home.{IsUnfit}
use Rattle.cd_turn.specs.Status.{last_line}
use Rattle.cd_cli.specs.Told.{GoesBy}
use Rattle.cd_cli.proofs.Completing.{served_completes, served_away}
use Rattle.cd_cli.proofs.Going.{ended_weaker, rose_before, took_since}
use Rattle.cd_cli.proofs.run.run_node.Goals as goal

-- the run, and then its last line
pub returns-clause-served : goal.returns-clause-served
returns-clause-served g c = λ none. record {
  told = g.O.Sink.taken c.run-status.new.out;
  came = c.run-status.ensures.came;
  last = λ told.
      took_since (g.O.Sink.faults c.args.out.now) (g.O.Sink.faults c.run-status.new.out) (g.O.Sink.faults c.tell_last-2.new.out) (g.O.Sink.taken c.run-status.new.out) (last_line c.run-status.result) (g.O.Sink.taken c.tell_last-2.new.out)
      c.run-status.ensures.later_out (c.tell_last-2.ensures.taken told);
}

pub returns-clause-reason : goal.returns-clause-reason
returns-clause-reason g c = λ none.
    let rest = c.tell_last-2.ensures.later in
    ended_weaker (Rose (g.P.Disk.faults c.args.journal.now) (g.P.Disk.faults c.run-status.new.journal)) (Rose (g.P.Disk.faults c.args.journal.now) (g.P.Disk.faults c.run-status.new.journal))
    (λ at. g.P.Disk.observable → IsUnfit (g.P.Disk.state c.args.journal.now).seen at) (λ at. g.P.Disk.observable → IsUnfit (g.P.Disk.state c.args.journal.now).seen at)
    (Rose (g.S.Source.faults c.args.input.now) (g.S.Source.faults c.run-status.new.input)) (Rose (g.S.Source.faults c.args.input.now) (g.S.Source.faults c.run-status.new.input))
    (Rose (g.O.Sink.faults c.args.out.now) (g.O.Sink.faults c.run-status.new.out)) (Rose (g.O.Sink.faults c.args.out.now) (g.O.Sink.faults c.tell_last-2.new.out))
    (λ rose. rose) (λ at unfit. unfit) (λ rose. rose) (λ rose. rose_before (g.O.Sink.faults c.args.out.now) (g.O.Sink.faults c.run-status.new.out) (g.O.Sink.faults c.tell_last-2.new.out) rest rose) c.run-status.result c.run-status.ensures.reason

pub returns-clause-complete : goal.returns-clause-complete
returns-clause-complete g c = λ none disk files clock source sink entries stood legal small fits no_disk no_files no_in no_out.
    served_completes g.P.Disk.observable g.C.Clock.observable g.F.Files.observable g.S.Source.observable g.O.Sink.observable (Rose (g.P.Disk.faults c.args.journal.now) (g.P.Disk.faults c.run-status.new.journal))
    (Rose (g.F.Files.faults c.args.files.now) (g.F.Files.faults c.run-status.new.files)) (Rose (g.S.Source.faults c.args.input.now) (g.S.Source.faults c.run-status.new.input)) (Rose (g.O.Sink.faults c.args.out.now) (g.O.Sink.faults c.tell_last-2.new.out)) (g.C.Clock.moment c.args.clock.now)
    (g.F.Files.state c.args.files.now).shelf.seen
    (g.P.Disk.state c.args.journal.now) (g.P.Disk.state c.run-status.new.journal) (g.S.Source.remaining c.args.input.now) (g.S.Source.remaining c.run-status.new.input) (g.O.Sink.taken c.args.out.now)
    disk clock files source sink entries stood legal small no_disk no_files no_in no_out fits (g.O.Sink.taken c.tell_last-2.new.out) c.run-status.result (returns-clause-reason g c none) (returns-clause-served g c none)

pub returns-clause-unfit : goal.returns-clause-unfit
returns-clause-unfit g c = λ none disk no_fit.
    served_away g.P.Disk.observable g.S.Source.observable g.O.Sink.observable (Rose (g.P.Disk.faults c.args.journal.now) (g.P.Disk.faults c.run-status.new.journal))
    (Rose (g.S.Source.faults c.args.input.now) (g.S.Source.faults c.run-status.new.input)) (Rose (g.O.Sink.faults c.args.out.now) (g.O.Sink.faults c.tell_last-2.new.out)) (GoesBy g.C.Clock.observable g.F.Files.observable (g.C.Clock.moment c.args.clock.now) (g.F.Files.state c.args.files.now).shelf.seen (Rose (g.F.Files.faults c.args.files.now) (g.F.Files.faults c.run-status.new.files)))
    (g.P.Disk.state c.args.journal.now) (g.P.Disk.state c.run-status.new.journal) (g.S.Source.remaining c.args.input.now) (g.S.Source.remaining c.run-status.new.input) (g.O.Sink.taken c.args.out.now)
    (g.O.Sink.taken c.tell_last-2.new.out) c.run-status.result disk no_fit (returns-clause-reason g c none) (returns-clause-served g c none)
