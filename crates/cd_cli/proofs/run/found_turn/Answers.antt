use Rattle.std.proofs.Common.{◌≡◌, [], ◌∷◌, ap, subst, sym, ◌∙◌}
use Rattle.cd_outside.specs.Counts.{Rose}
use Rattle.cd_input.specs.Scanner.{event_of}
use Rattle.cd_commands.specs.declared.heard.Heard.{Heard}
use Rattle.cd_drill_command.specs.Asked.{Shows}
use Rattle.cd_turn.specs.Order.{order_of}
use Rattle.cd_turn.specs.Turn.{Turn, order_in, answer, added}
use Rattle.cd_turn.proofs.Homes.{rests_kept}
use Rattle.cd_cli.specs.Flow.{was_refused, last_in, ends_by}
use Rattle.cd_cli.specs.Run.{ends_run}
use Rattle.cd_cli.specs.Told.{GoesBy}
use Rattle.cd_cli.proofs.Halting.{halted_one, halted_none, keeps_behind, once_single}
use Rattle.cd_cli.proofs.Leaving.{turn_moments}
use Rattle.cd_cli.proofs.Turning.{turned_one, answer_ends, or_false}
use Rattle.cd_cli.proofs.run.found_turn.Goals as goal

-- memory ran out before the turn
pub returns-in-Err-clause-halted : goal.returns-in-Err-clause-halted
returns-in-Err-clause-halted g c = λ was.
    halted_none ((g.P.Disk.state c.args.journal.now).seen ≡ []) g.P.Disk.observable g.O.Sink.observable (GoesBy g.C.Clock.observable g.F.Files.observable (g.C.Clock.moment c.args.clock.now) (g.F.Files.state c.args.files.now).shelf.seen (Rose (g.F.Files.faults c.args.files.now) (g.F.Files.faults c.args.files.now))) c.args.home.now.entries (g.O.Sink.taken c.args.out.now) was (event_of c.args.found.now ∷ [])
    (g.P.Disk.state c.args.journal.now) (λ told. rests_kept c.args.home.now (g.P.Disk.state c.args.journal.now) c.requires.legal (c.requires.home told))

pub returns-in-Err-show_for-clause-halted : goal.returns-in-Err-show_for-clause-halted
returns-in-Err-show_for-clause-halted g c = λ was.
    halted_none ((g.P.Disk.state c.args.journal.now).seen ≡ []) g.P.Disk.observable g.O.Sink.observable (GoesBy g.C.Clock.observable g.F.Files.observable (g.C.Clock.moment c.args.clock.now) (g.F.Files.state c.args.files.now).shelf.seen (Rose (g.F.Files.faults c.args.files.now) (g.F.Files.faults c.show_for.new.files))) c.args.home.now.entries (g.O.Sink.taken c.args.out.now) was (event_of c.args.found.now ∷ [])
    (g.P.Disk.state c.args.journal.now) (λ told. rests_kept c.args.home.now (g.P.Disk.state c.args.journal.now) c.requires.legal (c.requires.home told))

pub returns-in-Err-order_of-clause-halted : goal.returns-in-Err-order_of-clause-halted
returns-in-Err-order_of-clause-halted g c = λ was.
    halted_none ((g.P.Disk.state c.args.journal.now).seen ≡ []) g.P.Disk.observable g.O.Sink.observable (GoesBy g.C.Clock.observable g.F.Files.observable (g.C.Clock.moment c.args.clock.now) (g.F.Files.state c.args.files.now).shelf.seen (Rose (g.F.Files.faults c.args.files.now) (g.F.Files.faults c.show_for.new.files))) c.args.home.now.entries (g.O.Sink.taken c.args.out.now) was (event_of c.args.found.now ∷ [])
    (g.P.Disk.state c.args.journal.now) (λ told. rests_kept c.args.home.now (g.P.Disk.state c.args.journal.now) c.requires.legal (c.requires.home told))

-- the turn was made
pub returns-in-Ok-make_turn-clause-went : goal.returns-in-Ok-make_turn-clause-went
returns-in-Ok-make_turn-clause-went g c = λ was.
    let turn : Turn = record { now = c.now-now.result; event = event_of c.args.found.now; shown = c.in-Ok-show_for.shown } in
    let by : Turn → Type 0 = GoesBy g.C.Clock.observable g.F.Files.observable (g.C.Clock.moment c.args.clock.now) (g.F.Files.state c.args.files.now).shelf.seen (Rose (g.F.Files.faults c.args.files.now) (g.F.Files.faults c.show_for.new.files)) in
    let goes : by turn = record {
      moment_is = λ told. c.now-now.ensures.moment told;
      shown_is = subst (λ (said : Heard). Shows g.F.Files.observable (g.F.Files.state c.args.files.now).shelf.seen said c.in-Ok-show_for.shown) c.in-Ok.ensures.heard c.in-Ok-show_for.ensures.shown;
      failed = λ is. c.in-Ok-show_for.ensures.failed is;
    } in
    let wanted : c.in-Ok-order_of.order ≡ order_in turn = c.in-Ok-order_of.ensures.order ∙ ap (λ (said : Heard). order_of said c.in-Ok-show_for.shown) c.in-Ok.ensures.heard in
    let event = event_of c.args.found.now in
    let entries = c.args.home.now.entries in
    let is = c.in-Ok-make_turn.ensures.reply in
    record {
      ends = c.flow_of.ensures.ends ∙ ap (ends_by event) (is ∙ ap (answer entries) wanted) ∙ answer_ends event entries c.in-Ok-show_for.shown ∙ sym (or_false (ends_run event));
      once = once_single event;
      turned = turned_one g.P.Disk.observable g.O.Sink.observable by entries c.make_turn.new.home.entries (g.O.Sink.taken c.args.out.now) (g.O.Sink.taken c.make_turn.new.out) was
          (was_refused (last_in c.flow_of.result)) turn c.in-Ok-order_of.order c.in-Ok-make_turn.reply wanted c.in-Ok-make_turn.ensures.kept is (λ told. c.in-Ok-make_turn.ensures.out told) (λ told. c.in-Ok-make_turn.ensures.fits told)
          goes c.flow_of.ensures.last;
    }

-- it ended the run
pub returns-clause-halted : goal.returns-clause-halted
returns-clause-halted g c = λ was.
    let turn : Turn = record { now = c.now-now.result; event = event_of c.args.found.now; shown = c.in-Ok-show_for.shown } in
    let by : Turn → Type 0 = GoesBy g.C.Clock.observable g.F.Files.observable (g.C.Clock.moment c.args.clock.now) (g.F.Files.state c.args.files.now).shelf.seen (Rose (g.F.Files.faults c.args.files.now) (g.F.Files.faults c.show_for.new.files)) in
    let goes : by turn = record {
      moment_is = λ told. c.now-now.ensures.moment told;
      shown_is = subst (λ (said : Heard). Shows g.F.Files.observable (g.F.Files.state c.args.files.now).shelf.seen said c.in-Ok-show_for.shown) c.in-Ok.ensures.heard c.in-Ok-show_for.ensures.shown;
      failed = λ is. c.in-Ok-show_for.ensures.failed is;
    } in
    let wanted : c.in-Ok-order_of.order ≡ order_in turn = c.in-Ok-order_of.ensures.order ∙ ap (λ (said : Heard). order_of said c.in-Ok-show_for.shown) c.in-Ok.ensures.heard in
    let entries = c.args.home.now.entries in
    let before = g.P.Disk.state c.args.journal.now in
    let now = g.P.Disk.state c.make_turn.new.journal in
    halted_one (before.seen ≡ []) g.P.Disk.observable (Rose (g.P.Disk.faults c.args.journal.now) (g.P.Disk.faults c.make_turn.new.journal)) g.O.Sink.observable (Rose (g.O.Sink.faults c.args.out.now) (g.O.Sink.faults c.make_turn.new.out)) by entries
    (g.O.Sink.taken c.args.out.now) (g.O.Sink.taken c.make_turn.new.out) was turn c.in-Ok-order_of.order now c.in-Err-make_turn.status
    wanted c.in-Err-make_turn.ensures.reason (λ told. c.in-Err-make_turn.ensures.took told) goes
    (λ told is. c.in-Err-make_turn.ensures.written told is)
    (λ told. keeps_behind before now c.args.beat.now (before.seen ≡ []) entries (added entries turn.now c.in-Ok-order_of.order) (c.in-Err-make_turn.ensures.moments told))

-- what a crash may leave of it
pub returns-in-Ok-make_turn-clause-moments : goal.returns-in-Ok-make_turn-clause-moments
returns-in-Ok-make_turn-clause-moments g c = λ told.
    let turn : Turn = record { now = c.now-now.result; event = event_of c.args.found.now; shown = c.in-Ok-show_for.shown } in
    let by : Turn → Type 0 = GoesBy g.C.Clock.observable g.F.Files.observable (g.C.Clock.moment c.args.clock.now) (g.F.Files.state c.args.files.now).shelf.seen (Rose (g.F.Files.faults c.args.files.now) (g.F.Files.faults c.show_for.new.files)) in
    let goes : by turn = record {
      moment_is = λ told. c.now-now.ensures.moment told;
      shown_is = subst (λ (said : Heard). Shows g.F.Files.observable (g.F.Files.state c.args.files.now).shelf.seen said c.in-Ok-show_for.shown) c.in-Ok.ensures.heard c.in-Ok-show_for.ensures.shown;
      failed = λ is. c.in-Ok-show_for.ensures.failed is;
    } in
    let wanted : c.in-Ok-order_of.order ≡ order_in turn = c.in-Ok-order_of.ensures.order ∙ ap (λ (said : Heard). order_of said c.in-Ok-show_for.shown) c.in-Ok.ensures.heard in
    let before = g.P.Disk.state c.args.journal.now in
    turn_moments before (g.P.Disk.state c.make_turn.new.journal) c.args.beat.now (before.seen ≡ []) (Unit {0}) by c.args.home.now.entries turn c.in-Ok-order_of.order wanted goes (c.in-Ok-make_turn.ensures.moments told)

pub returns-clause-moments : goal.returns-clause-moments
returns-clause-moments g c = λ told.
    let turn : Turn = record { now = c.now-now.result; event = event_of c.args.found.now; shown = c.in-Ok-show_for.shown } in
    let by : Turn → Type 0 = GoesBy g.C.Clock.observable g.F.Files.observable (g.C.Clock.moment c.args.clock.now) (g.F.Files.state c.args.files.now).shelf.seen (Rose (g.F.Files.faults c.args.files.now) (g.F.Files.faults c.show_for.new.files)) in
    let goes : by turn = record {
      moment_is = λ told. c.now-now.ensures.moment told;
      shown_is = subst (λ (said : Heard). Shows g.F.Files.observable (g.F.Files.state c.args.files.now).shelf.seen said c.in-Ok-show_for.shown) c.in-Ok.ensures.heard c.in-Ok-show_for.ensures.shown;
      failed = λ is. c.in-Ok-show_for.ensures.failed is;
    } in
    let wanted : c.in-Ok-order_of.order ≡ order_in turn = c.in-Ok-order_of.ensures.order ∙ ap (λ (said : Heard). order_of said c.in-Ok-show_for.shown) c.in-Ok.ensures.heard in
    let before = g.P.Disk.state c.args.journal.now in
    turn_moments before (g.P.Disk.state c.make_turn.new.journal) c.args.beat.now (before.seen ≡ []) (Unit {0}) by c.args.home.now.entries turn c.in-Ok-order_of.order wanted goes (c.in-Err-make_turn.ensures.moments told)
