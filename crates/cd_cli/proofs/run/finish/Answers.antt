use Rattle.std.proofs.Common.{◌≡◌, Bool, List, [], ◌∷◌, ap, sym, subst, ◌∙◌, false}
use Rattle.cd_input.specs.Input.{Event}
use Rattle.cd_input.specs.Scanner.{event_of, events_of}
use Rattle.cd_turn.specs.Legal.{IsLegal}
use Rattle.cd_turn.specs.declared.status.Status.{Status}
use Rattle.cd_cli.specs.Flow.{last_in, status_after}
use Rattle.cd_outside.specs.Counts.{Rose}
use Rattle.cd_turn.specs.Turn.{Turn}
use Rattle.cd_cli.specs.Run.{GoneOn}
use Rattle.cd_cli.specs.Told.{GoesBy}
use Rattle.cd_cli.specs.Stretch.{Standing, standing, Closes, Finishes}
use Rattle.cd_cli.proofs.Going.{gone_none}
use Rattle.cd_cli.proofs.Halting.{between_any, between_cut, closes_after, closes_halted}
use Rattle.cd_cli.proofs.run.finish.Goals as goal

-- nothing was done
pub returns-in_default-clause-goes : goal.returns-in_default-clause-goes
returns-in_default-clause-goes g c = λ told.
    let state = g.P.Disk.state c.args.journal.now in
    between_any (GoneOn c.args.home.now.entries state c.args.beat.now c.args.home.now state c.args.beat.now) c.args.if_none
    (gone_none c.args.home.now state c.args.beat.now (c.requires.home told) (c.requires.order told))

-- a last turn was made
pub returns-in-Ok-clause-finishes : goal.returns-in-Ok-clause-finishes
returns-in-Ok-clause-finishes g c = λ was.
    let by : Turn → Type 0 = GoesBy g.C.Clock.observable g.F.Files.observable (g.C.Clock.moment c.args.clock.now) (g.F.Files.state c.args.files.now).shelf.seen (Rose (g.F.Files.faults c.args.files.now) (g.F.Files.faults c.found_turn.new.files)) in
    let before : Standing = standing c.args.home.now.entries (g.O.Sink.taken c.args.out.now) was in
    let later = c.found_turn.new.home.entries in
    let now = g.P.Disk.state c.found_turn.new.journal in
    let out = g.O.Sink.taken c.found_turn.new.out in
    let brought : List Event = event_of c.in-Some.found ∷ [] in
    let status : c.status.result ≡ status_after (last_in c.in-Ok.flow) = c.status.ensures ∙ ap status_after c.last.ensures in
    subst (λ (es : List Event). Finishes ((g.P.Disk.state c.args.journal.now).seen ≡ []) g.P.Disk.observable g.O.Sink.observable by before (g.P.Disk.state c.args.journal.now) es c.args.if_none later now out c.status.result) (sym (ap events_of c.in-Some.is))
    (subst (λ (s : Status). Closes ((g.P.Disk.state c.args.journal.now).seen ≡ []) g.P.Disk.observable g.O.Sink.observable by before brought later now out s) (sym status)
    (closes_after ((g.P.Disk.state c.args.journal.now).seen ≡ []) g.P.Disk.observable g.O.Sink.observable by before brought later now out (last_in c.in-Ok.flow) (c.in-Ok.ensures.went was).turned))

-- the run was ended within it
pub returns-clause-finishes : goal.returns-clause-finishes
returns-clause-finishes g c = λ was.
    let by : Turn → Type 0 = GoesBy g.C.Clock.observable g.F.Files.observable (g.C.Clock.moment c.args.clock.now) (g.F.Files.state c.args.files.now).shelf.seen (Rose (g.F.Files.faults c.args.files.now) (g.F.Files.faults c.found_turn.new.files)) in
    let before : Standing = standing c.args.home.now.entries (g.O.Sink.taken c.args.out.now) was in
    let later = c.found_turn.new.home.entries in
    let now = g.P.Disk.state c.found_turn.new.journal in
    let out = g.O.Sink.taken c.found_turn.new.out in
    let brought : List Event = event_of c.in-Some.found ∷ [] in
    subst (λ (es : List Event). Finishes ((g.P.Disk.state c.args.journal.now).seen ≡ []) g.P.Disk.observable g.O.Sink.observable by before (g.P.Disk.state c.args.journal.now) es c.args.if_none later now out c.in-Err.status) (sym (ap events_of c.in-Some.is))
    (closes_halted ((g.P.Disk.state c.args.journal.now).seen ≡ []) g.P.Disk.observable g.O.Sink.observable by before brought later now out c.in-Err.status (c.in-Err.ensures.halted was))

pub returns-clause-legal : goal.returns-clause-legal
returns-clause-legal g c = between_cut (IsLegal c.found_turn.new.home.entries) c.in-Err.status (c.in-Err.ensures.halted false).within

pub returns-clause-goes : goal.returns-clause-goes
returns-clause-goes g c = λ told.
    between_cut (GoneOn c.args.home.now.entries (g.P.Disk.state c.args.journal.now) c.args.beat.now c.found_turn.new.home (g.P.Disk.state c.found_turn.new.journal) c.found_turn.new.beat) c.in-Err.status
    (c.in-Err.ensures.halted false).within
