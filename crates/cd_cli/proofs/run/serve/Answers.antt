use Rattle.std.proofs.Common.{◌≡◌, ap, ℕ, ◌+◌, ◌<◌, ◌≤◌, false, List, [], ◌++◌, Option, refl, sym, subst, ◌∙◌, arith}
use Rattle.cd_input.specs.Input.{begin, events, scan_after}
use Rattle.cd_input.specs.Scanner.{events_of}
use Rattle.cd_cli.specs.Flow.{was_refused}
use Rattle.cd_cli.specs.Reader.{IsNextByte}
use Rattle.cd_cli.specs.Run.{most_input}
use Rattle.cd_cli.specs.Told.{GoesBy}
use Rattle.cd_outside.specs.Counts.{Rose}
use Rattle.cd_outside.specs.Files.{FilesState}
use Rattle.cd_turn.specs.Turn.{Turn}
use Rattle.cd_cli.specs.Stretch.{standing, Went}
use Rattle.cd_cli.specs.declared.flow.Flow.{Flow}
use Rattle.cd_cli.proofs.Closing.{ended_after, source_failed, finished_end, finished_limit, byte_read, byte_ends, byte_halts, left_read, left_end, left_limit, left_byte, left_more}
use Rattle.cd_cli.proofs.Leaving.{ReadSafely, safely_since, rests_turns}
use Rattle.cd_cli.proofs.Since.{goes_since}
use Rattle.cd_cli.proofs.Exits.{read_none}
use Rattle.cd_cli.proofs.Going.{gone_none, gone_then, rose_since, rose_before}
use Rattle.cd_cli.proofs.run.serve.Goals as goal

-- the loop's begin
pub loop-i-init : goal.loop-i-init
loop-i-init g c =
    let by : Turn → Type 0 = GoesBy g.C.Clock.observable g.F.Files.observable (g.C.Clock.moment c.args.clock.now) (g.F.Files.state c.args.files.now).shelf.seen (Rose (g.F.Files.faults c.args.files.now) (g.F.Files.faults c.args.files.now)) in record {
      legal = c.requires.legal;
      sound = c.requires.sound;
      goes = λ told. gone_none c.args.home.now (g.P.Disk.state c.args.journal.now) c.args.beat.now (c.requires.home told) (c.requires.order told);
      safe = let old = g.P.Disk.state c.args.journal.now in subst (λ (l : List ℕ).
          ReadSafely (old.seen ≡ []) g.P.Disk.observable g.S.Source.observable g.O.Sink.observable by (standing c.args.home.now.entries (g.O.Sink.taken c.args.out.now) false) (g.S.Source.remaining c.args.input.now)
          (l ++ g.S.Source.remaining c.args.input.now) 0 c.new-scanner.result (standing c.args.home.now.entries (g.O.Sink.taken c.args.out.now) false) old old c.args.beat.now)
          (sym c.new-reader.ensures)
          (record {
            reading = (read_none (old.seen ≡ []) g.P.Disk.observable g.S.Source.observable g.O.Sink.observable by c.args.home.now.entries (g.O.Sink.taken c.args.out.now) (g.S.Source.remaining c.args.input.now) c.new-scanner.result c.new-scanner.ensures).0;
            left = λ told. rests_turns c.args.home.now old c.args.beat.now (Unit {0}) by
                (events begin (read_none (old.seen ≡ []) g.P.Disk.observable g.S.Source.observable g.O.Sink.observable by c.args.home.now.entries (g.O.Sink.taken c.args.out.now) (g.S.Source.remaining c.args.input.now) c.new-scanner.result c.new-scanner.ensures).0.read)
                c.requires.legal (c.requires.home told) (c.requires.order told);
          });
      clock = λ told. refl;
      files = λ told. refl;
      later_files = omega arith;
      order = c.requires.order;
      forward = omega arith;
      later = omega arith;
      later_in = omega arith;
      later_out = omega arith;
    }

pub finish-requires-clause-none : goal.finish-requires-clause-none
finish-requires-clause-none g c = ended_after c.loop-i.last c.status.result c.status.ensures

pub finish-requires-in-Ok-None-next-clause-none : goal.finish-requires-in-Ok-None-next-clause-none
finish-requires-in-Ok-None-next-clause-none g c = ended_after c.loop-i.last c.status-in-Ok-None-next.result c.status-in-Ok-None-next.ensures

-- the input came to its end
pub returns-in-Ok-None-clause-ran : goal.returns-in-Ok-None-clause-ran
returns-in-Ok-None-clause-ran g c =
    let by : Turn → Type 0 = GoesBy g.C.Clock.observable g.F.Files.observable (g.C.Clock.moment c.args.clock.now) (g.F.Files.state c.args.files.now).shelf.seen (Rose (g.F.Files.faults c.args.files.now) (g.F.Files.faults c.finish.new.files)) in
    let then : Turn → Type 0 = GoesBy g.C.Clock.observable g.F.Files.observable (g.C.Clock.moment c.loop-i.clock) (g.F.Files.state c.loop-i.files).shelf.seen (Rose (g.F.Files.faults c.loop-i.files) (g.F.Files.faults c.finish.new.files)) in
    let since : (turn : Turn) → then turn → by turn =
    goes_since g.C.Clock.observable g.F.Files.observable (g.C.Clock.moment c.loop-i.clock) (g.C.Clock.moment c.args.clock.now) (g.F.Files.state c.loop-i.files).shelf.seen (g.F.Files.state c.args.files.now).shelf.seen (Rose (g.F.Files.faults c.loop-i.files) (g.F.Files.faults c.finish.new.files)) (Rose (g.F.Files.faults c.args.files.now) (g.F.Files.faults c.finish.new.files))
    c.loop-i.invariant.clock (λ told. ap (λ (state : FilesState). state.shelf.seen) (c.loop-i.invariant.files told)) (rose_since (g.F.Files.faults c.args.files.now) (g.F.Files.faults c.loop-i.files) (g.F.Files.faults c.finish.new.files) c.loop-i.invariant.later_files) in
    let sofar =
    safely_since ((g.P.Disk.state c.args.journal.now).seen ≡ []) g.P.Disk.observable g.S.Source.observable g.O.Sink.observable (GoesBy g.C.Clock.observable g.F.Files.observable (g.C.Clock.moment c.args.clock.now) (g.F.Files.state c.args.files.now).shelf.seen (Rose (g.F.Files.faults c.args.files.now) (g.F.Files.faults c.loop-i.files))) by (standing c.args.home.now.entries (g.O.Sink.taken c.args.out.now) false) (g.S.Source.remaining c.args.input.now)
    (c.loop-i.reader ++ g.S.Source.remaining c.loop-i.input) c.loop-i._i c.loop-i.scanner (standing c.loop-i.home.entries (g.O.Sink.taken c.loop-i.out) (was_refused c.loop-i.last)) (g.P.Disk.state c.args.journal.now) (g.P.Disk.state c.loop-i.journal) c.args.beat.now
    (goes_since g.C.Clock.observable g.F.Files.observable (g.C.Clock.moment c.args.clock.now) (g.C.Clock.moment c.args.clock.now) (g.F.Files.state c.args.files.now).shelf.seen (g.F.Files.state c.args.files.now).shelf.seen (Rose (g.F.Files.faults c.args.files.now) (g.F.Files.faults c.loop-i.files)) (Rose (g.F.Files.faults c.args.files.now) (g.F.Files.faults c.finish.new.files))
    (λ told. refl) (λ told. refl) (rose_before (g.F.Files.faults c.args.files.now) (g.F.Files.faults c.loop-i.files) (g.F.Files.faults c.finish.new.files) c.finish.ensures.later_files)) c.loop-i.invariant.safe in
    let small : c.loop-i._i ≤ most_input = omega arith in
    finished_end ((g.P.Disk.state c.args.journal.now).seen ≡ []) g.P.Disk.observable g.S.Source.observable g.O.Sink.observable by c.args.home.now.entries (g.O.Sink.taken c.args.out.now) (g.S.Source.remaining c.args.input.now)
    (c.loop-i.reader ++ g.S.Source.remaining c.loop-i.input) c.loop-i._i c.loop-i.scanner c.loop-i.home (g.O.Sink.taken c.loop-i.out) c.loop-i.last sofar.reading (g.S.Source.remaining c.next.new.input)
    (g.P.Disk.state c.loop-i.journal) c.loop-i.invariant.legal (λ told. (c.loop-i.invariant.goes told).is)
    ((g.P.Disk.state c.loop-i.journal).seen ≡ []) (λ told none. (c.loop-i.invariant.goes told).fresh none) then since c.finish.new.home (g.P.Disk.state c.finish.new.journal) c.loop-i.beat c.finish.new.beat (g.O.Sink.taken c.finish.new.out) c.finish.result c.finish.ensures.goes c.finish.ensures.legal
    small (λ told. subst (λ (o : Option ℕ). IsNextByte (c.loop-i.reader ++ g.S.Source.remaining c.loop-i.input) o (c.next.new.self ++ g.S.Source.remaining c.next.new.input)) c.in-Ok-None.field-0-is (c.in-Ok-None.ensures.byte told)) (events_of c.end.result) c.end.ensures c.status.result c.status.ensures (c.finish.ensures.finishes (was_refused c.loop-i.last))

-- the input failed
pub returns-in-Err-clause-ran : goal.returns-in-Err-clause-ran
returns-in-Err-clause-ran g c =
    let by : Turn → Type 0 = GoesBy g.C.Clock.observable g.F.Files.observable (g.C.Clock.moment c.args.clock.now) (g.F.Files.state c.args.files.now).shelf.seen (Rose (g.F.Files.faults c.args.files.now) (g.F.Files.faults c.loop-i.files)) in
    let small : c.loop-i._i ≤ most_input = omega arith in
    source_failed ((g.P.Disk.state c.args.journal.now).seen ≡ []) g.P.Disk.observable g.S.Source.observable g.O.Sink.observable by c.args.home.now.entries (g.O.Sink.taken c.args.out.now) (g.S.Source.remaining c.args.input.now)
    (c.loop-i.reader ++ g.S.Source.remaining c.loop-i.input) c.loop-i._i c.loop-i.scanner c.loop-i.home (g.O.Sink.taken c.loop-i.out) c.loop-i.last c.loop-i.invariant.safe.reading (g.S.Source.remaining c.next.new.input)
    (g.P.Disk.state c.loop-i.journal) c.loop-i.invariant.legal (λ told. (c.loop-i.invariant.goes told).is) small c.next.new.self c.in-Err.ensures.none (λ told. sym (c.in-Err.ensures.failed told))

-- a turn ended the run
pub returns-in-Ok-Ends-clause-ran : goal.returns-in-Ok-Ends-clause-ran
returns-in-Ok-Ends-clause-ran g c =
    let by : Turn → Type 0 = GoesBy g.C.Clock.observable g.F.Files.observable (g.C.Clock.moment c.args.clock.now) (g.F.Files.state c.args.files.now).shelf.seen (Rose (g.F.Files.faults c.args.files.now) (g.F.Files.faults c.byte_turn.new.files)) in
    let then : Turn → Type 0 = GoesBy g.C.Clock.observable g.F.Files.observable (g.C.Clock.moment c.loop-i.clock) (g.F.Files.state c.loop-i.files).shelf.seen (Rose (g.F.Files.faults c.loop-i.files) (g.F.Files.faults c.byte_turn.new.files)) in
    let since : (turn : Turn) → then turn → by turn =
    goes_since g.C.Clock.observable g.F.Files.observable (g.C.Clock.moment c.loop-i.clock) (g.C.Clock.moment c.args.clock.now) (g.F.Files.state c.loop-i.files).shelf.seen (g.F.Files.state c.args.files.now).shelf.seen (Rose (g.F.Files.faults c.loop-i.files) (g.F.Files.faults c.byte_turn.new.files)) (Rose (g.F.Files.faults c.args.files.now) (g.F.Files.faults c.byte_turn.new.files))
    c.loop-i.invariant.clock (λ told. ap (λ (state : FilesState). state.shelf.seen) (c.loop-i.invariant.files told)) (rose_since (g.F.Files.faults c.args.files.now) (g.F.Files.faults c.loop-i.files) (g.F.Files.faults c.byte_turn.new.files) c.loop-i.invariant.later_files) in
    let sofar =
    safely_since ((g.P.Disk.state c.args.journal.now).seen ≡ []) g.P.Disk.observable g.S.Source.observable g.O.Sink.observable (GoesBy g.C.Clock.observable g.F.Files.observable (g.C.Clock.moment c.args.clock.now) (g.F.Files.state c.args.files.now).shelf.seen (Rose (g.F.Files.faults c.args.files.now) (g.F.Files.faults c.loop-i.files))) by (standing c.args.home.now.entries (g.O.Sink.taken c.args.out.now) false) (g.S.Source.remaining c.args.input.now)
    (c.loop-i.reader ++ g.S.Source.remaining c.loop-i.input) c.loop-i._i c.loop-i.scanner (standing c.loop-i.home.entries (g.O.Sink.taken c.loop-i.out) (was_refused c.loop-i.last)) (g.P.Disk.state c.args.journal.now) (g.P.Disk.state c.loop-i.journal) c.args.beat.now
    (goes_since g.C.Clock.observable g.F.Files.observable (g.C.Clock.moment c.args.clock.now) (g.C.Clock.moment c.args.clock.now) (g.F.Files.state c.args.files.now).shelf.seen (g.F.Files.state c.args.files.now).shelf.seen (Rose (g.F.Files.faults c.args.files.now) (g.F.Files.faults c.loop-i.files)) (Rose (g.F.Files.faults c.args.files.now) (g.F.Files.faults c.byte_turn.new.files))
    (λ told. refl) (λ told. refl) (rose_before (g.F.Files.faults c.args.files.now) (g.F.Files.faults c.loop-i.files) (g.F.Files.faults c.byte_turn.new.files) c.byte_turn.ensures.later_files)) c.loop-i.invariant.safe in
    let small : c.loop-i._i < most_input = omega arith in
    byte_ends ((g.P.Disk.state c.args.journal.now).seen ≡ []) g.P.Disk.observable g.S.Source.observable g.O.Sink.observable by c.args.home.now.entries (g.O.Sink.taken c.args.out.now) (g.S.Source.remaining c.args.input.now)
    (c.loop-i.reader ++ g.S.Source.remaining c.loop-i.input) c.loop-i._i c.loop-i.scanner c.loop-i.home (g.O.Sink.taken c.loop-i.out) c.loop-i.last sofar.reading (g.S.Source.remaining c.next.new.input)
    c.in-Ok-Some.byte (c.next.new.self ++ g.S.Source.remaining c.next.new.input) (λ told. subst (λ (o : Option ℕ). IsNextByte (c.loop-i.reader ++ g.S.Source.remaining c.loop-i.input) o (c.next.new.self ++ g.S.Source.remaining c.next.new.input)) c.in-Ok-Some.field-0-is (c.in-Ok-Some.ensures.byte told)) ((g.P.Disk.state c.loop-i.journal).seen ≡ []) (λ told none. (c.loop-i.invariant.goes told).fresh none) then since
    (g.P.Disk.state c.byte_turn.new.journal) c.byte_turn.new.home (g.O.Sink.taken c.byte_turn.new.out) c.in-Ok-Ends.now c.status-in-Ok-Ends.result c.status-in-Ok-Ends.ensures small c.in-Ok-Ends.ensures.legal (λ told. (c.in-Ok-Ends.ensures.goes told).is) (subst (λ (f : Flow).
    Went g.P.Disk.observable g.O.Sink.observable then (standing c.loop-i.home.entries (g.O.Sink.taken c.loop-i.out) (was_refused c.loop-i.last)) (scan_after c.loop-i.scanner c.in-Ok-Some.byte).1
    c.byte_turn.new.home.entries (g.O.Sink.taken c.byte_turn.new.out) f) c.in-Ok-Ends.field-0-is c.in-Ok-Ends.ensures.went)

-- a turn was cut off
pub returns-in-Err-byte_turn-clause-ran : goal.returns-in-Err-byte_turn-clause-ran
returns-in-Err-byte_turn-clause-ran g c =
    let by : Turn → Type 0 = GoesBy g.C.Clock.observable g.F.Files.observable (g.C.Clock.moment c.args.clock.now) (g.F.Files.state c.args.files.now).shelf.seen (Rose (g.F.Files.faults c.args.files.now) (g.F.Files.faults c.byte_turn.new.files)) in
    let then : Turn → Type 0 = GoesBy g.C.Clock.observable g.F.Files.observable (g.C.Clock.moment c.loop-i.clock) (g.F.Files.state c.loop-i.files).shelf.seen (Rose (g.F.Files.faults c.loop-i.files) (g.F.Files.faults c.byte_turn.new.files)) in
    let since : (turn : Turn) → then turn → by turn =
    goes_since g.C.Clock.observable g.F.Files.observable (g.C.Clock.moment c.loop-i.clock) (g.C.Clock.moment c.args.clock.now) (g.F.Files.state c.loop-i.files).shelf.seen (g.F.Files.state c.args.files.now).shelf.seen (Rose (g.F.Files.faults c.loop-i.files) (g.F.Files.faults c.byte_turn.new.files)) (Rose (g.F.Files.faults c.args.files.now) (g.F.Files.faults c.byte_turn.new.files))
    c.loop-i.invariant.clock (λ told. ap (λ (state : FilesState). state.shelf.seen) (c.loop-i.invariant.files told)) (rose_since (g.F.Files.faults c.args.files.now) (g.F.Files.faults c.loop-i.files) (g.F.Files.faults c.byte_turn.new.files) c.loop-i.invariant.later_files) in
    let sofar =
    safely_since ((g.P.Disk.state c.args.journal.now).seen ≡ []) g.P.Disk.observable g.S.Source.observable g.O.Sink.observable (GoesBy g.C.Clock.observable g.F.Files.observable (g.C.Clock.moment c.args.clock.now) (g.F.Files.state c.args.files.now).shelf.seen (Rose (g.F.Files.faults c.args.files.now) (g.F.Files.faults c.loop-i.files))) by (standing c.args.home.now.entries (g.O.Sink.taken c.args.out.now) false) (g.S.Source.remaining c.args.input.now)
    (c.loop-i.reader ++ g.S.Source.remaining c.loop-i.input) c.loop-i._i c.loop-i.scanner (standing c.loop-i.home.entries (g.O.Sink.taken c.loop-i.out) (was_refused c.loop-i.last)) (g.P.Disk.state c.args.journal.now) (g.P.Disk.state c.loop-i.journal) c.args.beat.now
    (goes_since g.C.Clock.observable g.F.Files.observable (g.C.Clock.moment c.args.clock.now) (g.C.Clock.moment c.args.clock.now) (g.F.Files.state c.args.files.now).shelf.seen (g.F.Files.state c.args.files.now).shelf.seen (Rose (g.F.Files.faults c.args.files.now) (g.F.Files.faults c.loop-i.files)) (Rose (g.F.Files.faults c.args.files.now) (g.F.Files.faults c.byte_turn.new.files))
    (λ told. refl) (λ told. refl) (rose_before (g.F.Files.faults c.args.files.now) (g.F.Files.faults c.loop-i.files) (g.F.Files.faults c.byte_turn.new.files) c.byte_turn.ensures.later_files)) c.loop-i.invariant.safe in
    let small : c.loop-i._i < most_input = omega arith in
    byte_halts ((g.P.Disk.state c.args.journal.now).seen ≡ []) g.P.Disk.observable g.S.Source.observable g.O.Sink.observable by c.args.home.now.entries (g.O.Sink.taken c.args.out.now) (g.S.Source.remaining c.args.input.now)
    (c.loop-i.reader ++ g.S.Source.remaining c.loop-i.input) c.loop-i._i c.loop-i.scanner c.loop-i.home (g.O.Sink.taken c.loop-i.out) c.loop-i.last sofar.reading (g.S.Source.remaining c.next.new.input)
    c.in-Ok-Some.byte (c.next.new.self ++ g.S.Source.remaining c.next.new.input) (λ told. subst (λ (o : Option ℕ). IsNextByte (c.loop-i.reader ++ g.S.Source.remaining c.loop-i.input) o (c.next.new.self ++ g.S.Source.remaining c.next.new.input)) c.in-Ok-Some.field-0-is (c.in-Ok-Some.ensures.byte told)) ((g.P.Disk.state c.loop-i.journal).seen ≡ []) (λ told none. (c.loop-i.invariant.goes told).fresh none) then since
    (g.P.Disk.state c.byte_turn.new.journal) (g.O.Sink.taken c.byte_turn.new.out) c.in-Err-byte_turn.status small c.in-Err-byte_turn.ensures.halted

-- the input goes on behind what is read at most
pub returns-in-Ok-Some-next-clause-ran : goal.returns-in-Ok-Some-next-clause-ran
returns-in-Ok-Some-next-clause-ran g c =
    let by : Turn → Type 0 = GoesBy g.C.Clock.observable g.F.Files.observable (g.C.Clock.moment c.args.clock.now) (g.F.Files.state c.args.files.now).shelf.seen (Rose (g.F.Files.faults c.args.files.now) (g.F.Files.faults c.finish-in-Ok-Some-next.new.files)) in
    let then : Turn → Type 0 = GoesBy g.C.Clock.observable g.F.Files.observable (g.C.Clock.moment c.loop-i.clock) (g.F.Files.state c.loop-i.files).shelf.seen (Rose (g.F.Files.faults c.loop-i.files) (g.F.Files.faults c.finish-in-Ok-Some-next.new.files)) in
    let since : (turn : Turn) → then turn → by turn =
    goes_since g.C.Clock.observable g.F.Files.observable (g.C.Clock.moment c.loop-i.clock) (g.C.Clock.moment c.args.clock.now) (g.F.Files.state c.loop-i.files).shelf.seen (g.F.Files.state c.args.files.now).shelf.seen (Rose (g.F.Files.faults c.loop-i.files) (g.F.Files.faults c.finish-in-Ok-Some-next.new.files)) (Rose (g.F.Files.faults c.args.files.now) (g.F.Files.faults c.finish-in-Ok-Some-next.new.files))
    c.loop-i.invariant.clock (λ told. ap (λ (state : FilesState). state.shelf.seen) (c.loop-i.invariant.files told)) (rose_since (g.F.Files.faults c.args.files.now) (g.F.Files.faults c.loop-i.files) (g.F.Files.faults c.finish-in-Ok-Some-next.new.files) c.loop-i.invariant.later_files) in
    let sofar =
    safely_since ((g.P.Disk.state c.args.journal.now).seen ≡ []) g.P.Disk.observable g.S.Source.observable g.O.Sink.observable (GoesBy g.C.Clock.observable g.F.Files.observable (g.C.Clock.moment c.args.clock.now) (g.F.Files.state c.args.files.now).shelf.seen (Rose (g.F.Files.faults c.args.files.now) (g.F.Files.faults c.loop-i.files))) by (standing c.args.home.now.entries (g.O.Sink.taken c.args.out.now) false) (g.S.Source.remaining c.args.input.now)
    (c.loop-i.reader ++ g.S.Source.remaining c.loop-i.input) c.loop-i._i c.loop-i.scanner (standing c.loop-i.home.entries (g.O.Sink.taken c.loop-i.out) (was_refused c.loop-i.last)) (g.P.Disk.state c.args.journal.now) (g.P.Disk.state c.loop-i.journal) c.args.beat.now
    (goes_since g.C.Clock.observable g.F.Files.observable (g.C.Clock.moment c.args.clock.now) (g.C.Clock.moment c.args.clock.now) (g.F.Files.state c.args.files.now).shelf.seen (g.F.Files.state c.args.files.now).shelf.seen (Rose (g.F.Files.faults c.args.files.now) (g.F.Files.faults c.loop-i.files)) (Rose (g.F.Files.faults c.args.files.now) (g.F.Files.faults c.finish-in-Ok-Some-next.new.files))
    (λ told. refl) (λ told. refl) (rose_before (g.F.Files.faults c.args.files.now) (g.F.Files.faults c.loop-i.files) (g.F.Files.faults c.finish-in-Ok-Some-next.new.files) c.finish-in-Ok-Some-next.ensures.later_files)) c.loop-i.invariant.safe in
    let full : c.loop-i._i ≡ most_input = omega arith in
    finished_limit ((g.P.Disk.state c.args.journal.now).seen ≡ []) g.P.Disk.observable g.S.Source.observable g.O.Sink.observable by c.args.home.now.entries (g.O.Sink.taken c.args.out.now) (g.S.Source.remaining c.args.input.now)
    (c.loop-i.reader ++ g.S.Source.remaining c.loop-i.input) c.loop-i._i c.loop-i.scanner c.loop-i.home (g.O.Sink.taken c.loop-i.out) c.loop-i.last sofar.reading (g.S.Source.remaining c.next-2.new.input)
    (g.P.Disk.state c.loop-i.journal) c.loop-i.invariant.legal (λ told. (c.loop-i.invariant.goes told).is)
    ((g.P.Disk.state c.loop-i.journal).seen ≡ []) (λ told none. (c.loop-i.invariant.goes told).fresh none) then since c.finish-in-Ok-Some-next.new.home (g.P.Disk.state c.finish-in-Ok-Some-next.new.journal) c.loop-i.beat c.finish-in-Ok-Some-next.new.beat (g.O.Sink.taken c.finish-in-Ok-Some-next.new.out) c.finish-in-Ok-Some-next.result c.finish-in-Ok-Some-next.ensures.goes c.finish-in-Ok-Some-next.ensures.legal
    full c.in-Ok-Some-next.field-0-0 (c.next-2.new.self ++ g.S.Source.remaining c.next-2.new.input) (λ told. subst (λ (o : Option ℕ). IsNextByte (c.loop-i.reader ++ g.S.Source.remaining c.loop-i.input) o (c.next-2.new.self ++ g.S.Source.remaining c.next-2.new.input)) c.in-Ok-Some-next.field-0-is (c.in-Ok-Some-next.ensures.byte told)) (events_of c.over.result) c.over.ensures (c.finish-in-Ok-Some-next.ensures.finishes (was_refused c.loop-i.last))

-- it came to its end just there
pub returns-in-Ok-None-next-clause-ran : goal.returns-in-Ok-None-next-clause-ran
returns-in-Ok-None-next-clause-ran g c =
    let by : Turn → Type 0 = GoesBy g.C.Clock.observable g.F.Files.observable (g.C.Clock.moment c.args.clock.now) (g.F.Files.state c.args.files.now).shelf.seen (Rose (g.F.Files.faults c.args.files.now) (g.F.Files.faults c.finish-in-Ok-None-next.new.files)) in
    let then : Turn → Type 0 = GoesBy g.C.Clock.observable g.F.Files.observable (g.C.Clock.moment c.loop-i.clock) (g.F.Files.state c.loop-i.files).shelf.seen (Rose (g.F.Files.faults c.loop-i.files) (g.F.Files.faults c.finish-in-Ok-None-next.new.files)) in
    let since : (turn : Turn) → then turn → by turn =
    goes_since g.C.Clock.observable g.F.Files.observable (g.C.Clock.moment c.loop-i.clock) (g.C.Clock.moment c.args.clock.now) (g.F.Files.state c.loop-i.files).shelf.seen (g.F.Files.state c.args.files.now).shelf.seen (Rose (g.F.Files.faults c.loop-i.files) (g.F.Files.faults c.finish-in-Ok-None-next.new.files)) (Rose (g.F.Files.faults c.args.files.now) (g.F.Files.faults c.finish-in-Ok-None-next.new.files))
    c.loop-i.invariant.clock (λ told. ap (λ (state : FilesState). state.shelf.seen) (c.loop-i.invariant.files told)) (rose_since (g.F.Files.faults c.args.files.now) (g.F.Files.faults c.loop-i.files) (g.F.Files.faults c.finish-in-Ok-None-next.new.files) c.loop-i.invariant.later_files) in
    let sofar =
    safely_since ((g.P.Disk.state c.args.journal.now).seen ≡ []) g.P.Disk.observable g.S.Source.observable g.O.Sink.observable (GoesBy g.C.Clock.observable g.F.Files.observable (g.C.Clock.moment c.args.clock.now) (g.F.Files.state c.args.files.now).shelf.seen (Rose (g.F.Files.faults c.args.files.now) (g.F.Files.faults c.loop-i.files))) by (standing c.args.home.now.entries (g.O.Sink.taken c.args.out.now) false) (g.S.Source.remaining c.args.input.now)
    (c.loop-i.reader ++ g.S.Source.remaining c.loop-i.input) c.loop-i._i c.loop-i.scanner (standing c.loop-i.home.entries (g.O.Sink.taken c.loop-i.out) (was_refused c.loop-i.last)) (g.P.Disk.state c.args.journal.now) (g.P.Disk.state c.loop-i.journal) c.args.beat.now
    (goes_since g.C.Clock.observable g.F.Files.observable (g.C.Clock.moment c.args.clock.now) (g.C.Clock.moment c.args.clock.now) (g.F.Files.state c.args.files.now).shelf.seen (g.F.Files.state c.args.files.now).shelf.seen (Rose (g.F.Files.faults c.args.files.now) (g.F.Files.faults c.loop-i.files)) (Rose (g.F.Files.faults c.args.files.now) (g.F.Files.faults c.finish-in-Ok-None-next.new.files))
    (λ told. refl) (λ told. refl) (rose_before (g.F.Files.faults c.args.files.now) (g.F.Files.faults c.loop-i.files) (g.F.Files.faults c.finish-in-Ok-None-next.new.files) c.finish-in-Ok-None-next.ensures.later_files)) c.loop-i.invariant.safe in
    let small : c.loop-i._i ≤ most_input = omega arith in
    finished_end ((g.P.Disk.state c.args.journal.now).seen ≡ []) g.P.Disk.observable g.S.Source.observable g.O.Sink.observable by c.args.home.now.entries (g.O.Sink.taken c.args.out.now) (g.S.Source.remaining c.args.input.now)
    (c.loop-i.reader ++ g.S.Source.remaining c.loop-i.input) c.loop-i._i c.loop-i.scanner c.loop-i.home (g.O.Sink.taken c.loop-i.out) c.loop-i.last sofar.reading (g.S.Source.remaining c.next-2.new.input)
    (g.P.Disk.state c.loop-i.journal) c.loop-i.invariant.legal (λ told. (c.loop-i.invariant.goes told).is)
    ((g.P.Disk.state c.loop-i.journal).seen ≡ []) (λ told none. (c.loop-i.invariant.goes told).fresh none) then since c.finish-in-Ok-None-next.new.home (g.P.Disk.state c.finish-in-Ok-None-next.new.journal) c.loop-i.beat c.finish-in-Ok-None-next.new.beat (g.O.Sink.taken c.finish-in-Ok-None-next.new.out) c.finish-in-Ok-None-next.result c.finish-in-Ok-None-next.ensures.goes c.finish-in-Ok-None-next.ensures.legal
    small (λ told. subst (λ (o : Option ℕ). IsNextByte (c.loop-i.reader ++ g.S.Source.remaining c.loop-i.input) o (c.next-2.new.self ++ g.S.Source.remaining c.next-2.new.input)) c.in-Ok-None-next.field-0-is (c.in-Ok-None-next.ensures.byte told)) (events_of c.end-in-Ok-None-next.result) c.end-in-Ok-None-next.ensures c.status-in-Ok-None-next.result c.status-in-Ok-None-next.ensures (c.finish-in-Ok-None-next.ensures.finishes (was_refused c.loop-i.last))

-- it failed just there
pub returns-clause-ran : goal.returns-clause-ran
returns-clause-ran g c =
    let by : Turn → Type 0 = GoesBy g.C.Clock.observable g.F.Files.observable (g.C.Clock.moment c.args.clock.now) (g.F.Files.state c.args.files.now).shelf.seen (Rose (g.F.Files.faults c.args.files.now) (g.F.Files.faults c.loop-i.files)) in
    let small : c.loop-i._i ≤ most_input = omega arith in
    source_failed ((g.P.Disk.state c.args.journal.now).seen ≡ []) g.P.Disk.observable g.S.Source.observable g.O.Sink.observable by c.args.home.now.entries (g.O.Sink.taken c.args.out.now) (g.S.Source.remaining c.args.input.now)
    (c.loop-i.reader ++ g.S.Source.remaining c.loop-i.input) c.loop-i._i c.loop-i.scanner c.loop-i.home (g.O.Sink.taken c.loop-i.out) c.loop-i.last c.loop-i.invariant.safe.reading (g.S.Source.remaining c.next-2.new.input)
    (g.P.Disk.state c.loop-i.journal) c.loop-i.invariant.legal (λ told. (c.loop-i.invariant.goes told).is) small c.next-2.new.self c.in-Err-next.ensures.none (λ told. sym (c.in-Err-next.ensures.failed told))

-- what a crash may have left
pub returns-in-Ok-None-clause-moments : goal.returns-in-Ok-None-clause-moments
returns-in-Ok-None-clause-moments g c = λ told.
    let by : Turn → Type 0 = GoesBy g.C.Clock.observable g.F.Files.observable (g.C.Clock.moment c.args.clock.now) (g.F.Files.state c.args.files.now).shelf.seen (Rose (g.F.Files.faults c.args.files.now) (g.F.Files.faults c.finish.new.files)) in
    let then : Turn → Type 0 = GoesBy g.C.Clock.observable g.F.Files.observable (g.C.Clock.moment c.loop-i.clock) (g.F.Files.state c.loop-i.files).shelf.seen (Rose (g.F.Files.faults c.loop-i.files) (g.F.Files.faults c.finish.new.files)) in
    let since : (turn : Turn) → then turn → by turn =
    goes_since g.C.Clock.observable g.F.Files.observable (g.C.Clock.moment c.loop-i.clock) (g.C.Clock.moment c.args.clock.now) (g.F.Files.state c.loop-i.files).shelf.seen (g.F.Files.state c.args.files.now).shelf.seen (Rose (g.F.Files.faults c.loop-i.files) (g.F.Files.faults c.finish.new.files)) (Rose (g.F.Files.faults c.args.files.now) (g.F.Files.faults c.finish.new.files))
    c.loop-i.invariant.clock (λ told. ap (λ (state : FilesState). state.shelf.seen) (c.loop-i.invariant.files told)) (rose_since (g.F.Files.faults c.args.files.now) (g.F.Files.faults c.loop-i.files) (g.F.Files.faults c.finish.new.files) c.loop-i.invariant.later_files) in
    let sofar =
    safely_since ((g.P.Disk.state c.args.journal.now).seen ≡ []) g.P.Disk.observable g.S.Source.observable g.O.Sink.observable (GoesBy g.C.Clock.observable g.F.Files.observable (g.C.Clock.moment c.args.clock.now) (g.F.Files.state c.args.files.now).shelf.seen (Rose (g.F.Files.faults c.args.files.now) (g.F.Files.faults c.loop-i.files))) by (standing c.args.home.now.entries (g.O.Sink.taken c.args.out.now) false) (g.S.Source.remaining c.args.input.now)
    (c.loop-i.reader ++ g.S.Source.remaining c.loop-i.input) c.loop-i._i c.loop-i.scanner (standing c.loop-i.home.entries (g.O.Sink.taken c.loop-i.out) (was_refused c.loop-i.last)) (g.P.Disk.state c.args.journal.now) (g.P.Disk.state c.loop-i.journal) c.args.beat.now
    (goes_since g.C.Clock.observable g.F.Files.observable (g.C.Clock.moment c.args.clock.now) (g.C.Clock.moment c.args.clock.now) (g.F.Files.state c.args.files.now).shelf.seen (g.F.Files.state c.args.files.now).shelf.seen (Rose (g.F.Files.faults c.args.files.now) (g.F.Files.faults c.loop-i.files)) (Rose (g.F.Files.faults c.args.files.now) (g.F.Files.faults c.finish.new.files))
    (λ told. refl) (λ told. refl) (rose_before (g.F.Files.faults c.args.files.now) (g.F.Files.faults c.loop-i.files) (g.F.Files.faults c.finish.new.files) c.finish.ensures.later_files)) c.loop-i.invariant.safe in
    let small : c.loop-i._i ≤ most_input = omega arith in
    left_end ((g.P.Disk.state c.args.journal.now).seen ≡ []) g.P.Disk.observable g.S.Source.observable g.O.Sink.observable by c.args.home.now.entries (g.O.Sink.taken c.args.out.now) (g.S.Source.remaining c.args.input.now)
    (c.loop-i.reader ++ g.S.Source.remaining c.loop-i.input) c.loop-i._i c.loop-i.scanner c.loop-i.home.entries (g.O.Sink.taken c.loop-i.out) c.loop-i.last (g.P.Disk.state c.args.journal.now) (g.P.Disk.state c.loop-i.journal) c.args.beat.now sofar told (g.P.Disk.state c.finish.new.journal) c.loop-i.beat c.loop-i.invariant.forward ((g.P.Disk.state c.loop-i.journal).seen ≡ []) (λ none. (c.loop-i.invariant.goes told).fresh none) then since
    small (λ t. subst (λ (o : Option ℕ). IsNextByte (c.loop-i.reader ++ g.S.Source.remaining c.loop-i.input) o (c.next.new.self ++ g.S.Source.remaining c.next.new.input)) c.in-Ok-None.field-0-is (c.in-Ok-None.ensures.byte t)) (events_of c.end.result) c.end.ensures (c.finish.ensures.moments told)

pub returns-in-Ok-None-next-clause-moments : goal.returns-in-Ok-None-next-clause-moments
returns-in-Ok-None-next-clause-moments g c = λ told.
    let by : Turn → Type 0 = GoesBy g.C.Clock.observable g.F.Files.observable (g.C.Clock.moment c.args.clock.now) (g.F.Files.state c.args.files.now).shelf.seen (Rose (g.F.Files.faults c.args.files.now) (g.F.Files.faults c.finish-in-Ok-None-next.new.files)) in
    let then : Turn → Type 0 = GoesBy g.C.Clock.observable g.F.Files.observable (g.C.Clock.moment c.loop-i.clock) (g.F.Files.state c.loop-i.files).shelf.seen (Rose (g.F.Files.faults c.loop-i.files) (g.F.Files.faults c.finish-in-Ok-None-next.new.files)) in
    let since : (turn : Turn) → then turn → by turn =
    goes_since g.C.Clock.observable g.F.Files.observable (g.C.Clock.moment c.loop-i.clock) (g.C.Clock.moment c.args.clock.now) (g.F.Files.state c.loop-i.files).shelf.seen (g.F.Files.state c.args.files.now).shelf.seen (Rose (g.F.Files.faults c.loop-i.files) (g.F.Files.faults c.finish-in-Ok-None-next.new.files)) (Rose (g.F.Files.faults c.args.files.now) (g.F.Files.faults c.finish-in-Ok-None-next.new.files))
    c.loop-i.invariant.clock (λ told. ap (λ (state : FilesState). state.shelf.seen) (c.loop-i.invariant.files told)) (rose_since (g.F.Files.faults c.args.files.now) (g.F.Files.faults c.loop-i.files) (g.F.Files.faults c.finish-in-Ok-None-next.new.files) c.loop-i.invariant.later_files) in
    let sofar =
    safely_since ((g.P.Disk.state c.args.journal.now).seen ≡ []) g.P.Disk.observable g.S.Source.observable g.O.Sink.observable (GoesBy g.C.Clock.observable g.F.Files.observable (g.C.Clock.moment c.args.clock.now) (g.F.Files.state c.args.files.now).shelf.seen (Rose (g.F.Files.faults c.args.files.now) (g.F.Files.faults c.loop-i.files))) by (standing c.args.home.now.entries (g.O.Sink.taken c.args.out.now) false) (g.S.Source.remaining c.args.input.now)
    (c.loop-i.reader ++ g.S.Source.remaining c.loop-i.input) c.loop-i._i c.loop-i.scanner (standing c.loop-i.home.entries (g.O.Sink.taken c.loop-i.out) (was_refused c.loop-i.last)) (g.P.Disk.state c.args.journal.now) (g.P.Disk.state c.loop-i.journal) c.args.beat.now
    (goes_since g.C.Clock.observable g.F.Files.observable (g.C.Clock.moment c.args.clock.now) (g.C.Clock.moment c.args.clock.now) (g.F.Files.state c.args.files.now).shelf.seen (g.F.Files.state c.args.files.now).shelf.seen (Rose (g.F.Files.faults c.args.files.now) (g.F.Files.faults c.loop-i.files)) (Rose (g.F.Files.faults c.args.files.now) (g.F.Files.faults c.finish-in-Ok-None-next.new.files))
    (λ told. refl) (λ told. refl) (rose_before (g.F.Files.faults c.args.files.now) (g.F.Files.faults c.loop-i.files) (g.F.Files.faults c.finish-in-Ok-None-next.new.files) c.finish-in-Ok-None-next.ensures.later_files)) c.loop-i.invariant.safe in
    let small : c.loop-i._i ≤ most_input = omega arith in
    left_end ((g.P.Disk.state c.args.journal.now).seen ≡ []) g.P.Disk.observable g.S.Source.observable g.O.Sink.observable by c.args.home.now.entries (g.O.Sink.taken c.args.out.now) (g.S.Source.remaining c.args.input.now)
    (c.loop-i.reader ++ g.S.Source.remaining c.loop-i.input) c.loop-i._i c.loop-i.scanner c.loop-i.home.entries (g.O.Sink.taken c.loop-i.out) c.loop-i.last (g.P.Disk.state c.args.journal.now) (g.P.Disk.state c.loop-i.journal) c.args.beat.now sofar told (g.P.Disk.state c.finish-in-Ok-None-next.new.journal) c.loop-i.beat c.loop-i.invariant.forward ((g.P.Disk.state c.loop-i.journal).seen ≡ []) (λ none. (c.loop-i.invariant.goes told).fresh none) then since
    small (λ t. subst (λ (o : Option ℕ). IsNextByte (c.loop-i.reader ++ g.S.Source.remaining c.loop-i.input) o (c.next-2.new.self ++ g.S.Source.remaining c.next-2.new.input)) c.in-Ok-None-next.field-0-is (c.in-Ok-None-next.ensures.byte t)) (events_of c.end-in-Ok-None-next.result) c.end-in-Ok-None-next.ensures (c.finish-in-Ok-None-next.ensures.moments told)

pub returns-in-Ok-Some-next-clause-moments : goal.returns-in-Ok-Some-next-clause-moments
returns-in-Ok-Some-next-clause-moments g c = λ told.
    let by : Turn → Type 0 = GoesBy g.C.Clock.observable g.F.Files.observable (g.C.Clock.moment c.args.clock.now) (g.F.Files.state c.args.files.now).shelf.seen (Rose (g.F.Files.faults c.args.files.now) (g.F.Files.faults c.finish-in-Ok-Some-next.new.files)) in
    let then : Turn → Type 0 = GoesBy g.C.Clock.observable g.F.Files.observable (g.C.Clock.moment c.loop-i.clock) (g.F.Files.state c.loop-i.files).shelf.seen (Rose (g.F.Files.faults c.loop-i.files) (g.F.Files.faults c.finish-in-Ok-Some-next.new.files)) in
    let since : (turn : Turn) → then turn → by turn =
    goes_since g.C.Clock.observable g.F.Files.observable (g.C.Clock.moment c.loop-i.clock) (g.C.Clock.moment c.args.clock.now) (g.F.Files.state c.loop-i.files).shelf.seen (g.F.Files.state c.args.files.now).shelf.seen (Rose (g.F.Files.faults c.loop-i.files) (g.F.Files.faults c.finish-in-Ok-Some-next.new.files)) (Rose (g.F.Files.faults c.args.files.now) (g.F.Files.faults c.finish-in-Ok-Some-next.new.files))
    c.loop-i.invariant.clock (λ told. ap (λ (state : FilesState). state.shelf.seen) (c.loop-i.invariant.files told)) (rose_since (g.F.Files.faults c.args.files.now) (g.F.Files.faults c.loop-i.files) (g.F.Files.faults c.finish-in-Ok-Some-next.new.files) c.loop-i.invariant.later_files) in
    let sofar =
    safely_since ((g.P.Disk.state c.args.journal.now).seen ≡ []) g.P.Disk.observable g.S.Source.observable g.O.Sink.observable (GoesBy g.C.Clock.observable g.F.Files.observable (g.C.Clock.moment c.args.clock.now) (g.F.Files.state c.args.files.now).shelf.seen (Rose (g.F.Files.faults c.args.files.now) (g.F.Files.faults c.loop-i.files))) by (standing c.args.home.now.entries (g.O.Sink.taken c.args.out.now) false) (g.S.Source.remaining c.args.input.now)
    (c.loop-i.reader ++ g.S.Source.remaining c.loop-i.input) c.loop-i._i c.loop-i.scanner (standing c.loop-i.home.entries (g.O.Sink.taken c.loop-i.out) (was_refused c.loop-i.last)) (g.P.Disk.state c.args.journal.now) (g.P.Disk.state c.loop-i.journal) c.args.beat.now
    (goes_since g.C.Clock.observable g.F.Files.observable (g.C.Clock.moment c.args.clock.now) (g.C.Clock.moment c.args.clock.now) (g.F.Files.state c.args.files.now).shelf.seen (g.F.Files.state c.args.files.now).shelf.seen (Rose (g.F.Files.faults c.args.files.now) (g.F.Files.faults c.loop-i.files)) (Rose (g.F.Files.faults c.args.files.now) (g.F.Files.faults c.finish-in-Ok-Some-next.new.files))
    (λ told. refl) (λ told. refl) (rose_before (g.F.Files.faults c.args.files.now) (g.F.Files.faults c.loop-i.files) (g.F.Files.faults c.finish-in-Ok-Some-next.new.files) c.finish-in-Ok-Some-next.ensures.later_files)) c.loop-i.invariant.safe in
    let full : c.loop-i._i ≡ most_input = omega arith in
    left_limit ((g.P.Disk.state c.args.journal.now).seen ≡ []) g.P.Disk.observable g.S.Source.observable g.O.Sink.observable by c.args.home.now.entries (g.O.Sink.taken c.args.out.now) (g.S.Source.remaining c.args.input.now)
    (c.loop-i.reader ++ g.S.Source.remaining c.loop-i.input) c.loop-i._i c.loop-i.scanner c.loop-i.home.entries (g.O.Sink.taken c.loop-i.out) c.loop-i.last (g.P.Disk.state c.args.journal.now) (g.P.Disk.state c.loop-i.journal) c.args.beat.now sofar told (g.P.Disk.state c.finish-in-Ok-Some-next.new.journal) c.loop-i.beat c.loop-i.invariant.forward ((g.P.Disk.state c.loop-i.journal).seen ≡ []) (λ none. (c.loop-i.invariant.goes told).fresh none) then since
    full c.in-Ok-Some-next.field-0-0 (c.next-2.new.self ++ g.S.Source.remaining c.next-2.new.input) (λ t. subst (λ (o : Option ℕ). IsNextByte (c.loop-i.reader ++ g.S.Source.remaining c.loop-i.input) o (c.next-2.new.self ++ g.S.Source.remaining c.next-2.new.input)) c.in-Ok-Some-next.field-0-is (c.in-Ok-Some-next.ensures.byte t)) (events_of c.over.result) c.over.ensures (c.finish-in-Ok-Some-next.ensures.moments told)

pub returns-in-Err-byte_turn-clause-moments : goal.returns-in-Err-byte_turn-clause-moments
returns-in-Err-byte_turn-clause-moments g c = λ told.
    let by : Turn → Type 0 = GoesBy g.C.Clock.observable g.F.Files.observable (g.C.Clock.moment c.args.clock.now) (g.F.Files.state c.args.files.now).shelf.seen (Rose (g.F.Files.faults c.args.files.now) (g.F.Files.faults c.byte_turn.new.files)) in
    let then : Turn → Type 0 = GoesBy g.C.Clock.observable g.F.Files.observable (g.C.Clock.moment c.loop-i.clock) (g.F.Files.state c.loop-i.files).shelf.seen (Rose (g.F.Files.faults c.loop-i.files) (g.F.Files.faults c.byte_turn.new.files)) in
    let since : (turn : Turn) → then turn → by turn =
    goes_since g.C.Clock.observable g.F.Files.observable (g.C.Clock.moment c.loop-i.clock) (g.C.Clock.moment c.args.clock.now) (g.F.Files.state c.loop-i.files).shelf.seen (g.F.Files.state c.args.files.now).shelf.seen (Rose (g.F.Files.faults c.loop-i.files) (g.F.Files.faults c.byte_turn.new.files)) (Rose (g.F.Files.faults c.args.files.now) (g.F.Files.faults c.byte_turn.new.files))
    c.loop-i.invariant.clock (λ told. ap (λ (state : FilesState). state.shelf.seen) (c.loop-i.invariant.files told)) (rose_since (g.F.Files.faults c.args.files.now) (g.F.Files.faults c.loop-i.files) (g.F.Files.faults c.byte_turn.new.files) c.loop-i.invariant.later_files) in
    let sofar =
    safely_since ((g.P.Disk.state c.args.journal.now).seen ≡ []) g.P.Disk.observable g.S.Source.observable g.O.Sink.observable (GoesBy g.C.Clock.observable g.F.Files.observable (g.C.Clock.moment c.args.clock.now) (g.F.Files.state c.args.files.now).shelf.seen (Rose (g.F.Files.faults c.args.files.now) (g.F.Files.faults c.loop-i.files))) by (standing c.args.home.now.entries (g.O.Sink.taken c.args.out.now) false) (g.S.Source.remaining c.args.input.now)
    (c.loop-i.reader ++ g.S.Source.remaining c.loop-i.input) c.loop-i._i c.loop-i.scanner (standing c.loop-i.home.entries (g.O.Sink.taken c.loop-i.out) (was_refused c.loop-i.last)) (g.P.Disk.state c.args.journal.now) (g.P.Disk.state c.loop-i.journal) c.args.beat.now
    (goes_since g.C.Clock.observable g.F.Files.observable (g.C.Clock.moment c.args.clock.now) (g.C.Clock.moment c.args.clock.now) (g.F.Files.state c.args.files.now).shelf.seen (g.F.Files.state c.args.files.now).shelf.seen (Rose (g.F.Files.faults c.args.files.now) (g.F.Files.faults c.loop-i.files)) (Rose (g.F.Files.faults c.args.files.now) (g.F.Files.faults c.byte_turn.new.files))
    (λ told. refl) (λ told. refl) (rose_before (g.F.Files.faults c.args.files.now) (g.F.Files.faults c.loop-i.files) (g.F.Files.faults c.byte_turn.new.files) c.byte_turn.ensures.later_files)) c.loop-i.invariant.safe in
    let small : c.loop-i._i < most_input = omega arith in
    left_byte ((g.P.Disk.state c.args.journal.now).seen ≡ []) g.P.Disk.observable g.S.Source.observable g.O.Sink.observable by c.args.home.now.entries (g.O.Sink.taken c.args.out.now) (g.S.Source.remaining c.args.input.now)
    (c.loop-i.reader ++ g.S.Source.remaining c.loop-i.input) c.loop-i._i c.loop-i.scanner c.loop-i.home.entries (g.O.Sink.taken c.loop-i.out) c.loop-i.last (g.P.Disk.state c.args.journal.now) (g.P.Disk.state c.loop-i.journal) c.args.beat.now sofar told (g.P.Disk.state c.byte_turn.new.journal) c.loop-i.beat c.loop-i.invariant.forward ((g.P.Disk.state c.loop-i.journal).seen ≡ []) (λ none. (c.loop-i.invariant.goes told).fresh none) then since
    c.in-Ok-Some.byte (c.next.new.self ++ g.S.Source.remaining c.next.new.input) (λ t. subst (λ (o : Option ℕ). IsNextByte (c.loop-i.reader ++ g.S.Source.remaining c.loop-i.input) o (c.next.new.self ++ g.S.Source.remaining c.next.new.input)) c.in-Ok-Some.field-0-is (c.in-Ok-Some.ensures.byte t)) (c.byte_turn.ensures.moments told) small

pub returns-in-Ok-Ends-clause-moments : goal.returns-in-Ok-Ends-clause-moments
returns-in-Ok-Ends-clause-moments g c = λ told.
    let by : Turn → Type 0 = GoesBy g.C.Clock.observable g.F.Files.observable (g.C.Clock.moment c.args.clock.now) (g.F.Files.state c.args.files.now).shelf.seen (Rose (g.F.Files.faults c.args.files.now) (g.F.Files.faults c.byte_turn.new.files)) in
    let then : Turn → Type 0 = GoesBy g.C.Clock.observable g.F.Files.observable (g.C.Clock.moment c.loop-i.clock) (g.F.Files.state c.loop-i.files).shelf.seen (Rose (g.F.Files.faults c.loop-i.files) (g.F.Files.faults c.byte_turn.new.files)) in
    let since : (turn : Turn) → then turn → by turn =
    goes_since g.C.Clock.observable g.F.Files.observable (g.C.Clock.moment c.loop-i.clock) (g.C.Clock.moment c.args.clock.now) (g.F.Files.state c.loop-i.files).shelf.seen (g.F.Files.state c.args.files.now).shelf.seen (Rose (g.F.Files.faults c.loop-i.files) (g.F.Files.faults c.byte_turn.new.files)) (Rose (g.F.Files.faults c.args.files.now) (g.F.Files.faults c.byte_turn.new.files))
    c.loop-i.invariant.clock (λ told. ap (λ (state : FilesState). state.shelf.seen) (c.loop-i.invariant.files told)) (rose_since (g.F.Files.faults c.args.files.now) (g.F.Files.faults c.loop-i.files) (g.F.Files.faults c.byte_turn.new.files) c.loop-i.invariant.later_files) in
    let sofar =
    safely_since ((g.P.Disk.state c.args.journal.now).seen ≡ []) g.P.Disk.observable g.S.Source.observable g.O.Sink.observable (GoesBy g.C.Clock.observable g.F.Files.observable (g.C.Clock.moment c.args.clock.now) (g.F.Files.state c.args.files.now).shelf.seen (Rose (g.F.Files.faults c.args.files.now) (g.F.Files.faults c.loop-i.files))) by (standing c.args.home.now.entries (g.O.Sink.taken c.args.out.now) false) (g.S.Source.remaining c.args.input.now)
    (c.loop-i.reader ++ g.S.Source.remaining c.loop-i.input) c.loop-i._i c.loop-i.scanner (standing c.loop-i.home.entries (g.O.Sink.taken c.loop-i.out) (was_refused c.loop-i.last)) (g.P.Disk.state c.args.journal.now) (g.P.Disk.state c.loop-i.journal) c.args.beat.now
    (goes_since g.C.Clock.observable g.F.Files.observable (g.C.Clock.moment c.args.clock.now) (g.C.Clock.moment c.args.clock.now) (g.F.Files.state c.args.files.now).shelf.seen (g.F.Files.state c.args.files.now).shelf.seen (Rose (g.F.Files.faults c.args.files.now) (g.F.Files.faults c.loop-i.files)) (Rose (g.F.Files.faults c.args.files.now) (g.F.Files.faults c.byte_turn.new.files))
    (λ told. refl) (λ told. refl) (rose_before (g.F.Files.faults c.args.files.now) (g.F.Files.faults c.loop-i.files) (g.F.Files.faults c.byte_turn.new.files) c.byte_turn.ensures.later_files)) c.loop-i.invariant.safe in
    let small : c.loop-i._i < most_input = omega arith in
    left_byte ((g.P.Disk.state c.args.journal.now).seen ≡ []) g.P.Disk.observable g.S.Source.observable g.O.Sink.observable by c.args.home.now.entries (g.O.Sink.taken c.args.out.now) (g.S.Source.remaining c.args.input.now)
    (c.loop-i.reader ++ g.S.Source.remaining c.loop-i.input) c.loop-i._i c.loop-i.scanner c.loop-i.home.entries (g.O.Sink.taken c.loop-i.out) c.loop-i.last (g.P.Disk.state c.args.journal.now) (g.P.Disk.state c.loop-i.journal) c.args.beat.now sofar told (g.P.Disk.state c.byte_turn.new.journal) c.loop-i.beat c.loop-i.invariant.forward ((g.P.Disk.state c.loop-i.journal).seen ≡ []) (λ none. (c.loop-i.invariant.goes told).fresh none) then since
    c.in-Ok-Some.byte (c.next.new.self ++ g.S.Source.remaining c.next.new.input) (λ t. subst (λ (o : Option ℕ). IsNextByte (c.loop-i.reader ++ g.S.Source.remaining c.loop-i.input) o (c.next.new.self ++ g.S.Source.remaining c.next.new.input)) c.in-Ok-Some.field-0-is (c.in-Ok-Some.ensures.byte t)) (c.byte_turn.ensures.moments told) small

pub returns-in-Err-clause-moments : goal.returns-in-Err-clause-moments
returns-in-Err-clause-moments g c = λ told.
    let by : Turn → Type 0 = GoesBy g.C.Clock.observable g.F.Files.observable (g.C.Clock.moment c.args.clock.now) (g.F.Files.state c.args.files.now).shelf.seen (Rose (g.F.Files.faults c.args.files.now) (g.F.Files.faults c.loop-i.files)) in
    let small : c.loop-i._i ≤ most_input = omega arith in
    left_read ((g.P.Disk.state c.args.journal.now).seen ≡ []) g.P.Disk.observable g.S.Source.observable g.O.Sink.observable by c.args.home.now.entries (g.O.Sink.taken c.args.out.now) (g.S.Source.remaining c.args.input.now)
    (c.loop-i.reader ++ g.S.Source.remaining c.loop-i.input) c.loop-i._i c.loop-i.scanner c.loop-i.home.entries (g.O.Sink.taken c.loop-i.out) c.loop-i.last (g.P.Disk.state c.args.journal.now) (g.P.Disk.state c.loop-i.journal) c.args.beat.now c.loop-i.invariant.safe told small

pub returns-clause-moments : goal.returns-clause-moments
returns-clause-moments g c = λ told.
    let by : Turn → Type 0 = GoesBy g.C.Clock.observable g.F.Files.observable (g.C.Clock.moment c.args.clock.now) (g.F.Files.state c.args.files.now).shelf.seen (Rose (g.F.Files.faults c.args.files.now) (g.F.Files.faults c.loop-i.files)) in
    let small : c.loop-i._i ≤ most_input = omega arith in
    left_read ((g.P.Disk.state c.args.journal.now).seen ≡ []) g.P.Disk.observable g.S.Source.observable g.O.Sink.observable by c.args.home.now.entries (g.O.Sink.taken c.args.out.now) (g.S.Source.remaining c.args.input.now)
    (c.loop-i.reader ++ g.S.Source.remaining c.loop-i.input) c.loop-i._i c.loop-i.scanner c.loop-i.home.entries (g.O.Sink.taken c.loop-i.out) c.loop-i.last (g.P.Disk.state c.args.journal.now) (g.P.Disk.state c.loop-i.journal) c.args.beat.now c.loop-i.invariant.safe told small

pub loop-i-preserved : goal.loop-i-preserved
loop-i-preserved g c =
    let by : Turn → Type 0 = GoesBy g.C.Clock.observable g.F.Files.observable (g.C.Clock.moment c.args.clock.now) (g.F.Files.state c.args.files.now).shelf.seen (Rose (g.F.Files.faults c.args.files.now) (g.F.Files.faults c.byte_turn.new.files)) in
    let then : Turn → Type 0 = GoesBy g.C.Clock.observable g.F.Files.observable (g.C.Clock.moment c.loop-i.clock) (g.F.Files.state c.loop-i.files).shelf.seen (Rose (g.F.Files.faults c.loop-i.files) (g.F.Files.faults c.byte_turn.new.files)) in
    let since : (turn : Turn) → then turn → by turn =
    goes_since g.C.Clock.observable g.F.Files.observable (g.C.Clock.moment c.loop-i.clock) (g.C.Clock.moment c.args.clock.now) (g.F.Files.state c.loop-i.files).shelf.seen (g.F.Files.state c.args.files.now).shelf.seen (Rose (g.F.Files.faults c.loop-i.files) (g.F.Files.faults c.byte_turn.new.files)) (Rose (g.F.Files.faults c.args.files.now) (g.F.Files.faults c.byte_turn.new.files))
    c.loop-i.invariant.clock (λ told. ap (λ (state : FilesState). state.shelf.seen) (c.loop-i.invariant.files told)) (rose_since (g.F.Files.faults c.args.files.now) (g.F.Files.faults c.loop-i.files) (g.F.Files.faults c.byte_turn.new.files) c.loop-i.invariant.later_files) in
    let sofar =
    safely_since ((g.P.Disk.state c.args.journal.now).seen ≡ []) g.P.Disk.observable g.S.Source.observable g.O.Sink.observable (GoesBy g.C.Clock.observable g.F.Files.observable (g.C.Clock.moment c.args.clock.now) (g.F.Files.state c.args.files.now).shelf.seen (Rose (g.F.Files.faults c.args.files.now) (g.F.Files.faults c.loop-i.files))) by (standing c.args.home.now.entries (g.O.Sink.taken c.args.out.now) false) (g.S.Source.remaining c.args.input.now)
    (c.loop-i.reader ++ g.S.Source.remaining c.loop-i.input) c.loop-i._i c.loop-i.scanner (standing c.loop-i.home.entries (g.O.Sink.taken c.loop-i.out) (was_refused c.loop-i.last)) (g.P.Disk.state c.args.journal.now) (g.P.Disk.state c.loop-i.journal) c.args.beat.now
    (goes_since g.C.Clock.observable g.F.Files.observable (g.C.Clock.moment c.args.clock.now) (g.C.Clock.moment c.args.clock.now) (g.F.Files.state c.args.files.now).shelf.seen (g.F.Files.state c.args.files.now).shelf.seen (Rose (g.F.Files.faults c.args.files.now) (g.F.Files.faults c.loop-i.files)) (Rose (g.F.Files.faults c.args.files.now) (g.F.Files.faults c.byte_turn.new.files))
    (λ told. refl) (λ told. refl) (rose_before (g.F.Files.faults c.args.files.now) (g.F.Files.faults c.loop-i.files) (g.F.Files.faults c.byte_turn.new.files) c.byte_turn.ensures.later_files)) c.loop-i.invariant.safe in
    let e = c.in-Ok-Goes.ensures in
    let one = byte_read ((g.P.Disk.state c.args.journal.now).seen ≡ []) g.P.Disk.observable g.S.Source.observable g.O.Sink.observable by c.args.home.now.entries (g.O.Sink.taken c.args.out.now) (g.S.Source.remaining c.args.input.now)
    (c.loop-i.reader ++ g.S.Source.remaining c.loop-i.input) c.loop-i._i c.loop-i.scanner c.loop-i.home (g.O.Sink.taken c.loop-i.out) c.loop-i.last sofar.reading (g.S.Source.remaining c.next.new.input)
    c.in-Ok-Some.byte (c.next.new.self ++ g.S.Source.remaining c.next.new.input) (λ told. subst (λ (o : Option ℕ). IsNextByte (c.loop-i.reader ++ g.S.Source.remaining c.loop-i.input) o (c.next.new.self ++ g.S.Source.remaining c.next.new.input)) c.in-Ok-Some.field-0-is (c.in-Ok-Some.ensures.byte told)) ((g.P.Disk.state c.loop-i.journal).seen ≡ []) (λ told none. (c.loop-i.invariant.goes told).fresh none) then since
    c.byte_turn.new.scanner c.byte_turn.new.home.entries (g.O.Sink.taken c.byte_turn.new.out) c.in-Ok-Goes.now e.scanner (subst (λ (f : Flow).
    Went g.P.Disk.observable g.O.Sink.observable then (standing c.loop-i.home.entries (g.O.Sink.taken c.loop-i.out) (was_refused c.loop-i.last)) (scan_after c.loop-i.scanner c.in-Ok-Some.byte).1
    c.byte_turn.new.home.entries (g.O.Sink.taken c.byte_turn.new.out) f) c.in-Ok-Goes.field-0-is c.in-Ok-Goes.ensures.went) in
    record {
      legal = e.legal;
      sound = e.sound;
      goes = λ told. gone_then c.args.home.now.entries (g.P.Disk.state c.args.journal.now) (g.P.Disk.state c.loop-i.journal) (g.P.Disk.state c.byte_turn.new.journal) c.args.beat.now c.loop-i.beat c.byte_turn.new.beat c.loop-i.home c.byte_turn.new.home (c.loop-i.invariant.goes told) (e.goes told);
      safe = record {
        reading = one.0;
        left = λ told. left_more ((g.P.Disk.state c.args.journal.now).seen ≡ []) g.P.Disk.observable g.S.Source.observable g.O.Sink.observable by c.args.home.now.entries (g.O.Sink.taken c.args.out.now) (g.S.Source.remaining c.args.input.now)
            (c.loop-i.reader ++ g.S.Source.remaining c.loop-i.input) c.loop-i._i c.loop-i.scanner c.loop-i.home.entries (g.O.Sink.taken c.loop-i.out) c.loop-i.last (g.P.Disk.state c.args.journal.now) (g.P.Disk.state c.loop-i.journal) c.args.beat.now sofar told (g.P.Disk.state c.byte_turn.new.journal) c.loop-i.beat c.loop-i.invariant.forward ((g.P.Disk.state c.loop-i.journal).seen ≡ []) (λ none. (c.loop-i.invariant.goes told).fresh none) then since
            c.in-Ok-Some.byte (c.next.new.self ++ g.S.Source.remaining c.next.new.input) (λ t. subst (λ (o : Option ℕ). IsNextByte (c.loop-i.reader ++ g.S.Source.remaining c.loop-i.input) o (c.next.new.self ++ g.S.Source.remaining c.next.new.input)) c.in-Ok-Some.field-0-is (c.in-Ok-Some.ensures.byte t)) (c.byte_turn.ensures.moments told) one.0.read one.1;
      };
      clock = λ told. e.clock told ∙ c.loop-i.invariant.clock told;
      files = λ told. e.files told ∙ c.loop-i.invariant.files told;
      later_files = let x = e.later_files in let y = c.loop-i.invariant.later_files in omega arith;
      order = e.order;
      forward = let x = e.beat in let y = c.loop-i.invariant.forward in omega arith;
      later = let x = e.later in let y = c.loop-i.invariant.later in omega arith;
      later_in = let x = c.next.ensures.later in let y = c.loop-i.invariant.later_in in omega arith;
      later_out = let x = e.later_out in let y = c.loop-i.invariant.later_out in omega arith;
    }
