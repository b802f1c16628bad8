use Rattle.std.specs.Prelude.{take}
use Rattle.cd_frames.specs.Reading.{overwritten}
use Rattle.cd_exchange.proofs.Coming.{took_more, took_none, took_heard, none_heard, filled_none}
use Rattle.cd_exchange.proofs.arriving.take_bytes.Goals as goal

pub returns-in-Ok-clause-run : goal.returns-in-Ok-clause-run
returns-in-Ok-clause-run g c = λ told given run.
    took_more c.args.sid.number given c.args.reader.now c.room-room.result.now c.receive.new.into (g.L.Lines.traffic c.args.lines.now) (g.L.Lines.traffic c.receive.new.self)
    run c.in-Ok.n c.filled.new.self c.bytes_are.ensures c.receive.auto.into (c.in-Ok.ensures.taken told) c.filled.ensures

pub returns-in-Err-clause-run : goal.returns-in-Err-clause-run
returns-in-Err-clause-run g c = λ told given run.
    took_none c.args.sid.number given c.args.reader.now c.room-room.result.now c.receive.new.into (g.L.Lines.traffic c.args.lines.now) (g.L.Lines.traffic c.receive.new.self) run (c.in-Err.ensures.none told)

pub returns-in-Ok-clause-heard : goal.returns-in-Ok-clause-heard
returns-in-Ok-clause-heard g c = λ told. took_heard c.args.sid.number (take c.in-Ok.n c.receive.new.into) (g.L.Lines.traffic c.args.lines.now) (g.L.Lines.traffic c.receive.new.self) (c.in-Ok.ensures.taken told)

pub returns-in-Err-clause-heard : goal.returns-in-Err-clause-heard
returns-in-Err-clause-heard g c = λ told. none_heard c.args.sid.number (g.L.Lines.traffic c.args.lines.now) (g.L.Lines.traffic c.receive.new.self) (c.in-Err.ensures.none told)

pub returns-in-Ok-clause-stays : goal.returns-in-Ok-clause-stays
returns-in-Ok-clause-stays g c = λ none. filled_none c.args.reader.now c.filled.new.self (overwritten c.room-room.result.now c.receive.new.into) c.in-Ok.n c.filled.ensures none c.requires.waiting

pub returns-in-Err-clause-stays : goal.returns-in-Err-clause-stays
returns-in-Err-clause-stays g c = λ none. c.requires.waiting
