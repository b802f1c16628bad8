use Rattle.cd_journal.proofs.TwoWrites.{entry_moments, entry_done}
use Rattle.cd_journal.proofs.writing.put.Goals as goal

pub returns-in_err-write_through-2-clause-moments : goal.returns-in_err-write_through-2-clause-moments
returns-in_err-write_through-2-clause-moments g c told =
    let state = g.P.Disk.state in
    entry_moments c.args.gate c.args.block.now (state c.args.disk.now) (state c.write_through.new.disk) (state c.write_through-2.new.disk) c.args.beat.now c.write_through.new.beat
    (c.in_ok-write_through.ensures.settled told) c.write_through.ensures.beat (c.write_through.ensures.moments told) (c.write_through-2.ensures.moments told)

pub returns-clause-done : goal.returns-clause-done
returns-clause-done g c told =
    let state = g.P.Disk.state in
    entry_done c.args.gate c.args.block.now (state c.args.disk.now) (state c.write_through.new.disk) (state c.write_through-2.new.disk) (c.in_ok-write_through.ensures.settled told) (c.in_ok-write_through-2.ensures.settled told)

pub returns-clause-moments : goal.returns-clause-moments
returns-clause-moments g c told =
    let state = g.P.Disk.state in
    entry_moments c.args.gate c.args.block.now (state c.args.disk.now) (state c.write_through.new.disk) (state c.write_through-2.new.disk) c.args.beat.now c.write_through.new.beat
    (c.in_ok-write_through.ensures.settled told) c.write_through.ensures.beat (c.write_through.ensures.moments told) (c.write_through-2.ensures.moments told)
