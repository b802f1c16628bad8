use Rattle.cd_outside.proofs.Writes.{write_failed, sync_failed, went_through}
use Rattle.cd_outside.proofs.through.write_through.Goals as goal

pub returns-in_err-write_at-clause-moments : goal.returns-in_err-write_at-clause-moments
returns-in_err-write_at-clause-moments g c told =
    let state = g.D.Disk.state in
    write_failed c.args.at c.args.bytes.now c.args.beat.now c.write_at.new.beat (state c.args.disk.now) (c.requires.range told) (c.requires.order told) (c.requires.settled told) c.write_at.ensures.beat (state c.write_at.new.self) (c.in_err-write_at.ensures.cut_off told)

pub returns-in_err-sync-clause-moments : goal.returns-in_err-sync-clause-moments
returns-in_err-sync-clause-moments g c told =
    let state = g.D.Disk.state in
    sync_failed c.args.at c.args.bytes.now c.args.beat.now c.write_at.new.beat (state c.args.disk.now) (c.requires.range told) (c.requires.order told) (c.requires.settled told) c.write_at.ensures.beat
    (state c.write_at.new.self) (c.in_ok-write_at.ensures.done told) c.in_ok-write_at.ensures.raised (state c.sync.new.self) (c.in_err-sync.ensures.same told)

pub returns-clause-moments : goal.returns-clause-moments
returns-clause-moments g c told =
    let state = g.D.Disk.state in
    went_through c.args.at c.args.bytes.now c.args.beat.now c.write_at.new.beat (state c.args.disk.now) (c.requires.range told) (c.requires.order told) (c.requires.settled told) c.write_at.ensures.beat
    (state c.write_at.new.self) (c.in_ok-write_at.ensures.done told) c.in_ok-write_at.ensures.raised c.sync.new.beat (state c.sync.new.self)
    (g.met.D.Disk.seen_is_image c.write_at.new.self told) (c.in_ok-sync.ensures.done told) c.in_ok-sync.ensures.raised c.sync.ensures.beat
