use Rattle.std.proofs.Common.{◌≡◌}
use Rattle.cd_turn.specs.Turn.{added}
use Rattle.cd_turn.proofs.Homes.{rests_moments}
use Rattle.cd_turn.proofs.turn.make_turn.Goals as goal

-- memory ran out before it
pub returns-in_default-clause-moments : goal.returns-in_default-clause-moments
returns-in_default-clause-moments g c = λ told.
    rests_moments c.args.home.now (g.P.Disk.state c.args.journal.now) c.args.beat.now (added c.args.home.now.entries c.args.now c.args.wanted.now) c.requires.legal (c.requires.home told) (c.requires.order told)

-- and before its line
pub returns-in_default-text-clause-moments : goal.returns-in_default-text-clause-moments
returns-in_default-text-clause-moments g c = λ told.
    rests_moments c.args.home.now (g.P.Disk.state c.args.journal.now) c.args.beat.now (added c.args.home.now.entries c.args.now c.args.wanted.now) c.requires.legal (c.requires.home told) (c.requires.order told)
