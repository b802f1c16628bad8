use Rattle.std.proofs.Common.{◌≡◌}
use Rattle.cd_turn.proofs.Homes.{entry_seen}
use Rattle.cd_turn.proofs.turn.keep_entry.Goals as goal

-- src/turn.rt:187:1
pub returns-in-Ok-clause-fresh : goal.returns-in-Ok-clause-fresh
returns-in-Ok-clause-fresh g c = λ told none.
    entry_seen c.kept.new.home (g.P.Disk.state c.kept.new.journal) c.args.home.now.entries c.args.entry (c.in-Ok.ensures.home told) c.in-Ok.ensures.kept none
