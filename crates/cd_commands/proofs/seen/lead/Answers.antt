use Rattle.cd_commands.proofs.Scan.{lead_end}
use Rattle.cd_commands.proofs.seen.lead.Goals as goal

pub returns : goal.returns
returns c = lead_end c.loop-piece.len c.loop-piece.before c.loop-piece.rest.now _ c.in_default.ensures.none c.loop-piece.invariant.told
