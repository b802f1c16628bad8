use Rattle.cd_commands.proofs.Scan.{seen_end}
use Rattle.cd_commands.proofs.seen.seen.Goals as goal

pub returns : goal.returns
returns c = seen_end c.loop-piece.tokens.items c.loop-piece.inside c.loop-piece.at c.loop-piece.before c.loop-piece.rest.now _ c.in_default.ensures.none c.loop-piece.invariant.told
