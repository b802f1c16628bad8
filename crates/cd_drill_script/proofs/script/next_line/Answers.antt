use Rattle.std.proofs.Common.{arith}
use Rattle.cd_drill_script.proofs.Lines.{ends_at, line_whole}
use Rattle.cd_drill_script.proofs.script.next_line.Goals as goal

pub returns-then-len-text-clause-line : goal.returns-then-len-text-clause-line
returns-then-len-text-clause-line c = ends_at c.args.text.now c.first_feed-len.result c.first_feed-len.ensures.place c.if-len-text.true

pub returns-else-len-text-clause-line : goal.returns-else-len-text-clause-line
returns-else-len-text-clause-line c = line_whole c.args.text.now (let place = c.first_feed-len.ensures.place in omega (arith, c.if-len-text.false, place))
