use Rattle.std.specs.Prelude.{map}
use Rattle.cd_drill_script.specs.Seen.{seen_line}
use Rattle.cd_drill_script.proofs.Lines.{fault_ahead}
use Rattle.cd_drill_script.proofs.script.add_line.Goals as goal

pub returns-in-Err-clause-fault : goal.returns-in-Err-clause-fault
returns-in-Err-clause-fault g c more = fault_ahead (map seen_line c.args.lines.now.items) _ c.in-Err.fault (c.in-Err.ensures.fault c.args.number more)
