use Rattle.std.proofs.Common.{◌∙◌}
use Rattle.cd_memory.proofs.Front.{gave_none}
use Rattle.cd_memory.proofs.steady_lines.SteadyLinesLines.send.Goals as goal

pub returns-in-Err-clause-front : goal.returns-in-Err-clause-front
returns-in-Err-clause-front c = gave_none c.args.sid.number c.args.bytes.now _ _ (c.fail.ensures.same.traffic ∙ c.in-Err.ensures.same)
