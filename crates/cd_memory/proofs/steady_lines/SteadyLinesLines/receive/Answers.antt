use Rattle.std.proofs.Common.{◌∙◌}
use Rattle.cd_memory.proofs.steady_lines.SteadyLinesLines.receive.Goals as goal

pub returns-in-Err-clause-none : goal.returns-in-Err-clause-none
returns-in-Err-clause-none c = c.fail.ensures.same.traffic ∙ c.in-Err.ensures.same

pub returns-then-count-eq0-clause-taken : goal.returns-then-count-eq0-clause-taken
returns-then-count-eq0-clause-taken c = c.end.ensures.same.traffic ∙ c.in-Ok.ensures.taken
