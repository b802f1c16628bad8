use Rattle.std.proofs.Common.{◌≡◌, ◌+◌, drop}
use Rattle.cd_ast.specs.Pieces.{run_len}
use Rattle.cd_commands.proofs.run.run_len.Given as goal

abbrev pub invariant-loop-place : goal.invariant-loop-place
invariant-loop-place g l = run_len (g.E.End.stops l.end) l.bytes ≡ run_len (g.E.End.stops l.end) (drop l.place l.bytes) + l.place
