use Rattle.std.proofs.Common.{◌≡◌, reverse, take}
use Rattle.cd_rules.specs.Processes.{ended}
use Rattle.cd_ast.specs.Walk.{code_at}
use Rattle.cd_book.proofs.ended.code_at.Given as goal

abbrev pub invariant-loop-entry : goal.invariant-loop-entry
invariant-loop-entry l = l.found ≡ code_at (ended (reverse (take l.entry-index l.entries)) l.number) l.place
