use Rattle.std.proofs.Common.{Option, ap}
use Rattle.cd_ast.specs.Walk.{pending, pending_from}
use Rattle.cd_ast.specs.declared.process.Process.{Process}
use Rattle.cd_rules.specs.Processes.{ended}
use Rattle.cd_rules.specs.Steps.{stmts_in}
use Rattle.cd_book.proofs.book.Book.next_place.Goals as goal

pub returns-in-None : goal.returns-in-None
unfolding pending_from
returns-in-None g c = ap (λ (o : Option Process). pending (stmts_in o) (ended c.args.self.now.entries c.args.number)) c.in-None.ensures
