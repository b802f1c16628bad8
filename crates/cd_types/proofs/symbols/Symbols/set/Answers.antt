use Rattle.cd_types.proofs.Pairs.{with_symbol-inserted}
use Rattle.cd_types.proofs.symbols.Symbols.set.Goals as goal

pub returns-clause-ok : goal.returns-clause-ok
returns-clause-ok c = with_symbol-inserted _ _ _ _ _ _ _ c.in_ok-insert.ensures.entries c.self.view_is c.in_ok-name.ensures c.in_ok-value.ensures.items
