use Rattle.cd_operator.specs.Wanted.{wanted}
use Rattle.cd_operator.proofs.Moves.{adds_may, naming_is}
use Rattle.cd_operator.proofs.Pushes.{push_is}
use Rattle.cd_operator.proofs.law.law_of_doings.Goals as goal

pub returns-clause-may : goal.returns-clause-may
returns-clause-may c = λ now entries command e is. adds_may now entries (wanted now entries command) e is

pub returns-clause-naming : goal.returns-clause-naming
returns-clause-naming c = naming_is

pub returns-clause-pushes : goal.returns-clause-pushes
returns-clause-pushes c = λ now entries text overrides process options recording says formed push early is.
    let laws = c.law_of_filings.ensures in
    push_is now entries process options recording early (laws.read text overrides options process says formed push) (laws.short text overrides options process says formed push) (laws.kept options process push) is
