use Rattle.std.proofs.Common.{[]}
use Rattle.cd_frames.proofs.SymbolsLaw.{is_symbols_is, symbols_again, symbols_only, with_pairs_new}
use Rattle.cd_frames.proofs.law.law_of_symbols.Goals as goal

pub returns-clause-again : goal.returns-clause-again
returns-clause-again c = symbols_again

pub returns-clause-only : goal.returns-clause-only
returns-clause-only c = symbols_only

pub returns-clause-test : goal.returns-clause-test
returns-clause-test c = is_symbols_is

pub returns-clause-same : goal.returns-clause-same
returns-clause-same c = with_pairs_new []
