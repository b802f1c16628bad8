use Rattle.cd_lexer.proofs.Laws.{parts-whole, subst-once, subst-same}
use Rattle.cd_lexer.proofs.law.law_of_substitution.Goals as goal

pub returns : goal.returns
returns c = record { whole = parts-whole; once = subst-once; same = subst-same }
