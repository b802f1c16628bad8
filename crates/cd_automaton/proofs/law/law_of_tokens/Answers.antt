use Rattle.cd_automaton.proofs.Texts.{text_placed}
use Rattle.cd_automaton.proofs.law.law_of_tokens.Goals as goal

pub returns : goal.returns
returns c = λ text. text_placed text
