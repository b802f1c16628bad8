use Rattle.cd_automaton.proofs.Ranges.{text_card, text_name, text_stmts, text_count}
use Rattle.cd_automaton.proofs.law.law_of_ranges.Goals as goal

pub returns : goal.returns
returns c = record {
  card = λ text process said. text_card text process said;
  name = λ text process said. text_name text process said;
  statements = λ text process said. text_stmts text process said;
  count = λ text process said. text_count text process said;
}
