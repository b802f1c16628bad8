use Rattle.cd_automaton.proofs.Ranges.{text_leads}
use Rattle.cd_automaton.proofs.Down.{down, back}
use Rattle.cd_automaton.proofs.law.law_of_jumps.Goals as goal

pub returns : goal.returns
returns c = record {
  well = λ text process said. text_leads text process said;
  back = λ text process said front s more label rel n e is. back process.stmts (text_leads text process said) front s more label rel n e is;
  down = λ text process said codes front s more e acts. down process.stmts (text_leads text process said) codes front s more e acts;
}
