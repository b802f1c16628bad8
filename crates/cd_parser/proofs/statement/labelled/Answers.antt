use Rattle.cd_automaton.specs.Machine.{run, next}
use Rattle.cd_parser.proofs.statement.labelled.Goals as goal

pub returns-in_ok-step-in-Word-clause-ok : goal.returns-in_ok-step-in-Word-clause-ok
unfolding run next
returns-in_ok-step-in-Word-clause-ok c = rw (c.in_ok-token.ensures.ok, c.in-Word.is) c.in_ok-step-in-Word.ensures.ok
