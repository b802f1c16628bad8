use Rattle.std.proofs.Common.{◌≡◌, ℕ, List, length, Ok, Err, refl}
use Rattle.cd_ast.specs.declared.process.Process.{Process}
use Rattle.cd_grammar.specs.Answers.{strict}
use Rattle.cd_grammar.specs.Faults.{IsRead, Leaves, InGrammar, IsFault}
use Rattle.cd_grammar.specs.Later.{Found}
use Rattle.cd_grammar.specs.Reading.{Reading}
use Rattle.cd_grammar.specs.Tokens.{tokens_of}
use Rattle.cd_automaton.specs.Machine.{whole}
use Rattle.cd_commands.specs.Texts.{read_plain}
use Rattle.cd_commands.proofs.Converse.{ok_is, err_is}
use Rattle.cd_commands.proofs.Plain.{keyed, process_read, fault_read}
use Rattle.cd_commands.proofs.heard_law.law_of_plain_readings.Goals as goal

pub returns : goal.returns
returns c = record {
  said = λ text. ok_is (read_plain text) (InGrammar text) (IsFault text) (process text) (fault text) (c.law_of_texts.ensures.some text);
  every_process = process;
  wrong = λ text. err_is (read_plain text) (InGrammar text) (IsFault text) (process text) (fault text) (c.law_of_texts.ensures.some text);
  every_fault = fault;
}
  where
    reads : (text : List ℕ) (all : Reading) → IsRead strict (tokens_of text) all → whole strict (length text) (tokens_of text) ≡ Ok all
    reads text all read = c.law_of_machine.ensures.complete strict (length text) (tokens_of text) all (λ at. refl) (keyed 0 (tokens_of text) (c.law_of_tokens.ensures text)) read

    leaves : (text : List ℕ) (f : Found) → Leaves (length text) (tokens_of text) f → whole strict (length text) (tokens_of text) ≡ Err f
    leaves text f left = c.law_of_machine.ensures.first (length text) (tokens_of text) f (c.law_of_tokens.ensures text) left

    process : (text : List ℕ) (p : Process) → InGrammar text p → read_plain text ≡ Ok p
    process text p said = process_read text (reads text) p said

    fault : (text : List ℕ) (f : Found) → IsFault text f → read_plain text ≡ Err f
    fault text f wrong = fault_read text (reads text) (leaves text) c.law_of_later_faults.ensures.none c.law_of_later_faults.ensures.one_fault f wrong
