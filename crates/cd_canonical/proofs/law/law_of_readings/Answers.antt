use Rattle.std.specs.Prelude.{◌≡◌, ℕ, List, [], Some, length, refl}
use Rattle.cd_ast.specs.Canonical.{canonical}
use Rattle.cd_ast.specs.declared.process.Process.{Process}
use Rattle.cd_grammar.specs.Answers.{strict}
use Rattle.cd_grammar.specs.Faults.{InGrammar}
use Rattle.cd_grammar.specs.Tokens.{tokens_of}
use Rattle.cd_canonical.specs.Read.{process_in, canonical_reading}
use Rattle.cd_canonical.proofs.Promised.{priority_of, all_back}
use Rattle.cd_canonical.proofs.Read.{said_of, found_of, keyed, printed_by, again_of}
use Rattle.cd_canonical.proofs.law.law_of_readings.Goals as goal

pub returns : goal.returns
returns c = record {
  said = said;
  found = found;
  means = means;
  printed = λ text process read. (printed_by text process (process_in text) read).1;
  again = λ process in_it. again_of process (found (canonical process) process in_it);
  priorities = λ text process read. priority_of process.card (c.law_of_ranges.ensures.card text process (means text process read));
  look_back = λ text process read. all_back process.stmts (c.law_of_jumps.ensures.back text process (means text process read)) [] process.stmts 0 refl refl;
}
  where
    said : (text : List ℕ) (process : Process) → process_in text ≡ Some process → InGrammar text process
    said text process read = said_of text process (λ all e. c.law_of_machine.ensures.sound strict (length text) (tokens_of text) all e) read

    found : (text : List ℕ) (process : Process) → InGrammar text process → process_in text ≡ Some process
    found text process in_it = found_of text process in_it (c.law_of_machine.ensures.complete strict (length text) (tokens_of text) in_it.all (λ at. refl) (keyed 0 (tokens_of text) (c.law_of_tokens.ensures text)) in_it.read)

    means : (text : List ℕ) (process : Process) → canonical_reading text ≡ Some process → InGrammar text process
    means text process read = said text process (printed_by text process (process_in text) read).0
