use Rattle.std.proofs.Common.{◌≡◌, ℕ, List, Ok, Err}
use Rattle.cd_ast.specs.declared.process.Process.{Process}
use Rattle.cd_grammar.specs.Faults.{Says, IsFaultOf}
use Rattle.cd_grammar.specs.Later.{Found}
use Rattle.cd_commands.specs.Texts.{read_as}
use Rattle.cd_commands.proofs.Converse.{ok_is, err_is}
use Rattle.cd_commands.proofs.Resolved.{process_read, fault_read}
use Rattle.cd_commands.proofs.heard_law.law_of_resolved_readings.Goals as goal

pub returns : goal.returns
returns c = record {
  said = λ text overrides. ok_is (read_as text overrides) (Says text overrides) (IsFaultOf text overrides) (process text overrides) (fault text overrides) (c.law_of_resolved_texts.ensures.some text overrides);
  every_process = process;
  wrong = λ text overrides. err_is (read_as text overrides) (Says text overrides) (IsFaultOf text overrides) (process text overrides) (fault text overrides) (c.law_of_resolved_texts.ensures.some text overrides);
  every_fault = fault;
}
  where
    process : (text : List ℕ) (overrides : List (List ℕ × List ℕ)) (p : Process) → Says text overrides p → read_as text overrides ≡ Ok p
    process text overrides p said = process_read text overrides c.law_of_plain_readings.ensures.every_process p said

    fault : (text : List ℕ) (overrides : List (List ℕ × List ℕ)) (f : Found) → IsFaultOf text overrides f → read_as text overrides ≡ Err f
    fault text overrides f wrong = fault_read text overrides c.law_of_plain_readings.ensures.every_fault f wrong
