use Rattle.std.proofs.Common.{◌≡◌, ℕ, List, length}
use Rattle.cd_commands.specs.declared.command.Command.{Command}
use Rattle.cd_commands.specs.Commands.{told, IsCommand, IsCommandFault, Fault}
use Rattle.cd_commands.specs.Grammar.{First, Rest}
use Rattle.cd_commands.specs.Machine.{Said}
use Rattle.cd_commands.specs.Seen.{seen}
use Rattle.cd_commands.specs.declared.heard.Heard.TheVariants as hearing
use Rattle.cd_commands.specs.Heard.{fault_of, faulty, heard}
use Rattle.cd_commands.proofs.HeardTold.{command_heard, fault_heard, command_is, fault_is}
use Rattle.cd_commands.proofs.heard_law.law_of_hearing.Goals as goal

pub returns : goal.returns
returns c = record {
  command = λ text. command_is text (command text) (fault text) (c.law_of_commands.ensures.some text);
  every_command = command;
  fault = λ text. fault_is text (command text) (fault text) (c.law_of_commands.ensures.some text);
  every_fault = fault;
}
  where
    found : (text : List ℕ) (x : Said) → Rest First (seen text) x → told text ≡ x
    found text x rest = c.law_of_grammar.ensures.complete (length text) (seen text) x rest

    command : (text : List ℕ) (spoken : Command) → IsCommand text spoken → heard text ≡ hearing.Command spoken
    command text spoken is = command_heard text (found text) c.law_of_resolved_readings.ensures.every_process spoken is

    fault : (text : List ℕ) (f : Fault) → IsCommandFault text f → heard text ≡ faulty (fault_of f)
    fault text f wrong = fault_heard text (found text) c.law_of_resolved_readings.ensures.every_process c.law_of_resolved_readings.ensures.every_fault f wrong
