use Rattle.std.proofs.lemmas.Result.{err_from_is_err_and}
use Rattle.cd_commands.specs.Commands.{IsCommandFault}
use Rattle.cd_commands.proofs.Told.{none_told}
use Rattle.cd_commands.proofs.text.read_command.Goals as goal

pub returns-in_err-command-clause-every_command : goal.returns-in_err-command-clause-every_command
returns-in_err-command-clause-every_command c = λ d is.
    let p = err_from_is_err_and c.from_residual.result c.from_residual.ensures.1 in
    rw (p.1, p.2) (none_told (IsCommandFault c.args.text.now) c.in_err-command.field-0.0 (λ f bad. c.law_of_commands.ensures.not_both c.args.text.now d f is bad) c.in_err-command.ensures.fault)

pub returns-clause-every_command : goal.returns-clause-every_command
returns-clause-every_command c = λ d is. c.law_of_commands.ensures.one_command c.args.text.now c.in_ok-command.command d c.in_ok-command.ensures.command is

pub returns-clause-every_fault : goal.returns-clause-every_fault
returns-clause-every_fault c = λ f bad. c.law_of_commands.ensures.not_both c.args.text.now c.in_ok-command.command f c.in_ok-command.ensures.command bad
