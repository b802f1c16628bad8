use Rattle.std.proofs.Common.{sym}
use Rattle.cd_commands.proofs.heard.hear.Goals as goal

pub returns-in-Ok : goal.returns-in-Ok
returns-in-Ok c = sym (c.law_of_hearing.ensures.every_command c.args.text.now c.in-Ok.command c.in-Ok.ensures.command)
