use Rattle.std.proofs.Common.{inl}
use Rattle.cd_drill.proofs.reply.reply_to.Goals as goal

pub returns-in-Ok-command-clause-replied : goal.returns-in-Ok-command-clause-replied
returns-in-Ok-command-clause-replied c = inl (record { c = c.in-Ok.command; is = c.in-Ok.ensures.command; done = c.in-Ok-command.ensures.done })
