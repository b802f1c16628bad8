use Rattle.std.proofs.Common.{◌≡◌, sym, subst}
use Rattle.cd_input.specs.Scanner.{event_of}
use Rattle.cd_input.specs.declared.scanner.Found.{Found}
use Rattle.cd_cli.specs.Flow.{ends_in, ends_by}
use Rattle.cd_cli.proofs.flow.flow_of.Goals as goal

pub returns-in-Command-clause-ends : goal.returns-in-Command-clause-ends
returns-in-Command-clause-ends c = subst (λ (f : Found). ends_in c.flow_after.result ≡ ends_by (event_of f) c.args.reply.now) (sym c.in-Command.is) (c.flow_after.ensures.ends c.in-Command.field-0.items)
