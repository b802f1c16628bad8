use Rattle.std.proofs.Common.{List, [], ap, ◌∙◌}
use Rattle.std.specs.Prelude.{Result}
use Rattle.cd_commands.specs.declared.command.Command.TheVariants.{Init}
use Rattle.cd_entries.specs.declared.entry.Entry.{Entry}
use Rattle.cd_operator.specs.Doing.{added_by, doing, with_added}
use Rattle.cd_operator.specs.declared.reply.Refused.{Refused}
use Rattle.cd_operator.specs.declared.wanted.Recording.{Recording}
use Rattle.cd_drill.proofs.test_node.TestNode.new.Goals as goal

pub returns-in-Ok-command-clause-home : goal.returns-in-Ok-command-clause-home
returns-in-Ok-command-clause-home c =
    let now = c.in-Ok-empty.half.moment in
    c.in-Ok-command.ensures.done.recorded
    ∙ ap (λ (entries : List Entry). with_added (added_by (doing now entries (Init c.args.name c.args.number))) entries) c.in-Ok-empty.ensures.none
    ∙ ap (λ (d : Result Recording Refused). with_added (added_by d) []) (c.law_of_doings.ensures.naming now c.args.name c.args.number)
