use Rattle.std.proofs.Common.{sym, ap, ◌∙◌}
use Rattle.cd_rules.specs.Legal.{is_cause_from}
use Rattle.cd_book.specs.declared.status.Status.{Status}
use Rattle.cd_book.specs.Seen.{seen_status}
use Rattle.cd_legality.proofs.outcome.is_cause_from.Goals as goal

pub returns-in-Started : goal.returns-in-Started
returns-in-Started c =
    c.is_cause_of_started.ensures c.in-Started.field-0 ∙ ap (λ (s : Status). is_cause_from (seen_status s) c.args.cause c.args.made) (sym c.in-Started.is)
