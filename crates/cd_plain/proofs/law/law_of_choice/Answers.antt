use Rattle.std.proofs.Common.{◌≡◌, ◌≤◌, true, false, sym, subst}
use Rattle.cd_rules.specs.Processes.{latest}
use Rattle.cd_rules.specs.Legal.{is_legal}
use Rattle.cd_rules.specs.Promises.{HavePriorities}
use Rattle.cd_protocol.specs.Node.{NodeView}
use Rattle.cd_plain.proofs.Due.{choice_is, taken_is, placing_may}
use Rattle.cd_plain.proofs.law.law_of_choice.Goals as goal

pub returns-clause-choice : goal.returns-clause-choice
returns-clause-choice c = choice_is

pub returns-clause-taking : goal.returns-clause-taking
returns-clause-taking c = taken_is

pub returns-clause-placing : goal.returns-clause-placing
returns-clause-placing c = λ read state node last now row e priorities legal early rising is due placing.
    placing_may read state node last now row e rising is
    (c.law_of_rows.ensures.choose node (subst (λ (d : NodeView). HavePriorities d.config.read) (sym is.view) priorities) 0 now node.sessions false
    (subst (λ (d : NodeView). is_legal d.config.read d.journal ≡ true) (sym is.view) legal) (subst (λ (d : NodeView). latest d.journal ≤ now) (sym is.view) early))
    due placing
