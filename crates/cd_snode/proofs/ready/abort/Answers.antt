use Rattle.std.proofs.Common.{◌≡◌, true, sym, subst}
use Rattle.cd_types.specs.declared.choices.Side.TheVariants as side
use Rattle.cd_rules.specs.Status.{status}
use Rattle.cd_protocol.specs.Node.{Reaction}
use Rattle.cd_session_rules.specs.NodeView.{view_of}
use Rattle.cd_session_rules.specs.Single.{keeps_one}
use Rattle.cd_session_rules.proofs.SingleLaw.{given_up-one}
use Rattle.cd_snode.proofs.ready.abort.Goals as goal

pub take_step-requires : goal.take_step-requires
take_step-requires g c =
    let view = view_of g.T.Texts.read c.args.view.now.config.now c.args.view.now.book.now.entries in
    subst (λ (p : Reaction). keeps_one p.effects ≡ true) (sym c.in_ok-row.ensures)
    (given_up-one view c.args.now side.Snode c.with_number-own.result c.args.key.now c.args.why (status c.args.view.now.book.now.entries c.args.key.now)).is
