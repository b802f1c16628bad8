use Rattle.std.proofs.Common.{◌≡◌, true, Some, sym, subst, ap, ◌∙◌}
use Rattle.cd_types.specs.declared.choices.Side.TheVariants as side
use Rattle.cd_protocol.specs.Node.{Reaction}
use Rattle.cd_protocol.specs.Receiving.{receive}
use Rattle.cd_protocol.specs.Rows.{take_step}
use Rattle.cd_protocol.specs.declared.session.Phase.TheVariants.{Ready}
use Rattle.cd_protocol.specs.declared.session.SessionTerms.{SessionTerms}
use Rattle.cd_session_rules.specs.NodeView.{view_of}
use Rattle.cd_session_rules.specs.Single.{keeps_one}
use Rattle.cd_session_rules.proofs.SingleLaw.{receive-one}
use Rattle.cd_snode.proofs.ready.copy_to.Goals as goal

pub take_step-requires : goal.take_step-requires
take_step-requires g c =
    let view = view_of g.T.Texts.read c.args.view.now.config.now c.args.view.now.book.now.entries in
    let own = c.with_number-own.result in
    subst (λ (p : Reaction). keeps_one p.effects ≡ true) (sym c.in_ok-row.ensures) (receive-one view c.args.now (Ready own (Some c.args.key.now)) side.Snode own c.args.key.now c.args.announced.now).is

pub returns : goal.returns
returns g c =
    let view = view_of g.T.Texts.read c.args.view.now.config.now c.args.view.now.book.now.entries in
    c.in_ok-reaction.ensures
    ∙ ap (λ (p : Reaction). take_step view (g.S.Sessions.seen c.args.sessions.now) c.args.now c.args.sid c.args.phase.now c.args.terms.now c.args.key.now p)
    (c.in_ok-row.ensures ∙ ap (λ (own : SessionTerms). receive view c.args.now (Ready own (Some c.args.key.now)) side.Snode own c.args.key.now c.args.announced.now) c.with_number-own.ensures)
