use Rattle.std.proofs.Common.{◌≡◌, true, sym, subst}
use Rattle.cd_frames.specs.Message.{message_of}
use Rattle.cd_protocol.specs.Node.{Reaction}
use Rattle.cd_session_rules.specs.NodeView.{view_of}
use Rattle.cd_session_rules.specs.Single.{keeps_one}
use Rattle.cd_session_rules.proofs.SingleLaw.{reaction_in-one}
use Rattle.cd_dispatch.proofs.first.first_reaction.Goals as goal

pub checked-requires : goal.checked-requires
checked-requires g c =
    let view = view_of g.T.Texts.read c.args.view.now.config.now c.args.view.now.book.now.entries in
    subst (λ (p : Reaction). keeps_one p.effects ≡ true) (sym c.in_ok-row.ensures)
    (reaction_in-one view c.args.now (g.S.Sessions.seen c.args.sessions.now) c.args.sid (message_of c.args.frame.now) c.args.phase.now).is
