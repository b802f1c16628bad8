use Rattle.std.proofs.Common.{◌≡◌, true, sym, subst}
use Rattle.cd_protocol.specs.Node.{Reaction, Answers}
use Rattle.cd_session_rules.specs.NodeView.{view_of}
use Rattle.cd_session_rules.specs.Single.{keeps_one}
use Rattle.cd_session_rules.proofs.SingleLaw.{reaction_behind-one}
use Rattle.cd_dispatch.proofs.behind.reaction_behind.Goals as goal

pub checked-requires : goal.checked-requires
checked-requires g c =
    let view = view_of g.T.Texts.read c.args.view.now.config.now c.args.view.now.book.now.entries in
    let answers : Answers = record { now = c.args.now; there = c.args.answers.now.there; source = c.args.answers.now.source; bytes = c.args.answers.now.bytes.now } in
    subst (λ (p : Reaction). keeps_one p.effects ≡ true) (sym c.in_ok-reaction.ensures) (reaction_behind-one view c.args.now c.args.phase.now answers c.args.then.now).is
