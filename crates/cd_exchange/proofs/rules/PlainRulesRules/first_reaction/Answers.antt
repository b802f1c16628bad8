use Rattle.std.proofs.Common.{◌≡◌, true, map, [], sym, subst}
use Rattle.cd_frames.specs.Message.{message_of}
use Rattle.cd_protocol.specs.Node.{Reaction}
use Rattle.cd_protocol.specs.Seen.{seen_effect}
use Rattle.cd_exchange.specs.Sessions.{sessions_with}
use Rattle.cd_session_rules.specs.NodeView.{view_of}
use Rattle.cd_session_rules.specs.Single.{keeps_one}
use Rattle.cd_exchange.proofs.Formed.{one_formed}
use Rattle.cd_exchange.proofs.rules.PlainRulesRules.first_reaction.Goals as goal

pub returns-clause-origins : goal.returns-clause-origins
returns-clause-origins g c =
    one_formed (map seen_effect c.in_ok-reaction.reaction.effects.items) (subst (λ (p : Reaction). keeps_one p.effects ≡ true) (sym c.in_ok-reaction.ensures)
    (c.law_of_reactions.ensures.tested (view_of g.T.Texts.read c.args.self.now.config.now c.args.book.now.entries) (sessions_with [] c.args.sid.number c.args.phase.now c.args.others.now c.args.owners.now) c.args.now c.args.sid.number (message_of c.args.frame.now)))
