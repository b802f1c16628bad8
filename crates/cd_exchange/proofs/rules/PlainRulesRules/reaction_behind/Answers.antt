use Rattle.std.proofs.Common.{◌≡◌, true, map, sym, subst}
use Rattle.cd_protocol.specs.Node.{Reaction}
use Rattle.cd_protocol.specs.Seen.{seen_effect}
use Rattle.cd_exchange.specs.Question.{answers_of}
use Rattle.cd_session_rules.specs.NodeView.{view_of}
use Rattle.cd_session_rules.specs.Single.{keeps_one}
use Rattle.cd_exchange.proofs.Formed.{one_formed}
use Rattle.cd_exchange.proofs.rules.PlainRulesRules.reaction_behind.Goals as goal

pub returns-clause-origins : goal.returns-clause-origins
returns-clause-origins g c =
    one_formed (map seen_effect c.in_ok-reaction.reaction.effects.items) (subst (λ (p : Reaction). keeps_one p.effects ≡ true) (sym c.in_ok-reaction.ensures)
    (c.law_of_reactions.ensures.tested_behind (view_of g.T.Texts.read c.args.self.now.config.now c.args.book.now.entries) c.args.now c.args.phase.now (answers_of c.args.now c.args.given.now c.args.bytes.now) c.args.then.now))
