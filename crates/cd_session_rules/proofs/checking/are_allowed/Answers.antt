use Rattle.std.proofs.Common.{◌≡◌, ◌&&◌, Bool, true, false, sym, ap, ◌∙◌}
use Rattle.cd_session_rules.specs.Kept.{kept_in, are_sent, allowed_kept}
use Rattle.cd_session_rules.proofs.One.{allowed_by}
use Rattle.cd_session_rules.proofs.checking.are_allowed.Goals as goal

pub returns-then-entry : goal.returns-then-entry
returns-then-entry g c =
    let law = allowed_by g.T.Texts.read c.args.now c.args.view.now.book.now.entries c.args.effects.now c.requires in
    c.are_sent-frames.ensures ∙ ap (λ (b : Bool). b && are_sent c.args.effects.now) c.if-entry.ensures ∙ sym law

pub returns-else-entry : goal.returns-else-entry
returns-else-entry g c =
    let law = allowed_by g.T.Texts.read c.args.now c.args.view.now.book.now.entries c.args.effects.now c.requires in
    c.if-entry.false ∙ ap (λ (b : Bool). b && are_sent c.args.effects.now) c.if-entry.ensures ∙ sym law
