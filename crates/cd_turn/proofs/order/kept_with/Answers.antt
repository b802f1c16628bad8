use Rattle.std.proofs.Common.{◌≡◌, true, List, ℕ, Some, ap, sym, subst, ◌∙◌}
use Rattle.cd_ast.specs.Canonical.{canonical}
use Rattle.cd_ast.specs.declared.process.Process.{Process}
use Rattle.cd_submission.specs.Filing.{with_options, filled, filed, is_push}
use Rattle.cd_turn.specs.Order.{IsKept}
use Rattle.cd_turn.proofs.Submissions.{kept_formed}
use Rattle.cd_turn.proofs.order.kept_with.Goals as goal

pub returns-then-is_push-clause-formed : goal.returns-then-is_push-clause-formed
returns-then-is_push-clause-formed c = λ text overrides says.
    let o = c.args.options.now in
    let p = c.args.process in
    let made : c.with_options-process.result ≡ with_options o p = c.with_options-process.ensures.value in
    let kept : c.filled.result ≡ filed o p = c.filled.ensures ∙ ap filled made in
    let formed = c.with_options-process.ensures.formed in
    let push : is_push _ (with_options o p) ≡ true = ap (is_push _) (sym made) ∙ sym c.is_push.ensures ∙ c.if-is_push.true in
    let read = c.law_of_filings.ensures.read text overrides o p says formed push in
    let in_grammar = c.law_of_readings.ensures.means (canonical (filed o p)) (filed o p) read in
    subst IsKept (sym kept)
    (kept_formed o p push (c.law_of_filings.ensures.kept o p push) read (c.law_of_filings.ensures.short text overrides o p says formed push) (c.law_of_ranges.ensures.card (canonical (filed o p)) (filed o p) in_grammar))
