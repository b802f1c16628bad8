use Rattle.std.proofs.Common.{◌≡◌, ◌+◌, Bool, true, false, not, cond, [], ◌∷◌, ◌++◌, drop, reverse, ap, ◌∙◌}
use Rattle.cd_rules.specs.Openings.{openings}
use Rattle.cd_book.specs.Opening.{closed_by}
use Rattle.cd_book.proofs.StillOpen.{begun_at, none_begun_at, from_on}
use Rattle.cd_book.proofs.openings.open_at.Goals as goal

pub returns-then-is_closed : goal.returns-then-is_closed
returns-then-is_closed c =
    let r = c.in-Receiving.receiving in
    let all = from_on c.args.entries.now (c.args.at + 1) in
    let closed : closed_by (drop (c.args.at + 1) c.args.entries.now) r.key ≡ true = cc in
    begun_at c.args.entries.now c.args.at r c.index-entries-at.result c.requires c.index-entries-at.is c.in-Receiving.is
    ∙ ap (λ (b : Bool). openings (reverse (drop (c.args.at + 1) c.args.entries.now)) ++ cond (not b) (r ∷ []) []) closed

pub returns-else-is_closed : goal.returns-else-is_closed
returns-else-is_closed c =
    let r = c.in-Receiving.receiving in
    let all = from_on c.args.entries.now (c.args.at + 1) in
    let closed : closed_by (drop (c.args.at + 1) c.args.entries.now) r.key ≡ false = cc in
    begun_at c.args.entries.now c.args.at r c.index-entries-at.result c.requires c.index-entries-at.is c.in-Receiving.is
    ∙ ap (λ (b : Bool). openings (reverse (drop (c.args.at + 1) c.args.entries.now)) ++ cond (not b) (r ∷ []) []) closed

pub returns-in_default : goal.returns-in_default
returns-in_default c = none_begun_at c.args.entries.now c.args.at c.index-entries-at.result c.requires c.index-entries-at.is c.in_default.not-Receiving
