use Rattle.std.proofs.Common.{◌≡◌, ◌-◌, true, false, not, ◌&&◌, sym, ap, ◌∙◌}
use Rattle.std.specs.List.{list_any}
use Rattle.std.specs.Str.{bytes_eq}
use Rattle.cd_types.specs.declared.rows.Receiving.{Receiving}
use Rattle.cd_rules.specs.Keys.{same_key}
use Rattle.cd_book.proofs.StillOpen.{none_behind, found_any}
use Rattle.cd_book.proofs.openings.is_in_use.Goals as goal

pub loop-at-init : goal.loop-at-init
loop-at-init c = ap (list_any (λ (r : Receiving). bytes_eq c.args.name.now r.name && not (same_key c.args.key.now r.key))) (none_behind c.args.entries.now)

pub returns-then-not-same_key : goal.returns-then-not-same_key
returns-then-not-same_key c =
    let r = c.in-Some.receiving.now in
    let name : bytes_eq c.args.name.now r.name ≡ true = ap (bytes_eq c.args.name.now) (sym c.as_slice.ensures) ∙ sym c.same_bytes.ensures ∙ c.if-same_bytes.true in
    let other : same_key c.args.key.now r.key ≡ false = sym c.same_key.ensures ∙ c.if-not-same_key.true in
    found_any (λ (x : Receiving). bytes_eq c.args.name.now x.name && not (same_key c.args.key.now x.key)) c.args.entries.now (c.loop-at.at - 1) r c.in-Some.ensures
    (λ i. name i && not (other i))
