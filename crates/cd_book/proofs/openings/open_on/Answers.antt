use Rattle.std.proofs.Common.{◌≡◌, ◌+◌, ◌-◌, ℕ, List, None, reverse, drop, sym, ap, subst, ◌∙◌, arith}
use Rattle.std.specs.Str.{bytes_eq}
use Rattle.cd_types.specs.declared.rows.Receiving.{Receiving}
use Rattle.cd_rules.specs.Openings.{openings, on_file}
use Rattle.cd_book.proofs.StillOpen.{none_behind, found_on, not_on}
use Rattle.cd_book.proofs.openings.open_on.Goals as goal

pub loop-at-init : goal.loop-at-init
loop-at-init c = ap (λ (l : List Receiving). on_file l c.args.name.now) (none_behind c.args.entries.now)

pub returns-then-same_bytes : goal.returns-then-same_bytes
returns-then-same_bytes c =
    let at = c.loop-at.at - 1 in
    let next : c.loop-at.at ≡ at + 1 = omega arith in
    let none = subst (λ (n : ℕ). on_file (openings (reverse (drop n c.args.entries.now))) c.args.name.now ≡ None) next c.loop-at.invariant in
    found_on c.args.entries.now at c.args.name.now c.in-Some.receiving.now none c.in-Some.ensures
    (ap (bytes_eq c.args.name.now) (sym c.as_slice.ensures) ∙ sym c.same_bytes.ensures ∙ c.if-same_bytes.true)

pub loop-at-preserved-else-same_bytes : goal.loop-at-preserved-else-same_bytes
loop-at-preserved-else-same_bytes c =
    let at = c.loop-at.at - 1 in
    let next : c.loop-at.at ≡ at + 1 = omega arith in
    let none = subst (λ (n : ℕ). on_file (openings (reverse (drop n c.args.entries.now))) c.args.name.now ≡ None) next c.loop-at.invariant in
    not_on (openings (reverse (drop (at + 1) c.args.entries.now))) (openings (reverse (drop at c.args.entries.now))) c.args.name.now c.in-Some.receiving.now none c.in-Some.ensures
    (ap (bytes_eq c.args.name.now) (sym c.as_slice.ensures) ∙ sym c.same_bytes.ensures ∙ c.if-same_bytes.false)
