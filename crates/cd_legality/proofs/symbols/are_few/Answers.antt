use Rattle.std.proofs.Common.{◌≡◌, ◌≤◌, ◌<◌, ◌+◌, inl, inr, leb, length, take, sym, ap, arith}
use Rattle.std.specs.Prelude.{sum_by}
use Rattle.std.proofs.lemmas.Bool.{cases_Bool, leb-true, le-leb}
use Rattle.std.proofs.lemmas.List.{take_all}
use Rattle.cd_rules.specs.Legal.{symbols_size}
use Rattle.cd_legality.proofs.Sizes.{size_of, one_more, none_more, no_more}
use Rattle.cd_legality.proofs.symbols.are_few.Goals as goal
use Rattle.cd_legality.proofs.symbols.are_few.Goals.{in-Some+in-Some-left_behind, in_default}

pub returns-in-None : goal.returns-in-None
returns-in-None c =
    let xs = c.args.symbols.now in
    let place = c.loop-place.place in
    let before : c.loop-place.left + sum_by size_of (take place xs) ≡ 119998 = c.loop-place.invariant in
    let one : sum_by size_of (take (place + 1) xs) ≡ sum_by size_of (take place xs) + size_of (c.in-Some.name.now, c.in-Some.value.now) = one_more xs place (c.in-Some.name.now, c.in-Some.value.now) (sym c.in-Some.ensures) in
    let all : sum_by size_of (take (place + 1) xs) ≤ sum_by size_of xs = no_more xs (place + 1) in
    let less : c.loop-place.left < 5 + length c.in-Some.name.now + length c.in-Some.value.now = c.in-None.ensures in
    elim (cases_Bool (leb (symbols_size xs) 120000)) [
      | inl few ↦ absurd (omega (arith, leb-true (symbols_size xs) 120000 few, before, one, all, less))
      | inr many ↦ sym many
    ]

pub loop-place-preserved : goal.loop-place-preserved
loop-place-preserved c =
    let xs = c.args.symbols.now in
    let place = c.loop-place.place in
    let before : c.loop-place.left + sum_by size_of (take place xs) ≡ 119998 = c.loop-place.invariant in
    elim c.match-pair.branch [
      | in-Some+in-Some-left_behind w ↦
          let one : sum_by size_of (take (place + 1) xs) ≡ sum_by size_of (take place xs) + size_of (w.in-Some.name.now, w.in-Some.value.now) = one_more xs place (w.in-Some.name.now, w.in-Some.value.now) (sym w.in-Some.ensures) in
          let after = w.in-Some-left_behind.ensures in
          omega (arith, before, one, after, w.left-is)
      | in_default w ↦
          let none : sum_by size_of (take (place + 1) xs) ≡ sum_by size_of (take place xs) = none_more xs place (sym w.in_default.ensures) in
          omega (arith, before, none, w.left-is)
    ]

pub returns : goal.returns
returns c =
    let xs = c.args.symbols.now in
    let place = c.loop-place.place in
    let before : c.loop-place.left + sum_by size_of (take place xs) ≡ 119998 = c.loop-place.invariant in
    let end : length xs ≤ place = omega (arith, c.len-place-end.ensures) in
    let all : sum_by size_of (take place xs) ≡ sum_by size_of xs = ap (sum_by size_of) (take_all place xs end) in
    sym (le-leb (symbols_size xs) 120000 (omega (arith, before, all)))
