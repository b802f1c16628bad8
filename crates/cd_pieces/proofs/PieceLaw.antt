-- The places where pieces end are the cuts.
use Rattle.std.proofs.Common.{◌≡◌, ℕ, zero, ◌+◌, ◌-◌, ◌*◌, ◌/◌, ◌%◌, ◌<◌, ◌≤◌, min, max, Bool, true, false, cond, ◌&&◌, eqb, ltb, leb, ◌⊎◌, inl, inr, refl, sym, ◌∙◌, ap, subst, arith}
use Rattle.std.specs.Prelude.{◌||◌}
use Rattle.std.proofs.Math.Nat.{mod-lt, mod-eq_of_lt, add-mod_right, mul-mod_left}
use Rattle.std.proofs.lemmas.Nat.{div-mul-add, mod-mul-add, div-add-mod'}
use Rattle.std.proofs.lemmas.Bool.{cases_eq, cases_lt, and_parts, and_from, and_right, or_cases, or_from, or_left, or_right, eqb-true, lt-ltb, le-leb, eq-eqb, ne_eqb, cond-true, cond-false, false≢true}
use Rattle.cd_outside.specs.Cuts.{counted_from, is_cut}
use Rattle.cd_pieces.specs.Piece.{next_multiple, piece_end, IsReached, IsNextCut}

no_rest : (block : ℕ) → 1 ≤ block → 0 % block ≡ 0
no_rest block some = mod-eq_of_lt (omega arith)

module _ (len block interval start offset : ℕ) (some : 1 ≤ block) (from : start ≤ offset) (within : offset < len) where
  -- by the place from which blocks are counted, and the next multiple of the interval
  by_parts : (s next : ℕ) → s ≤ offset → (offset - s) % block ≡ 0 → offset < next
      → ((place : ℕ) → offset < place → place ≤ next → place ≤ len → counted_from interval start place ≡ s)
      → ((place : ℕ) → offset < place → place < next → place < len → (ltb 0 interval && eqb (place % interval) 0) ≡ false)
      → ((next ≡ len) ⊎ ((ltb 0 interval && eqb (next % interval) 0) ≡ true))
      → IsNextCut len block interval start offset (min (min (offset + block) next) len)
  by_parts s next early rest ahead counted apart multiple =
      let end : ℕ = min (min (offset + block) next) len in
      let further : offset < end = omega (arith, some, ahead, within) in
      let no_longer : end ≤ len = omega arith in
      let up_to_next : end ≤ next = omega arith in
      let up_to_block : end ≤ offset + block = omega arith in
      let bounds : (ltb start end && leb end len) ≡ true = and_from (ltb start end) (leb end len) (lt-ltb start end (omega (arith, further, from))) (le-leb end len no_longer) in
      let full : end ≡ offset + block → eqb ((end - counted_from interval start end) % block) 0 ≡ true =
      λ is.
      let from_s : end - counted_from interval start end ≡ (offset - s) + block = ap (λ (c : ℕ). end - c) (counted end further up_to_next no_longer) ∙ omega (arith, is, early) in
      eq-eqb _ 0 (ap (λ (n : ℕ). n % block) from_s ∙ add-mod_right (offset - s) block ∙ rest) in
      let at_next : end ≡ next → (eqb end len || (ltb 0 interval && eqb (end % interval) 0)) ≡ true =
      λ is. elim multiple [
        | inl last ↦ or_left (eqb end len) _ (eq-eqb end len (is ∙ last))
        | inr divides ↦ or_right (eqb end len) (ltb 0 interval && eqb (end % interval) 0) (subst (λ (n : ℕ). (ltb 0 interval && eqb (n % interval) 0) ≡ true) (sym is) divides)
      ] in
      let ends : (eqb end len || (ltb 0 interval && eqb (end % interval) 0) || eqb ((end - counted_from interval start end) % block) 0) ≡ true =
      elim (cases_eq end len) [
        | inl last ↦ or_left _ _ (or_left _ _ (eq-eqb end len last))
        | inr before ↦ elim (cases_eq end next) [
          | inl is ↦ or_left _ _ (at_next is)
          | inr not_next ↦
              let is : end ≡ offset + block = omega (arith, before, not_next) in
              or_right _ _ (full is)
        ]
      ] in
      record {
        further = further;
        cut = and_from _ _ bounds ends;
        none_between = λ place behind before.
            let short : place < len = omega (arith, before, no_longer) in
            let not_last : eqb place len ≡ false = ne_eqb place len (λ is. omega (arith, is, short)) in
            let not_multiple : (ltb 0 interval && eqb (place % interval) 0) ≡ false = apart place behind (omega (arith, before, up_to_next)) short in
            let blocks : ℕ = (offset - s) / block in
            let whole : (offset - s) / block * block + (offset - s) % block ≡ offset - s = div-add-mod' (offset - s) block in
            let from_s : place - counted_from interval start place ≡ blocks * block + (place - offset) =
            ap (λ (c : ℕ). place - c) (counted place behind (omega (arith, before, up_to_next)) (omega (arith, short))) ∙ omega (arith, whole, rest, early, behind) in
            let rest_is : (place - counted_from interval start place) % block ≡ place - offset =
            ap (λ (n : ℕ). n % block) from_s ∙ mod-mul-add blocks block (place - offset) (omega (arith, before, up_to_block, behind)) in
            let not_full : eqb ((place - counted_from interval start place) % block) 0 ≡ false = ne_eqb _ 0 (λ is. omega (arith, rest_is, is, behind)) in
            and_right _ _ (or_from _ _ (or_from _ _ not_last not_multiple) not_full);
      }

  -- an offset that was reached and isn't the end is the start, a multiple of the interval, or so many blocks behind where they are counted from
  reached_parts : IsReached len block interval start offset
      → (offset ≡ start) ⊎ (((ltb 0 interval && eqb (offset % interval) 0) ≡ true) ⊎ ((offset - counted_from interval start offset) % block ≡ 0))
  reached_parts (inl is) = inl is
  reached_parts (inr cut) =
      let parts = and_parts (ltb start offset && leb offset len) (eqb offset len || (ltb 0 interval && eqb (offset % interval) 0) || eqb ((offset - counted_from interval start offset) % block) 0) cut in
      elim (or_cases (eqb offset len || (ltb 0 interval && eqb (offset % interval) 0)) (eqb ((offset - counted_from interval start offset) % block) 0) parts.1) [
        | inl first ↦ elim (or_cases (eqb offset len) (ltb 0 interval && eqb (offset % interval) 0) first) [
          | inl last ↦ absurd (omega (arith, eqb-true offset len last, within))
          | inr divides ↦ inr (inl divides)
        ]
        | inr full ↦ inr (inr (eqb-true _ 0 full))
      ]

  -- without marks
  without : interval ≡ 0 → IsReached len block interval start offset → IsNextCut len block interval start offset (piece_end len block interval offset)
  without none reached =
      let is_none : eqb interval 0 ≡ true = eq-eqb interval 0 none in
      let counted : (place : ℕ) → counted_from interval start place ≡ start = λ place. cond-true (eqb interval 0) start _ is_none in
      let never : (place : ℕ) → (ltb 0 interval && eqb (place % interval) 0) ≡ false = λ place. subst (λ (k : ℕ). (ltb 0 k && eqb (place % k) 0) ≡ false) (sym none) refl in
      let rest : (offset - start) % block ≡ 0 =
      elim (reached_parts reached) [
        | inl is ↦ let nothing : offset - start ≡ 0 = omega (arith, is) in ap (λ (n : ℕ). n % block) nothing ∙ no_rest block some
        | inr more ↦ elim more [
          | inl divides ↦ absurd (false≢true (sym (never offset) ∙ divides))
          | inr full ↦ sym (ap (λ (c : ℕ). (offset - c) % block) (counted offset)) ∙ full
        ]
      ] in
      let next_is : next_multiple len interval offset ≡ len = cond-true (eqb interval 0) len _ is_none in
      subst (λ (next : ℕ). IsNextCut len block interval start offset (min (min (offset + block) next) len)) (sym next_is)
      (by_parts start len from rest within (λ place behind upto short. counted place) (λ place behind before short. never place) (inl refl))

  -- with marks
  with_marks : 0 < interval → IsReached len block interval start offset → IsNextCut len block interval start offset (piece_end len block interval offset)
  with_marks has reached =
      let is_some : eqb interval 0 ≡ false = ne_eqb interval 0 (λ is. omega (arith, is, has)) in
      let q : ℕ = offset / interval in
      let r : ℕ = offset % interval in
      let whole : offset / interval * interval + offset % interval ≡ offset = div-add-mod' offset interval in
      let small : offset % interval < interval = mod-lt offset has in
      let next : ℕ = (q + 1) * interval in
      let next_at : next ≡ q * interval + interval = omega arith in
      let same_front : (n : ℕ) → q * interval ≤ n → n < q * interval + interval → n / interval ≡ q =
      λ n low high.
      let split : n ≡ q * interval + (n - q * interval) = omega (arith, low) in
      ap (λ (m : ℕ). m / interval) split ∙ div-mul-add q interval (n - q * interval) (omega (arith, low, high)) in
      let counted : (place : ℕ) → q * interval < place → place ≤ q * interval + interval → counted_from interval start place ≡ max start (q * interval) =
      λ place low high.
      cond-false (eqb interval 0) start (max start ((place - 1) / interval * interval)) is_some
      ∙ ap (λ (n : ℕ). max start (n * interval)) (same_front (place - 1) (omega (arith, low)) (omega (arith, high, low))) in
      let s : ℕ = max start (q * interval) in
      let early : s ≤ offset = omega (arith, from, whole) in
      let at_multiple : r ≡ 0 → (offset - s) % block ≡ 0 =
      λ is. let nothing : offset - s ≡ 0 = omega (arith, is, whole, from) in ap (λ (n : ℕ). n % block) nothing ∙ no_rest block some in
      let rest : (offset - s) % block ≡ 0 =
      elim (reached_parts reached) [
        | inl is ↦ let nothing : offset - s ≡ 0 = omega (arith, is) in ap (λ (n : ℕ). n % block) nothing ∙ no_rest block some
        | inr more ↦ elim more [
          | inl divides ↦ at_multiple (eqb-true (offset % interval) 0 (and_parts (ltb 0 interval) (eqb (offset % interval) 0) divides).1)
          | inr full ↦ elim (cases_eq r 0) [
            | inl is ↦ at_multiple is
            | inr inside ↦
                let low : q * interval < offset = omega (arith, whole, inside) in
                sym (ap (λ (c : ℕ). (offset - c) % block) (counted offset low (omega (arith, whole, small)))) ∙ full
          ]
        ]
      ] in
      let ahead : offset < next = omega (arith, next_at, whole, small) in
      let apart : (place : ℕ) → offset < place → place < next → place < len → (ltb 0 interval && eqb (place % interval) 0) ≡ false =
      λ place behind before short.
      let split : place ≡ q * interval + (place - q * interval) = omega (arith, whole, behind) in
      let left : place % interval ≡ place - q * interval =
      ap (λ (m : ℕ). m % interval) split ∙ mod-mul-add q interval (place - q * interval) (omega (arith, next_at, before, whole, behind)) in
      and_right (ltb 0 interval) _ (ne_eqb (place % interval) 0 (λ is. omega (arith, left, is, whole, behind))) in
      let multiple : (ltb 0 interval && eqb (next % interval) 0) ≡ true =
      and_from (ltb 0 interval) (eqb (next % interval) 0) (lt-ltb 0 interval has) (eq-eqb (next % interval) 0 (mul-mod_left (q + 1) interval)) in
      let next_is : next_multiple len interval offset ≡ next = cond-false (eqb interval 0) len next is_some in
      subst (λ (n : ℕ). IsNextCut len block interval start offset (min (min (offset + block) n) len)) (sym next_is)
      (by_parts s next early rest ahead (λ place behind upto short. counted place (omega (arith, whole, behind)) (omega (arith, next_at, upto))) apart (inr multiple))

pub piece_end-next_cut : (len block interval start offset : ℕ) → 1 ≤ block → start ≤ offset → offset < len → IsReached len block interval start offset
    → IsNextCut len block interval start offset (piece_end len block interval offset)
piece_end-next_cut len block interval start offset some from within reached =
    elim (cases_eq interval 0) [
      | inl none ↦ without len block interval start offset some from within none reached
      | inr has ↦ with_marks len block interval start offset some from within (omega (arith, has)) reached
    ]
