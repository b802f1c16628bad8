-- The images that the generator makes are images of the doubt.
use Rattle.std.proofs.Common.{◌≡◌, ◌⊎◌, ℕ, ◌+◌, ◌-◌, ◌<◌, ◌≤◌, Bool, false, ◌||◌, List, [], ◌∷◌, ◌++◌, zero, suc, length, get_or, refl, sym, ◌∙◌, ap, subst, inl, inr, arith}
use Rattle.std.specs.Prelude.{reverse, nat_le, nat_lt, slice_index}
use Rattle.std.specs.List.{list_any}
use Rattle.std.proofs.Math.Bool.{or_comm}
use Rattle.std.proofs.lemmas.List.{reverse-append, append_assoc}
use Rattle.std.proofs.lemmas.List.Folds.{list_any-append}
use Rattle.std.proofs.lemmas.Bool.{lt-leb, and_left, and_right, le-ltb}
use Rattle.cd_outside.specs.Doubt.{Doubt, IsOutside, IsImage}
use Rattle.cd_memory_state.specs.Generator.{step, drawn, is_within, is_doubtful, byte_at, number_at, bytes_from, image_from, left_by}

or_none : (x : Bool) → (x || false) ≡ x
or_none x = or_comm x false

-- the order of the ranges doesn't matter
pub list_any_reverse : (f : ℕ × ℕ → Bool) (xs : List (ℕ × ℕ)) → list_any f (reverse xs) ≡ list_any f xs
list_any_reverse f [] = refl
list_any_reverse f (x ∷ xs) =
    ap (list_any f) (reverse-append (x ∷ []) xs)
    ∙ list_any-append f (reverse xs) (x ∷ [])
    ∙ ap (λ (b : Bool). b || (f x || false)) (list_any_reverse f xs)
    ∙ ap (λ (b : Bool). list_any f xs || b) (or_none (f x))
    ∙ or_comm (list_any f xs) (f x)

-- one byte more of an image
pub bytes_more : (doubt : Doubt) (x x2 place len byte : ℕ) (into into2 : List ℕ) → place < len → into2 ≡ into ++ byte ∷ [] → byte ≡ byte_at doubt x place → x2 ≡ number_at doubt x place → into2 ++ bytes_from doubt x2 (place + 1) (len - (place + 1)) ≡ into ++ bytes_from doubt x place (len - place)
bytes_more doubt x x2 place len byte into into2 lt into_is byte_is number_is =
    let count : len - place ≡ suc (len - (place + 1)) = omega arith in
    (λ i. into_is i ++ bytes_from doubt (number_is i) (place + 1) (len - (place + 1)))
    ∙ append_assoc into (byte ∷ []) (bytes_from doubt (number_at doubt x place) (place + 1) (len - (place + 1)))
    ∙ ap (λ (b : ℕ). into ++ b ∷ bytes_from doubt (number_at doubt x place) (place + 1) (len - (place + 1))) byte_is
    ∙ sym (ap (λ (n : ℕ). into ++ bytes_from doubt x place n) count)

length-bytes_from : (doubt : Doubt) (x place count : ℕ) → length (bytes_from doubt x place count) ≡ count
length-bytes_from doubt x place zero = refl
length-bytes_from doubt x place (suc count) = ap suc (length-bytes_from doubt (number_at doubt x place) (place + 1) count)

kept_byte : (doubt : Doubt) (x place : ℕ) → is_doubtful doubt place ≡ false → byte_at doubt x place ≡ slice_index doubt.base place
kept_byte doubt x place sure = rw sure refl

kept_bytes : (doubt : Doubt) (x place count k at : ℕ) → k < count → at ≡ place + k → is_doubtful doubt at ≡ false → get_or (bytes_from doubt x place count) k 0 ≡ slice_index doubt.base at
kept_bytes doubt x place zero k at lt is sure = absurd (omega arith)
kept_bytes doubt x place (suc count) zero at lt is sure =
    let here : at ≡ place = omega arith in
    subst (λ (p : ℕ). byte_at doubt x p ≡ slice_index doubt.base at) here (kept_byte doubt x at sure)
kept_bytes doubt x place (suc count) (suc k) at lt is sure = kept_bytes doubt (number_at doubt x place) (place + 1) count k at (omega arith) (omega arith) sure

outside_range : (place : ℕ) (range : ℕ × ℕ) → (place < range.0) ⊎ (range.0 + range.1 ≤ place) → is_within place range ≡ false
outside_range place range (inl before) = and_left (nat_le range.0 place) (nat_lt (place - range.0) range.1) (lt-leb range.0 place before)
outside_range place range (inr behind) = and_right (nat_le range.0 place) (nat_lt (place - range.0) range.1) (le-ltb (place - range.0) range.1 (omega arith))

outside_ranges : (ranges : List (ℕ × ℕ)) (place : ℕ) → IsOutside ranges place → list_any (is_within place) ranges ≡ false
outside_ranges [] place outside = refl
outside_ranges (range ∷ ranges) place outside = (λ i. outside_range place range outside.0 i || list_any (is_within place) ranges) ∙ outside_ranges ranges place outside.1

sure_from : (doubt : Doubt) (place : ℕ) → place < doubt.least → IsOutside doubt.ranges place → is_doubtful doubt place ≡ false
sure_from doubt place lt outside = (λ i. lt-leb doubt.least place lt i || list_any (is_within place) doubt.ranges) ∙ outside_ranges doubt.ranges place outside

pub image_from_is : (x : ℕ) (doubt : Doubt) → doubt.least ≤ doubt.greatest → IsImage doubt (image_from x doubt)
image_from_is x doubt order =
    let m = doubt.greatest - doubt.least + 1 in
    let count = doubt.least + drawn (step x) m in
    let len = length-bytes_from doubt (step x) 0 count in
    let more : drawn (step x) m < m = omega arith in
    record {
      no_shorter = omega (arith, len);
      no_longer = omega (arith, len, more);
      kept = λ place lt outside. kept_bytes doubt (step x) 0 count place place (omega arith) (omega arith) (sure_from doubt place lt outside);
    }

-- each image that may be asked for is an image
pub left_by_is : (image : ℕ) (doubt : Doubt) (seen : List ℕ) → IsImage doubt seen → doubt.least ≤ length doubt.base → length doubt.base ≤ doubt.greatest → IsImage doubt (left_by image doubt seen)
left_by_is zero doubt seen now from to = record { no_shorter = from; no_longer = to; kept = λ place lt outside. refl }
left_by_is (suc zero) doubt seen now from to = now
left_by_is (suc (suc n)) doubt seen now from to = image_from_is (suc (suc n)) doubt (omega arith)
