-- The first of faults is the one that is told.
use Rattle.std.proofs.Common.{◌≡◌, ◌<◌, ◌≤◌, Bool, true, false, ◌||◌, List, [], ◌∷◌, refl, sym, ◌∙◌, ◌⊎◌, inl, inr, arith}
use Rattle.std.specs.Prelude.{All, nat_lt, nat_le, ◌==◌, ◌&&◌, if◌then◌else◌}
use Rattle.std.proofs.lemmas.Bool.{ltb-true, ltb-false, eqb-true, leb-true, leb-false, eq-eqb, or_cases, and_parts, and_cases, cases_eq}
use Rattle.std.proofs.lemmas.List.Elements.{All-nil, All-cons, Contains-append_right}
use Rattle.cd_grammar.specs.Later.{Found, rank, IsSooner, IsFirstOf}
use Rattle.cd_commands.specs.Texts.{is_sooner, soonest}

sooner_self : (f : Found) → IsSooner f f
sooner_self f = inr (refl, omega arith)

sooner_then : (f g h : Found) → IsSooner f g → IsSooner g h → IsSooner f h
sooner_then f g h (inl a) (inl b) = inl (omega arith)
sooner_then f g h (inl a) (inr b) = let same : g.1 ≡ h.1 = b.0 in inl (omega arith)
sooner_then f g h (inr a) (inl b) = let same : f.1 ≡ g.1 = a.0 in inl (omega arith)
sooner_then f g h (inr a) (inr b) =
    let one : rank f.0 ≤ rank g.0 = a.1 in let two : rank g.0 ≤ rank h.0 = b.1 in
    inr (a.0 ∙ b.0, omega arith)

-- what the test says
is_before : (f g : Found) → is_sooner f g ≡ true → IsSooner f g
is_before f g e = go (or_cases (nat_lt f.1 g.1) (f.1 == g.1 && nat_le (rank f.0) (rank g.0)) e)
  where
    go : (nat_lt f.1 g.1 ≡ true) ⊎ ((f.1 == g.1 && nat_le (rank f.0) (rank g.0)) ≡ true) → IsSooner f g
    go (inl less) = inl (ltb-true f.1 g.1 less)
    go (inr same) = let both = and_parts (f.1 == g.1) (nat_le (rank f.0) (rank g.0)) same in inr (eqb-true f.1 g.1 both.0, leb-true (rank f.0) (rank g.0) both.1)

neither : (x y : Bool) → (x || y) ≡ false → (x ≡ false) × (y ≡ false)
neither true y e = absurd cc
neither false y e = (refl, e)

is_behind : (f g : Found) → is_sooner f g ≡ false → IsSooner g f
is_behind f g e = go (cases_eq f.1 g.1)
  where
    parts : (nat_lt f.1 g.1 ≡ false) × ((f.1 == g.1 && nat_le (rank f.0) (rank g.0)) ≡ false)
    parts = neither (nat_lt f.1 g.1) (f.1 == g.1 && nat_le (rank f.0) (rank g.0)) e

    higher : f.1 ≡ g.1 → (f.1 == g.1 ≡ false) ⊎ (nat_le (rank f.0) (rank g.0) ≡ false) → rank g.0 ≤ rank f.0
    higher same (inl other) = let there : (f.1 == g.1) ≡ true = eq-eqb f.1 g.1 same in absurd cc
    higher same (inr more) = let less : rank g.0 < rank f.0 = leb-false (rank f.0) (rank g.0) more in omega arith

    go : (f.1 ≡ g.1) ⊎ (f.1 ≡ g.1 → ⊥) → IsSooner g f
    go (inl same) = inr (sym same, higher same (and_cases (f.1 == g.1) (nat_le (rank f.0) (rank g.0)) parts.1))
    go (inr other) = let most : g.1 ≤ f.1 = ltb-false f.1 g.1 parts.0 in inl (omega arith)

each_sooner : (f g : Found) (fs : List Found) → IsSooner f g → All (λ h. IsSooner g h) fs → All (λ h. IsSooner f h) fs
each_sooner f g fs s all = λ k d below. sooner_then f g _ s (all k d below)

by_test : (f g : Found) (fs : List Found) → IsFirstOf fs g → (b : Bool) → is_sooner f g ≡ b → IsFirstOf (f ∷ fs) (if b then f else g)
by_test f g fs rest true e = record {
  there = (0, omega arith, refl);
  first = All-cons (λ h. IsSooner f h) f fs (sooner_self f) (each_sooner f g fs (is_before f g e) rest.first);
}
by_test f g fs rest false e = record {
  there = Contains-append_right (f ∷ []) fs g rest.there;
  first = All-cons (λ h. IsSooner g h) f fs (is_behind f g e) rest.first;
}

pub first_is : (f : Found) (fs : List Found) → IsFirstOf (f ∷ fs) (soonest f fs)
unfolding soonest
first_is f [] = record { there = (0, omega arith, refl); first = All-cons (λ h. IsSooner f h) f [] (sooner_self f) (All-nil (λ h. IsSooner f h)) }
first_is f (g ∷ fs) = by_test f (soonest g fs) (g ∷ fs) (first_is g fs) (is_sooner f (soonest g fs)) refl
