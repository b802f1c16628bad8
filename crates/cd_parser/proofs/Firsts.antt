-- Of two faults that which is told.
use Rattle.std.proofs.Common.{◌≡◌, ℕ, zero, suc, ◌<◌, ◌≤◌, List, [], ◌∷◌, ◌++◌, length, Bool, true, false, All, Contains, Option, Some, None, refl, inl, inr, ◌⊎◌, arith, slice_index_or}
use Rattle.std.proofs.lemmas.List.Elements.{All-append, Contains-append_left, Contains-append_right}
use Rattle.cd_ast.specs.declared.fault.FaultName.{FaultName}
use Rattle.cd_grammar.specs.Later.{Found, IsSooner, IsFirstOf, rank, fault_if}
use Rattle.cd_parser.specs.Best.{IsBest}

sooner_trans : (f g h : Found) → IsSooner f g → IsSooner g h → IsSooner f h
sooner_trans f g h (inl a) (inl b) = inl (omega arith)
sooner_trans f g h (inl a) (inr b) = inl (omega (arith, b.0))
sooner_trans f g h (inr a) (inl b) = inl (omega (arith, a.0))
sooner_trans f g h (inr a) (inr b) = inr (omega (arith, a.0, b.0), omega (arith, a.1, b.1))

-- a fault that is told before the first of others is the first of all
pub first_left : (f g : Found) (xs ys : List Found) → IsSooner f g → IsFirstOf xs f → IsFirstOf ys g → IsFirstOf (xs ++ ys) f
first_left f g xs ys s a b = record {
  there = Contains-append_left xs ys f a.there;
  first = All-append (λ h. IsSooner f h) xs ys a.first (λ k d lt. sooner_trans f g (slice_index_or ys k d) s (b.first k d lt));
}

pub first_right : (f g : Found) (xs ys : List Found) → IsSooner g f → IsFirstOf xs f → IsFirstOf ys g → IsFirstOf (xs ++ ys) g
first_right f g xs ys s a b = record {
  there = Contains-append_right xs ys g b.there;
  first = All-append (λ h. IsSooner g h) xs ys (λ k d lt. sooner_trans g f (slice_index_or xs k d) s (a.first k d lt)) b.first;
}

at_one : (f : Found) (k : ℕ) (d : Found) → k < 1 → IsSooner f (slice_index_or (f ∷ []) k d)
at_one f zero d lt = inr (refl, omega arith)
at_one f (suc k) d lt = absurd (omega arith)

-- one fault is the first of itself
pub first_alone : (f : Found) → IsFirstOf (f ∷ []) f
first_alone f = record {
  there = (0, omega arith, refl);
  first = at_one f;
}
