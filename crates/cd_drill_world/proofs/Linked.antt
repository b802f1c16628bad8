-- The sessions of two nodes have the same numbers at both, one by one.
use Rattle.std.proofs.Common.{◌≡◌, ℕ, zero, suc, ◌+◌, ◌<◌, false, eqb, List, [], ◌∷◌, ◌++◌, length, Some, sym, ◌∙◌, ap, subst, arith}
use Rattle.std.specs.Prelude.{slice_get, slice_set}
use Rattle.std.proofs.lemmas.Bool.{ne_eqb}
use Rattle.cd_drill.specs.declared.test_pair.Link.{Link}

-- it has this number at both nodes, and each took all that came of it
pub record IsLinked (number : ℕ) (taken_a taken_b : ℕ → List ℕ) (link : Link) : Type 0 where
  pub at_a : link.at_a.number ≡ number
  pub at_b : link.at_b.number ≡ number
  pub of_a : link.of_a ≡ length (taken_b number)
  pub of_b : link.of_b ≡ length (taken_a number)

-- the first has this number, and each other one the next
abbrev pub AreLinked : ℕ → (ℕ → List ℕ) → (ℕ → List ℕ) → List Link → Type 0
AreLinked from taken_a taken_b [] = Unit {0}
AreLinked from taken_a taken_b (link ∷ links) = IsLinked from taken_a taken_b link × AreLinked (suc from) taken_a taken_b links

pub linked_at : (from n : ℕ) (taken_a taken_b : ℕ → List ℕ) (links : List Link) (at : ℕ) (link : Link) → n ≡ from + at → AreLinked from taken_a taken_b links → slice_get links at ≡ Some link → IsLinked n taken_a taken_b link
linked_at from n taken_a taken_b [] at link place linked is = absurd cc
linked_at from n taken_a taken_b (first ∷ links) zero link place linked is =
    let same : first ≡ link = cc in
    let number : from ≡ n = omega (arith, place) in
    subst (λ (k : ℕ). IsLinked k taken_a taken_b link) number (subst (IsLinked from taken_a taken_b) same linked.0)
linked_at from n taken_a taken_b (first ∷ links) (suc at) link place linked is = linked_at (suc from) n taken_a taken_b links at link (omega (arith, place)) linked.1 is

pub linked_more : (from n : ℕ) (taken_a taken_b : ℕ → List ℕ) (links : List Link) (link : Link) → n ≡ from + length links → AreLinked from taken_a taken_b links → IsLinked n taken_a taken_b link → AreLinked from taken_a taken_b (links ++ link ∷ [])
linked_more from n taken_a taken_b [] link place linked one = (subst (λ (k : ℕ). IsLinked k taken_a taken_b link) (let number : n ≡ from = omega (arith, place) in number) one, tt)
linked_more from n taken_a taken_b (first ∷ links) link place linked one = (linked.0, linked_more (suc from) n taken_a taken_b links link (omega (arith, place)) linked.1 one)

-- Bytes were taken of one session alone.
module _ (n : ℕ) (taken_a taken_b after_a after_b : ℕ → List ℕ) (others_a : (k : ℕ) → eqb n k ≡ false → after_a k ≡ taken_a k) (others_b : (k : ℕ) → eqb n k ≡ false → after_b k ≡ taken_b k) where
  linked_other : (k : ℕ) (link : Link) → eqb n k ≡ false → IsLinked k taken_a taken_b link → IsLinked k after_a after_b link
  linked_other k link apart is = record {
    at_a = is.at_a;
    at_b = is.at_b;
    of_a = is.of_a ∙ ap length (sym (others_b k apart));
    of_b = is.of_b ∙ ap length (sym (others_a k apart));
  }

  linked_above : (from : ℕ) (links : List Link) → n < from → AreLinked from taken_a taken_b links → AreLinked from after_a after_b links
  linked_above from [] low linked = tt
  linked_above from (first ∷ links) low linked =
      (linked_other from first (ne_eqb n from (λ same. absurd (omega (arith, low, same)))) linked.0, linked_above (suc from) links (omega (arith, low)) linked.1)

  pub linked_set : (from : ℕ) (links : List Link) (at : ℕ) (link : Link) → n ≡ from + at → AreLinked from taken_a taken_b links → IsLinked n after_a after_b link → AreLinked from after_a after_b (slice_set links at link)
  linked_set from [] at link place linked one = tt
  linked_set from (first ∷ links) zero link place linked one = (
    subst (λ (k : ℕ). IsLinked k after_a after_b link) (let number : n ≡ from = omega (arith, place) in number) one,
    linked_above (suc from) links (omega (arith, place)) linked.1,
  )
  linked_set from (first ∷ links) (suc at) link place linked one = (
    linked_other from first (ne_eqb n from (λ same. absurd (omega (arith, place, same)))) linked.0,
    linked_set (suc from) links at link (omega (arith, place)) linked.1 one,
  )
