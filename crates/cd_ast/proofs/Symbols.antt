-- Symbols that are printed, from the first on.
use Rattle.std.proofs.Common.{◌≡◌, ℕ, zero, suc, ◌+◌, List, [], ◌∷◌, drop, Option, Some, None, refl, sym, ◌∙◌, ap, add-one, ◌++◌, codes}
use Rattle.std.specs.Prelude.{slice_get}
use Rattle.cd_ast.specs.Canonical.{quoted_onto, symbols_onto}

pub dropped : (xs : List (List ℕ × List ℕ)) (i : ℕ) (x : List ℕ × List ℕ) → slice_get xs i ≡ Some x → drop i xs ≡ x ∷ drop (suc i) xs
dropped [] i x e = absurd cc
dropped (y ∷ ys) zero x e = let same : y ≡ x = cc in ap (λ (z : List ℕ × List ℕ). z ∷ ys) same
dropped (y ∷ ys) (suc i) x e = dropped ys i x e

pub next_symbol : (text next : List ℕ) (symbols : List (List ℕ × List ℕ)) (i : ℕ) (name value : List ℕ) (whole : List ℕ) → slice_get symbols i ≡ Some (name, value)
    → next ≡ quoted_onto (text ++ codes " &" ++ name ++ codes "=") value → symbols_onto text (drop i symbols) ≡ whole → symbols_onto next (drop (i + 1) symbols) ≡ whole
unfolding symbols_onto
next_symbol text next symbols i name value whole found made before =
    rw (add-one, made) (sym (ap (λ (rest : List (List ℕ × List ℕ)). symbols_onto text rest) (dropped symbols i (name, value) found)) ∙ before)
