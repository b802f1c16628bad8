-- The codes of steps that ended.
use Rattle.std.proofs.Common.{◌≡◌, ℕ, eqb, cond, true, false, List, [], ◌∷◌, ◌++◌, Option, Some, refl, ap, ◌∙◌}
use Rattle.cd_ast.specs.Walk.{code_at}
use Rattle.cd_book.specs.Codes.{or_code}

more : (codes : List (ℕ × ℕ)) (place own rc : ℕ) → or_code (code_at codes place) place own rc ≡ code_at (codes ++ (own, rc) ∷ []) place
unfolding code_at
more [] place own rc = refl
more (step ∷ codes) place own rc =
    elim (eqb step.0 place) as (λ b. or_code (cond b (Some step.1) (code_at codes place)) place own rc ≡ cond b (Some step.1) (code_at (codes ++ (own, rc) ∷ []) place)) [
      | true ↦ refl
      | false ↦ more codes place own rc
    ]

-- the code at a place after one more step
pub code_more : (codes : List (ℕ × ℕ)) (place own rc : ℕ) (before : Option ℕ) → before ≡ code_at codes place → or_code before place own rc ≡ code_at (codes ++ (own, rc) ∷ []) place
code_more codes place own rc before is = ap (λ (o : Option ℕ). or_code o place own rc) is ∙ more codes place own rc
