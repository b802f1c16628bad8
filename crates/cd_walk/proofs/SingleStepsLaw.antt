-- Where jumps lead further down, the path is the walk by single steps.
use Rattle.std.proofs.Common.{◌≡◌, ℕ, ◌+◌, ◌<◌, ◌≤◌, Bool, true, false, cond, ◌&&◌, eqb, List, [], ◌∷◌, ◌++◌, length, Option, Some, None, ◌⊎◌, inl, inr, refl, sym, ◌∙◌, ap, subst, arith, append_assoc, length-append}
use Rattle.std.proofs.lemmas.Bool.{cases_Bool, eqb-true, eqb-false}
use Rattle.cd_ast.specs.Walk.{is_action, code_at, go, Walker, GoesOn, Stopped, past_action, arrives, walks, with_code, notes, path_from, pending_from, path, pending}
use Rattle.cd_ast.specs.declared.process.Stmt.{Stmt}
use Rattle.cd_walk.specs.SingleSteps.{StandsAt, Walks, Ends, Waits, Notes, Goes, LeadDown}
use Rattle.cd_walk.proofs.WalkLaw.{path-stopped, pending-stopped}

module _ (stmts : List Stmt) (codes : List (ℕ × ℕ)) (down : LeadDown stmts codes) where
  abbrev Walked : List Stmt → ℕ → ℕ → Type 0
  Walked more here next = Walks stmts codes next (path_from stmts codes more here (GoesOn next)) (pending_from stmts codes more here (GoesOn next))

  at_action : (s : Stmt) (more : List Stmt) (here : ℕ) → StandsAt stmts here s → is_action s.what ≡ true → Walked more (here + 1) (here + 1)
      → (found : Option ℕ) → code_at codes here ≡ found
      → Walks stmts codes here (with_code here found ++ path_from stmts codes more (here + 1) (past_action here found)) (pending_from stmts codes more (here + 1) (past_action here found))
  at_action s more here stands action further None is =
      subst (λ (steps : List (ℕ × ℕ)). Walks stmts codes here steps (pending_from stmts codes more (here + 1) (Stopped here))) (sym (path-stopped stmts codes more (here + 1) here))
      (subst (λ (stop : ℕ). Walks stmts codes here [] stop) (sym (pending-stopped stmts codes more (here + 1) here)) (Waits here s stands action is))
  at_action s more here stands action further (Some code) is =
      Notes here code (pending_from stmts codes more (here + 1) (GoesOn (here + 1))) s (path_from stmts codes more (here + 1) (GoesOn (here + 1))) stands action is further

  walked : (front more : List Stmt) (next : ℕ) → stmts ≡ front ++ more → length front ≤ next → next ≤ length stmts → Walked more (length front) next
  unfolding path_from pending_from
  walked front [] next split from within =
      let whole : length stmts ≡ length front = ap length split ∙ omega (arith, length-append front []) in
      let here : length front ≡ next = omega (arith, whole, from, within) in
      subst (λ (stop : ℕ). Walks stmts codes next [] stop) (sym here) (Ends next (omega (arith, whole, here)))
  walked front (s ∷ more) next split from within =
      let here : ℕ = length front in
      let stands : StandsAt stmts here s = record { front = front; more = more; split = split; at = refl } in
      let next_front : length (front ++ s ∷ []) ≡ here + 1 = omega (arith, length-append front (s ∷ [])) in
      let next_split : stmts ≡ (front ++ s ∷ []) ++ more = split ∙ sym (append_assoc front (s ∷ []) more) in
      let whole : length stmts ≡ length front + length (s ∷ more) = ap length split ∙ length-append front (s ∷ more) in
      let further : (place : ℕ) → here + 1 ≤ place → place ≤ length stmts → Walked more (here + 1) place =
      λ place low high. subst (λ (h : ℕ). Walked more h place) next_front (walked (front ++ s ∷ []) more place next_split (omega (arith, next_front, low)) high) in
      let arrived : Walks stmts codes here
      (cond (is_action s.what) (with_code here (code_at codes here)) [] ++ path_from stmts codes more (here + 1) (arrives stmts codes here s.what))
      (pending_from stmts codes more (here + 1) (arrives stmts codes here s.what)) =
      elim (cases_Bool (is_action s.what)) [
        | inl action ↦ subst (λ (b : Bool). Walks stmts codes here
            (cond b (with_code here (code_at codes here)) [] ++ path_from stmts codes more (here + 1) (cond b (past_action here (code_at codes here)) (GoesOn (go stmts codes here s.what))))
            (pending_from stmts codes more (here + 1) (cond b (past_action here (code_at codes here)) (GoesOn (go stmts codes here s.what))))) (sym action)
            (at_action s more here stands action (further (here + 1) (omega arith) (omega (arith, whole))) (code_at codes here) refl)
        | inr other ↦
            let leads = down here s stands other in
            subst (λ (b : Bool). Walks stmts codes here
            (cond b (with_code here (code_at codes here)) [] ++ path_from stmts codes more (here + 1) (cond b (past_action here (code_at codes here)) (GoesOn (go stmts codes here s.what))))
            (pending_from stmts codes more (here + 1) (cond b (past_action here (code_at codes here)) (GoesOn (go stmts codes here s.what))))) (sym other)
            (Goes here (pending_from stmts codes more (here + 1) (GoesOn (go stmts codes here s.what))) s (path_from stmts codes more (here + 1) (GoesOn (go stmts codes here s.what))) stands other
            (further (go stmts codes here s.what) (omega (arith, leads.0)) leads.1))
      ] in
      elim (cases_Bool (eqb here next)) [
        | inl same ↦
            subst (λ (b : Bool). Walks stmts codes next
            (cond (b && is_action s.what) (with_code here (code_at codes here)) [] ++ path_from stmts codes more (here + 1) (cond b (arrives stmts codes here s.what) (GoesOn next)))
            (pending_from stmts codes more (here + 1) (cond b (arrives stmts codes here s.what) (GoesOn next)))) (sym same)
            (subst (λ (place : ℕ). Walks stmts codes place
            (cond (is_action s.what) (with_code here (code_at codes here)) [] ++ path_from stmts codes more (here + 1) (arrives stmts codes here s.what))
            (pending_from stmts codes more (here + 1) (arrives stmts codes here s.what))) (eqb-true here next same) arrived)
        | inr apart ↦
            subst (λ (b : Bool). Walks stmts codes next
            (cond (b && is_action s.what) (with_code here (code_at codes here)) [] ++ path_from stmts codes more (here + 1) (cond b (arrives stmts codes here s.what) (GoesOn next)))
            (pending_from stmts codes more (here + 1) (cond b (arrives stmts codes here s.what) (GoesOn next)))) (sym apart)
            (further next (omega (arith, from, eqb-false here next apart)) within)
      ]

  pub path-walks : Walks stmts codes 0 (path stmts codes) (pending stmts codes)
  path-walks = walked [] stmts 0 refl (omega arith) (omega arith)
