-- A walk goes on by one step where the step that comes next gets its code.
use Rattle.std.proofs.Common.{◌≡◌, ℕ, ◌+◌, ◌<◌, ◌≤◌, true, false, cond, ◌&&◌, eqb, List, [], ◌∷◌, ◌++◌, length, Option, Some, None, inl, inr, refl, sym, ◌∙◌, ap, subst, arith}
use Rattle.std.proofs.lemmas.Bool.{cases_Bool, and_parts, ltb-true, cond-true, cond-false, eq-eqb, ne_eqb}
use Rattle.cd_ast.specs.Walk.{is_action, action_of, code_at, relates_to, code_of_action, behind_else, else_of, eif_of, go, Walker, GoesOn, Stopped, past_action, arrives, walks, with_code, notes, path_from, pending_from}
use Rattle.cd_ast.specs.declared.process.Stmt.{Stmt}
use Rattle.cd_ast.specs.declared.process.What.{What}
use Rattle.cd_ast.specs.declared.process.What.TheVariants as what
use Rattle.cd_walk.specs.Conditions.{is_before, looks_back, look_back}

-- no step from a place on has a code
abbrev pub NoCodesFrom : List (ℕ × ℕ) → ℕ → Type 0
NoCodesFrom codes here = (place : ℕ) → here ≤ place → code_at codes place ≡ None

-- Codes with one more behind them.

code_kept : (codes : List (ℕ × ℕ)) (last : ℕ × ℕ) (place code : ℕ) → code_at codes place ≡ Some code → code_at (codes ++ last ∷ []) place ≡ Some code
unfolding code_at
code_kept [] last place code is = absurd cc
code_kept (step ∷ codes) last place code is =
    elim (cases_Bool (eqb step.0 place)) [
      | inl here ↦ cond-true (eqb step.0 place) _ _ here ∙ sym (cond-true (eqb step.0 place) (Some step.1) (code_at codes place) here) ∙ is
      | inr there ↦ cond-false (eqb step.0 place) _ _ there ∙ code_kept codes last place code (sym (cond-false (eqb step.0 place) (Some step.1) (code_at codes place) there) ∙ is)
    ]

code_added : (codes : List (ℕ × ℕ)) (last : ℕ × ℕ) (place : ℕ) → code_at codes place ≡ None
    → code_at (codes ++ last ∷ []) place ≡ cond (eqb last.0 place) (Some last.1) None
unfolding code_at
code_added [] last place is = refl
code_added (step ∷ codes) last place is =
    elim (cases_Bool (eqb step.0 place)) [
      | inl here ↦ absurd (none_some (sym (sym (cond-true (eqb step.0 place) (Some step.1) (code_at codes place) here) ∙ is)))
      | inr there ↦ cond-false (eqb step.0 place) _ _ there ∙ code_added codes last place (sym (cond-false (eqb step.0 place) (Some step.1) (code_at codes place) there) ∙ is)
    ] where
      none_some : {A : Type 0} {x : A} → None ≡ Some x → ⊥
      none_some e = cc

-- another place keeps its answer
code_elsewhere : (codes : List (ℕ × ℕ)) (last : ℕ × ℕ) (place : ℕ) → (last.0 ≡ place → ⊥) → code_at (codes ++ last ∷ []) place ≡ code_at codes place
unfolding code_at
code_elsewhere [] last place apart = cond-false (eqb last.0 place) (Some last.1) None (ne_eqb last.0 place apart)
code_elsewhere (step ∷ codes) last place apart =
    ap (cond (eqb step.0 place) (Some step.1)) (code_elsewhere codes last place apart)

-- A walk that has stopped.

module _ (stmts : List Stmt) (codes : List (ℕ × ℕ)) where
  pub path-stopped : (more : List Stmt) (here place : ℕ) → path_from stmts codes more here (Stopped place) ≡ []
  unfolding path_from
  path-stopped [] here place = refl
  path-stopped (s ∷ more) here place = path-stopped more (here + 1) place

  pub pending-stopped : (more : List Stmt) (here place : ℕ) → pending_from stmts codes more here (Stopped place) ≡ place
  unfolding pending_from
  pending-stopped [] here place = refl
  pending-stopped (s ∷ more) here place = pending-stopped more (here + 1) place

  -- where no step has a code any more, none is noted
  pub path-none : (more : List Stmt) (here : ℕ) (walker : Walker) → NoCodesFrom codes here → path_from stmts codes more here walker ≡ []
  unfolding path_from
  path-none [] here walker none = refl
  path-none (s ∷ more) here walker none =
      let rest : (place : ℕ) → here + 1 ≤ place → code_at codes place ≡ None = λ place h. none place (omega arith) in
      let here_none : code_at codes here ≡ None = none here (omega arith) in
      ap (λ noted. noted ++ path_from stmts codes more (here + 1) (walks stmts codes here s.what walker)) (notes-none here s.what walker here_none)
      ∙ path-none more (here + 1) (walks stmts codes here s.what walker) rest where
        notes-none : (here : ℕ) (s : What) (walker : Walker) → code_at codes here ≡ None → notes codes here s walker ≡ []
        notes-none here s (Stopped place) none = refl
        notes-none here s (GoesOn next) none = rw none (elim (eqb here next && is_action s) as (λ b. cond b (with_code here None) [] ≡ []) [ true ↦ refl | false ↦ refl ])

-- The walk stops no earlier than where it is.

not_earlier : (stmts : List Stmt) (codes : List (ℕ × ℕ)) (more : List Stmt) (here next : ℕ) → here ≤ pending_from stmts codes more here (GoesOn next)
unfolding pending_from
not_earlier stmts codes [] here next = omega arith
not_earlier stmts codes (s ∷ more) here next =
    let going : (place : ℕ) → here ≤ pending_from stmts codes more (here + 1) (GoesOn place) = λ place. omega (arith, not_earlier stmts codes more (here + 1) place) in
    let stopped : here ≤ pending_from stmts codes more (here + 1) (Stopped here) = omega (arith, pending-stopped stmts codes more (here + 1) here) in
    let on_action : (code : Option ℕ) → here ≤ pending_from stmts codes more (here + 1) (past_action here code) =
    λ code. elim code as (λ c. here ≤ pending_from stmts codes more (here + 1) (past_action here c)) [ None ↦ stopped | Some c ↦ going (here + 1) ] in
    let arrived : here ≤ pending_from stmts codes more (here + 1) (arrives stmts codes here s.what) =
    elim (is_action s.what) as (λ b. here ≤ pending_from stmts codes more (here + 1) (cond b (past_action here (code_at codes here)) (GoesOn (go stmts codes here s.what)))) [
      | true ↦ on_action (code_at codes here)
      | false ↦ going (go stmts codes here s.what)
    ] in
    elim (eqb here next) as (λ b. here ≤ pending_from stmts codes more (here + 1) (cond b (arrives stmts codes here s.what) (GoesOn next))) [
      | true ↦ arrived
      | false ↦ going next
    ]

-- The step that comes next gets its code.

module _ (stmts : List Stmt) (codes : List (ℕ × ℕ)) (at code : ℕ) (none : NoCodesFrom codes at) where
  abbrev pub more_codes : List (ℕ × ℕ)
  more_codes = codes ++ (at, code) ∷ []

  -- a condition that looks back to a step before it answers as before
  same_code : (here : ℕ) (place : Option ℕ) → here ≤ at → is_before place here ≡ true → code_of_action more_codes place ≡ code_of_action codes place
  same_code here None early back = refl
  same_code here (Some place) early back =
      let before : place < here = ltb-true place here back in
      code_elsewhere codes (at, code) place (λ same. omega (arith, same))

  same_go : (here : ℕ) (s : What) → here ≤ at → looks_back stmts here s ≡ true → go stmts more_codes here s ≡ go stmts codes here s
  same_go here (what.If label how number) early back =
      ap (λ found. cond (relates_to how found number) (here + 1) (behind_else stmts (else_of stmts here) (eif_of stmts here))) (same_code here (action_of stmts label) early back)
  same_go here what.Else early back = refl
  same_go here what.Eif early back = refl
  same_go here (what.Goto label) early back = refl
  same_go here what.Exit early back = refl
  same_go here (what.Copy step) early back = refl
  same_go here (what.Task step) early back = refl
  same_go here (what.Submit step) early back = refl

  -- behind it no step has a code
  pub none_behind : NoCodesFrom more_codes (at + 1)
  none_behind place far = code_elsewhere codes (at, code) place (λ same. omega (arith, same)) ∙ none place (omega arith)

  -- one more step is noted, and the walk stops behind it
  abbrev pub GoesFurther : List Stmt → ℕ → Walker → Walker → Type 0
  GoesFurther more here walker walker' =
      (path_from stmts more_codes more here walker' ≡ path_from stmts codes more here walker ++ (at, code) ∷ [])
      × (at + 1 ≤ pending_from stmts more_codes more here walker')

  at_action : (more : List Stmt) (here : ℕ) (found : Option ℕ)
      → ((next : ℕ) → pending_from stmts codes more (here + 1) (GoesOn next) ≡ at → GoesFurther more (here + 1) (GoesOn next) (GoesOn next))
      → code_at codes here ≡ found → pending_from stmts codes more (here + 1) (past_action here found) ≡ at
      → (with_code here (code_at more_codes here) ++ path_from stmts more_codes more (here + 1) (past_action here (code_at more_codes here))
      ≡ (with_code here found ++ path_from stmts codes more (here + 1) (past_action here found)) ++ (at, code) ∷ [])
      × (at + 1 ≤ pending_from stmts more_codes more (here + 1) (past_action here (code_at more_codes here)))
  at_action more here None further is stop =
      let here_is : here ≡ at = sym (pending-stopped stmts codes more (here + 1) here) ∙ stop in
      let got : code_at more_codes here ≡ Some code =
      code_added codes (at, code) here is ∙ cond-true (eqb at here) (Some code) None (eq-eqb at here (sym here_is)) in
      let none' : NoCodesFrom more_codes (here + 1) = subst (λ (place : ℕ). NoCodesFrom more_codes (place + 1)) (sym here_is) none_behind in
      let empty : path_from stmts more_codes more (here + 1) (GoesOn (here + 1)) ≡ [] = path-none stmts more_codes more (here + 1) (GoesOn (here + 1)) none' in
      let stopped : path_from stmts codes more (here + 1) (Stopped here) ≡ [] = path-stopped stmts codes more (here + 1) here in
      let last : at + 1 ≤ pending_from stmts more_codes more (here + 1) (GoesOn (here + 1)) = omega (arith, here_is, not_earlier stmts more_codes more (here + 1) (here + 1)) in
      rw got (ap (λ (rest : List (ℕ × ℕ)). (here, code) ∷ rest) empty ∙ (λ i. (here_is i, code) ∷ []) ∙ ap (λ (rest : List (ℕ × ℕ)). rest ++ (at, code) ∷ []) (sym stopped), last)
  at_action more here (Some found) further is stop =
      let got : code_at more_codes here ≡ Some found = code_kept codes (at, code) here found is in
      let rest = further (here + 1) stop in
      rw got (ap (λ (steps : List (ℕ × ℕ)). (here, found) ∷ steps) rest.0, rest.1)

  pub goes_further : at < length stmts → (more : List Stmt) (here next : ℕ) → here + length more ≡ length stmts → look_back stmts more here ≡ true
      → pending_from stmts codes more here (GoesOn next) ≡ at → GoesFurther more here (GoesOn next) (GoesOn next)
  unfolding path_from pending_from
  goes_further within [] here next whole back stop = absurd (omega (arith, whole, stop, within))
  goes_further within (s ∷ more) here next whole back stop =
      let backs = and_parts (looks_back stmts here s.what) (look_back stmts more (here + 1)) back in
      let further : (place : ℕ) → pending_from stmts codes more (here + 1) (GoesOn place) ≡ at → GoesFurther more (here + 1) (GoesOn place) (GoesOn place) =
      λ place stopped. goes_further within more (here + 1) place (omega (arith, whole)) backs.1 stopped in
      let elsewhere : pending_from stmts codes more (here + 1) (GoesOn (go stmts codes here s.what)) ≡ at
      → GoesFurther more (here + 1) (GoesOn (go stmts codes here s.what)) (GoesOn (go stmts more_codes here s.what)) =
      λ stopped.
      let early : here ≤ at = omega (arith, stopped, not_earlier stmts codes more (here + 1) (go stmts codes here s.what)) in
      subst (λ (place : ℕ). GoesFurther more (here + 1) (GoesOn (go stmts codes here s.what)) (GoesOn place)) (sym (same_go here s.what early backs.0))
      (further (go stmts codes here s.what) stopped) in
      let arrived = elim (is_action s.what) as (λ b.
      pending_from stmts codes more (here + 1) (cond b (past_action here (code_at codes here)) (GoesOn (go stmts codes here s.what))) ≡ at
      → (cond b (with_code here (code_at more_codes here)) []
      ++ path_from stmts more_codes more (here + 1) (cond b (past_action here (code_at more_codes here)) (GoesOn (go stmts more_codes here s.what)))
      ≡ (cond b (with_code here (code_at codes here)) []
      ++ path_from stmts codes more (here + 1) (cond b (past_action here (code_at codes here)) (GoesOn (go stmts codes here s.what)))) ++ (at, code) ∷ [])
      × (at + 1 ≤ pending_from stmts more_codes more (here + 1) (cond b (past_action here (code_at more_codes here)) (GoesOn (go stmts more_codes here s.what))))) [
        | true ↦ at_action more here (code_at codes here) further refl
        | false ↦ elsewhere
      ] in
      (elim (eqb here next) as (λ b.
      pending_from stmts codes more (here + 1) (cond b (arrives stmts codes here s.what) (GoesOn next)) ≡ at
      → (cond (b && is_action s.what) (with_code here (code_at more_codes here)) []
      ++ path_from stmts more_codes more (here + 1) (cond b (arrives stmts more_codes here s.what) (GoesOn next))
      ≡ (cond (b && is_action s.what) (with_code here (code_at codes here)) []
      ++ path_from stmts codes more (here + 1) (cond b (arrives stmts codes here s.what) (GoesOn next))) ++ (at, code) ∷ [])
      × (at + 1 ≤ pending_from stmts more_codes more (here + 1) (cond b (arrives stmts more_codes here s.what) (GoesOn next)))) [
        | true ↦ arrived
        | false ↦ further next
      ]) stop
