-- The walk of a Process goes down.
use Rattle.std.proofs.Common.{◌≡◌, ℕ, suc, ◌+◌, ◌<◌, ◌≤◌, List, [], ◌∷◌, ◌++◌, append_assoc, length, length-append, length-drop, drop, Bool, true, false, ◌&&◌, ◌||◌, Option, Some, None, refl, ap, sym, subst, arith}
use Rattle.std.specs.Prelude.{if◌then◌else◌, ◌==◌}
use Rattle.std.specs.List.{list_any}
use Rattle.cd_types.specs.declared.choices.Relation.{Relation}
use Rattle.cd_ast.specs.Walk.{is_action, is_else, is_eif, depth_behind, eif_from, else_from, eif_of, else_of, has_label, action_from, action_of, holds, behind, behind_else, label_from, go}
use Rattle.cd_ast.specs.declared.process.Stmt.{Stmt}
use Rattle.cd_ast.specs.declared.process.What.{What}
use Rattle.cd_ast.specs.declared.process.What.TheVariants as what
use Rattle.cd_automaton.specs.Jumps.{is_labelled, is_acting, LeadsWell, LeadWell}

-- a place among n statements, the first of which stands at here
abbrev Among : ℕ → ℕ → Option ℕ → Type 0
Among here n None = Unit {0}
Among here n (Some e) = (here ≤ e) × (e < here + n)

further : (here n : ℕ) (o : Option ℕ) → Among (here + 1) n o → Among here (suc n) o
further here n None h = tt
further here n (Some e) h = let low : here + 1 ≤ e = h.0 in let high : e < here + 1 + n = h.1 in (omega arith, omega arith)

or_further : (b : Bool) (here n : ℕ) (o : Option ℕ) → Among (here + 1) n o → Among here (suc n) (if b then Some here else o)
or_further true here n o h = (omega arith, omega arith)
or_further false here n o h = further here n o h

or_none : (b : Bool) (here n : ℕ) (o : Option ℕ) → Among here n o → Among here n (if b then None else o)
or_none true here n o h = tt
or_none false here n o h = h

eif_among : (stmts : List Stmt) (here depth : ℕ) → Among here (length stmts) (eif_from stmts here depth)
unfolding eif_from
eif_among [] here depth = tt
eif_among (s ∷ more) here depth = or_further (is_eif s.what && depth == 0) here (length more) (eif_from more (here + 1) (depth_behind s.what depth)) (eif_among more (here + 1) (depth_behind s.what depth))

else_among : (stmts : List Stmt) (here depth : ℕ) → Among here (length stmts) (else_from stmts here depth)
unfolding else_from
else_among [] here depth = tt
else_among (s ∷ more) here depth = or_none (is_eif s.what && depth == 0) here (suc (length more)) (if is_else s.what && depth == 0 then Some here else else_from more (here + 1) (depth_behind s.what depth))
    (or_further (is_else s.what && depth == 0) here (length more) (else_from more (here + 1) (depth_behind s.what depth)) (else_among more (here + 1) (depth_behind s.what depth)))

-- further down, and no further than the end
Down : ℕ → ℕ → ℕ → Type 0
Down place last next = (place < next) × (next ≤ last)

module _ (stmts : List Stmt) (place : ℕ) (there : place < length stmts) where
  rest_length : place + 1 + length (drop (place + 1) stmts) ≡ length stmts
  rest_length = simp length-drop (omega arith)

  behind_by : (o : Option ℕ) → Among (place + 1) (length (drop (place + 1) stmts)) o → Down place (length stmts) (behind stmts o)
  unfolding Down
  behind_by None h = (there, omega arith)
  behind_by (Some e) h = let low : place + 1 ≤ e = h.0 in let high : e < place + 1 + length (drop (place + 1) stmts) = h.1 in let all : place + 1 + length (drop (place + 1) stmts) ≡ length stmts = rest_length in (omega arith, omega arith)

  else_by : (o eif : Option ℕ) → Among (place + 1) (length (drop (place + 1) stmts)) o → Among (place + 1) (length (drop (place + 1) stmts)) eif → Down place (length stmts) (behind_else stmts o eif)
  unfolding Down
  else_by None eif h e = behind_by eif e
  else_by (Some x) eif h e = let low : place + 1 ≤ x = h.0 in let high : x < place + 1 + length (drop (place + 1) stmts) = h.1 in let all : place + 1 + length (drop (place + 1) stmts) ≡ length stmts = rest_length in (omega arith, omega arith)

  next_down : Down place (length stmts) (place + 1)
  unfolding Down
  next_down = (omega arith, omega arith)

  if_by : (b : Bool) (n : ℕ) → Down place (length stmts) n → Down place (length stmts) (if b then place + 1 else n)
  if_by true n h = next_down
  if_by false n h = h

-- labels
label_within : (stmts : List Stmt) (here : ℕ) (label : List ℕ) → label_from stmts here label ≤ here + length stmts
unfolding label_from
label_within [] here label = omega arith
label_within (s ∷ more) here label = by_label (has_label label s.label) (label_from more (here + 1) label) (label_within more (here + 1) label)
  where
    by_label : (b : Bool) (n : ℕ) → n ≤ here + 1 + length more → (if b then here else n) ≤ here + suc (length more)
    by_label true n h = omega arith
    by_label false n h = omega arith

past_by : (b c : Bool) (here n m : ℕ) → (b || c) ≡ false → (c ≡ false → here + 1 + n ≤ m) → here + suc n ≤ (if b then here else m)
past_by true c here n m e k = absurd cc
past_by false c here n m e k = let h : here + 1 + n ≤ m = k e in omega arith

label_past : (front more : List Stmt) (here : ℕ) (label : List ℕ) → list_any (is_labelled label) front ≡ false → here + length front ≤ label_from (front ++ more) here label
unfolding label_from
label_past [] more here label e = from_here more here label
  where
    from_here : (more : List Stmt) (here : ℕ) (label : List ℕ) → here + 0 ≤ label_from more here label
    from_here [] here label = omega arith
    from_here (s ∷ more) here label = here_or (has_label label s.label) here (label_from more (here + 1) label) (from_here more (here + 1) label)
      where
        here_or : (b : Bool) (here n : ℕ) → here + 1 + 0 ≤ n → here + 0 ≤ (if b then here else n)
        here_or true here n h = omega arith
        here_or false here n h = omega arith
label_past (s ∷ front) more here label e = past_by (has_label label s.label) (list_any (is_labelled label) front) here (length front) (label_from (front ++ more) (here + 1) label) e (λ h. label_past front more (here + 1) label h)

append_nil : {A : Type 0} (xs : List A) → xs ++ [] ≡ xs
append_nil [] = refl
append_nil {A} (x ∷ xs) = ap (λ (ys : List A). x ∷ ys) (append_nil xs)

-- a statement of a list that leads well
leads_at : (before front : List Stmt) (s : Stmt) (more : List Stmt) → LeadWell before (front ++ s ∷ more) → LeadsWell (before ++ front) s more s.what
leads_at before [] s more h = subst (λ (xs : List Stmt). LeadsWell xs s more s.what) (sym (append_nil before)) h.0
leads_at before (x ∷ front) s more h = subst (λ (xs : List Stmt). LeadsWell xs s more s.what) (append_assoc before (x ∷ []) front) (leads_at (before ++ x ∷ []) front s more h.1)

goes_down : (front : List Stmt) (s : Stmt) (more : List Stmt) (codes : List (ℕ × ℕ)) (said : What) → LeadsWell front s more said → is_action said ≡ false
    → Down (length front) (length (front ++ s ∷ more)) (go (front ++ s ∷ more) codes (length front) said)
unfolding Down
goes_down front s more codes (what.If label rel n) h e =
    let stmts : List Stmt = front ++ s ∷ more in
    let there : length front < length stmts = simp length-append (omega arith) in
    if_by stmts (length front) there (holds stmts codes label rel n) (behind_else stmts (else_of stmts (length front)) (eif_of stmts (length front)))
    (else_by stmts (length front) there (else_of stmts (length front)) (eif_of stmts (length front)) (else_among (drop (length front + 1) stmts) (length front + 1) 0) (eif_among (drop (length front + 1) stmts) (length front + 1) 0))
goes_down front s more codes what.Else h e =
    let stmts : List Stmt = front ++ s ∷ more in
    let there : length front < length stmts = simp length-append (omega arith) in
    behind_by stmts (length front) there (eif_of stmts (length front)) (eif_among (drop (length front + 1) stmts) (length front + 1) 0)
goes_down front s more codes what.Eif h e = let there : length front < length (front ++ s ∷ more) = simp length-append (omega arith) in (omega arith, omega arith)
goes_down front s more codes (what.Goto label) h e =
    let stmts : List Stmt = front ++ s ∷ more in
    let past : 0 + length (front ++ s ∷ []) ≤ label_from ((front ++ s ∷ []) ++ more) 0 label = label_past (front ++ s ∷ []) more 0 label h.0 in
    let same : (front ++ s ∷ []) ++ more ≡ stmts = append_assoc front (s ∷ []) more in
    let past2 : 0 + length (front ++ s ∷ []) ≤ label_from stmts 0 label = subst (λ (xs : List Stmt). 0 + length (front ++ s ∷ []) ≤ label_from xs 0 label) same past in
    let long : length (front ++ s ∷ []) ≡ length front + 1 = simp length-append (omega arith) in
    let last : label_from stmts 0 label ≤ 0 + length stmts = label_within stmts 0 label in
    (omega arith, omega arith)
goes_down front s more codes what.Exit h e = let there : length front < length (front ++ s ∷ more) = simp length-append (omega arith) in (there, omega arith)
goes_down front s more codes (what.Copy copy) h e = absurd cc
goes_down front s more codes (what.Task task) h e = absurd cc
goes_down front s more codes (what.Submit submit) h e = absurd cc

pub down : (stmts : List Stmt) → LeadWell [] stmts → (codes : List (ℕ × ℕ)) (front : List Stmt) (s : Stmt) (more : List Stmt) → stmts ≡ front ++ s ∷ more → is_action s.what ≡ false
    → (length front < go stmts codes (length front) s.what) × (go stmts codes (length front) s.what ≤ length stmts)
unfolding Down
down stmts h codes front s more e acts =
    let well : LeadsWell front s more s.what = leads_at [] front s more (subst (λ (xs : List Stmt). LeadWell [] xs) e h) in
    subst (λ (xs : List Stmt). (length front < go xs codes (length front) s.what) × (go xs codes (length front) s.what ≤ length xs)) (sym e) (goes_down front s more codes s.what well acts)

-- the action of a condition
turned : (a b : Bool) → (a && b) ≡ (b && a)
turned true true = refl
turned true false = refl
turned false true = refl
turned false false = refl

action_before : (front more : List Stmt) (here : ℕ) (label : List ℕ) → list_any (is_acting label) front ≡ true → (place : ℕ) × (action_from (front ++ more) here label ≡ Some place) × (place < here + length front)
unfolding action_from
action_before [] more here label e = absurd cc
action_before (s ∷ front) more here label e =
    by_action (is_action s.what && has_label label s.label) (has_label label s.label && is_action s.what) here (length front) (list_any (is_acting label) front) (action_from (front ++ more) (here + 1) label)
    (turned (is_action s.what) (has_label label s.label)) e (λ h. action_before front more (here + 1) label h)
  where
    by_action : (a b : Bool) (here n : ℕ) (rest : Bool) (o : Option ℕ) → a ≡ b → (b || rest) ≡ true → (rest ≡ true → (place : ℕ) × (o ≡ Some place) × (place < here + 1 + n))
        → (place : ℕ) × ((if a then Some here else o) ≡ Some place) × (place < here + suc n)
    by_action true b here n rest o e e2 k = (here, refl, omega arith)
    by_action false true here n rest o e e2 k = absurd cc
    by_action false false here n rest o e e2 k = let h : (place : ℕ) × (o ≡ Some place) × (place < here + 1 + n) = k e2 in let low : h.0 < here + 1 + n = h.2 in (h.0, h.1, omega arith)

pub back : (stmts : List Stmt) → LeadWell [] stmts → (front : List Stmt) (s : Stmt) (more : List Stmt) (label : List ℕ) (rel : Relation) (n : ℕ) → stmts ≡ front ++ s ∷ more → s.what ≡ what.If label rel n
    → (place : ℕ) × (action_of stmts label ≡ Some place) × (place < length front)
back stmts h front s more label rel n e said =
    let well : LeadsWell front s more s.what = leads_at [] front s more (subst (λ (xs : List Stmt). LeadWell [] xs) e h) in
    let acting : list_any (is_acting label) front ≡ true = subst (λ (w : What). LeadsWell front s more w) said well in
    let found : (place : ℕ) × (action_from (front ++ s ∷ more) 0 label ≡ Some place) × (place < 0 + length front) = action_before front (s ∷ more) 0 label acting in
    let low : found.0 < 0 + length front = found.2 in
    (found.0, subst (λ (xs : List Stmt). action_from xs 0 label ≡ Some found.0) (sym e) found.1, omega arith)
