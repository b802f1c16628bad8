-- Conditions and jumps of a Process that has no fault.
use Rattle.cd_ast.specs.declared.fault.FaultName.{FaultName}
use Rattle.cd_ast.specs.declared.fault.FaultName.TheVariants.{NoLabel, Backward}
use Rattle.std.proofs.Common.{◌≡◌, ℕ, List, [], ◌∷◌, ◌++◌, append_assoc, arith, Bool, true, false, not, ◌||◌, Option, Some, None, refl, ap, sym, subst, ◌∙◌}
use Rattle.std.specs.List.{list_any}
use Rattle.std.specs.Option.{option_map}
use Rattle.std.specs.Str.{bytes_eq}
use Rattle.std.specs.Prelude.{nat_eq}
use Rattle.cd_ast.specs.Walk.{has_label}
use Rattle.cd_ast.specs.Walk as walk
use Rattle.cd_ast.specs.declared.process.Stmt.{Stmt}
use Rattle.cd_ast.specs.declared.process.What.{What}
use Rattle.cd_ast.specs.declared.process.What.TheVariants as what
use Rattle.cd_grammar.specs.declared.mark.Mark.{Mark}
use Rattle.cd_grammar.specs.declared.mark.Sketch.{Sketch}
use Rattle.cd_grammar.specs.declared.mark.Sketch.TheVariants.{Copy, Action, If, Else, Eif, Goto, Exit}
use Rattle.cd_grammar.specs.Later.{Found, fault_if, doubled, is_label, is_named, is_action, have_label, have_action, wrong_here, wrong_from}
use Rattle.cd_automaton.specs.Jumps.{is_labelled, is_acting, LeadsWell, LeadWell}

-- a sketch of what a statement says
abbrev pub IsSketch : Sketch → What → Type 0
IsSketch (Copy alike) (what.Copy copy) = Unit {0}
IsSketch Action (what.Task task) = Unit {0}
IsSketch Action (what.Submit submit) = Unit {0}
IsSketch (If at name) (what.If label rel n) = name ≡ label
IsSketch Else what.Else = Unit {0}
IsSketch Eif what.Eif = Unit {0}
IsSketch (Goto at name) (what.Goto label) = name ≡ label
IsSketch Exit what.Exit = Unit {0}
IsSketch _ _ = ⊥

pub record IsMark (mark : Mark) (stmt : Stmt) : Type 0 where
  pub label : option_map (λ found. found.1) mark.label ≡ stmt.label
  pub said : IsSketch mark.what stmt.what

-- marks of statements
abbrev pub AreMarks : List Mark → List Stmt → Type 0
AreMarks [] [] = Unit {0}
AreMarks [] (stmt ∷ stmts) = ⊥
AreMarks (mark ∷ marks) [] = ⊥
AreMarks (mark ∷ marks) (stmt ∷ stmts) = IsMark mark stmt × AreMarks marks stmts

pub marks_more : (marks : List Mark) (stmts : List Stmt) (mark : Mark) (stmt : Stmt) → AreMarks marks stmts → IsMark mark stmt → AreMarks (marks ++ mark ∷ []) (stmts ++ stmt ∷ [])
marks_more [] [] mark stmt h e = (e, tt)
marks_more [] (s ∷ stmts) mark stmt h e = absurd h
marks_more (m ∷ marks) [] mark stmt h e = absurd h
marks_more (m ∷ marks) (s ∷ stmts) mark stmt h e = (h.0, marks_more marks stmts mark stmt h.1 e)

-- labels are compared either way round
eq_turned : (a b : ℕ) → nat_eq a b ≡ nat_eq b a
eq_turned a b = grind arith

bytes_turned : (a b : List ℕ) → bytes_eq a b ≡ bytes_eq b a
bytes_turned [] [] = refl
bytes_turned [] (y ∷ b) = refl
bytes_turned (x ∷ a) [] = refl
bytes_turned (x ∷ a) (y ∷ b) = rw (eq_turned x y) (rw (bytes_turned a b) refl)

label_by : (o : Option (ℕ × List ℕ)) (label : Option (List ℕ)) (name : List ℕ) → option_map (λ found. found.1) o ≡ label → is_label o name ≡ has_label name label
label_by None label name e = subst (λ (x : Option (List ℕ)). false ≡ has_label name x) e refl
label_by (Some found) label name e = subst (λ (x : Option (List ℕ)). bytes_eq found.1 name ≡ has_label name x) e (bytes_turned found.1 name)

acts_by : (sketch : Sketch) (said : What) → IsSketch sketch said → is_action sketch ≡ walk.is_action said
acts_by (Copy alike) (what.Copy copy) h = refl
acts_by Action (what.Task task) h = refl
acts_by Action (what.Submit submit) h = refl
acts_by (If at name) (what.If label rel n) h = refl
acts_by Else what.Else h = refl
acts_by Eif what.Eif h = refl
acts_by (Goto at name) (what.Goto label) h = refl
acts_by Exit what.Exit h = refl
acts_by _ _ h = absurd h

named_is : (mark : Mark) (stmt : Stmt) (name : List ℕ) → IsMark mark stmt → is_named name mark ≡ is_labelled name stmt
named_is mark stmt name h = label_by mark.label stmt.label name h.label

have_is : (marks : List Mark) (stmts : List Stmt) (name : List ℕ) → AreMarks marks stmts → have_label name marks ≡ list_any (is_labelled name) stmts
have_is [] [] name h = refl
have_is [] (s ∷ stmts) name h = absurd h
have_is (m ∷ marks) [] name h = absurd h
have_is (m ∷ marks) (s ∷ stmts) name h = rw (named_is m s name h.0) (rw (have_is marks stmts name h.1) refl)

action_is : (marks : List Mark) (stmts : List Stmt) (name : List ℕ) → AreMarks marks stmts → have_action name marks ≡ list_any (is_acting name) stmts
action_is [] [] name h = refl
action_is [] (s ∷ stmts) name h = absurd h
action_is (m ∷ marks) [] name h = absurd h
action_is (m ∷ marks) (s ∷ stmts) name h = rw (named_is m s name h.0) (rw (acts_by m.what s.what h.0.said) (rw (action_is marks stmts name h.1) refl))

-- no fault of two lists
none_left : (a b : List Found) → a ++ b ≡ [] → a ≡ []
none_left [] b e = refl
none_left (f ∷ a) b e = absurd cc

pub none_right : (a b : List Found) → a ++ b ≡ [] → b ≡ []
none_right [] b e = e
none_right (f ∷ a) b e = absurd cc

no_fault : (b : Bool) (name : FaultName) (at : ℕ) → fault_if b name at ≡ [] → b ≡ false
no_fault true name at e = absurd cc
no_fault false name at e = refl

not_false : (b : Bool) → not b ≡ false → b ≡ true
not_false true e = refl
not_false false e = absurd cc

any_by : (b c d e : Bool) → (b || c) ≡ false → (c ≡ false → d ≡ e) → (b || d) ≡ e
any_by true c d e h k = absurd cc
any_by false c d e h k = k h

any_behind : {A : Type 0} (test : A → Bool) (xs ys : List A) → list_any test xs ≡ false → list_any test (xs ++ ys) ≡ list_any test ys
any_behind test [] ys e = refl
any_behind test (x ∷ xs) ys e = any_by (test x) (list_any test xs) (list_any test (xs ++ ys)) (list_any test ys) e (λ h. any_behind test xs ys h)

module _ (before : List Mark) (front : List Stmt) (mark : Mark) (stmt : Stmt) (behind : List Mark) (more : List Stmt) (marked : AreMarks before front) (one : IsMark mark stmt) (rest : AreMarks behind more) where
  if_leads : (at : ℕ) (name : List ℕ) → wrong_here before mark behind (If at name) ≡ [] → list_any (is_acting name) front ≡ true
  if_leads at name e =
      let there : have_action name before ≡ true = not_false (have_action name before) (no_fault (not (have_action name before)) NoLabel at (none_left _ _ e)) in
      sym (action_is before front name marked) ∙ there

  goto_leads : (at : ℕ) (name : List ℕ) → wrong_here before mark behind (Goto at name) ≡ [] → (list_any (is_labelled name) (front ++ stmt ∷ []) ≡ false) × (list_any (is_labelled name) more ≡ true)
  goto_leads at name e =
      let there : have_label name (before ++ mark ∷ behind) ≡ true = not_false (have_label name (before ++ mark ∷ behind)) (no_fault (not (have_label name (before ++ mark ∷ behind))) NoLabel at (none_left _ _ e)) in
      let later : have_label name (before ++ mark ∷ []) ≡ false = no_fault (have_label name (before ++ mark ∷ [])) Backward at (none_left _ _ (none_right (fault_if (not (have_label name (before ++ mark ∷ behind))) NoLabel at) _ e)) in
      let here : list_any (is_labelled name) (front ++ stmt ∷ []) ≡ false = sym (have_is (before ++ mark ∷ []) (front ++ stmt ∷ []) name (marks_more before front mark stmt marked one)) ∙ later in
      let behind_it : have_label name (before ++ mark ∷ behind) ≡ have_label name behind =
      ap (λ (ms : List Mark). have_label name ms) (sym (append_assoc before (mark ∷ []) behind)) ∙ any_behind (is_named name) (before ++ mark ∷ []) behind later in
      (here, sym (have_is behind more name rest) ∙ (sym behind_it ∙ there))

  here_leads : (sketch : Sketch) (said : What) → IsSketch sketch said → wrong_here before mark behind sketch ≡ [] → LeadsWell front stmt more said
  here_leads (If at name) (what.If label rel n) h e = subst (λ (x : List ℕ). list_any (is_acting x) front ≡ true) h (if_leads at name e)
  here_leads (Goto at name) (what.Goto label) h e =
      subst (λ (x : List ℕ). (list_any (is_labelled x) (front ++ stmt ∷ []) ≡ false) × (list_any (is_labelled x) more ≡ true)) h (goto_leads at name e)
  here_leads (Copy alike) (what.Copy copy) h e = tt
  here_leads Action (what.Task task) h e = tt
  here_leads Action (what.Submit submit) h e = tt
  here_leads Else what.Else h e = tt
  here_leads Eif what.Eif h e = tt
  here_leads Exit what.Exit h e = tt
  here_leads _ _ h e = absurd h

pub leads : (before marks : List Mark) (front stmts : List Stmt) → AreMarks before front → AreMarks marks stmts → wrong_from before marks ≡ [] → LeadWell front stmts
unfolding wrong_from
leads before [] front [] a b e = tt
leads before [] front (s ∷ stmts) a b e = absurd b
leads before (m ∷ marks) front [] a b e = absurd b
leads before (m ∷ marks) front (s ∷ stmts) a b e =
    let behind_label : wrong_here before m marks m.what ++ wrong_from (before ++ m ∷ []) marks ≡ [] = none_right (doubled before m.label) _ e in (
      here_leads before front m s marks stmts a b.0 b.1 m.what s.what b.0.said (none_left _ _ behind_label),
      leads (before ++ m ∷ []) marks (front ++ s ∷ []) stmts (marks_more before front m s a b.0) b.1 (none_right (wrong_here before m marks m.what) _ behind_label),
    )
