-- A print has no fault in its meaning where the text of its Process has none.
use Rattle.std.proofs.Common.{◌≡◌, ℕ, zero, suc, Bool, true, false, not, ◌&&◌, List, [], ◌∷◌, ◌++◌, Option, Some, None, refl, ap, sym, ◌∙◌}
use Rattle.std.specs.Option.{option_map}
use Rattle.std.specs.Str.{bytes_eq}
use Rattle.cd_types.specs.declared.choices.Retain.{Retain}
use Rattle.cd_types.specs.declared.choices.Retain.TheVariants as retain
use Rattle.cd_types.specs.declared.start.Start.{Start}
use Rattle.cd_ast.specs.declared.fault.FaultName.{FaultName}
use Rattle.cd_ast.specs.declared.fault.FaultName.TheVariants.{DoubleLabel, NoLabel, Backward, IntoIf, Unclosed, SameSide}
use Rattle.cd_ast.specs.declared.process.Stmt.{Stmt}
use Rattle.cd_ast.specs.declared.process.What.{What}
use Rattle.cd_ast.specs.declared.process.What.TheVariants as what
use Rattle.cd_grammar.specs.declared.mark.Mark.{Mark}
use Rattle.cd_grammar.specs.declared.mark.Sketch.{Sketch}
use Rattle.cd_grammar.specs.declared.mark.Sketch.TheVariants.{Copy, Action, If, Else, Eif, Goto, Exit}
use Rattle.cd_grammar.specs.Later.{Found, is_label, is_action, have_label, have_action, open_behind, is_eif, is_closed, is_inside, fault_if, doubled, wrong_here, wrong_from, wrong_start}
use Rattle.cd_grammar.specs.Reading.{or_default}
use Rattle.cd_print.proofs.Origin.{IsMarked, AreMarked}
use Rattle.cd_print.proofs.Stmts.{AreFine}

-- two sketches of the same, of which the second has no fault of its own
abbrev Same : Sketch → Sketch → Type 0
Same (Copy alike) (Copy other) = other ≡ false
Same Action Action = Unit {0}
Same (If at name) (If at2 name2) = name ≡ name2
Same Else Else = Unit {0}
Same Eif Eif = Unit {0}
Same (Goto at name) (Goto at2 name2) = name ≡ name2
Same Exit Exit = Unit {0}
Same _ _ = ⊥

record Alike (m n : Mark) : Type 0 where
  label : option_map (λ found. found.1) m.label ≡ option_map (λ found. found.1) n.label
  what : Same m.what n.what

abbrev AreAlike : List Mark → List Mark → Type 0
AreAlike [] [] = Unit {0}
AreAlike [] (n ∷ ns) = ⊥
AreAlike (m ∷ ms) [] = ⊥
AreAlike (m ∷ ms) (n ∷ ns) = Alike m n × AreAlike ms ns

same_of : (a b : Sketch) (said : What) → Rattle.cd_print.proofs.Origin.IsSketchOf a said → Rattle.cd_print.proofs.Said.IsSketch b said → Same a b
same_of (Copy x) (Copy y) (what.Copy copy) h k = k
same_of Action Action (what.Task task) h k = tt
same_of Action Action (what.Submit submit) h k = tt
same_of (If at name) (If at2 name2) (what.If label rel n) h k = h ∙ sym k
same_of Else Else what.Else h k = tt
same_of Eif Eif what.Eif h k = tt
same_of (Goto at name) (Goto at2 name2) (what.Goto label) h k = h ∙ sym k
same_of Exit Exit what.Exit h k = tt
same_of (Copy x) _ (what.Copy copy) h k = absurd k
same_of Action _ (what.Task task) h k = absurd k
same_of Action _ (what.Submit submit) h k = absurd k
same_of (If at name) _ (what.If label rel n) h k = absurd k
same_of Else _ what.Else h k = absurd k
same_of Eif _ what.Eif h k = absurd k
same_of (Goto at name) _ (what.Goto label) h k = absurd k
same_of Exit _ what.Exit h k = absurd k
same_of _ _ _ h k = absurd h

alike_of : (ms ns : List Mark) (stmts : List Stmt) → AreMarked ms stmts → AreFine ns stmts → AreAlike ms ns
alike_of [] [] [] h k = tt
alike_of (m ∷ ms) (n ∷ ns) (s ∷ stmts) h k = (record { label = h.0.label ∙ sym k.0.label; what = same_of m.what n.what s.what h.0.said k.0.said }, alike_of ms ns stmts h.1 k.1)
alike_of [] (n ∷ ns) [] h k = absurd k
alike_of [] ns (s ∷ stmts) h k = absurd h
alike_of (m ∷ ms) ns [] h k = absurd h
alike_of (m ∷ ms) [] (s ∷ stmts) h k = absurd k

alike_append : (ms ns os ps : List Mark) → AreAlike ms ns → AreAlike os ps → AreAlike (ms ++ os) (ns ++ ps)
alike_append [] [] os ps h k = k
alike_append [] (n ∷ ns) os ps h k = absurd h
alike_append (m ∷ ms) [] os ps h k = absurd h
alike_append (m ∷ ms) (n ∷ ns) os ps h k = (h.0, alike_append ms ns os ps h.1 k)

label_same : (a b : Option (ℕ × List ℕ)) (name : List ℕ) → option_map (λ found. found.1) a ≡ option_map (λ found. found.1) b → is_label a name ≡ is_label b name
label_same a b name e = by_map a name ∙ (ap (λ (x : Option (List ℕ)). by_name x name) e ∙ sym (by_map b name))
  where
    by_name : Option (List ℕ) → List ℕ → Bool
    by_name None n = false
    by_name (Some x) n = bytes_eq x n

    by_map : (o : Option (ℕ × List ℕ)) (n : List ℕ) → is_label o n ≡ by_name (option_map (λ found. found.1) o) n
    by_map None n = refl
    by_map (Some x) n = refl

action_same : (a b : Sketch) → Same a b → is_action a ≡ is_action b
action_same (Copy x) (Copy y) h = refl
action_same Action Action h = refl
action_same (If at name) (If at2 name2) h = refl
action_same Else Else h = refl
action_same Eif Eif h = refl
action_same (Goto at name) (Goto at2 name2) h = refl
action_same Exit Exit h = refl
action_same _ _ h = absurd h

eif_same : (a b : Sketch) → Same a b → is_eif a ≡ is_eif b
eif_same (Copy x) (Copy y) h = refl
eif_same Action Action h = refl
eif_same (If at name) (If at2 name2) h = refl
eif_same Else Else h = refl
eif_same Eif Eif h = refl
eif_same (Goto at name) (Goto at2 name2) h = refl
eif_same Exit Exit h = refl
eif_same _ _ h = absurd h

open_same : (a b : Sketch) (depth : ℕ) → Same a b → open_behind a depth ≡ open_behind b depth
open_same (Copy x) (Copy y) depth h = refl
open_same Action Action depth h = refl
open_same (If at name) (If at2 name2) depth h = refl
open_same Else Else depth h = refl
open_same Eif Eif zero h = refl
open_same Eif Eif (suc depth) h = refl
open_same (Goto at name) (Goto at2 name2) depth h = refl
open_same Exit Exit depth h = refl
open_same _ _ depth h = absurd h

labels_same : (ms ns : List Mark) (name : List ℕ) → AreAlike ms ns → have_label name ms ≡ have_label name ns
labels_same [] [] name h = refl
labels_same [] (n ∷ ns) name h = absurd h
labels_same (m ∷ ms) [] name h = absurd h
labels_same (m ∷ ms) (n ∷ ns) name h = rw (label_same m.label n.label name h.0.label) (rw (labels_same ms ns name h.1) refl)

actions_same : (ms ns : List Mark) (name : List ℕ) → AreAlike ms ns → have_action name ms ≡ have_action name ns
actions_same [] [] name h = refl
actions_same [] (n ∷ ns) name h = absurd h
actions_same (m ∷ ms) [] name h = absurd h
actions_same (m ∷ ms) (n ∷ ns) name h = rw (label_same m.label n.label name h.0.label) (rw (action_same m.what n.what h.0.what) (rw (actions_same ms ns name h.1) refl))

closed_same : (depth : ℕ) (ms ns : List Mark) → AreAlike ms ns → is_closed depth ms ≡ is_closed depth ns
unfolding is_closed
closed_same depth [] [] h = refl
closed_same depth [] (n ∷ ns) h = absurd h
closed_same depth (m ∷ ms) [] h = absurd h
closed_same depth (m ∷ ms) (n ∷ ns) h =
    rw (eif_same m.what n.what h.0.what) (rw (open_same m.what n.what depth h.0.what) (rw (closed_same (open_behind n.what depth) ms ns h.1) refl))

inside_same : (name : List ℕ) (depth : ℕ) (ms ns : List Mark) → AreAlike ms ns → is_inside name depth ms ≡ is_inside name depth ns
unfolding is_inside
inside_same name depth [] [] h = refl
inside_same name depth [] (n ∷ ns) h = absurd h
inside_same name depth (m ∷ ms) [] h = absurd h
inside_same name depth (m ∷ ms) (n ∷ ns) h =
    rw (label_same m.label n.label name h.0.label) (rw (open_same m.what n.what 0 h.0.what) (rw (open_same m.what n.what depth h.0.what) (rw (closed_same (open_behind n.what 0) ms ns h.1) (rw (inside_same name (open_behind n.what depth) ms ns h.1) refl))))

-- no fault
none_left : (a b : List Found) → a ++ b ≡ [] → a ≡ []
none_left [] b e = refl
none_left (f ∷ a) b e = absurd cc

none_right : (a b : List Found) → a ++ b ≡ [] → b ≡ []
none_right [] b e = e
none_right (f ∷ a) b e = absurd cc

both_none : (a b : List Found) → a ≡ [] → b ≡ [] → a ++ b ≡ []
both_none a b e e2 = rw e e2

moved : (b c : Bool) (name : FaultName) (at at2 : ℕ) → b ≡ c → fault_if b name at ≡ [] → fault_if c name at2 ≡ []
moved false c name at at2 e f = ap (λ (x : Bool). fault_if x name at2) (sym e)
moved true c name at at2 e f = absurd cc

doubled_same : (before other : List Mark) (a b : Option (ℕ × List ℕ)) → AreAlike before other → option_map (λ found. found.1) a ≡ option_map (λ found. found.1) b → doubled before a ≡ [] → doubled other b ≡ []
doubled_same before other None None h e f = refl
doubled_same before other None (Some y) h e f = absurd cc
doubled_same before other (Some x) None h e f = absurd cc
doubled_same before other (Some x) (Some y) h e f =
    let same : x.1 ≡ y.1 = cc in
    moved (have_label x.1 before) (have_label y.1 other) DoubleLabel x.0 y.0 (ap (λ (n : List ℕ). have_label n before) same ∙ labels_same before other y.1 h) f

module _ (before other : List Mark) (m n : Mark) (behind more : List Mark) (h : AreAlike before other) (one : Alike m n) (k : AreAlike behind more) where
  here_same : (a b : Sketch) → Same a b → wrong_here before m behind a ≡ [] → wrong_here other n more b ≡ []
  here_same (Copy x) (Copy y) s e = ap (λ (z : Bool). fault_if z SameSide n.at) s
  here_same Action Action s e = refl
  here_same (If at name) (If at2 name2) s e =
      both_none (fault_if (not (have_action name2 other)) NoLabel at2) (fault_if (not (is_closed 0 more)) Unclosed n.at)
      (moved (not (have_action name before)) (not (have_action name2 other)) NoLabel at at2 (ap (λ (x : List ℕ). not (have_action x before)) s ∙ ap not (actions_same before other name2 h)) (none_left _ _ e))
      (moved (not (is_closed 0 behind)) (not (is_closed 0 more)) Unclosed m.at n.at (ap not (closed_same 0 behind more k)) (none_right (fault_if (not (have_action name before)) NoLabel at) _ e))
  here_same Else Else s e = refl
  here_same Eif Eif s e = refl
  here_same (Goto at name) (Goto at2 name2) s e =
      let whole : have_label name (before ++ m ∷ behind) ≡ have_label name2 (other ++ n ∷ more) = ap (λ (x : List ℕ). have_label x (before ++ m ∷ behind)) s ∙ labels_same (before ++ m ∷ behind) (other ++ n ∷ more) name2 (alike_append before other (m ∷ behind) (n ∷ more) h (one, k)) in
      let front : have_label name (before ++ m ∷ []) ≡ have_label name2 (other ++ n ∷ []) = ap (λ (x : List ℕ). have_label x (before ++ m ∷ [])) s ∙ labels_same (before ++ m ∷ []) (other ++ n ∷ []) name2 (alike_append before other (m ∷ []) (n ∷ []) h (one, tt)) in
      let within : is_inside name 0 behind ≡ is_inside name2 0 more = ap (λ (x : List ℕ). is_inside x 0 behind) s ∙ inside_same name2 0 behind more k in
      let rest : fault_if (have_label name (before ++ m ∷ [])) Backward at ++ fault_if (not (have_label name (before ++ m ∷ [])) && is_inside name 0 behind) IntoIf at ≡ [] = none_right (fault_if (not (have_label name (before ++ m ∷ behind))) NoLabel at) _ e in
      let last : (not (have_label name (before ++ m ∷ [])) && is_inside name 0 behind) ≡ (not (have_label name2 (other ++ n ∷ [])) && is_inside name2 0 more) =
      ap (λ (x : Bool). not x && is_inside name 0 behind) front ∙ ap (λ (x : Bool). not (have_label name2 (other ++ n ∷ [])) && x) within in
      both_none (fault_if (not (have_label name2 (other ++ n ∷ more))) NoLabel at2) _
      (moved (not (have_label name (before ++ m ∷ behind))) (not (have_label name2 (other ++ n ∷ more))) NoLabel at at2 (ap not whole) (none_left _ _ e))
      (both_none (fault_if (have_label name2 (other ++ n ∷ [])) Backward at2) _ (moved (have_label name (before ++ m ∷ [])) (have_label name2 (other ++ n ∷ [])) Backward at at2 front (none_left _ _ rest))
      (moved (not (have_label name (before ++ m ∷ [])) && is_inside name 0 behind) (not (have_label name2 (other ++ n ∷ [])) && is_inside name2 0 more) IntoIf at at2 last (none_right (fault_if (have_label name (before ++ m ∷ [])) Backward at) _ rest)))
  here_same Exit Exit s e = refl
  here_same _ _ s e = absurd s

from_same : (before other ms ns : List Mark) → AreAlike before other → AreAlike ms ns → wrong_from before ms ≡ [] → wrong_from other ns ≡ []
unfolding wrong_from
from_same before other [] [] h k e = refl
from_same before other [] (n ∷ ns) h k e = absurd k
from_same before other (m ∷ ms) [] h k e = absurd k
from_same before other (m ∷ ms) (n ∷ ns) h k e =
    let rest : wrong_here before m ms m.what ++ wrong_from (before ++ m ∷ []) ms ≡ [] = none_right (doubled before m.label) _ e in
    both_none (doubled other n.label) _ (doubled_same before other m.label n.label h k.0.label (none_left _ _ e))
    (both_none (wrong_here other n ns n.what) _ (here_same before other m n ms ns h k.0 k.1 m.what n.what k.0.what (none_left _ _ rest))
    (from_same (before ++ m ∷ []) (other ++ n ∷ []) ms ns (alike_append before other (m ∷ []) (n ∷ []) h (k.0, tt)) k.1 (none_right (wrong_here before m ms m.what) _ rest)))

start_same : (o : Option Retain) (start : Option Start) (at at2 : ℕ) → wrong_start o start at ≡ [] → wrong_start (Some (or_default o retain.No)) start at2 ≡ []
start_same None start at at2 e = refl
start_same (Some retain.No) start at at2 e = refl
start_same (Some retain.Yes) start at at2 e = refl
start_same (Some retain.Initial) None at at2 e = refl
start_same (Some retain.Initial) (Some s) at at2 e = absurd cc

pub no_fault : (o : Option Retain) (start : Option Start) (at at2 : ℕ) (ms ns : List Mark) (stmts : List Stmt) → AreMarked ms stmts → AreFine ns stmts → wrong_start o start at ++ wrong_from [] ms ≡ [] → wrong_start (Some (or_default o retain.No)) start at2 ++ wrong_from [] ns ≡ []
no_fault o start at at2 ms ns stmts h k e =
    both_none (wrong_start (Some (or_default o retain.No)) start at2) _ (start_same o start at at2 (none_left _ _ e)) (from_same [] [] ms ns tt (alike_of ms ns stmts h k) (none_right (wrong_start o start at) _ e))
