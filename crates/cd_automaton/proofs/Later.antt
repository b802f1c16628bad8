-- Of the faults in what a text says one is told.
use Rattle.std.proofs.Common.{◌≡◌, ℕ, zero, suc, ◌<◌, ◌≤◌, Bool, true, false, not, ◌&&◌, List, [], ◌∷◌, ◌++◌, Option, Some, None, refl, ap, sym, ◌∙◌, ◌⊎◌, inl, inr, arith}
use Rattle.std.specs.Prelude.{All, leb}
use Rattle.std.proofs.lemmas.List.Elements.{All-nil, All-cons, All-append, All-contains, Contains-append_right}
use Rattle.std.proofs.lemmas.Bool.Decides.{leb_tells}
use Rattle.cd_types.specs.declared.choices.Retain.{Retain}
use Rattle.cd_types.specs.declared.choices.Retain.TheVariants as retain
use Rattle.cd_types.specs.declared.start.Start.{Start}
use Rattle.cd_ast.specs.declared.fault.FaultName.{FaultName}
use Rattle.cd_ast.specs.declared.fault.FaultName.TheVariants.{DoubleLabel, NoLabel, Backward, IntoIf, Unclosed, SameSide, RetainStart}
use Rattle.cd_grammar.specs.declared.mark.Mark.{Mark}
use Rattle.cd_grammar.specs.declared.mark.Sketch.{Sketch}
use Rattle.cd_grammar.specs.declared.mark.Sketch.TheVariants.{Copy, Action, If, Else, Eif, Goto, Exit}
use Rattle.cd_grammar.specs.Reading.{Reading}
use Rattle.cd_grammar.specs.Later.{Found, fault_if, doubled, have_label, have_action, is_closed, is_inside, wrong_here, wrong_from, wrong_start, late_faults, rank, IsSooner, IsFirstOf}

-- the names of these faults, by their order at one place
is_late : FaultName → Bool
is_late DoubleLabel = true
is_late NoLabel = true
is_late Backward = true
is_late IntoIf = true
is_late Unclosed = true
is_late SameSide = true
is_late RetainStart = true
is_late _ = false

abbrev ranked : ℕ → FaultName
ranked zero = DoubleLabel
ranked (suc zero) = NoLabel
ranked (suc (suc zero)) = Backward
ranked (suc (suc (suc zero))) = IntoIf
ranked (suc (suc (suc (suc zero)))) = Unclosed
ranked (suc (suc (suc (suc (suc zero))))) = SameSide
ranked (suc (suc (suc (suc (suc (suc n)))))) = RetainStart

rank_is : (name : FaultName) → is_late name ≡ true → ranked (rank name) ≡ name
unfolding is_late
rank_is DoubleLabel e = refl
rank_is NoLabel e = refl
rank_is Backward e = refl
rank_is IntoIf e = refl
rank_is Unclosed e = refl
rank_is SameSide e = refl
rank_is RetainStart e = refl
rank_is _ e = absurd cc

abbrev Late : Found → Type 0
Late f = is_late f.0 ≡ true

late_if : (b : Bool) (name : FaultName) (at : ℕ) → is_late name ≡ true → All Late (fault_if b name at)
late_if true name at e = All-cons Late (name, at) [] e (All-nil Late)
late_if false name at e = All-nil Late

late_doubled : (before : List Mark) (label : Option (ℕ × List ℕ)) → All Late (doubled before label)
unfolding is_late
late_doubled before None = All-nil Late
late_doubled before (Some label) = late_if (have_label label.1 before) DoubleLabel label.0 refl

late_here : (before : List Mark) (this : Mark) (behind : List Mark) (what : Sketch) → All Late (wrong_here before this behind what)
unfolding is_late
late_here before this behind (Copy alike) = late_if alike SameSide this.at refl
late_here before this behind Action = All-nil Late
late_here before this behind (If at name) = All-append Late (fault_if (not (have_action name before)) NoLabel at) (fault_if (not (is_closed 0 behind)) Unclosed this.at)
    (late_if (not (have_action name before)) NoLabel at refl) (late_if (not (is_closed 0 behind)) Unclosed this.at refl)
late_here before this behind Else = All-nil Late
late_here before this behind Eif = All-nil Late
late_here before this behind (Goto at name) =
    All-append Late (fault_if (not (have_label name (before ++ this ∷ behind))) NoLabel at) (fault_if (have_label name (before ++ this ∷ [])) Backward at ++ fault_if (not (have_label name (before ++ this ∷ [])) && is_inside name 0 behind) IntoIf at)
    (late_if (not (have_label name (before ++ this ∷ behind))) NoLabel at refl)
    (All-append Late (fault_if (have_label name (before ++ this ∷ [])) Backward at) (fault_if (not (have_label name (before ++ this ∷ [])) && is_inside name 0 behind) IntoIf at)
    (late_if (have_label name (before ++ this ∷ [])) Backward at refl) (late_if (not (have_label name (before ++ this ∷ [])) && is_inside name 0 behind) IntoIf at refl))
late_here before this behind Exit = All-nil Late

late_from : (before marks : List Mark) → All Late (wrong_from before marks)
unfolding wrong_from
late_from before [] = All-nil Late
late_from before (this ∷ behind) =
    All-append Late (doubled before this.label) (wrong_here before this behind this.what ++ wrong_from (before ++ this ∷ []) behind) (late_doubled before this.label)
    (All-append Late (wrong_here before this behind this.what) (wrong_from (before ++ this ∷ []) behind) (late_here before this behind this.what) (late_from (before ++ this ∷ []) behind))

late_start : (kept : Option Retain) (start : Option Start) (at : ℕ) → All Late (wrong_start kept start at)
unfolding is_late
late_start None start at = All-nil Late
late_start (Some retain.No) start at = All-nil Late
late_start (Some retain.Yes) start at = All-nil Late
late_start (Some retain.Initial) None at = All-nil Late
late_start (Some retain.Initial) (Some start) at = All-cons Late (RetainStart, at) [] refl (All-nil Late)

all_late : (r : Reading) → All Late (late_faults r)
unfolding late_faults
all_late r = All-append Late (wrong_start r.head.retain r.head.start r.head.retain_at) (wrong_from [] r.marks) (late_start r.head.retain r.head.start r.head.retain_at) (late_from [] r.marks)

-- one of two is told sooner, or they are the same
sooner_self : (f : Found) → IsSooner f f
sooner_self f = inr (refl, omega arith)

sooner_by : (a b c : ℕ) (P Q : Type 0) → (a < b → P) → (b < a → Q) → (a ≡ b → P ⊎ Q) → P ⊎ Q
sooner_by a b c P Q f g h = go (leb_tells a b) (leb_tells b a)
  where
    go : ((leb a b ≡ true) × (a ≤ b)) ⊎ ((leb a b ≡ false) × (b < a)) → ((leb b a ≡ true) × (b ≤ a)) ⊎ ((leb b a ≡ false) × (a < b)) → P ⊎ Q
    go (inl x) (inl y) = let one : a ≤ b = x.1 in let two : b ≤ a = y.1 in h (omega arith)
    go (inl x) (inr y) = inl (f y.1)
    go (inr x) y = inr (g x.1)

either_sooner : (f g : Found) → IsSooner f g ⊎ IsSooner g f
either_sooner f g = sooner_by f.1 g.1 0 (IsSooner f g) (IsSooner g f) (λ e. inl e) (λ e. inl e) (λ e. by_rank e (leb_tells (rank f.0) (rank g.0)))
  where
    by_rank : f.1 ≡ g.1 → ((leb (rank f.0) (rank g.0) ≡ true) × (rank f.0 ≤ rank g.0)) ⊎ ((leb (rank f.0) (rank g.0) ≡ false) × (rank g.0 < rank f.0)) → IsSooner f g ⊎ IsSooner g f
    by_rank e (inl x) = inl (inr (e, x.1))
    by_rank e (inr x) = let less : rank g.0 < rank f.0 = x.1 in inr (inr (sym e, omega arith))

sooner_then : (f g h : Found) → IsSooner f g → IsSooner g h → IsSooner f h
sooner_then f g h (inl a) (inl b) = inl (omega arith)
sooner_then f g h (inl a) (inr b) = let same : g.1 ≡ h.1 = b.0 in inl (omega arith)
sooner_then f g h (inr a) (inl b) = let same : f.1 ≡ g.1 = a.0 in inl (omega arith)
sooner_then f g h (inr a) (inr b) =
    let one : rank f.0 ≤ rank g.0 = a.1 in let two : rank g.0 ≤ rank h.0 = b.1 in
    inr (a.0 ∙ b.0, omega arith)

each_sooner : (f g : Found) (fs : List Found) → IsSooner f g → All (λ h. IsSooner g h) fs → All (λ h. IsSooner f h) fs
each_sooner f g fs s all = λ k d below. sooner_then f g _ s (all k d below)

-- so there is a first
first_of : (f : Found) (fs : List Found) → (g : Found) × IsFirstOf (f ∷ fs) g
first_of f [] = (f, record { there = (0, omega arith, refl); first = All-cons (λ h. IsSooner f h) f [] (sooner_self f) (All-nil (λ h. IsSooner f h)) })
first_of f (f2 ∷ fs) = go (first_of f2 fs) (either_sooner f (first_of f2 fs).0)
  where
    go : (rest : (g : Found) × IsFirstOf (f2 ∷ fs) g) → IsSooner f rest.0 ⊎ IsSooner rest.0 f → (g : Found) × IsFirstOf (f ∷ f2 ∷ fs) g
    go rest (inl s) = (f, record { there = (0, omega arith, refl); first = All-cons (λ h. IsSooner f h) f (f2 ∷ fs) (sooner_self f) (each_sooner f rest.0 (f2 ∷ fs) s rest.1.first) })
    go rest (inr s) = (rest.0, record { there = Contains-append_right (f ∷ []) (f2 ∷ fs) rest.0 rest.1.there; first = All-cons (λ h. IsSooner rest.0 h) f (f2 ∷ fs) s rest.1.first })

pub some_first : (fs : List Found) → (fs ≡ []) ⊎ ((f : Found) × IsFirstOf fs f)
some_first [] = inl refl
some_first (f ∷ fs) = inr (first_of f fs)

pub none_first : (fs : List Found) (f : Found) → fs ≡ [] → IsFirstOf fs f → ⊥
none_first [] f e h = let below : h.there.0 < 0 = h.there.1 in absurd (omega arith)
none_first (g ∷ fs) f e h = cc

-- and no other
same_rank : (f g : Found) → IsSooner f g → IsSooner g f → (f.1 ≡ g.1) × (rank f.0 ≡ rank g.0)
same_rank f g (inl a) (inl b) = absurd (omega arith)
same_rank f g (inl a) (inr b) = let same : g.1 ≡ f.1 = b.0 in absurd (omega arith)
same_rank f g (inr a) (inl b) = let same : f.1 ≡ g.1 = a.0 in absurd (omega arith)
same_rank f g (inr a) (inr b) = let one : rank f.0 ≤ rank g.0 = a.1 in let two : rank g.0 ≤ rank f.0 = b.1 in (a.0, omega arith)

found : FaultName → ℕ → Found
found name at = (name, at)

same_found : (f g : Found) → Late f → Late g → (f.1 ≡ g.1) × (rank f.0 ≡ rank g.0) → f ≡ g
unfolding found
same_found f g a b e =
    let names : f.0 ≡ g.0 = sym (rank_is f.0 a) ∙ (ap ranked e.1 ∙ rank_is g.0 b) in
    ap (λ (name : FaultName). found name f.1) names ∙ ap (λ (at : ℕ). found g.0 at) e.0

pub one_first : (r : Reading) (f g : Found) → IsFirstOf (late_faults r) f → IsFirstOf (late_faults r) g → f ≡ g
one_first r f g a b =
    same_found f g (All-contains Late (late_faults r) f (all_late r) a.there) (All-contains Late (late_faults r) g (all_late r) b.there)
    (same_rank f g (All-contains (λ h. IsSooner f h) (late_faults r) g a.first b.there) (All-contains (λ h. IsSooner g h) (late_faults r) f b.first a.there))
