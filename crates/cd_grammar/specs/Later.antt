-- What is wrong with a Process that is in the grammar.
use Rattle.std.specs.Prelude.{◌≡◌, ℕ, zero, suc, ◌<◌, ◌≤◌, ◌⊎◌, List, [], ◌∷◌, ◌++◌, Bool, true, false, not, ◌&&◌, ◌||◌, All, Contains, Option, Some, None, if◌then◌else◌}
use Rattle.std.specs.List.{list_any}
use Rattle.std.specs.Str.{bytes_eq}
use Rattle.cd_types.specs.declared.choices.Retain.{Retain}
use Rattle.cd_types.specs.declared.choices.Retain.TheVariants as retain
use Rattle.cd_types.specs.declared.start.Start.{Start}
use Rattle.cd_ast.specs.declared.fault.FaultName.{FaultName}
use Rattle.cd_ast.specs.declared.fault.FaultName.TheVariants.{DoubleLabel, NoLabel, Backward, IntoIf, Unclosed, SameSide, RetainStart}
use Rattle.cd_grammar.specs.declared.given.Given.{Given}
use Rattle.cd_grammar.specs.declared.mark.Mark.{Mark}
use Rattle.cd_grammar.specs.declared.mark.Sketch.{Sketch}
use Rattle.cd_grammar.specs.declared.mark.Sketch.TheVariants.{Copy, Action, If, Else, Eif, Goto, Exit}
use Rattle.cd_grammar.specs.Reading.{Reading}

-- a fault at its place
abbrev pub Found : Type 0
Found = FaultName × ℕ

abbrev pub is_label : Option (ℕ × List ℕ) → List ℕ → Bool
is_label None name = false
is_label (Some label) name = bytes_eq label.1 name

-- a statement has this label
abbrev pub is_named : List ℕ → Mark → Bool
is_named name mark = is_label mark.label name

abbrev pub is_action : Sketch → Bool
is_action (Copy alike) = true
is_action Action = true
is_action (If at name) = false
is_action Else = false
is_action Eif = false
is_action (Goto at name) = false
is_action Exit = false

-- statements have this label, and actions have it
abbrev pub have_label : List ℕ → List Mark → Bool
have_label name marks = list_any (is_named name) marks

abbrev pub have_action : List ℕ → List Mark → Bool
have_action name marks = list_any (λ mark. is_named name mark && is_action mark.what) marks

-- how many of these IFs are open behind a statement, of so many that were open before it
abbrev pub open_behind : Sketch → ℕ → ℕ
open_behind (If at name) depth = suc depth
open_behind Eif zero = zero
open_behind Eif (suc depth) = depth
open_behind Else depth = depth
open_behind (Copy alike) depth = depth
open_behind Action depth = depth
open_behind (Goto at name) depth = depth
open_behind Exit depth = depth

abbrev pub is_eif : Sketch → Bool
is_eif Eif = true
is_eif (If at name) = false
is_eif Else = false
is_eif (Copy alike) = false
is_eif Action = false
is_eif (Goto at name) = false
is_eif Exit = false

abbrev pub is_none : ℕ → Bool
is_none zero = true
is_none (suc n) = false

-- the IF around these statements has its EIF among them, where so many IFs of their own are open before them
unfoldable pub is_closed : ℕ → List Mark → Bool
is_closed depth [] = false
is_closed depth (mark ∷ marks) = if is_none depth && is_eif mark.what then true else is_closed (open_behind mark.what depth) marks

-- the first of these statements with this label stands in an IF of theirs that has its EIF; so many are open before them
unfoldable pub is_inside : List ℕ → ℕ → List Mark → Bool
is_inside name depth [] = false
is_inside name depth (mark ∷ marks) =
    if is_named name mark then not (is_none depth) && is_closed (open_behind mark.what 0) marks
    else is_inside name (open_behind mark.what depth) marks

abbrev pub fault_if : Bool → FaultName → ℕ → List Found
fault_if true name at = (name, at) ∷ []
fault_if false name at = []

-- an earlier statement has this label too
abbrev pub doubled : List Mark → Option (ℕ × List ℕ) → List Found
doubled before None = []
doubled before (Some label) = fault_if (have_label label.1 before) DoubleLabel label.0

-- what is wrong with a statement by itself and among those before it, with itself as the last, and behind it
abbrev pub wrong_here : List Mark → Mark → List Mark → Sketch → List Found
wrong_here before this behind (Copy alike) = fault_if alike SameSide this.at
wrong_here before this behind Action = []
wrong_here before this behind (If at name) =
    fault_if (not (have_action name before)) NoLabel at ++ fault_if (not (is_closed 0 behind)) Unclosed this.at
wrong_here before this behind Else = []
wrong_here before this behind Eif = []
wrong_here before this behind (Goto at name) =
    fault_if (not (have_label name (before ++ this ∷ behind))) NoLabel at
    ++ (fault_if (have_label name (before ++ this ∷ [])) Backward at
    ++ fault_if (not (have_label name (before ++ this ∷ [])) && is_inside name 0 behind) IntoIf at)
wrong_here before this behind Exit = []

-- what is wrong with statements, behind others
unfoldable pub wrong_from : List Mark → List Mark → List Found
wrong_from before [] = []
wrong_from before (this ∷ behind) =
    doubled before this.label ++ (wrong_here before this behind this.what ++ wrong_from (before ++ this ∷ []) behind)

-- a Process that is kept for each start of its node, and has a start of its own
abbrev pub wrong_start : Option Retain → Option Start → ℕ → List Found
wrong_start None start at = []
wrong_start (Some retain.No) start at = []
wrong_start (Some retain.Yes) start at = []
wrong_start (Some retain.Initial) None at = []
wrong_start (Some retain.Initial) (Some start) at = (RetainStart, at) ∷ []

-- all that is wrong with a reading
unfoldable pub late_faults : Reading → List Found
late_faults r = wrong_start r.head.retain r.head.start r.head.retain_at ++ wrong_from [] r.marks

-- the order of faults at one place
abbrev pub rank : FaultName → ℕ
rank DoubleLabel = 0
rank NoLabel = 1
rank Backward = 2
rank IntoIf = 3
rank Unclosed = 4
rank SameSide = 5
rank _ = 6

-- a fault that is told before another, or is the same
abbrev pub IsSooner : Found → Found → Type 0
IsSooner f g = (f.1 < g.1) ⊎ ((f.1 ≡ g.1) × (rank f.0 ≤ rank g.0))

-- the fault that is told, of those that there are
pub record IsFirstOf (faults : List Found) (f : Found) : Type 0 where
  pub there : Contains faults f
  pub first : All (λ g. IsSooner f g) faults
