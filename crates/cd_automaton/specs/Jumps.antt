-- Where conditions and jumps of a Process lead.
use Rattle.std.specs.Prelude.{◌≡◌, ℕ, List, [], ◌∷◌, ◌++◌, Bool, true, false, ◌&&◌}
use Rattle.std.specs.List.{list_any}
use Rattle.cd_ast.specs.Walk.{is_action, has_label}
use Rattle.cd_ast.specs.declared.process.Stmt.{Stmt}
use Rattle.cd_ast.specs.declared.process.What.{What}
use Rattle.cd_ast.specs.declared.process.What.TheVariants as what

-- a statement with this label, and an action with it
abbrev pub is_labelled : List ℕ → Stmt → Bool
is_labelled label stmt = has_label label stmt.label

abbrev pub is_acting : List ℕ → Stmt → Bool
is_acting label stmt = has_label label stmt.label && is_action stmt.what

-- A condition names an action that stands before it. A jump names a label that no statement up to it has, but one behind it.
abbrev pub LeadsWell : List Stmt → Stmt → List Stmt → What → Type 0
LeadsWell before this behind (what.If label rel n) = list_any (is_acting label) before ≡ true
LeadsWell before this behind (what.Goto label) = (list_any (is_labelled label) (before ++ this ∷ []) ≡ false) × (list_any (is_labelled label) behind ≡ true)
LeadsWell before this behind _ = Unit {0}

-- each of these statements, behind others
abbrev pub LeadWell : List Stmt → List Stmt → Type 0
LeadWell before [] = Unit {0}
LeadWell before (this ∷ behind) = LeadsWell before this behind this.what × LeadWell (before ++ this ∷ []) behind
