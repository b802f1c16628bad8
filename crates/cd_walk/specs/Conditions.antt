-- Conditions that look back: each names an action that stands before its IF, or none.
use Rattle.std.specs.Prelude.{◌≡◌, ℕ, ◌+◌, List, [], ◌∷◌, Bool, true, ◌&&◌, nat_lt, Option, Some, None}
use Rattle.cd_ast.specs.Walk.{action_of}
use Rattle.cd_ast.specs.declared.process.Process.{Process}
use Rattle.cd_ast.specs.declared.process.Stmt.{Stmt}
use Rattle.cd_ast.specs.declared.process.What.{What}
use Rattle.cd_ast.specs.declared.process.What.TheVariants as what
use Rattle.cd_rules.specs.Steps.{Reading}

abbrev pub is_before : Option ℕ → ℕ → Bool
is_before None here = true
is_before (Some place) here = nat_lt place here

-- the condition of a statement at a place
abbrev pub looks_back : List Stmt → ℕ → What → Bool
looks_back stmts here (what.If label how number) = is_before (action_of stmts label) here
looks_back stmts here _ = true

-- the conditions of the statements from a place on
abbrev pub look_back : List Stmt → List Stmt → ℕ → Bool
look_back stmts [] here = true
look_back stmts (s ∷ more) here = looks_back stmts here s.what && look_back stmts more (here + 1)

-- the conditions of each Process that has a canonical text
abbrev pub AllLookBack : Reading → Type 0
AllLookBack read = (text : List ℕ) (process : Process) → read text ≡ Some process → look_back process.stmts process.stmts 0 ≡ true
