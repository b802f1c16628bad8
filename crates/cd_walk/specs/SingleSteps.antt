-- The walk by single steps: from place to place, as the statements say.
use Rattle.std.specs.Prelude.{◌≡◌, ℕ, ◌+◌, ◌<◌, ◌≤◌, List, [], ◌∷◌, ◌++◌, length, true, false, Some, None}
use Rattle.cd_ast.specs.Walk.{is_action, code_at, go}
use Rattle.cd_ast.specs.declared.process.Stmt.{Stmt}

-- the statement at a place
pub record StandsAt (stmts : List Stmt) (place : ℕ) (s : Stmt) : Type 0 where
  pub front : List Stmt
  pub more : List Stmt
  pub split : stmts ≡ front ++ s ∷ more
  pub at : length front ≡ place

-- from a place these steps are noted, and the walk stops there
pub data Walks (stmts : List Stmt) (codes : List (ℕ × ℕ)) : ℕ → List (ℕ × ℕ) → ℕ → Type 0 where
  -- at the end it stops
  Ends : (place : ℕ) → place ≡ length stmts → Walks stmts codes place [] place
  -- at an action without a code it stops
  Waits : (place : ℕ) (s : Stmt) → StandsAt stmts place s → is_action s.what ≡ true → code_at codes place ≡ None → Walks stmts codes place [] place
  -- an action with a code is noted with it, and the walk goes on at the next place
  Notes : (place code stop : ℕ) (s : Stmt) (steps : List (ℕ × ℕ)) → StandsAt stmts place s → is_action s.what ≡ true → code_at codes place ≡ Some code
      → Walks stmts codes (place + 1) steps stop → Walks stmts codes place ((place, code) ∷ steps) stop
  -- any other statement says where it goes on
  Goes : (place stop : ℕ) (s : Stmt) (steps : List (ℕ × ℕ)) → StandsAt stmts place s → is_action s.what ≡ false
      → Walks stmts codes (go stmts codes place s.what) steps stop → Walks stmts codes place steps stop

-- every statement that isn't an action leads further down
abbrev pub LeadDown : List Stmt → List (ℕ × ℕ) → Type 0
LeadDown stmts codes = (place : ℕ) (s : Stmt) → StandsAt stmts place s → is_action s.what ≡ false
    → (place < go stmts codes place s.what) × (go stmts codes place s.what ≤ length stmts)
