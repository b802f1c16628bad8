-- Walks that stopped.
use Rattle.std.proofs.Common.{◌≡◌, ℕ, ◌+◌, List, [], ◌∷◌, refl}
use Rattle.cd_ast.specs.declared.process.Stmt.{Stmt}
use Rattle.cd_ast.specs.Walk.{Stopped, pending_from}

pub stopped : (stmts : List Stmt) (codes : List (ℕ × ℕ)) (more : List Stmt) (here place : ℕ) → place ≡ pending_from stmts codes more here (Stopped place)
unfolding pending_from
stopped stmts codes [] here place = refl
stopped stmts codes (s ∷ more) here place = stopped stmts codes more (here + 1) place
