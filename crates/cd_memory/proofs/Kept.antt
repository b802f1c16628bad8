-- One command more was begun.
use Rattle.std.proofs.Common.{◌≡◌, ℕ, List, [], ◌∷◌, ◌++◌, length, refl, ap, arith}
use Rattle.cd_outside.specs.Spawner.{Child}
use Rattle.cd_memory.specs.Children.{child_by}
use Rattle.cd_memory.specs.Ends.{children_by}
use Rattle.cd_memory.specs.declared.begun.Way.{Way}

pub children_push : (ways : List Way) (commands : List (List ℕ)) (way : Way) (command : List ℕ) → length commands ≡ length ways → children_by (ways ++ way ∷ []) (commands ++ command ∷ []) ≡ children_by ways commands ++ child_by way command ∷ []
children_push [] [] way command even = refl
children_push [] (other ∷ commands) way command even = absurd (omega arith)
children_push (other ∷ ways) [] way command even = absurd (omega arith)
children_push (other ∷ ways) (one ∷ commands) way command even = ap (λ (l : List Child). child_by other one ∷ l) (children_push ways commands way command (omega arith))
