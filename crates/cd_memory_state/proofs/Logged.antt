-- The state of files after one call more.
use Rattle.std.proofs.Common.{◌≡◌, ℕ, List, [], ◌∷◌, ◌++◌, length, refl, arith}
use Rattle.cd_outside.specs.Files.{FilesState}
use Rattle.cd_memory_state.specs.Steps.{applied, stepped}
use Rattle.cd_memory_state.specs.declared.step.Step.{Step}

pub stepped_push : (steps : List Step) (step : Step) (names bytes : List (List ℕ)) (name own : List ℕ) (state : FilesState) → length names ≡ length steps → length bytes ≡ length steps
    → stepped (steps ++ step ∷ []) (names ++ name ∷ []) (bytes ++ own ∷ []) state ≡ applied step.change step.beat name own (stepped steps names bytes state)
stepped_push [] step [] [] name own state named filled = refl
stepped_push [] step (n ∷ names) bytes name own state named filled = absurd (omega arith)
stepped_push [] step [] (b ∷ bytes) name own state named filled = absurd (omega arith)
stepped_push (s ∷ steps) step [] bytes name own state named filled = absurd (omega arith)
stepped_push (s ∷ steps) step (n ∷ names) [] name own state named filled = absurd (omega arith)
stepped_push (s ∷ steps) step (n ∷ names) (b ∷ bytes) name own state named filled = stepped_push steps step names bytes name own (applied s.change s.beat n b state) (omega arith) (omega arith)
