-- Reactions record one entry at most, and none that submits a Process.
use Rattle.std.specs.Prelude.{Bool, true, false, not, ◌&&◌, List, [], ◌∷◌}
use Rattle.cd_book.specs.Book.{is_submission}
use Rattle.cd_protocol.specs.Node.{Effect, Keep, Touch, AskSize, AskBytes, Begin, Go}

-- no effect records an entry
abbrev pub keeps_none : List Effect → Bool
keeps_none [] = true
keeps_none (Keep e ∷ effects) = false
keeps_none (Touch change ∷ effects) = keeps_none effects
keeps_none (AskSize name ∷ effects) = keeps_none effects
keeps_none (AskBytes name at len ∷ effects) = keeps_none effects
keeps_none (Begin key phase ∷ effects) = keeps_none effects
keeps_none (Go phase frames ∷ effects) = keeps_none effects

-- at most one does, and it isn't a submission
abbrev pub keeps_one : List Effect → Bool
keeps_one [] = true
keeps_one (Keep e ∷ effects) = not (is_submission e) && keeps_none effects
keeps_one (Touch change ∷ effects) = keeps_one effects
keeps_one (AskSize name ∷ effects) = keeps_one effects
keeps_one (AskBytes name at len ∷ effects) = keeps_one effects
keeps_one (Begin key phase ∷ effects) = keeps_one effects
keeps_one (Go phase frames ∷ effects) = keeps_one effects
