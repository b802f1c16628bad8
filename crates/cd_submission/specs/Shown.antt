-- What the files show of a file in which a Process stands.
use Rattle.std.specs.Prelude.{◌≡◌, ◌⊎◌, ℕ, List, length, nat_lt, if◌then◌else◌, Option, Some, None}
use Rattle.cd_grammar.specs.Faults.{longest_text}
use Rattle.cd_submission.specs.declared.file.Shown.{Shown}
use Rattle.cd_submission.specs.declared.file.Shown.TheVariants.{Missing, Failed, Long, Text}

-- A file with these bytes shows them, or where they are more than the text of a Process may have how many they are. No file shows
-- that it is missing.
abbrev pub show : Option (List ℕ) → Shown
show None = Missing
show (Some text) = if nat_lt longest_text (length text) then Long (length text) else Text text

-- this was shown of what a file holds, or the files failed
abbrev pub IsShown : Option (List ℕ) → Shown → Type 0
IsShown held shown = (shown ≡ Failed) ⊎ (shown ≡ show held)
