-- What is still ahead in an input.
use Rattle.std.specs.Prelude.{◌≡◌, ℕ, List, [], ◌∷◌, Option, Some, None}

-- what is ahead begins with this byte, and then comes the later; or there is nothing
abbrev pub IsNextByte : List ℕ → Option ℕ → List ℕ → Type 0
IsNextByte ahead None later = ahead ≡ []
IsNextByte ahead (Some byte) later = ahead ≡ byte ∷ later
