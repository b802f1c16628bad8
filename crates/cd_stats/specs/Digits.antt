-- The last digits of numbers.
use Rattle.std.specs.Prelude.{ℕ, ◌+◌, ◌/◌, ◌%◌, List, [], ◌∷◌}

abbrev pub digit : ℕ → ℕ
digit n = 48 + n % 10

abbrev pub three : ℕ → List ℕ
three n = digit (n / 100) ∷ digit (n / 10) ∷ digit n ∷ []

abbrev pub four : ℕ → List ℕ
four n = digit (n / 1000) ∷ digit (n / 100) ∷ digit (n / 10) ∷ digit n ∷ []

abbrev pub five : ℕ → List ℕ
five n = digit (n / 10000) ∷ digit (n / 1000) ∷ digit (n / 100) ∷ digit (n / 10) ∷ digit n ∷ []
