-- The first code that a step ended with.
use Rattle.std.specs.Prelude.{ℕ, ◌==◌, Option, Some, None, if◌then◌else◌}

-- the code that was there before, else that of a further step where it is at the place
abbrev pub or_code : Option ℕ → ℕ → ℕ → ℕ → Option ℕ
or_code (Some code) place own rc = Some code
or_code None place own rc = if own == place then Some rc else None
