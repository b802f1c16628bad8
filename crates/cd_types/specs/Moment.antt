-- Moments.
use Rattle.std.specs.Prelude.{ℕ, ◌<◌, Bool, nat_lt}

-- a number of seconds that is a moment
abbrev pub is_moment : ℕ → Bool
is_moment seconds = nat_lt seconds 250000000000

abbrev pub IsMoment : ℕ → Type 0
IsMoment seconds = seconds < 250000000000
