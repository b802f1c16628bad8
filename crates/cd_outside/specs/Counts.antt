-- Numbers that count up to the greatest u64 and stay there: beats, and counts of faults.
use Rattle.std.specs.Prelude.{ℕ, ◌+◌, ◌≤◌, min}

-- the number after n
abbrev pub next : ℕ → ℕ
next n = min (n + 1) 18446744073709551615

-- a count rose, or stands at the greatest u64
abbrev pub Rose : ℕ → ℕ → Type 0
Rose before now = next before ≤ now
