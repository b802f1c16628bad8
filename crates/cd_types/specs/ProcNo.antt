-- Process numbers.
use Rattle.std.specs.Prelude.{ℕ, Bool, ◌&&◌, nat_le, IsTrue, Option, Some, None, if◌then◌else◌}

-- 1 to 99,999
abbrev pub is_proc_no : ℕ → Bool
is_proc_no n = nat_le 1 n && nat_le n 99999

abbrev pub IsProcNo : ℕ → Type 0
IsProcNo n = IsTrue (is_proc_no n)

-- the number that this is
abbrev pub proc_no_of : ℕ → Option ℕ
proc_no_of n = if is_proc_no n then Some n else None
