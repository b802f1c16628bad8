-- How much room a call of files takes: the bytes of its name, and the bytes that it writes or by which it makes the file
-- longer, whichever are more.
use Rattle.std.specs.Prelude.{ℕ, ◌+◌, ◌-◌, max, List, length}

abbrev pub write_takes : List ℕ → ℕ → List ℕ → List ℕ → ℕ
write_takes name at bytes old = length name + max (length bytes) (at + length bytes - length old)

abbrev pub cut_takes : List ℕ → ℕ → List ℕ → ℕ
cut_takes name len old = length name + (len - length old)
