-- What a change makes of bytes.
use Rattle.std.specs.Prelude.{ℕ, ◌+◌, ◌-◌, List, ◌++◌, length, take, drop, replicate}

-- the bytes cut to a length, or made longer by zeros
abbrev pub resized : ℕ → List ℕ → List ℕ
resized len old = take len old ++ replicate (len - length old) 0

-- the bytes with others written over them from a place on; between the old end and a later place stand zeros
abbrev pub overwritten : ℕ → List ℕ → List ℕ → List ℕ
overwritten at bytes old = resized at old ++ bytes ++ drop (at + length bytes) old
