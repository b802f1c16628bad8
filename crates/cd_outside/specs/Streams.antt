-- Bytes that come and go.
use Rattle.std.specs.Prelude.{ℕ, ◌-◌, ◌≡◌, List, ◌++◌, length, take}

-- a front of the bytes was added
abbrev pub TookFront : List ℕ → List ℕ → List ℕ → Type 0
TookFront before bytes now = now ≡ before ++ take (length now - length before) bytes
