-- Byte strings that lie one behind the other in one buffer.
use Rattle.std.specs.Prelude.{ℕ, ◌+◌, List, [], ◌∷◌, take, drop}

-- the byte strings of these sizes
abbrev pub cut_up : List ℕ → List ℕ → List (List ℕ)
cut_up [] bytes = []
cut_up (size ∷ sizes) bytes = take size bytes ∷ cut_up sizes (drop size bytes)

-- how many bytes they have together
abbrev pub extent : List ℕ → ℕ
extent [] = 0
extent (size ∷ sizes) = size + extent sizes

-- the byte strings, and for how many more there is room, with how many bytes in all
pub record PartsHeld : Type 0 where
  pub items : List (List ℕ)
  pub parts_left : ℕ
  pub bytes_left : ℕ
