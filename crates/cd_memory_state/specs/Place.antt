-- Where a name stands in a list of slots.
use Rattle.std.specs.Prelude.{ℕ, ◌≡◌, true, false, List, [], ◌∷◌, zero, suc}
use Rattle.std.specs.Str.{bytes_eq}
use Rattle.cd_memory_state.specs.Held.{SlotHeld}

-- the first slot with the name has this place
abbrev pub IsPlace : List SlotHeld → List ℕ → ℕ → Type 0
IsPlace [] name i = ⊥
IsPlace (slot ∷ slots) name zero = bytes_eq slot.name name ≡ true
IsPlace (slot ∷ slots) name (suc i) = (bytes_eq slot.name name ≡ false) × IsPlace slots name i
