-- The names of slots, and of those that have a file.
use Rattle.std.specs.Prelude.{ℕ, List, [], ◌∷◌, is_some, if◌then◌else◌, map}
use Rattle.cd_memory_state.specs.Held.{SlotHeld}

abbrev pub names_of : List SlotHeld → List (List ℕ)
names_of slots = map (λ slot. slot.name) slots

abbrev pub names_there : List SlotHeld → List (List ℕ)
names_there [] = []
names_there (slot ∷ slots) = if is_some slot.file.seen then slot.name ∷ names_there slots else names_there slots
