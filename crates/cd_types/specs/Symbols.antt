-- Symbolic names with their values.
use Rattle.std.specs.Prelude.{ℕ, List, [], ◌∷◌, map, Option, Some, None, if◌then◌else◌}
use Rattle.std.specs.Char.{to_ascii_uppercase}
use Rattle.std.specs.Str.{bytes_eq}

-- a name, in upper case
abbrev pub upper_case : List ℕ → List ℕ
upper_case name = map to_ascii_uppercase name

-- the pairs with a value for this name: a name that has one keeps its place, and a new one goes last
abbrev pub with_symbol : List (List ℕ × List ℕ) → List ℕ → List ℕ → List (List ℕ × List ℕ)
with_symbol [] name value = (name, value) ∷ []
with_symbol (pair ∷ pairs) name value = if bytes_eq name pair.0 then (pair.0, value) ∷ pairs else pair ∷ with_symbol pairs name value

-- the value of this name
abbrev pub symbol_value : List (List ℕ × List ℕ) → List ℕ → Option (List ℕ)
symbol_value [] name = None
symbol_value (pair ∷ pairs) name = if bytes_eq name pair.0 then Some pair.1 else symbol_value pairs name
