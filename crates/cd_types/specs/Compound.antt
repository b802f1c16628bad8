-- Fields that are made of others.
use Rattle.std.specs.Prelude.{ℕ, ◌++◌, List, [], ◌∷◌, Bool, true, false, Option, Some, None, if◌then◌else◌, slice_get}
use Rattle.cd_types.specs.Format.{◌>>=◌, found_as}
use Rattle.cd_types.specs.Number.{number_in, number_bytes}

-- one field, and another one behind it
abbrev pub both_bytes : {A B : Type 0} → (A → List ℕ) → (B → List ℕ) → A × B → List ℕ
both_bytes first second x = first x.0 ++ second x.1

abbrev pub both_in : {A B : Type 0} → (List ℕ → Option (A × List ℕ)) → (List ℕ → Option (B × List ℕ)) → List ℕ → Option ((A × B) × List ℕ)
both_in first second bytes = do
  x ← first bytes
  y ← second x.1
  Some ((x.0, y.0), y.1)

abbrev pub AreBoth : {A B : Type 0} → (A → Type 0) → (B → Type 0) → A × B → Type 0
AreBoth First Second x = First x.0 × Second x.1

-- a field whose values are seen as those of another type, where they stand for any
abbrev pub seen_in : {A B : Type 0} → (A → Option B) → (List ℕ → Option (A × List ℕ)) → List ℕ → Option (B × List ℕ)
seen_in seen field bytes = do
  x ← field bytes
  y ← seen x.0
  Some (y, x.1)

-- a field whose values pass a test
abbrev pub tested_in : {A : Type 0} → (A → Bool) → (List ℕ → Option (A × List ℕ)) → List ℕ → Option (A × List ℕ)
tested_in test field bytes = do
  x ← field bytes
  if test x.0 then Some x else None

-- one byte, which is the place of the value in a list of all values
unfoldable pub choice_in : {A : Type 0} → List A → List ℕ → Option (A × List ℕ)
choice_in values = seen_in (slice_get values) (number_in 1)

-- no and yes, and their bytes
abbrev pub flags : List Bool
flags = false ∷ true ∷ []

abbrev pub flag : Bool → ℕ
flag false = 0
flag true = 1

-- a byte 0, or a byte 1 and the field
abbrev pub optional_bytes : {A : Type 0} → (A → List ℕ) → Option A → List ℕ
optional_bytes field None = number_bytes 1 0
optional_bytes field (Some x) = number_bytes 1 1 ++ field x

unfoldable pub optional_in : {A : Type 0} → (List ℕ → Option (A × List ℕ)) → List ℕ → Option (Option A × List ℕ)
optional_in field bytes = do
  there ← choice_in flags bytes
  if there.0 then found_as Some (field there.1) else Some (None, there.1)

abbrev pub IsOptional : {A : Type 0} → (A → Type 0) → Option A → Type 0
IsOptional Form None = Unit {0}
IsOptional Form (Some x) = Form x

-- fields one behind another, seen as a value that is made of them
abbrev pub made_in : {A B : Type 0} → (A → B) → (List ℕ → Option (A × List ℕ)) → List ℕ → Option (B × List ℕ)
made_in make = seen_in (λ x. Some (make x))
