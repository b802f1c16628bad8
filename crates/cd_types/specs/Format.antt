-- What a field of a format is: a spelling for each of its values, and a reading that undoes it.
use Rattle.std.specs.Prelude.{◌≡◌, ℕ, ◌<◌, ◌-◌, ◌++◌, List, length, slice_index, Option, Some, None}

infixl 10 ◌>>=◌
-- go on with what was found
abbrev pub ◌>>=◌ : {A B : Type 0} → Option A → (A → Option B) → Option B
None >>= f = None
(Some x) >>= f = f x

-- what was found, made into another value
abbrev pub found_as : {A B : Type 0} → (A → B) → Option (A × List ℕ) → Option (B × List ℕ)
found_as f None = None
found_as f (Some found) = Some (f found.0, found.1)

-- what was found at the front of the bytes, with the number of bytes that it has
abbrev pub counted : {A : Type 0} → List ℕ → Option (A × List ℕ) → Option (A × ℕ)
counted bytes None = None
counted bytes (Some found) = Some (found.0, length bytes - length found.1)

-- each item is a byte
abbrev pub IsBytes : List ℕ → Type 0
IsBytes bytes = (i : ℕ) → slice_index bytes i < 256

-- The law of a field. Form says which values have a spelling.
pub record IsFormat {A : Type 0} (Form : A → Type 0) (spelled : A → List ℕ) (found_in : List ℕ → Option (A × List ℕ)) : Type 0 where
  -- what is spelled is found again, whatever follows it
  pub again : (x : A) (rest : List ℕ) → Form x → found_in (spelled x ++ rest) ≡ Some (x, rest)
  -- nothing else is found
  pub only : (bytes : List ℕ) (x : A) (rest : List ℕ) → IsBytes bytes → found_in bytes ≡ Some (x, rest) → (bytes ≡ spelled x ++ rest) × Form x
