-- Names in the order of their bytes.
use Rattle.std.specs.Prelude.{◌≡◌, ℕ, ◌+◌, zero, suc, List, [], ◌∷◌, Bool, true, false, ◌&&◌, ◌||◌, ◌==◌, nat_lt, is_some, if◌then◌else◌}
use Rattle.std.specs.Str.{bytes_eq}
use Rattle.cd_outside.specs.Shelf.{FileMap}

-- a name comes before another
abbrev pub is_before : List ℕ → List ℕ → Bool
is_before [] [] = false
is_before [] (b ∷ others) = true
is_before (a ∷ bytes) [] = false
is_before (a ∷ bytes) (b ∷ others) = if a == b then is_before bytes others else nat_lt a b

-- and before each of these
abbrev pub is_before_all : List ℕ → List (List ℕ) → Bool
is_before_all name [] = true
is_before_all name (other ∷ others) = is_before name other && is_before_all name others

-- each comes before those behind it
abbrev pub are_ascending : List (List ℕ) → Bool
are_ascending [] = true
are_ascending (name ∷ names) = is_before_all name names && are_ascending names

-- one of these is the name
abbrev pub has_name : List (List ℕ) → List ℕ → Bool
has_name [] name = false
has_name (one ∷ names) name = bytes_eq one name || has_name names name

-- these are the names that have a file, in their order, and none of them twice
pub record AreNames (names : List (List ℕ)) (files : FileMap) : Type 0 where
  pub ascending : are_ascending names ≡ true
  pub each : (name : List ℕ) → has_name names name ≡ is_some (files name)

-- where a name goes: before the first that it comes before
abbrev pub gap_from : List ℕ → ℕ → List (List ℕ) → ℕ
gap_from name i [] = i
gap_from name i (one ∷ names) = if is_before name one then i else gap_from name (i + 1) names

-- the first of the names that is this one has this place
abbrev pub IsAt : List (List ℕ) → List ℕ → ℕ → Type 0
IsAt [] name i = ⊥
IsAt (one ∷ names) name zero = bytes_eq one name ≡ true
IsAt (one ∷ names) name (suc i) = (bytes_eq one name ≡ false) × IsAt names name i
