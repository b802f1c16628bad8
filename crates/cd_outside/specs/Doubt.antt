-- What a crash may leave of bytes that were changed since their last sync.
use Rattle.std.specs.Prelude.{ℕ, ◌+◌, ◌<◌, ◌≤◌, ◌≡◌, ◌⊎◌, List, [], ◌∷◌, length, slice_index}

-- the bytes at the last sync; the place and length of each write since, the newest first; the least and the greatest
-- length since
pub record Doubt : Type 0 where
  pub base : List ℕ
  pub ranges : List (ℕ × ℕ)
  pub least : ℕ
  pub greatest : ℕ

-- nothing is in doubt: a crash leaves these bytes
abbrev pub settled : List ℕ → Doubt
settled bytes = record { base = bytes; ranges = []; least = length bytes; greatest = length bytes }

-- none of these ranges holds the place
abbrev pub IsOutside : List (ℕ × ℕ) → ℕ → Type 0
IsOutside [] place = Unit {0}
IsOutside (range ∷ ranges) place = ((place < range.0) ⊎ (range.0 + range.1 ≤ place)) × IsOutside ranges place

-- A crash may leave this: its length is between the least and the greatest, and below the least length each byte
-- outside the ranges is that of the last sync.
pub record IsImage (doubt : Doubt) (image : List ℕ) : Type 0 where
  pub no_shorter : doubt.least ≤ length image
  pub no_longer : length image ≤ doubt.greatest
  pub kept : (place : ℕ) → place < doubt.least → IsOutside doubt.ranges place → slice_index image place ≡ slice_index doubt.base place
