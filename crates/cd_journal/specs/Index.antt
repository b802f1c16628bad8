-- What an index of places tells of a journal's bytes.
use Rattle.std.specs.Prelude.{◌≢◌, ℕ, ◌+◌, ◌<◌, ◌≤◌, ◌^◌, List, length, take, drop, map, All, slice_index}
use Rattle.cd_journal.specs.Bytes.{IsFront}
use Rattle.cd_journal.specs.declared.place.Place.{Place}

-- the bytes at a place
abbrev pub body_in : List ℕ → Place → List ℕ
body_in bytes place = take place.len (drop place.at bytes)

-- the bytes at each of these places
abbrev pub bodies_in : List ℕ → List Place → List (List ℕ)
bodies_in bytes places = map (body_in bytes) places

-- each of these places ends before this one, which has 32 bits, and there are no more of them than bytes before it
pub record IsBelow (places : List Place) (end : ℕ) : Type 0 where
  pub ends : All (λ place. place.at + place.len ≤ end) places
  pub fewer : length places ≤ end
  pub small : end < 2 ^ 32

-- up to a place the bytes are the header and entries, with their bodies at these places
pub record IsIndexed (bytes : List ℕ) (places : List Place) (end : ℕ) : Type 0 where
  pub front : IsFront (take end bytes) (bodies_in bytes places)
  pub inside : end ≤ length bytes

-- and there a closed gate ends the list
pub record IsClosed (bytes : List ℕ) (places : List Place) (end : ℕ) : Type 0 where
  pub front : IsFront (take end bytes) (bodies_in bytes places)
  pub inside : end < length bytes
  pub closed : slice_index bytes end ≢ 1
