-- What is held of each name is sound: what a read gives, and what the last sync left, may be left by a crash.
use Rattle.std.specs.Prelude.{ℕ, ◌≤◌, List, length, Option, Some, None}
use Rattle.std.proofs.Props.{props}
use Rattle.cd_outside.specs.Shelf.{FileDoubt, IsFileImage}
use Rattle.cd_memory_state.specs.Held.{FileHeld, SlotHeld, held_under}

pub record IsSound (file : FileHeld) : Type 0 where
  pub image : IsFileImage file.doubt file.seen
  pub base_from : file.doubt.bytes.least ≤ length file.doubt.bytes.base
  pub base_to : length file.doubt.bytes.base ≤ file.doubt.bytes.greatest

abbrev pub AreSound : List SlotHeld → Type 0
AreSound slots = (name : List ℕ) → IsSound (held_under slots name)

-- which has one proof at most
pub IsFileImage-prop : (doubt : FileDoubt) (file : Option (List ℕ)) → IsProp (IsFileImage doubt file)
IsFileImage-prop doubt None = hlevel props
IsFileImage-prop doubt (Some bytes) = hlevel props

pub IsSound-prop : (file : FileHeld) → IsProp (IsSound file)
IsSound-prop file = hlevel (props, IsFileImage-prop file.doubt file.seen)

pub AreSound-prop : (slots : List SlotHeld) → IsProp (AreSound slots)
AreSound-prop slots = λ a b i name. IsSound-prop (held_under slots name) (a name) (b name) i
