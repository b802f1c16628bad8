-- What is held of one name: its file, and what is in doubt of it.
use Rattle.std.specs.Prelude.{ℕ, ◌≡◌, ◌≤◌, List, [], false, Option, Some, None, reverse, length, if◌then◌else◌, vec_capacity}
use Rattle.cd_outside.specs.Doubt.{IsImage}
use Rattle.cd_outside.specs.Shelf.{FileDoubt}
use Rattle.cd_memory_state.specs.Held.{SlotHeld}
use Rattle.cd_memory_state.specs.declared.slot.Slot.TheInside.{Inside}

-- the file that a read gives
abbrev pub seen_in : Inside → Option (List ℕ)
seen_in a = if a.exists then Some a.seen.items else None

-- what is in doubt
abbrev pub doubt_in : Inside → FileDoubt
doubt_in a = record {
  there = a.there;
  moved = a.moved;
  bytes = record { base = a.base.items; ranges = reverse a.ranges.items; least = a.least; greatest = a.greatest };
}

abbrev pub slot_in : Inside → SlotHeld
slot_in a = record { name = a.name.items; file = record { seen = seen_in a; doubt = doubt_in a } }

pub record IsTidy (a : Inside) : Type 0 where
  -- what a read gives may be left by a crash, where a missing file counts as one without bytes
  pub image : IsImage (doubt_in a).bytes a.seen.items
  pub missing : a.exists ≡ false → a.seen.items ≡ []
  pub absent : a.there ≡ false → a.base.items ≡ []
  pub still : a.moved ≡ false → a.there ≡ a.exists
  -- what the last sync left is of a length between
  pub base_from : a.least ≤ length a.base.items
  pub base_to : length a.base.items ≤ a.greatest
  -- there is room for each content that a crash may leave
  pub seen_room : a.greatest ≤ vec_capacity a.seen
  pub base_room : a.greatest ≤ vec_capacity a.base
