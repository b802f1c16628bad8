-- How the fields of a content hold the state of its record.
use Rattle.std.specs.Prelude.{◌-◌, ◌≤◌, ◌≡◌, min, length, take, drop, reverse, vec_len, vec_capacity}
use Rattle.cd_outside.specs.Disk.{DiskState}
use Rattle.cd_memory_state.specs.Record.{at_first, replayed, used_by, Held}
use Rattle.cd_memory_state.specs.declared.content.Content.TheInside.{Inside}

-- the state of the record
abbrev pub state_in : Inside → DiskState
state_in a = replayed a.entries.items (drop a.first a.kept.items) (at_first (take a.first a.kept.items))

-- the state and the room
abbrev pub held_in : Inside → Held
held_in a = record {
  state = state_in a;
  calls_left = min (vec_capacity a.entries - vec_len a.entries) (vec_capacity a.ranges - vec_len a.ranges);
  bytes_left = min (vec_capacity a.kept - vec_len a.kept) (min (vec_capacity a.seen - a.greatest) (vec_capacity a.base - a.greatest));
}

pub record IsTied (a : Inside) : Type 0 where
  -- the fields are the parts of the state
  pub seen : (state_in a).seen ≡ a.seen.items
  pub base : (state_in a).doubt.base ≡ a.base.items
  pub ranges : (state_in a).doubt.ranges ≡ reverse a.ranges.items
  pub least : (state_in a).doubt.least ≡ a.least
  pub greatest : (state_in a).doubt.greatest ≡ a.greatest
  -- what a read gives, and what the last sync left, are of a length between
  pub seen_from : a.least ≤ length a.seen.items
  pub seen_to : length a.seen.items ≤ a.greatest
  pub base_from : a.least ≤ length a.base.items
  pub base_to : length a.base.items ≤ a.greatest
  -- the entries have all the kept bytes behind the first
  pub first : a.first ≤ length a.kept.items
  pub used : used_by a.entries.items ≡ length a.kept.items - a.first
  -- there is room for each content that a crash may leave
  pub kept_room : a.greatest ≤ length a.kept.items
  pub seen_room : a.greatest ≤ vec_capacity a.seen
  pub base_room : a.greatest ≤ vec_capacity a.base
