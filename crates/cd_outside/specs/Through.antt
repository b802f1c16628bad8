-- What a write that goes through to the disk leaves.
use Rattle.std.specs.Prelude.{ℕ, ◌+◌, ◌≤◌, ◌≡◌, max, List, length, take, drop}
use Rattle.cd_outside.specs.Doubt.{settled}
use Rattle.cd_outside.specs.Disk.{DiskState}

-- a read gives these bytes, and a crash leaves them
pub record IsSettledAs (bytes : List ℕ) (state : DiskState) : Type 0 where
  pub seen : state.seen ≡ bytes
  pub doubt : state.doubt ≡ settled bytes

-- the old bytes with any n in the range from a place on: the same before and behind it, of a length between
pub record IsTorn (at n : ℕ) (old image : List ℕ) : Type 0 where
  pub front : take at image ≡ take at old
  pub back : drop (at + n) image ≡ drop (at + n) old
  pub no_shorter : length old ≤ length image
  pub no_longer : length image ≤ max (length old) (at + n)
