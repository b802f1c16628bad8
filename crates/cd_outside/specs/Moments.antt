-- What a crash may leave at the beats of a run of calls.
use Rattle.std.specs.Prelude.{ℕ, ◌<◌, ◌≤◌}

-- A device told the images of each beat before a run of calls, and tells them now. The images of the beats up to the one
-- that was handed in are as they were, and at each later beat, and now, each image has P.
pub record Moments {Image : Type 0} (before now : ℕ → Image → Type 0) (from : ℕ) (P : Image → Type 0) : Type 0 where
  pub earlier : (beat : ℕ) (image : Image) → beat ≤ from → now beat image → before beat image
  pub still : (beat : ℕ) (image : Image) → beat ≤ from → before beat image → now beat image
  pub later : (beat : ℕ) (image : Image) → from < beat → now beat image → P image
