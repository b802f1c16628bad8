-- Calls of one reader, in any number and order.
use Rattle.std.specs.Prelude.{◌≡◌, ℕ, List, [], ◌∷◌, ◌++◌, length, take, All}
use Rattle.cd_types.specs.Format.{IsBytes}
use Rattle.cd_frames.specs.Frame.{IsFrame}
use Rattle.cd_frames.specs.Message.{Message}
use Rattle.cd_frames.specs.Reading.{Reading, with_free, with_filled, front, after_step}
use Rattle.cd_frames.specs.Stream.{Front, gives, refuses, waits, joined, told}

-- the frame that a front gives, if it gives one
abbrev pub given_by : Front → List Message
given_by (gives m size) = m ∷ []
given_by (refuses why) = []
given_by waits = []

-- Run stream given r: the stream so far, what was given of it, and what the reader is then
pub data Run : List ℕ → List Message → Reading → Type 0 where
  -- it was made
  made : (r : Reading) → r.place ≡ 0 → r.rest ≡ [] → Run [] [] r
  -- room was lent, and got these bytes
  lent : {stream : List ℕ} {given : List Message} {r : Reading} (free : List ℕ) → Run stream given r → Run stream given (with_free r free)
  -- filled told how many of them came
  filled : {stream : List ℕ} {given : List Message} {r : Reading} (n : ℕ) → IsBytes (take n r.free) → Run stream given r → Run (stream ++ take n r.free) given (with_filled r n)
  -- the next frame was asked for
  stepped : {stream : List ℕ} {given : List Message} {r : Reading} → Run stream given r → Run stream (given ++ given_by (front r)) (after_step r)

-- of this stream these frames were given, and the reader holds the rest
pub record Stands (stream : List ℕ) (given : List Message) (r : Reading) : Type 0 where
  pub bytes : IsBytes stream
  pub whole : stream ≡ joined given ++ r.rest
  pub each : All IsFrame given
  pub place : r.place ≡ told (length (joined given))
