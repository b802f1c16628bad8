-- A stream of frames, one behind another.
use Rattle.std.specs.Prelude.{◌≡◌, ℕ, zero, suc, ◌+◌, List, [], ◌∷◌, ◌++◌, length, take, drop, min, nat_lt, All, Option, Some, None, if◌then◌else◌}
use Rattle.std.specs.List.{flat_map}
use Rattle.cd_types.specs.Number.{number_in}
use Rattle.cd_frames.specs.declared.frame.FrameFault.{FrameFault}
use Rattle.cd_frames.specs.declared.frame.FrameFault.TheVariants as fault
use Rattle.cd_frames.specs.Frame.{frame_bytes, message_in, IsFrame}
use Rattle.cd_frames.specs.Message.{Message}

-- the bytes of these frames, joined
abbrev pub joined : List Message → List ℕ
joined messages = flat_map frame_bytes messages

-- a place of the stream as an u64 tells it: the greatest one for all that are beyond
unfoldable pub told : ℕ → ℕ
told place = min place 18446744073709551615

-- what stands at the front of the bytes
pub data Front : Type 0 where
  -- a frame, of so many bytes
  gives : Message → ℕ → Front
  -- what is no frame, however it goes on
  refuses : FrameFault → Front
  -- less than a whole frame
  waits : Front

-- what was found in so many bytes at this place, where it is a frame
abbrev pub judged : ℕ → ℕ → Option Message → Front
judged place size (Some m) = gives m size
judged place size None = refuses (fault.Bad (told place))

-- behind a length: one above 131,072 is refused; else so many bytes have to be there, and are a frame or not
abbrev pub behind_length : ℕ → Option (ℕ × List ℕ) → Front
behind_length place None = waits
behind_length place (Some found) =
    if nat_lt 131072 found.0 then refuses (fault.TooLong found.0)
    else if nat_lt (length found.1) found.0 then waits
    else judged place (4 + found.0) (message_in (take found.0 found.1))

-- the front of bytes that begin at this place of the stream
unfoldable pub front_of : ℕ → List ℕ → Front
front_of place bytes = behind_length place (number_in 4 bytes)

-- the fault that stands there, or none
abbrev pub fault_of : Front → Option FrameFault
fault_of (gives m size) = None
fault_of (refuses why) = Some why
fault_of waits = None

-- These are the frames of a stream, and the fault in the next place or none: the longest list of frames whose bytes, joined,
-- are a front of the stream.
pub record AreFramesOf (bytes : List ℕ) (messages : List Message) (why : Option FrameFault) : Type 0 where
  -- what stands behind them
  pub rest : List ℕ
  pub front : bytes ≡ joined messages ++ rest
  pub each : All IsFrame messages
  -- no frame's bytes begin there
  pub longest : (m : Message) (more : List ℕ) → IsFrame m → rest ≡ frame_bytes m ++ more → ⊥
  pub next : why ≡ fault_of (front_of (length (joined messages)) rest)

-- the frame at the front before those behind it
abbrev pub led_by : Front → (ℕ → List Message × Option FrameFault) → List Message × Option FrameFault
led_by (gives m size) more = (m ∷ (more size).0, (more size).1)
led_by (refuses why) more = ([], Some why)
led_by waits more = ([], None)

-- so many frames at most, and the fault behind the last; each frame has five bytes at least
abbrev pub frames_upto : ℕ → ℕ → List ℕ → List Message × Option FrameFault
frames_upto zero place bytes = ([], None)
frames_upto (suc n) place bytes = led_by (front_of place bytes) (λ size. frames_upto n (place + size) (drop size bytes))

-- the frames of a stream, and the fault in the next place or none
unfoldable pub frames_of : List ℕ → List Message × Option FrameFault
frames_of bytes = frames_upto (suc (length bytes)) 0 bytes
