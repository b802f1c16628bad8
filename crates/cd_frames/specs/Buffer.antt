-- How a reader keeps its bytes: in one buffer, the frame that was passed last, the rest behind it, and the free part behind that.
use Rattle.std.specs.Prelude.{◌≡◌, ℕ, ◌+◌, ◌-◌, ◌≤◌, List, take, drop, vec_len, Option}
use Rattle.cd_types.specs.Format.{◌>>=◌}
use Rattle.cd_types.specs.Number.{number_in}
use Rattle.cd_frames.specs.Frame.{message_in}
use Rattle.cd_frames.specs.Message.{Message}
use Rattle.cd_frames.specs.Reading.{Reading}
use Rattle.cd_frames.specs.declared.reader.Reader.TheInside.{Inside}

-- the bytes from one place to another
abbrev pub between : ℕ → ℕ → List ℕ → List ℕ
between from end bytes = take (end - from) (drop from bytes)

-- the frame that all of the bytes are, its length among them
unfoldable pub given_in : List ℕ → Option Message
given_in bytes = do
  len ← number_in 4 bytes
  message_in len.1

abbrev pub reading : Inside → Reading
reading r = record {
  place = r.place;
  given = given_in (between r.last r.start r.buffer.items);
  rest = between r.start r.end r.buffer.items;
  free = drop r.end r.buffer.items;
}

pub record IsBuffer (r : Inside) : Type 0 where
  pub passed : r.last ≤ r.start
  pub short : r.start ≤ r.last + 131076
  pub order : r.start ≤ r.end
  pub within : r.end ≤ vec_len r.buffer
  pub size : vec_len r.buffer ≡ 262152
