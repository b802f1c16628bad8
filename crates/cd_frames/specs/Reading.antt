-- What a reader of a stream of frames is, between its calls.
use Rattle.std.specs.Prelude.{ℕ, Bool, true, false, ◌+◌, List, ◌++◌, length, take, drop, Option, Some, None, Result, Ok, Err}
use Rattle.cd_frames.specs.Message.{Message, message_of}
use Rattle.cd_frames.specs.Stream.{Front, gives, refuses, waits, front_of, told}
use Rattle.cd_frames.specs.declared.frame.Frame.{Frame}
use Rattle.cd_frames.specs.declared.frame.FrameFault.{FrameFault}

pub record Reading : Type 0 where
  -- where in the stream the rest begins, as an u64 tells it
  pub place : ℕ
  -- the frame that was passed last, as long as the buffer keeps it
  pub given : Option Message
  -- the bytes that came, from the first frame on that wasn't passed
  pub rest : List ℕ
  -- the bytes in the free part of the buffer
  pub free : List ℕ

-- these bytes, with others written over their front
abbrev pub overwritten : List ℕ → List ℕ → List ℕ
overwritten bytes over = take (length bytes) (over ++ drop (length over) bytes)

-- the free part is this, and the last frame is kept no longer
abbrev pub with_free : Reading → List ℕ → Reading
with_free r bytes = record { place = r.place; given = None; rest = r.rest; free = bytes }

-- the first n bytes of the free part have come
abbrev pub with_filled : Reading → ℕ → Reading
with_filled r n = record { place = r.place; given = r.given; rest = r.rest ++ take n r.free; free = drop n r.free }

-- what stands at its front
abbrev pub front : Reading → Front
front r = front_of r.place r.rest

-- a frame at the front is passed, and the reader goes on behind it; else it stays where it is
abbrev pub gone_past : Reading → Front → Reading
gone_past r (gives m size) = record { place = told (r.place + size); given = Some m; rest = drop size r.rest; free = r.free }
gone_past r (refuses why) = record { place = r.place; given = None; rest = r.rest; free = r.free }
gone_past r waits = record { place = r.place; given = None; rest = r.rest; free = r.free }

abbrev pub after_step : Reading → Reading
after_step r = gone_past r (front r)

-- whether a frame stands at the front, or the fault
abbrev pub step_answer : Front → Result Bool FrameFault
step_answer (gives m size) = Ok true
step_answer (refuses why) = Err why
step_answer waits = Ok false

-- the frame at the front, none, or the fault
abbrev pub next_answer : Front → Result (Option Message) FrameFault
next_answer (gives m size) = Ok (Some m)
next_answer (refuses why) = Err why
next_answer waits = Ok None

-- an answer, apart from where its bytes lie
abbrev pub answer_of : Result (Option Frame) FrameFault → Result (Option Message) FrameFault
answer_of (Ok (Some frame)) = Ok (Some (message_of frame))
answer_of (Ok None) = Ok None
answer_of (Err why) = Err why

-- the same with the number of bytes of the frame
abbrev pub sized_answer_to : Front → Result (Option (Message × ℕ)) FrameFault
sized_answer_to (gives m size) = Ok (Some (m, size))
sized_answer_to (refuses why) = Err why
sized_answer_to waits = Ok None

abbrev pub sized_answer_of : Result (Option (Frame × ℕ)) FrameFault → Result (Option (Message × ℕ)) FrameFault
sized_answer_of (Ok (Some found)) = Ok (Some (message_of found.0, found.1))
sized_answer_of (Ok None) = Ok None
sized_answer_of (Err why) = Err why
