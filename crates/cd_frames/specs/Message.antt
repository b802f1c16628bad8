-- What a frame says, apart from where its bytes lie in memory.
use Rattle.std.specs.Prelude.{ℕ, List, Option}
use Rattle.cd_types.specs.declared.choices.Cause.{Cause}
use Rattle.cd_types.specs.declared.choices.Disp.{Disp}
use Rattle.cd_types.specs.declared.choices.TaskKind.{TaskKind}
use Rattle.cd_types.specs.declared.key.Key.{Key}
use Rattle.cd_types.specs.declared.rows.Outcomes.{Outcomes}
use Rattle.cd_frames.specs.declared.frame.Frame.{Frame}
use Rattle.cd_frames.specs.declared.frame.Frame.TheVariants as frame
use Rattle.cd_frames.specs.declared.frame.Hello as hello
use Rattle.cd_frames.specs.declared.frame.RejectCause.{RejectCause}
use Rattle.cd_frames.specs.declared.frame.Welcome as welcome

-- the kinds of frames with their fields; names and texts are lists of bytes
pub data Message : Type 0 where
  Hello : hello.Hello → Message
  Welcome : welcome.Welcome → Message
  Reject : RejectCause → Message
  -- key, destination, what becomes of it, bytes between two marks, length
  StepCopyTo : Key → List ℕ → Disp → ℕ → ℕ → Message
  -- key, source, bytes between two marks
  StepCopyFrom : Key → List ℕ → ℕ → Message
  -- key, kind, command
  StepTask : Key → TaskKind → List ℕ → Message
  -- key, file, partner, priority, the bytes of the symbols from their count on
  StepSubmit : Key → List ℕ → Option (List ℕ) → ℕ → List ℕ → Message
  Ready : Key → ℕ → Message
  Length : Key → ℕ → Message
  Data : Key → ℕ → List ℕ → Message
  Ack : Key → ℕ → Message
  End : Key → ℕ → Message
  Result : Key → Outcomes → Message
  Abort : Key → Cause → Message
  Forget : ℕ → ℕ → Message
  Bye : Message

abbrev pub message_of : Frame → Message
message_of (frame.Hello greeting) = Hello greeting
message_of (frame.Welcome greeting) = Welcome greeting
message_of (frame.Reject cause) = Reject cause
message_of (frame.StepCopyTo key name disp interval size) = StepCopyTo key name.now disp interval size
message_of (frame.StepCopyFrom key name interval) = StepCopyFrom key name.now interval
message_of (frame.StepTask key kind command) = StepTask key kind command.now
message_of (frame.StepSubmit key name snode prty symbols) = StepSubmit key name.now snode prty symbols.now
message_of (frame.Ready key offset) = Ready key offset
message_of (frame.Length key size) = Length key size
message_of (frame.Data key offset bytes) = Data key offset bytes.now
message_of (frame.Ack key offset) = Ack key offset
message_of (frame.End key size) = End key size
message_of (frame.Result key outcomes) = Result key outcomes
message_of (frame.Abort key cause) = Abort key cause
message_of (frame.Forget home number) = Forget home number
message_of frame.Bye = Bye
