-- The bytes of a frame: the length of what follows in four bytes, a byte for the kind, and the fields of that kind in their order.
use Rattle.std.specs.Prelude.{ℕ, ◌≤◌, ◌<◌, ◌^◌, Bool, ◌&&◌, ◌||◌, List, [], ◌∷◌, ◌++◌, length, ◌==◌, nat_le, IsTrue, Option, Some, None, if◌then◌else◌, refl}
use Rattle.std.proofs.Common.{leb, arith}
use Rattle.std.proofs.lemmas.Bool.{leb-true}
use Rattle.cd_types.specs.Choices.{cause_code, is_kept}
use Rattle.cd_types.specs.FileName.{is_file_name}
use Rattle.cd_types.specs.Format.{◌>>=◌}
use Rattle.cd_types.specs.Key.{IsPlace}
use Rattle.cd_types.specs.Layout.{Layout, ◌⋆◌, optional, seen_as, tested, number, node_name, proc_no, key, file, text, cause, disp, task_kind}
use Rattle.cd_types.specs.Number.{number_bytes, number_in}
use Rattle.cd_types.specs.Rows.{outcomes}
use Rattle.cd_types.specs.Text.{ranged_in}
use Rattle.cd_types.specs.TextLaw.{both_true, ranged_law}
use Rattle.cd_types.specs.declared.choices.Cause.{Cause}
use Rattle.cd_types.specs.declared.choices.Disp.{Disp}
use Rattle.cd_types.specs.declared.choices.TaskKind.{TaskKind}
use Rattle.cd_types.specs.declared.key.Key.{Key}
use Rattle.cd_types.specs.declared.rows.Outcomes.{Outcomes}
use Rattle.cd_frames.specs.declared.frame.Hello.{Hello}
use Rattle.cd_frames.specs.declared.frame.RejectCause.{RejectCause}
use Rattle.cd_frames.specs.declared.frame.Welcome.{Welcome}
use Rattle.cd_frames.specs.Message as message
use Rattle.cd_frames.specs.Message.{Message}
use Rattle.cd_frames.specs.Reject.{reject_cause, IsSendable}
use Rattle.cd_frames.specs.Symbols.{is_symbols}
use Rattle.cd_frames.specs.Whole.{Whole, alone, before, nothing}

-- the most bytes of a file in one frame: 1 to 65,536
abbrev pub is_block : ℕ → Bool
is_block block = nat_le 1 block && nat_le block 65536

-- a command has 1 to 32,768 bytes
abbrev pub is_command : List ℕ → Bool
is_command command = nat_le 1 (length command) && nat_le (length command) 32768

-- the bytes of Data
abbrev pub is_piece : List ℕ → Bool
is_piece bytes = nat_le 1 (length bytes) && nat_le (length bytes) 65536

-- a step is given up with no source, a source that changed, a file too large, or trouble
unfoldable pub is_abort : Cause → Bool
is_abort why = cause_code why == 3 || cause_code why == 4 || cause_code why == 13 || cause_code why == 15

pub block_is_short : (block : ℕ) → IsTrue (is_block block) → block < 256 ^ 4
block_is_short block form =
    let tests = both_true (leb 1 block) (leb block 65536) form in
    omega (arith, leb-true _ _ tests.1)

abbrev pub block : Layout ℕ
block = record { Form = λ size. IsTrue (is_block size); spelled = number_bytes 4; found_in = ranged_in 4 is_block; law = ranged_law 4 is_block block_is_short }

-- the fields of each kind
abbrev pub hello_fields : Whole Hello
hello_fields =
    alone (seen_as (λ f. record { name = f.0; home = f.1.0; version = f.1.1.0; block = f.1.1.1 }) (λ h. (h.name, (h.home, (h.version, h.block)))) (λ _. refl) (λ _. refl) (node_name ⋆ number 8 ⋆ number 1 ⋆ block))

abbrev pub welcome_fields : Whole Welcome
welcome_fields =
    alone (seen_as (λ f. record { name = f.0; home = f.1.0; block = f.1.1 }) (λ w. (w.name, (w.home, w.block))) (λ _. refl) (λ _. refl) (node_name ⋆ number 8 ⋆ block))

abbrev pub reject_fields : Whole RejectCause
reject_fields = alone reject_cause

abbrev pub step_copy_to_fields : Whole (Key × (List ℕ × (Disp × (ℕ × ℕ))))
step_copy_to_fields = alone (key ⋆ file ⋆ disp ⋆ number 8 ⋆ number 8)

abbrev pub step_copy_from_fields : Whole (Key × (List ℕ × ℕ))
step_copy_from_fields = alone (key ⋆ file ⋆ number 8)

abbrev pub step_task_fields : Whole (Key × (TaskKind × List ℕ))
step_task_fields = alone (key ⋆ task_kind ⋆ tested is_command text)

abbrev pub step_submit_fields : Whole ((Key × (List ℕ × (Option (List ℕ) × ℕ))) × List ℕ)
step_submit_fields = before is_symbols (key ⋆ file ⋆ optional node_name ⋆ number 1)

-- of Ready, Length, Ack and End
abbrev pub key_and_number : Whole (Key × ℕ)
key_and_number = alone (key ⋆ number 8)

abbrev pub data_fields : Whole ((Key × ℕ) × List ℕ)
data_fields = before is_piece (key ⋆ number 8)

abbrev pub result_fields : Whole (Key × Outcomes)
result_fields = alone (key ⋆ outcomes)

abbrev pub abort_fields : Whole (Key × Cause)
abort_fields = alone (key ⋆ tested is_abort cause)

abbrev pub forget_fields : Whole (ℕ × ℕ)
forget_fields = alone (number 8 ⋆ proc_no)

-- each field is in its range
abbrev pub IsMessage : Message → Type 0
IsMessage (message.Hello greeting) = hello_fields.Form greeting
IsMessage (message.Welcome greeting) = welcome_fields.Form greeting
IsMessage (message.Reject why) = reject_fields.Form why
IsMessage (message.StepCopyTo step name end interval size) = step_copy_to_fields.Form (step, (name, (end, (interval, size))))
IsMessage (message.StepCopyFrom step name interval) = step_copy_from_fields.Form (step, (name, interval))
IsMessage (message.StepTask step kind command) = step_task_fields.Form (step, (kind, command))
IsMessage (message.StepSubmit step name snode prty symbols) = step_submit_fields.Form ((step, (name, (snode, prty))), symbols)
IsMessage (message.Ready step offset) = key_and_number.Form (step, offset)
IsMessage (message.Length step size) = key_and_number.Form (step, size)
IsMessage (message.Data step offset bytes) = data_fields.Form ((step, offset), bytes)
IsMessage (message.Ack step offset) = key_and_number.Form (step, offset)
IsMessage (message.End step size) = key_and_number.Form (step, size)
IsMessage (message.Result step ended) = result_fields.Form (step, ended)
IsMessage (message.Abort step why) = abort_fields.Form (step, why)
IsMessage (message.Forget home number) = forget_fields.Form (home, number)
IsMessage message.Bye = Unit {0}

-- the byte of its kind
abbrev pub code_of : Message → ℕ
code_of (message.Hello greeting) = 1
code_of (message.Welcome greeting) = 2
code_of (message.Reject why) = 3
code_of (message.StepCopyTo step name end interval size) = 4
code_of (message.StepCopyFrom step name interval) = 5
code_of (message.StepTask step kind command) = 6
code_of (message.StepSubmit step name snode prty symbols) = 7
code_of (message.Ready step offset) = 8
code_of (message.Length step size) = 9
code_of (message.Data step offset bytes) = 10
code_of (message.Ack step offset) = 11
code_of (message.End step size) = 12
code_of (message.Result step ended) = 13
code_of (message.Abort step why) = 14
code_of (message.Forget home number) = 15
code_of message.Bye = 16

-- the bytes of its fields
abbrev pub fields_of : Message → List ℕ
fields_of (message.Hello greeting) = hello_fields.spelled greeting
fields_of (message.Welcome greeting) = welcome_fields.spelled greeting
fields_of (message.Reject why) = reject_fields.spelled why
fields_of (message.StepCopyTo step name end interval size) = step_copy_to_fields.spelled (step, (name, (end, (interval, size))))
fields_of (message.StepCopyFrom step name interval) = step_copy_from_fields.spelled (step, (name, interval))
fields_of (message.StepTask step kind command) = step_task_fields.spelled (step, (kind, command))
fields_of (message.StepSubmit step name snode prty symbols) = step_submit_fields.spelled ((step, (name, (snode, prty))), symbols)
fields_of (message.Ready step offset) = key_and_number.spelled (step, offset)
fields_of (message.Length step size) = key_and_number.spelled (step, size)
fields_of (message.Data step offset bytes) = data_fields.spelled ((step, offset), bytes)
fields_of (message.Ack step offset) = key_and_number.spelled (step, offset)
fields_of (message.End step size) = key_and_number.spelled (step, size)
fields_of (message.Result step ended) = result_fields.spelled (step, ended)
fields_of (message.Abort step why) = abort_fields.spelled (step, why)
fields_of (message.Forget home number) = forget_fields.spelled (home, number)
fields_of message.Bye = []

-- all that stands behind the length
abbrev pub body_bytes : Message → List ℕ
body_bytes m = number_bytes 1 (code_of m) ++ fields_of m

unfoldable pub frame_bytes : Message → List ℕ
frame_bytes m = number_bytes 4 (length (body_bytes m)) ++ body_bytes m

-- a frame: each field is in its range, and at most 131,072 bytes stand behind the length
pub record IsFrame (m : Message) : Type 0 where
  pub fields : IsMessage m
  pub short : length (body_bytes m) ≤ 131072

-- what a caller has to know of a frame to write it: its fields whose type holds more than their range
abbrev pub IsWritable : Message → Type 0
IsWritable (message.Hello greeting) = IsTrue (is_block greeting.block)
IsWritable (message.Welcome greeting) = IsTrue (is_block greeting.block)
IsWritable (message.Reject why) = IsSendable why
IsWritable (message.StepCopyTo step name _ _ _) = IsPlace step.place × IsTrue (is_file_name name)
IsWritable (message.StepCopyFrom step name _) = IsPlace step.place × IsTrue (is_file_name name)
IsWritable (message.StepTask step _ command) = IsPlace step.place × IsTrue (is_command command)
IsWritable (message.StepSubmit step name _ _ symbols) = IsPlace step.place × IsTrue (is_file_name name) × IsTrue (is_symbols symbols)
IsWritable (message.Ready step _) = IsPlace step.place
IsWritable (message.Length step _) = IsPlace step.place
IsWritable (message.Data step _ bytes) = IsPlace step.place × IsTrue (is_piece bytes)
IsWritable (message.Ack step _) = IsPlace step.place
IsWritable (message.End step _) = IsPlace step.place
IsWritable (message.Result step ended) = IsPlace step.place × IsTrue (is_kept ended.cause)
IsWritable (message.Abort step why) = IsPlace step.place × IsTrue (is_abort why)
IsWritable (message.Forget _ _) = Unit {0}
IsWritable message.Bye = Unit {0}

-- no fields
abbrev pub no_fields : Whole (Unit {0})
no_fields = alone nothing

-- a message of these fields
abbrev pub read_as : {A : Type 0} → (A → Message) → Whole A → List ℕ → Option Message
read_as make fields bytes = do
  found ← fields.read bytes
  Some (make found)

unfoldable pub hello_of : List ℕ → Option Message
hello_of = read_as message.Hello hello_fields

unfoldable pub welcome_of : List ℕ → Option Message
welcome_of = read_as message.Welcome welcome_fields

unfoldable pub reject_of : List ℕ → Option Message
reject_of = read_as message.Reject reject_fields

unfoldable pub step_copy_to_of : List ℕ → Option Message
step_copy_to_of = read_as (λ f. message.StepCopyTo f.0 f.1.0 f.1.1.0 f.1.1.1.0 f.1.1.1.1) step_copy_to_fields

unfoldable pub step_copy_from_of : List ℕ → Option Message
step_copy_from_of = read_as (λ f. message.StepCopyFrom f.0 f.1.0 f.1.1) step_copy_from_fields

unfoldable pub step_task_of : List ℕ → Option Message
step_task_of = read_as (λ f. message.StepTask f.0 f.1.0 f.1.1) step_task_fields

unfoldable pub step_submit_of : List ℕ → Option Message
step_submit_of = read_as (λ f. message.StepSubmit f.0.0 f.0.1.0 f.0.1.1.0 f.0.1.1.1 f.1) step_submit_fields

unfoldable pub ready_of : List ℕ → Option Message
ready_of = read_as (λ f. message.Ready f.0 f.1) key_and_number

unfoldable pub length_of : List ℕ → Option Message
length_of = read_as (λ f. message.Length f.0 f.1) key_and_number

unfoldable pub data_of : List ℕ → Option Message
data_of = read_as (λ f. message.Data f.0.0 f.0.1 f.1) data_fields

unfoldable pub ack_of : List ℕ → Option Message
ack_of = read_as (λ f. message.Ack f.0 f.1) key_and_number

unfoldable pub end_of : List ℕ → Option Message
end_of = read_as (λ f. message.End f.0 f.1) key_and_number

unfoldable pub result_of : List ℕ → Option Message
result_of = read_as (λ f. message.Result f.0 f.1) result_fields

unfoldable pub abort_of : List ℕ → Option Message
abort_of = read_as (λ f. message.Abort f.0 f.1) abort_fields

unfoldable pub forget_of : List ℕ → Option Message
forget_of = read_as (λ f. message.Forget f.0 f.1) forget_fields

unfoldable pub bye_of : List ℕ → Option Message
bye_of = read_as (λ _. message.Bye) no_fields

-- each kind's byte, and how the bytes behind it are read
abbrev pub kinds : List (ℕ × (List ℕ → Option Message))
kinds =
    (1, hello_of) ∷ (2, welcome_of) ∷ (3, reject_of) ∷ (4, step_copy_to_of) ∷ (5, step_copy_from_of) ∷ (6, step_task_of) ∷ (7, step_submit_of) ∷ (8, ready_of) ∷ (9, length_of) ∷ (10, data_of) ∷ (11, ack_of) ∷ (12, end_of) ∷ (13, result_of) ∷ (14, abort_of) ∷ (15, forget_of) ∷ (16, bye_of) ∷ []

abbrev pub of_kind : List (ℕ × (List ℕ → Option Message)) → ℕ → List ℕ → Option Message
of_kind [] code bytes = None
of_kind (kind ∷ more) code bytes = if code == kind.0 then kind.1 bytes else of_kind more code bytes

-- the message that all of the bytes behind a length are
unfoldable pub message_in : List ℕ → Option Message
message_in bytes = do
  code ← number_in 1 bytes
  of_kind kinds code.0 code.1
