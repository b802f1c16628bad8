-- The law of messages: what is spelled is read, and nothing else is.
use Rattle.std.proofs.Common.{◌≡◌, ℕ, ◌<◌, Bool, true, false, cond, List, [], ◌∷◌, ◌++◌, Option, Some, refl, sym, ap, subst, ◌∙◌, arith}
use Rattle.std.specs.Prelude.{◌==◌, length, IsTrue}
use Rattle.std.proofs.Common.{leb}
use Rattle.std.proofs.lemmas.Bool.{eqb-true, leb-true, lt-ltb}
use Rattle.cd_types.specs.FileName.{is_text}
use Rattle.cd_types.specs.Format.{IsBytes}
use Rattle.cd_types.specs.CompoundLaw.{IsBytes-after}
use Rattle.cd_types.specs.Number.{number_bytes, number_in}
use Rattle.cd_types.specs.NumberLaw.{number_law}
use Rattle.cd_types.specs.TextLaw.{bind_some, both_true}
use Rattle.cd_frames.specs.Frame.{hello_fields, welcome_fields, reject_fields, step_copy_to_fields, step_copy_from_fields, step_task_fields, step_submit_fields, key_and_number, data_fields, result_fields, abort_fields, forget_fields, no_fields, IsMessage, code_of, fields_of, body_bytes, read_as, hello_of, welcome_of, reject_of, step_copy_to_of, step_copy_from_of, step_task_of, step_submit_of, ready_of, length_of, data_of, ack_of, end_of, result_of, abort_of, forget_of, bye_of, kinds, of_kind, message_in, is_command, IsWritable}
use Rattle.cd_frames.specs.Message as message
use Rattle.cd_frames.specs.Message.{Message}
use Rattle.cd_frames.specs.Reject.{IsSent, IsSendable}
use Rattle.cd_frames.specs.declared.frame.RejectCause.{RejectCause}
use Rattle.cd_frames.specs.declared.frame.RejectCause.TheVariants as reject
use Rattle.cd_frames.specs.Whole.{Whole}

some_same : {A : Type 0} (x y : A) → Some x ≡ Some y → x ≡ y
some_same x y e = cc

module _ {A : Type 0} (make : A → Message) (fields : Whole A) where
  -- the fields of a message are read again
  as_again : (x : A) → fields.Form x → read_as make fields (fields.spelled x) ≡ Some (make x)
  as_again x form =
      let read : fields.read (fields.spelled x) ≡ Some x = fields.again x form in
      rw read refl

  -- a kind is read from its own bytes alone
  as_only : (code : ℕ) → ((x : A) → body_bytes (make x) ≡ number_bytes 1 code ++ fields.spelled x) → ((x : A) → fields.Form x → IsMessage (make x))
      → (bytes : List ℕ) (m : Message) → IsBytes bytes → read_as make fields bytes ≡ Some m → (number_bytes 1 code ++ bytes ≡ body_bytes m) × IsMessage m
  as_only code spelled form bytes m fit is =
      let found = bind_some (fields.read bytes) _ m is in
      let read = fields.only bytes found.0 fit found.1 in
      let made : number_bytes 1 code ++ bytes ≡ body_bytes (make found.0) = ap (λ (rest : List ℕ). number_bytes 1 code ++ rest) read.0 ∙ sym (spelled found.0) in
      subst (λ (x : Message). (number_bytes 1 code ++ bytes ≡ body_bytes x) × IsMessage x) (some_same (make found.0) m found.2) (made, form found.0 read.1)

-- what is read as a kind has its byte before it
abbrev IsKind : ℕ × (List ℕ → Option Message) → Type 0
IsKind kind = (bytes : List ℕ) (m : Message) → IsBytes bytes → kind.1 bytes ≡ Some m → (number_bytes 1 kind.0 ++ bytes ≡ body_bytes m) × IsMessage m

abbrev AreKinds : List (ℕ × (List ℕ → Option Message)) → Type 0
AreKinds [] = Unit {0}
AreKinds (kind ∷ more) = IsKind kind × AreKinds more

of_kind_only : (table : List (ℕ × (List ℕ → Option Message))) (code : ℕ) (bytes : List ℕ) (m : Message) → AreKinds table → IsBytes bytes
    → of_kind table code bytes ≡ Some m → (number_bytes 1 code ++ bytes ≡ body_bytes m) × IsMessage m
of_kind_only [] code bytes m each fit is = absurd cc
of_kind_only (kind ∷ more) code bytes m each fit is = by_test (code == kind.0) refl (of_kind_only more code bytes m each.1 fit) is
  where
    by_test : (b : Bool) → (code == kind.0) ≡ b → (of_kind more code bytes ≡ Some m → (number_bytes 1 code ++ bytes ≡ body_bytes m) × IsMessage m) → cond b (kind.1 bytes) (of_kind more code bytes) ≡ Some m → (number_bytes 1 code ++ bytes ≡ body_bytes m) × IsMessage m
    by_test true test others is = subst (λ (n : ℕ). (number_bytes 1 n ++ bytes ≡ body_bytes m) × IsMessage m) (sym (eqb-true code kind.0 test)) (each.0 bytes m fit is)
    by_test false test others is = others is

hello_kind : IsKind (1, hello_of)
unfolding hello_of
hello_kind = as_only message.Hello hello_fields 1 (λ _. refl) (λ _ form. form)

welcome_kind : IsKind (2, welcome_of)
unfolding welcome_of
welcome_kind = as_only message.Welcome welcome_fields 2 (λ _. refl) (λ _ form. form)

reject_kind : IsKind (3, reject_of)
unfolding reject_of
reject_kind = as_only message.Reject reject_fields 3 (λ _. refl) (λ _ form. form)

step_copy_to_kind : IsKind (4, step_copy_to_of)
unfolding step_copy_to_of
step_copy_to_kind = as_only (λ f. message.StepCopyTo f.0 f.1.0 f.1.1.0 f.1.1.1.0 f.1.1.1.1) step_copy_to_fields 4 (λ _. refl) (λ _ form. form)

step_copy_from_kind : IsKind (5, step_copy_from_of)
unfolding step_copy_from_of
step_copy_from_kind = as_only (λ f. message.StepCopyFrom f.0 f.1.0 f.1.1) step_copy_from_fields 5 (λ _. refl) (λ _ form. form)

step_task_kind : IsKind (6, step_task_of)
unfolding step_task_of
step_task_kind = as_only (λ f. message.StepTask f.0 f.1.0 f.1.1) step_task_fields 6 (λ _. refl) (λ _ form. form)

step_submit_kind : IsKind (7, step_submit_of)
unfolding step_submit_of
step_submit_kind = as_only (λ f. message.StepSubmit f.0.0 f.0.1.0 f.0.1.1.0 f.0.1.1.1 f.1) step_submit_fields 7 (λ _. refl) (λ _ form. form)

ready_kind : IsKind (8, ready_of)
unfolding ready_of
ready_kind = as_only (λ f. message.Ready f.0 f.1) key_and_number 8 (λ _. refl) (λ _ form. form)

length_kind : IsKind (9, length_of)
unfolding length_of
length_kind = as_only (λ f. message.Length f.0 f.1) key_and_number 9 (λ _. refl) (λ _ form. form)

data_kind : IsKind (10, data_of)
unfolding data_of
data_kind = as_only (λ f. message.Data f.0.0 f.0.1 f.1) data_fields 10 (λ _. refl) (λ _ form. form)

ack_kind : IsKind (11, ack_of)
unfolding ack_of
ack_kind = as_only (λ f. message.Ack f.0 f.1) key_and_number 11 (λ _. refl) (λ _ form. form)

end_kind : IsKind (12, end_of)
unfolding end_of
end_kind = as_only (λ f. message.End f.0 f.1) key_and_number 12 (λ _. refl) (λ _ form. form)

result_kind : IsKind (13, result_of)
unfolding result_of
result_kind = as_only (λ f. message.Result f.0 f.1) result_fields 13 (λ _. refl) (λ _ form. form)

abort_kind : IsKind (14, abort_of)
unfolding abort_of
abort_kind = as_only (λ f. message.Abort f.0 f.1) abort_fields 14 (λ _. refl) (λ _ form. form)

forget_kind : IsKind (15, forget_of)
unfolding forget_of
forget_kind = as_only (λ f. message.Forget f.0 f.1) forget_fields 15 (λ _. refl) (λ _ form. form)

bye_kind : IsKind (16, bye_of)
unfolding bye_of
bye_kind = as_only (λ _. message.Bye) no_fields 16 (λ _. refl) (λ _ form. form)

are_kinds : AreKinds kinds
are_kinds =
    (hello_kind, (welcome_kind, (reject_kind, (step_copy_to_kind, (step_copy_from_kind, (step_task_kind, (step_submit_kind, (ready_kind, (length_kind, (data_kind, (ack_kind, (end_kind, (result_kind, (abort_kind, (forget_kind, (bye_kind, tt))))))))))))))))

of_kind_again : (m : Message) → IsMessage m → of_kind kinds (code_of m) (fields_of m) ≡ Some m
unfolding hello_of welcome_of reject_of step_copy_to_of step_copy_from_of step_task_of step_submit_of ready_of length_of data_of ack_of end_of result_of abort_of forget_of bye_of
of_kind_again (message.Hello greeting) form = as_again message.Hello hello_fields greeting form
of_kind_again (message.Welcome greeting) form = as_again message.Welcome welcome_fields greeting form
of_kind_again (message.Reject why) form = as_again message.Reject reject_fields why form
of_kind_again (message.StepCopyTo step name end interval size) form = as_again (λ f. message.StepCopyTo f.0 f.1.0 f.1.1.0 f.1.1.1.0 f.1.1.1.1) step_copy_to_fields (step, (name, (end, (interval, size)))) form
of_kind_again (message.StepCopyFrom step name interval) form = as_again (λ f. message.StepCopyFrom f.0 f.1.0 f.1.1) step_copy_from_fields (step, (name, interval)) form
of_kind_again (message.StepTask step kind command) form = as_again (λ f. message.StepTask f.0 f.1.0 f.1.1) step_task_fields (step, (kind, command)) form
of_kind_again (message.StepSubmit step name snode prty symbols) form = as_again (λ f. message.StepSubmit f.0.0 f.0.1.0 f.0.1.1.0 f.0.1.1.1 f.1) step_submit_fields ((step, (name, (snode, prty))), symbols) form
of_kind_again (message.Ready step offset) form = as_again (λ f. message.Ready f.0 f.1) key_and_number (step, offset) form
of_kind_again (message.Length step size) form = as_again (λ f. message.Length f.0 f.1) key_and_number (step, size) form
of_kind_again (message.Data step offset bytes) form = as_again (λ f. message.Data f.0.0 f.0.1 f.1) data_fields ((step, offset), bytes) form
of_kind_again (message.Ack step offset) form = as_again (λ f. message.Ack f.0 f.1) key_and_number (step, offset) form
of_kind_again (message.End step size) form = as_again (λ f. message.End f.0 f.1) key_and_number (step, size) form
of_kind_again (message.Result step ended) form = as_again (λ f. message.Result f.0 f.1) result_fields (step, ended) form
of_kind_again (message.Abort step why) form = as_again (λ f. message.Abort f.0 f.1) abort_fields (step, why) form
of_kind_again (message.Forget home number) form = as_again (λ f. message.Forget f.0 f.1) forget_fields (home, number) form
of_kind_again message.Bye form = as_again (λ _. message.Bye) no_fields tt tt

a_byte : (m : Message) → code_of m < 256
a_byte (message.Hello greeting) = omega arith
a_byte (message.Welcome greeting) = omega arith
a_byte (message.Reject why) = omega arith
a_byte (message.StepCopyTo step name end interval size) = omega arith
a_byte (message.StepCopyFrom step name interval) = omega arith
a_byte (message.StepTask step kind command) = omega arith
a_byte (message.StepSubmit step name snode prty symbols) = omega arith
a_byte (message.Ready step offset) = omega arith
a_byte (message.Length step size) = omega arith
a_byte (message.Data step offset bytes) = omega arith
a_byte (message.Ack step offset) = omega arith
a_byte (message.End step size) = omega arith
a_byte (message.Result step ended) = omega arith
a_byte (message.Abort step why) = omega arith
a_byte (message.Forget home number) = omega arith
a_byte message.Bye = omega arith

-- what is spelled is read
pub message_again : (m : Message) → IsMessage m → message_in (body_bytes m) ≡ Some m
unfolding message_in
message_again m form =
    let code : number_in 1 (number_bytes 1 (code_of m) ++ fields_of m) ≡ Some (code_of m, fields_of m) = (number_law 1).again (code_of m) (fields_of m) (a_byte m) in
    rw code (of_kind_again m form)

-- nothing else is read
pub message_only : (bytes : List ℕ) (m : Message) → IsBytes bytes → message_in bytes ≡ Some m → (bytes ≡ body_bytes m) × IsMessage m
unfolding message_in
message_only bytes m fit is =
    let code = bind_some (number_in 1 bytes) _ m is in
    let front = (number_law 1).only bytes code.0.0 code.0.1 fit code.1 in
    let rest = of_kind_only kinds code.0.0 code.0.1 m are_kinds (IsBytes-after (number_bytes 1 code.0.0) code.0.1 (subst IsBytes front.0 fit)) code.2 in
    (front.0 ∙ rest.0, rest.1)

-- a command is a text
pub command_is_text : (command : List ℕ) → IsTrue (is_command command) → IsTrue (is_text command)
command_is_text command form =
    let tests = both_true (leb 1 (length command)) (leb (length command) 32768) form in
    lt-ltb (length command) 4294967296 (omega (arith, leb-true _ _ tests.1))

-- what has a spelling can be written
pub sent_sendable : (why : RejectCause) → IsSent why → IsSendable why
sent_sendable (reject.VersionUnknown version) form = tt
sent_sendable (reject.SameHome home) form = tt
sent_sendable (reject.UnknownNode nodes) form = tt
sent_sendable (reject.Busy sessions) form = tt
sent_sendable (reject.OtherName name) form = form

pub message_writable : (m : Message) → IsMessage m → IsWritable m
message_writable (message.Hello greeting) form = form.1.1.1
message_writable (message.Welcome greeting) form = form.1.1
message_writable (message.Reject why) form = sent_sendable why form
message_writable (message.StepCopyTo step name end interval size) form = (form.0.1.1.1, form.1.0)
message_writable (message.StepCopyFrom step name interval) form = (form.0.1.1.1, form.1.0)
message_writable (message.StepTask step kind command) form = (form.0.1.1.1, form.1.1.1)
message_writable (message.StepSubmit step name snode prty symbols) form = (form.0.0.1.1.1, form.0.1.0, form.1)
message_writable (message.Ready step offset) form = form.0.1.1.1
message_writable (message.Length step size) form = form.0.1.1.1
message_writable (message.Data step offset bytes) form = (form.0.0.1.1.1, form.1)
message_writable (message.Ack step offset) form = form.0.1.1.1
message_writable (message.End step size) form = form.0.1.1.1
message_writable (message.Result step ended) form = (form.0.1.1.1, form.1.1.0.1)
message_writable (message.Abort step why) form = (form.0.1.1.1, form.1.1)
message_writable (message.Forget home number) form = tt
message_writable message.Bye form = tt
