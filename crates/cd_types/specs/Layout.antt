-- Layouts: fields one behind another, each with its law. A row of a table of formats is one line here.
use Rattle.std.specs.Prelude.{◌≡◌, ℕ, Bool, IsTrue, List, Option, ⊤}
use Rattle.cd_types.specs.Format.{IsFormat}
use Rattle.cd_types.specs.Choices.{queue_code, queues, reason_code, reasons, cause_code, causes, is_kept, disp_code, disps, task_kind_code, task_kinds, how_code, hows}
use Rattle.cd_types.specs.ChoicesLaw.{queue_law, reason_law, cause_law, disp_law, task_kind_law, how_law}
use Rattle.cd_types.specs.Compound.{both_bytes, both_in, AreBoth, made_in, tested_in, choice_in, flag, flags, optional_bytes, optional_in, IsOptional}
use Rattle.cd_types.specs.CompoundLaw.{both_law, made_law, tested_law, flag_law, optional_law}
use Rattle.cd_types.specs.FileName.{is_file_name, is_text}
use Rattle.cd_types.specs.FileNameLaw.{file_name_law, plain_text_law}
use Rattle.cd_types.specs.Filed.{IsCard, card_bytes, card_in}
use Rattle.cd_types.specs.FiledLaw.{card_law}
use Rattle.cd_types.specs.Key.{IsKey, key_bytes, key_in}
use Rattle.cd_types.specs.KeyLaw.{key_law}
use Rattle.cd_types.specs.Moment.{is_moment, IsMoment}
use Rattle.cd_types.specs.MomentLaw.{moment_law}
use Rattle.cd_types.specs.NodeName.{is_node_name, IsNodeName}
use Rattle.cd_types.specs.NodeNameLaw.{node_name_law}
use Rattle.cd_types.specs.Number.{IsNumber, number_bytes, number_in}
use Rattle.cd_types.specs.NumberLaw.{number_law}
use Rattle.cd_types.specs.ProcNo.{is_proc_no, IsProcNo}
use Rattle.cd_types.specs.ProcNoLaw.{proc_no_law}
use Rattle.cd_types.specs.Text.{text_bytes, text_in, ranged_in}
use Rattle.cd_types.specs.declared.card.Filed.{Filed}
use Rattle.cd_types.specs.declared.choices.Cause.{Cause}
use Rattle.cd_types.specs.declared.choices.Disp.{Disp}
use Rattle.cd_types.specs.declared.choices.How.{How}
use Rattle.cd_types.specs.declared.choices.Queue.{Queue}
use Rattle.cd_types.specs.declared.choices.Reason.{Reason}
use Rattle.cd_types.specs.declared.choices.TaskKind.{TaskKind}
use Rattle.cd_types.specs.declared.key.Key.{Key}

pub record Layout (A : Type 0) : Type 1 where
  -- the values that have a spelling
  pub Form : A → Type 0
  pub spelled : A → List ℕ
  -- the value at the front of the bytes, with the bytes after it
  pub found_in : List ℕ → Option (A × List ℕ)
  pub law : IsFormat Form spelled found_in

infixr 10 ◌⋆◌
-- one behind another
abbrev pub ◌⋆◌ : {A B : Type 0} → Layout A → Layout B → Layout (A × B)
a ⋆ b = record {
  Form = AreBoth a.Form b.Form;
  spelled = both_bytes a.spelled b.spelled;
  found_in = both_in a.found_in b.found_in;
  law = both_law a.Form a.spelled a.found_in b.Form b.spelled b.found_in a.law b.law;
}

-- a byte 0, or a byte 1 and the field
abbrev pub optional : {A : Type 0} → Layout A → Layout (Option A)
optional a = record {
  Form = IsOptional a.Form;
  spelled = optional_bytes a.spelled;
  found_in = optional_in a.found_in;
  law = optional_law a.Form a.spelled a.found_in a.law;
}

-- seen as a value that is made of them, where the value and its parts determine each other
abbrev pub seen_as : {A B : Type 0} (make : A → B) (parts : B → A) → ((x : A) → parts (make x) ≡ x) → ((y : B) → make (parts y) ≡ y) → Layout A → Layout B
seen_as make parts apart whole a = record {
  Form = λ y. a.Form (parts y);
  spelled = λ y. a.spelled (parts y);
  found_in = made_in make a.found_in;
  law = made_law a.Form a.spelled a.found_in parts make apart whole a.law;
}

-- with values that pass a test alone
abbrev pub tested : {A : Type 0} → (A → Bool) → Layout A → Layout A
tested test a = record {
  Form = λ x. a.Form x × IsTrue (test x);
  spelled = a.spelled;
  found_in = tested_in test a.found_in;
  law = tested_law a.Form a.spelled a.found_in test a.law;
}

abbrev pub number : ℕ → Layout ℕ
number n = record { Form = IsNumber n; spelled = number_bytes n; found_in = number_in n; law = number_law n }

abbrev pub node_name : Layout (List ℕ)
node_name = record { Form = IsNodeName; spelled = text_bytes 1; found_in = text_in 1 is_node_name; law = node_name_law }

abbrev pub proc_no : Layout ℕ
proc_no = record { Form = IsProcNo; spelled = number_bytes 4; found_in = ranged_in 4 is_proc_no; law = proc_no_law }

abbrev pub moment : Layout ℕ
moment = record { Form = IsMoment; spelled = number_bytes 8; found_in = ranged_in 8 is_moment; law = moment_law }

abbrev pub key : Layout Key
key = record { Form = IsKey; spelled = key_bytes; found_in = key_in; law = key_law }

abbrev pub card : Layout Filed
card = record { Form = IsCard; spelled = card_bytes; found_in = card_in; law = card_law }

abbrev pub file : Layout (List ℕ)
file = record { Form = λ name. IsTrue (is_file_name name); spelled = text_bytes 2; found_in = text_in 2 is_file_name; law = file_name_law }

abbrev pub text : Layout (List ℕ)
text = record { Form = λ bytes. IsTrue (is_text bytes); spelled = text_bytes 4; found_in = text_in 4 is_text; law = plain_text_law }

abbrev pub yes_or_no : Layout Bool
yes_or_no = record { Form = λ _. ⊤; spelled = λ x. number_bytes 1 (flag x); found_in = choice_in flags; law = flag_law }

abbrev pub queue : Layout Queue
queue = record { Form = λ _. ⊤; spelled = λ x. number_bytes 1 (queue_code x); found_in = choice_in queues; law = queue_law }

abbrev pub reason : Layout Reason
reason = record { Form = λ _. ⊤; spelled = λ x. number_bytes 1 (reason_code x); found_in = choice_in reasons; law = reason_law }

abbrev pub cause : Layout Cause
cause = record { Form = λ _. ⊤; spelled = λ x. number_bytes 1 (cause_code x); found_in = choice_in causes; law = cause_law }

-- the cause of a result
abbrev pub kept_cause : Layout Cause
kept_cause = tested is_kept cause

abbrev pub disp : Layout Disp
disp = record { Form = λ _. ⊤; spelled = λ x. number_bytes 1 (disp_code x); found_in = choice_in disps; law = disp_law }

abbrev pub task_kind : Layout TaskKind
task_kind = record { Form = λ _. ⊤; spelled = λ x. number_bytes 1 (task_kind_code x); found_in = choice_in task_kinds; law = task_kind_law }

abbrev pub how : Layout How
how = record { Form = λ _. ⊤; spelled = λ x. number_bytes 1 (how_code x); found_in = choice_in hows; law = how_law }
