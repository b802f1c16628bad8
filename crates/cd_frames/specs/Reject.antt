-- Why a session isn't taken: one byte for the reason, and a number of eight bytes.
use Rattle.std.specs.Prelude.{◌≡◌, ℕ, ◌==◌, List, Option, Some, None, if◌then◌else◌, refl}
use Rattle.std.proofs.Common.{Bool, true, false, cond, sym, subst, ◌∙◌, arith}
use Rattle.std.proofs.lemmas.Bool.{eqb-true}
use Rattle.cd_types.specs.Compound.{seen_in}
use Rattle.cd_types.specs.CompoundLaw.{seen_law, IsSeen}
use Rattle.cd_types.specs.Format.{IsFormat}
use Rattle.cd_types.specs.Layout.{Layout, ◌⋆◌, number}
use Rattle.cd_types.specs.Number.{IsNumber}
use Rattle.cd_frames.specs.declared.frame.RejectCause.{RejectCause}
use Rattle.cd_frames.specs.declared.frame.RejectCause.TheVariants as reject

-- the reason's byte and its number; OtherName is never sent
abbrev pub reject_parts : RejectCause → ℕ × ℕ
reject_parts (reject.VersionUnknown version) = (1, version)
reject_parts (reject.SameHome home) = (2, home)
reject_parts (reject.UnknownNode nodes) = (3, nodes)
reject_parts (reject.Busy sessions) = (4, sessions)
reject_parts (reject.OtherName name) = (0, 0)

abbrev pub reject_of : ℕ × ℕ → Option RejectCause
reject_of parts =
    if parts.0 == 1 then Some (reject.VersionUnknown parts.1)
    else if parts.0 == 2 then Some (reject.SameHome parts.1)
    else if parts.0 == 3 then Some (reject.UnknownNode parts.1)
    else if parts.0 == 4 then Some (reject.Busy parts.1)
    else None

-- what a caller has to know of a reason to send it
abbrev pub IsSendable : RejectCause → Type 0
IsSendable (reject.VersionUnknown version) = Unit {0}
IsSendable (reject.SameHome home) = Unit {0}
IsSendable (reject.UnknownNode nodes) = Unit {0}
IsSendable (reject.Busy sessions) = Unit {0}
IsSendable (reject.OtherName name) = ⊥

-- it has a spelling
abbrev pub IsSent : RejectCause → Type 0
IsSent (reject.VersionUnknown version) = IsNumber 8 version
IsSent (reject.SameHome home) = IsNumber 8 home
IsSent (reject.UnknownNode number) = IsNumber 8 number
IsSent (reject.Busy sessions) = IsNumber 8 sessions
IsSent (reject.OtherName name) = ⊥

abbrev parts_fields : Layout (ℕ × ℕ)
parts_fields = number 1 ⋆ number 8

sent_back : (why : RejectCause) → IsSent why → parts_fields.Form (reject_parts why) × (reject_of (reject_parts why) ≡ Some why)
sent_back (reject.VersionUnknown version) form = ((omega arith, form), refl)
sent_back (reject.SameHome home) form = ((omega arith, form), refl)
sent_back (reject.UnknownNode number) form = ((omega arith, form), refl)
sent_back (reject.Busy sessions) form = ((omega arith, form), refl)
sent_back (reject.OtherName name) form = absurd form

some_same : {A : Type 0} (x y : A) → Some x ≡ Some y → x ≡ y
some_same x y e = cc

-- one test of the code: where it passes, these are the parts of that cause
module _ (parts : ℕ × ℕ) (why : RejectCause) where
  tested_code : (code : ℕ) (made : RejectCause) (others : Option RejectCause) → reject_parts made ≡ (code, parts.1) → IsSent made
      → (others ≡ Some why → (parts ≡ reject_parts why) × IsSent why)
      → cond (parts.0 == code) (Some made) others ≡ Some why → (parts ≡ reject_parts why) × IsSent why
  tested_code code made others is form more e = by_test (parts.0 == code) refl e
    where
      by_test : (b : Bool) → (parts.0 == code) ≡ b → cond b (Some made) others ≡ Some why → (parts ≡ reject_parts why) × IsSent why
      by_test true test e =
          let same : made ≡ why = some_same made why e in
          let code_is : parts.0 ≡ code = eqb-true parts.0 code test in
          let parts_are : parts ≡ reject_parts made = (λ i. (code_is i, parts.1)) ∙ sym is in
          subst (λ (y : RejectCause). (parts ≡ reject_parts y) × IsSent y) same (parts_are, form)
      by_test false test e = more e

  sent_only : parts_fields.Form parts → reject_of parts ≡ Some why → (parts ≡ reject_parts why) × IsSent why
  sent_only form =
      tested_code 1 (reject.VersionUnknown parts.1) _ refl form.1
      (tested_code 2 (reject.SameHome parts.1) _ refl form.1
      (tested_code 3 (reject.UnknownNode parts.1) _ refl form.1
      (tested_code 4 (reject.Busy parts.1) None refl form.1 (λ e. absurd cc))))

sight : IsSeen parts_fields.Form IsSent reject_parts reject_of
sight = record { back = sent_back; only = λ parts why form e. sent_only parts why form e }

unfoldable pub reject_in : List ℕ → Option (RejectCause × List ℕ)
reject_in = seen_in reject_of parts_fields.found_in

pub reject_law : IsFormat IsSent (λ why. parts_fields.spelled (reject_parts why)) reject_in
unfolding reject_in
reject_law = seen_law parts_fields.Form parts_fields.spelled parts_fields.found_in IsSent reject_parts reject_of sight parts_fields.law

abbrev pub reject_cause : Layout RejectCause
reject_cause = record { Form = IsSent; spelled = λ why. parts_fields.spelled (reject_parts why); found_in = reject_in; law = reject_law }
