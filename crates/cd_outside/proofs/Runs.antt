-- How the images of a run of calls follow from those of its parts.
use Rattle.std.proofs.Common.{◌≡◌, ⊎_elim, ℕ, ◌+◌, ◌<◌, ◌≤◌, List, [], ◌∷◌, refl, sym, ◌∙◌, subst, ap, arith}
use Rattle.std.proofs.lemmas.Bool.{cases_lt, cases_eq}
use Rattle.std.proofs.lemmas.Bool.Decides.{nat_tests}
use Rattle.cd_outside.specs.Counts.{next}
use Rattle.cd_outside.specs.Doubt.{Doubt, IsImage}
use Rattle.cd_outside.specs.Disk.{Call, Change, DiskState, last_of, doubt_of, doubt_within, LeftAt, did, WasBegun}
use Rattle.cd_outside.specs.Moments.{Moments}

-- a run, and then another
pub moments_then : {Image : Type 0} (first second third : ℕ → Image → Type 0) (from middle : ℕ) (P : Image → Type 0) → from ≤ middle → Moments first second from P → Moments second third middle P → Moments first third from P
moments_then first second third from middle P order one two = record {
  earlier = λ beat image le now. one.earlier beat image le (two.earlier beat image (omega arith) now);
  still = λ beat image le was. two.still beat image (omega arith) (one.still beat image le was);
  later = λ beat image lt now. ⊎_elim (λ new. two.later beat image new now) (λ past. one.later beat image lt (two.earlier beat image past now)) (cases_lt middle beat);
}

-- what each image has implies what it is to have
pub moments_weaker : {Image : Type 0} (before now : ℕ → Image → Type 0) (from : ℕ) (P Q : Image → Type 0) → ((image : Image) → P image → Q image) → Moments before now from P → Moments before now from Q
moments_weaker before now from P Q implies run = record { earlier = run.earlier; still = run.still; later = λ beat image lt left. implies image (run.later beat image lt left) }

-- what is in doubt behind the beat of the newest call is what is in doubt now
pub doubt_now : (now : Doubt) (calls : List Call) (beat : ℕ) → last_of calls < beat → doubt_of now calls beat ≡ now
doubt_now now [] beat lt = refl
doubt_now now (call ∷ calls) beat lt = grind (arith, nat_tests)

doubt_at_call : (now : Doubt) (call : Call) (calls : List Call) (beat : ℕ) → call.beat ≡ beat → doubt_of now (call ∷ calls) beat ≡ call.within
doubt_at_call now call calls beat is = grind (arith, nat_tests)

doubt_earlier : (now : Doubt) (call : Call) (calls : List Call) (beat : ℕ) → beat < call.beat → doubt_of now (call ∷ calls) beat ≡ doubt_of call.before calls beat
doubt_earlier now call calls beat lt = grind (arith, nat_tests)

-- nothing was done, whatever the beat is now
pub moments_none : (before after : DiskState) (from : ℕ) (P : List ℕ → Type 0) → after ≡ before → last_of before.calls ≤ from → ((image : List ℕ) → IsImage before.doubt image → P image) → Moments (LeftAt before) (LeftAt after) from P
moments_none before after from P same order has = subst (λ (state : DiskState). Moments (LeftAt before) (LeftAt state) from P) (sym same) (record {
  earlier = λ beat image le left. left;
  still = λ beat image le left. left;
  later = λ beat image lt left. has image (subst (λ (doubt : Doubt). IsImage doubt image) (doubt_now before.doubt before.calls beat (omega arith)) left);
})

-- one changing call was made
pub moments_call : (before : DiskState) (call : Call) (after : DiskState) (from : ℕ) (P : List ℕ → Type 0) → after.calls ≡ call ∷ before.calls → call.before ≡ before.doubt → call.beat ≡ from + 1
    → ((image : List ℕ) → IsImage call.within image → P image) → ((image : List ℕ) → IsImage after.doubt image → P image) → Moments (LeftAt before) (LeftAt after) from P
moments_call before call after from P calls doubt order within now = record {
  earlier = λ beat image le left. subst (λ (doubt : Doubt). IsImage doubt image) (past beat le) left;
  still = λ beat image le left. subst (λ (doubt : Doubt). IsImage doubt image) (sym (past beat le)) left;
  later = λ beat image lt left. ⊎_elim
      (λ is. within image (subst (λ (doubt : Doubt). IsImage doubt image) (ap (λ (l : List Call). doubt_of after.doubt l beat) calls ∙ doubt_at_call after.doubt call before.calls beat is) left))
      (λ isnt. now image (subst (λ (doubt : Doubt). IsImage doubt image) (ap (λ (l : List Call). doubt_of after.doubt l beat) calls ∙ doubt_now after.doubt (call ∷ before.calls) beat (omega arith)) left))
      (cases_eq call.beat beat);
}
  where
    past : (beat : ℕ) → beat ≤ from → doubt_of after.doubt after.calls beat ≡ doubt_of before.doubt before.calls beat
    past beat le = ap (λ (l : List Call). doubt_of after.doubt l beat) calls ∙ doubt_earlier after.doubt call before.calls beat (omega arith) ∙ ap (λ (d : Doubt). doubt_of d before.calls beat) doubt

-- a change was done
pub moments_did : (change : Change) (from to : ℕ) (before after : DiskState) (P : List ℕ → Type 0) → after ≡ did change to before → from < to → to ≡ next from
    → ((image : List ℕ) → IsImage (doubt_within change before.doubt) image → P image) → ((image : List ℕ) → IsImage after.doubt image → P image) → Moments (LeftAt before) (LeftAt after) from P
moments_did change from to before after P is lt raised within now =
    moments_call before (record { beat = to; before = before.doubt; within = doubt_within change before.doubt }) after from P (ap (λ (s : DiskState). s.calls) is) refl (omega arith) within now

-- a change was begun
pub moments_begun : (change : Change) (from to : ℕ) (before after : DiskState) (P : List ℕ → Type 0) → WasBegun change to before after → from < to → to ≡ next from
    → ((image : List ℕ) → IsImage (doubt_within change before.doubt) image → P image) → Moments (LeftAt before) (LeftAt after) from P
moments_begun change from to before after P is lt raised within =
    moments_call before (record { beat = to; before = before.doubt; within = doubt_within change before.doubt }) after from P is.calls refl (omega arith) within (λ image left. within image (subst (λ (doubt : Doubt). IsImage doubt image) is.doubt left))
