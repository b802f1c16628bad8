-- Bytes that came go on with what a reader was given.
use Rattle.std.proofs.Common.{◌≡◌, ◌⊎◌, inl, inr, ⊎_elim, ℕ, ◌≤◌, List, [], ◌∷◌, length, take, ◌++◌, true, false, Option, Some, None, Ok, Err, eqb, refl, sym, ap, subst, ◌∙◌, arith}
use Rattle.std.proofs.lemmas.List.{append-nil}
use Rattle.std.specs.Prelude.{is_some}
use Rattle.std.proofs.lemmas.Bool.{eq-eqb, cond-true, cond-false, false≢true}
use Rattle.cd_outside.specs.Counts.{Rose}
use Rattle.cd_types.specs.Format.{IsBytes}
use Rattle.cd_types.specs.NumberLaw.{IsBytes-take}
use Rattle.cd_outside.specs.Lines.{Traffic, LineCounts, NeverFell, took}
use Rattle.cd_frames.specs.Message.{Message}
use Rattle.cd_frames.specs.Reading.{Reading, overwritten, with_free, with_filled, front, gone_past, after_step, step_answer}
use Rattle.cd_frames.proofs.ReadingLaw.{overwritten_all}
use Rattle.cd_frames.specs.Run.{Run, lent, filled, stepped, given_by}
use Rattle.cd_frames.specs.Stream.{Front, gives, refuses, waits, front_of}
use Rattle.cd_frames.specs.declared.frame.FrameFault.{FrameFault}
use Rattle.cd_entries.specs.declared.entry.Entry.{Entry}
use Rattle.cd_protocol.specs.declared.session.Phase.{Phase}
use Rattle.cd_exchange.specs.Arriving.{and_one, came_frame, CameSo, Heard}
use Rattle.cd_exchange.specs.Turn.{HasEnded, MayBeLost}
use Rattle.cd_exchange.specs.declared.arriving.Came.{Came}
use Rattle.cd_exchange.specs.declared.arriving.Came.TheVariants as came

module _ (sid : ℕ) (given : List Message) (r : Reading) (room over : List ℕ) (before now : Traffic) (run : Run (before.taken sid) given r) where
  pub took_none : now ≡ before → Run (now.taken sid) given (with_free r (overwritten room over))
  took_none same = subst (λ (t : Traffic). Run (t.taken sid) given (with_free r (overwritten room over))) (sym same) (lent (overwritten room over) run)

  pub took_more : (n : ℕ) (after : Reading) → IsBytes over → length over ≡ length room → now ≡ took sid (take n over) before → after ≡ with_filled (with_free r (overwritten room over)) n → Run (now.taken sid) given after
  took_more n after bytes same is filled_is =
      let free : overwritten room over ≡ over = overwritten_all room over same in
      let more : Run (before.taken sid ++ take n over) given (with_filled (with_free r over) n) = filled n (IsBytes-take n over bytes) (lent over run) in
      let taken : now.taken sid ≡ before.taken sid ++ take n over = ap (λ (t : Traffic). t.taken sid) is ∙ cond-true (eqb sid sid) (before.taken sid ++ take n over) (before.taken sid) (eq-eqb sid sid refl) in
      subst (λ (reading : Reading). Run (now.taken sid) given reading) (sym (filled_is ∙ ap (λ (f : List ℕ). with_filled (with_free r f) n) free))
      (subst (λ (s : List ℕ). Run s given (with_filled (with_free r over) n)) (sym taken) more)

-- a step that finds no frame keeps what was given
step_none : (reader : Reading) → given_by (front reader) ≡ [] → (stream : List ℕ) (given : List Message) → Run stream given reader → Run stream given (after_step reader)
step_none reader none stream given run =
    subst (λ (more : List Message). Run stream more (after_step reader)) (ap (λ (l : List Message). given ++ l) none ∙ append-nil given) (stepped run)

-- what stands at the front, by what a step answers
pub stepped_none : (reader : Reading) (f : Front) → f ≡ front reader → Ok false ≡ step_answer f → (stream : List ℕ) (given : List Message) → Run stream given reader → Run stream given (after_step reader)
stepped_none reader (gives m size) is says stream given run = absurd cc
stepped_none reader (refuses why) is says stream given run = absurd cc
stepped_none reader waits is says stream given run = step_none reader (ap given_by (sym is)) stream given run

pub stepped_bad : (reader : Reading) (f : Front) (why : FrameFault) → f ≡ front reader → Err why ≡ step_answer f → (stream : List ℕ) (given : List Message) → Run stream given reader → Run stream given (after_step reader)
stepped_bad reader (gives m size) why is says stream given run = absurd cc
stepped_bad reader (refuses other) why is says stream given run = step_none reader (ap given_by (sym is)) stream given run
stepped_bad reader waits why is says stream given run = absurd cc

pub stepped_one : (reader : Reading) (f : Front) → f ≡ front reader → Ok true ≡ step_answer f → (stream : List ℕ) (given : List Message) → Run stream given reader → Run stream (and_one given (after_step reader).given) (after_step reader)
stepped_one reader (gives m size) is says stream given run =
    let now : given_by (front reader) ≡ m ∷ [] = ap given_by (sym is) in
    let last : (after_step reader).given ≡ Some m = ap (λ (f : Front). (gone_past reader f).given) (sym is) in
    subst (λ (o : Option Message). Run stream (and_one given o) (after_step reader)) (sym last)
    (subst (λ (more : List Message). Run stream (given ++ more) (after_step reader)) now (stepped run))
stepped_one reader (refuses why) is says stream given run = absurd cc
stepped_one reader waits is says stream given run = absurd cc

-- and a reader that waits stays as it is
pub waits_is : (f : Front) → Ok false ≡ step_answer f → f ≡ waits
waits_is (gives m size) says = absurd cc
waits_is (refuses why) says = absurd cc
waits_is waits says = refl

pub waits_same : (reader : Reading) (f : Front) → f ≡ front reader → Ok false ≡ step_answer f → (after_step reader).rest ≡ reader.rest
waits_same reader f is says = ap (λ (g : Front). (gone_past reader g).rest) (sym is ∙ waits_is f says)

-- a reader that waits and gets no byte waits still
pub filled_none : (reader after : Reading) (free : List ℕ) (n : ℕ) → after ≡ with_filled (with_free reader free) n → n ≡ 0 → front reader ≡ waits → front after ≡ waits
filled_none reader after free n is none waiting =
    ap front (is ∙ ap (λ (k : ℕ). with_filled (with_free reader free) k) none) ∙ ap (λ (bytes : List ℕ). front_of reader.place bytes) (append-nil reader.rest) ∙ waiting

-- one run of calls behind another
pub heard_then : (sid : ℕ) (first middle last : Traffic) → Heard sid first middle → Heard sid middle last → Heard sid first last
heard_then sid first middle last one two = record { others = λ other apart. two.others other apart ∙ one.others other apart; given = two.given ∙ one.given; sends = two.sends ∙ one.sends }

pub took_heard : (sid : ℕ) (bytes : List ℕ) (before now : Traffic) → now ≡ took sid bytes before → Heard sid before now
took_heard sid bytes before now is = record {
  others = λ other apart. ap (λ (t : Traffic). t.taken other) is ∙ cond-false (eqb sid other) (before.taken sid ++ bytes) (before.taken other) apart;
  given = ap (λ (t : Traffic). t.given) is;
  sends = ap (λ (t : Traffic). t.sends) is;
}

pub none_heard : (sid : ℕ) (before now : Traffic) → now ≡ before → Heard sid before now
none_heard sid before now is = record {
  others = λ other apart. ap (λ (t : Traffic). t.taken other) is;
  given = ap (λ (t : Traffic). t.given) is;
  sends = ap (λ (t : Traffic). t.sends) is;
}

pub fell_then : (first middle last : LineCounts) → NeverFell first middle → NeverFell middle last → NeverFell first last
fell_then first middle last one two = record {
  faults = λ session. omega (arith, one.faults session, two.faults session);
  connects = omega (arith, one.connects, two.connects);
  accepts = omega (arith, one.accepts, two.accepts);
  ends = λ session. omega (arith, one.ends session, two.ends session);
  nones = omega (arith, one.nones, two.nones);
}

-- a count that rose, beside others that never fell
pub rose_later : (first middle last : ℕ) → Rose first middle → middle ≤ last → Rose first last
rose_later first middle last rose later = omega (arith, rose, later)

pub later_rose : (first middle last : ℕ) → first ≤ middle → Rose middle last → Rose first last
later_rose first middle last later rose = omega (arith, later, rose)

pub ends_since : (sid : ℕ) (first middle last : LineCounts) → NeverFell first middle → Rose (middle.ends sid) (last.ends sid) ⊎ Rose (middle.faults sid) (last.faults sid) → Rose (first.ends sid) (last.ends sid) ⊎ Rose (first.faults sid) (last.faults sid)
ends_since sid first middle last early ends = ⊎_elim
    (λ ended. inl (later_rose (first.ends sid) (middle.ends sid) (last.ends sid) (early.ends sid) ended))
    (λ failed. inr (later_rose (first.faults sid) (middle.faults sid) (last.faults sid) (early.faults sid) failed))
    ends

-- where no frame came, the session ended, or gave what is none
pub ended_later : (reader : Reading) (sid : ℕ) (before middle now : LineCounts) → HasEnded reader sid before middle → NeverFell middle now → HasEnded reader sid before now
ended_later reader sid before middle now so later = ⊎_elim
    (λ bad. inl bad)
    (λ ends. inr (
      ends.0,
      ⊎_elim
          (λ ended. inl (rose_later (before.ends sid) (middle.ends sid) (now.ends sid) ended (later.ends sid)))
          (λ failed. inr (rose_later (before.faults sid) (middle.faults sid) (now.faults sid) failed (later.faults sid)))
          ends.1,
    ))
    so

pub lost_later : (entries : List Entry) (phase : Phase) (reader : Reading) (sid : ℕ) (before middle now : LineCounts) → MayBeLost entries phase reader sid before middle → NeverFell middle now → MayBeLost entries phase reader sid before now
lost_later entries phase reader sid before middle now so later = ⊎_elim
    (λ over. inl over)
    (λ more. inr (⊎_elim
    (λ ended. inl (ended_later reader sid before middle now ended later))
    (λ failed. inr (rose_later (before.faults sid) (middle.faults sid) (now.faults sid) failed (later.faults sid)))
    more))
    so

pub ended_so : (came : Came) (reader : Reading) (sid : ℕ) (before middle now : LineCounts) → CameSo came reader sid before middle → came_frame came reader.given ≡ None → NeverFell middle now → HasEnded reader sid before now
ended_so came.Frame reader sid before middle now so none later = absurd (false≢true (ap (λ (o : Option Message). is_some o) (sym none) ∙ so))
ended_so came.Bad reader sid before middle now so none later = inl so
ended_so came.End reader sid before middle now so none later = ended_later reader sid before middle now (inr so) later
