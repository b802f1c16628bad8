-- What the files hold is carried over the effects of every row.
use Rattle.std.proofs.Common.{◌≡◌, ℕ, zero, suc, ◌+◌, ◌-◌, ◌≤◌, Bool, true, false, ◌&&◌, eqb, leb, List, [], ◌∷◌, ◌++◌, length, take, Option, Some, ◌⊎◌, inl, inr, refl, sym, ◌∙◌, ap, subst, arith, min, length-take}
use Rattle.std.specs.Prelude.{not}
use Rattle.std.specs.Str.{bytes_eq}
use Rattle.std.proofs.lemmas.Bool.{cases_Bool, and_parts, cond-true, cond-false, false≢true, false_from_ne_true, eqb-true, eq-eqb}
use Rattle.std.proofs.lemmas.List.{append-nil, take-take}
use Rattle.std.proofs.lemmas.Slice.Eq.{bytes_eq-Decides}
use Rattle.cd_outside.specs.Content.{overwritten}
use Rattle.cd_outside.specs.Disposition.{landed, dropped}
use Rattle.cd_outside.specs.Shelf as shelves
use Rattle.cd_outside.specs.Shelf.{FileDoubt, FileChange, WriteFile, Shelf, IsFileImage, IsShelfImage, content_of, settled_file, name_of, within, changed}
use Rattle.cd_types.specs.Choices.{disp_code}
use Rattle.cd_types.specs.Compound.{flag}
use Rattle.cd_types.specs.declared.choices.Cause.{Cause}
use Rattle.cd_types.specs.declared.choices.Disp.{Disp}
use Rattle.cd_types.specs.declared.key.Key.{Key}
use Rattle.cd_types.specs.declared.rows.Outcomes.{Outcomes}
use Rattle.cd_types.specs.declared.rows.Receiving.{Receiving}
use Rattle.cd_entries.specs.declared.entry.Entry.{Entry}
use Rattle.cd_entries.specs.declared.entry.Entry.TheVariants as entry
use Rattle.cd_frames.specs.Message as message
use Rattle.cd_frames.specs.Message.{Message}
use Rattle.cd_rules.specs.Keys.{same_key, is_of}
use Rattle.cd_rules.proofs.KeysLaw.{same_key-refl, same_key-true}
use Rattle.cd_rules.specs.Openings.{open_on, is_in_use}
use Rattle.cd_rules.specs.Processes.{is_over}
use Rattle.cd_rules.specs.Status as status
use Rattle.cd_rules.specs.Status.{Status}
use Rattle.cd_rules.proofs.StatusLaw.{status-other, status-own}
use Rattle.cd_rules.specs.Legal.{is_legal, is_resized, is_base_of, greatest_file, may_receive_from}
use Rattle.cd_rules.proofs.LegalLaw.{legal_parts, legal_before, follows}
use Rattle.cd_rules.proofs.OpeningsLaw as openings
use Rattle.cd_rules.specs.Steps.{Reading, fits_own, is_pull_of}
use Rattle.cd_protocol.specs.declared.session.Phase.{Phase}
use Rattle.cd_protocol.specs.declared.session.Phase.TheVariants.{Take}
use Rattle.cd_protocol.specs.Closing.{key_under_way}
use Rattle.cd_protocol.specs.Node.{Effect, Keep, Touch, AskSize, AskBytes, Begin, Go, put, did, does}
use Rattle.cd_protocol.specs.Receiving.{kept_base}
use Rattle.cd_protocol.proofs.RowsLaw.{reaction_extends}
use Rattle.cd_world.proofs.FilesLaw.{IsSafe, KeepsSafe, doubt_after, NotSpoiled, front_of, size, ToldOf, OnFile, Held, AtRest, Rested, kept_length, front_length, rest_came, file_back, marked_opens, safe_image, safe_settled, safe_after, safe_within, safe_left, settled_image, seen_same, within_same, doubt_same, seen_other, within_other, doubt_other, put_there}
use Rattle.cd_world.proofs.GuardsLaw.{over_start}
use Rattle.cd_world.specs.Holds.{journal_of, Begins}
use Rattle.cd_world.specs.World.{At, Half, World, written_for, written_by, readied, landed_by, dropped_by, world_did, world_does, Cut, Unchanged, Begun, cut_off, MayLeave, IsCutOff, with_shelf, IsLeft, down}
use Rattle.cd_world.proofs.KeptLaw.{disp_same}
use Rattle.cd_world.proofs.SourcesLaw.{readied_apart}
use Rattle.cd_world.proofs.FrontsLaw.{length_over}
use Rattle.cd_world.proofs.PiecesLaw.{NotTaking, OfOpen, Frees, GoodKeep, Brought, Under, GoodChange, AllTrue, RestsOn, GoesOn, AllGood, rests_in, rests_behind, rested}

-- nothing is received onto the name
abbrev pub NobodyOn : Half → List ℕ → Type 0
NobodyOn a name = (key : Key) → OfOpen (journal_of a) key (λ r safe. r.name ≡ name → ⊥)

-- What the files of a node hold.
pub record Standing (a : Half) : Type 0 where
  pub free : (name : List ℕ) → NotSpoiled a name → NobodyOn a name → (a.node.shelf.seen name ≡ a.settled name) × (a.node.shelf.doubt name ≡ settled_file (a.settled name))
  pub held : (key : Key) → OfOpen (journal_of a) key (λ r safe. Held a r safe)

pub record Filed (a : Half) : Type 0 where
  pub stands : Standing a
  pub rests : (n : ℕ) → Rested n a (a.node.sessions.phase n)

pub record BothFiled (w : World) : Type 0 where
  pub a : Filed w.a
  pub b : Filed w.b

-- within a row: the session of the row may not be at rest
pub record FiledIn (sid : ℕ) (b : Bool) (a : Half) : Type 0 where
  pub stands : Standing a
  pub others : (n : ℕ) → eqb sid n ≡ false → Rested n a (a.node.sessions.phase n)
  pub own : b ≡ true → Rested sid a (a.node.sessions.phase sid)

pub filed_in : (sid : ℕ) (a : Half) → Filed a → FiledIn sid true a
filed_in sid a h = record { stands = h.stands; others = λ n apart. h.rests n; own = λ yes. h.rests sid }

pub filed_out : (sid : ℕ) (a : Half) → FiledIn sid true a → Filed a
filed_out sid a h = record {
  stands = h.stands;
  rests = λ n. elim (cases_Bool (eqb sid n)) [
    | inl same ↦ subst (λ (m : ℕ). Rested m a (a.node.sessions.phase m)) (eqb-true sid n same) (h.own refl)
    | inr apart ↦ h.others n apart
  ];
}

-- Receivings of a legal journal are apart.

some_same : {T : Type 0} (y z : T) → Some y ≡ Some z → y ≡ z
some_same y z e = cc

open_same : (a b : Receiving) (m n : ℕ) → status.Open a m ≡ status.Open b n → (a ≡ b) × (m ≡ n)
open_same a b m n e = (cc, cc)

module _ (read : Reading) (journal : List Entry) (legal : is_legal read journal ≡ true) where
  pub keyed : (key : Key) (r : Receiving) (safe : ℕ) → status.status journal key ≡ status.Open r safe → r.key ≡ key
  keyed key r safe is = (openings.open-on read journal key r safe legal is).0

  one_key : (k l : Key) (r q : Receiving) (m n : ℕ) → status.status journal k ≡ status.Open r m → status.status journal l ≡ status.Open q n → r.name ≡ q.name → k ≡ l
  one_key k l r q m n is isq names =
      let one = openings.open-on read journal k r m legal is in
      let two = openings.open-on read journal l q n legal isq in
      let same : r ≡ q = some_same r q (sym one.1 ∙ ap (open_on journal) names ∙ two.1) in
      sym one.0 ∙ ap (λ (y : Receiving). y.key) same ∙ two.0

  pub names_apart : (k l : Key) (r q : Receiving) (m n : ℕ) → status.status journal k ≡ status.Open r m → status.status journal l ≡ status.Open q n → same_key k l ≡ false → bytes_eq r.name q.name ≡ false
  names_apart k l r q m n is isq apart =
      false_from_ne_true (bytes_eq r.name q.name) (λ same.
      false≢true (sym apart ∙ subst (λ (j : Key). same_key k j ≡ true) (one_key k l r q m n is isq ((bytes_eq-Decides r.name q.name).0 same)) (same_key-refl k)))

key_apart : (a b : Key) → same_key a b ≡ false → same_key b a ≡ false
key_apart a b apart = false_from_ne_true (same_key b a) (λ same. false≢true (sym apart ∙ subst (λ (k : Key). same_key a k ≡ true) (sym (same_key-true b a same)) (same_key-refl a)))

-- sessions that differ hold other keys
owners_apart : (holder : Key → Option ℕ) (k l : Key) (m n : ℕ) → holder k ≡ Some m → holder l ≡ Some n → eqb m n ≡ false → same_key k l ≡ false
owners_apart holder k l m n is isl apart =
    false_from_ne_true (same_key k l) (λ same.
    let e : Some m ≡ Some n = sym is ∙ ap holder (same_key-true k l same) ∙ isl in
    false≢true (sym apart ∙ eq-eqb m n (some_same m n e)))

-- States in which a receiving has the same bytes and the same file.
pub record SameAt (a a2 : Half) (r : Receiving) : Type 0 where
  pub got : a2.received r.key ≡ a.received r.key
  pub file : NotSpoiled a2 r.name → NotSpoiled a r.name × (a2.settled r.name ≡ a.settled r.name) × (a2.node.shelf.seen r.name ≡ a.node.shelf.seen r.name) × (a2.node.shelf.doubt r.name ≡ a.node.shelf.doubt r.name)

pub same_held : (a a2 : Half) (r : Receiving) (safe : ℕ) → SameAt a a2 r → Held a r safe → Held a2 r safe
same_held a a2 r safe same h = (
  subst (λ (g : List ℕ). safe ≤ length g) (sym same.got) h.0,
  subst (λ (g : List ℕ). length g ≤ r.length) (sym same.got) h.1,
  λ clean.
      let f = same.file clean in
      let on : OnFile a r safe = h.2 f.0 in
      let old : IsSafe (take r.base (content_of (a2.settled r.name)) ++ take safe (a.received r.key)) (a.node.shelf.seen r.name) (a.node.shelf.doubt r.name) =
      subst (λ (o : Option (List ℕ)). IsSafe (take r.base (content_of o) ++ take safe (a.received r.key)) (a.node.shelf.seen r.name) (a.node.shelf.doubt r.name)) (sym f.1) on.1 in
      let got : IsSafe (front_of a2 r safe) (a.node.shelf.seen r.name) (a.node.shelf.doubt r.name) =
      subst (λ (g : List ℕ). IsSafe (take r.base (content_of (a2.settled r.name)) ++ take safe g) (a.node.shelf.seen r.name) (a.node.shelf.doubt r.name)) (sym same.got) old in (
        subst (ToldOf r) (sym f.1) on.0,
        subst (λ (d : FileDoubt). IsSafe (front_of a2 r safe) (a2.node.shelf.seen r.name) d) (sym f.3)
            (subst (λ (s : Option (List ℕ)). IsSafe (front_of a2 r safe) s (a.node.shelf.doubt r.name)) (sym f.2) got),
      ),
)

pub same_rest : (a a2 : Half) (r : Receiving) (safe came : ℕ) → SameAt a a2 r → AtRest a r safe came → AtRest a2 r safe came
same_rest a a2 r safe came same (inl at) = inl at
same_rest a a2 r safe came same (inr behind) =
    inr (
      behind.0,
      λ clean.
          let f = same.file clean in
          subst (λ (s : Option (List ℕ)). Begins (front_of a2 r came) s) (sym f.2)
          (subst (λ (g : List ℕ). Begins (take r.base (content_of (a2.settled r.name)) ++ take came g) (a.node.shelf.seen r.name)) (sym same.got)
          (subst (λ (o : Option (List ℕ)). Begins (take r.base (content_of o) ++ take came (a.received r.key)) (a.node.shelf.seen r.name)) (sym f.1) (behind.1 f.0))),
    )

pub rested_more : (n : ℕ) (a a2 : Half) → ((key : Key) → a2.node.sessions.holder key ≡ Some n → a.node.sessions.holder key ≡ Some n)
    → ((key : Key) (r : Receiving) (safe : ℕ) → a2.node.sessions.holder key ≡ Some n → status.status (journal_of a2) key ≡ status.Open r safe → (status.status (journal_of a) key ≡ status.Open r safe) × SameAt a a2 r)
    → (phase : Phase) → Rested n a phase → Rested n a2 phase
rested_more n a a2 holds opens (Take role terms key came) t = λ held r safe is. let o = opens key r safe held is in same_rest a a2 r safe came o.1 (t (holds key held) r safe o.0)
rested_more n a a2 holds opens phase t = tt

pub free_rested : (n : ℕ) (a : Half) (phase : Phase) → NotTaking phase → Rested n a phase
free_rested n a (Take role terms key came) free = absurd free
free_rested n a phase free = tt

same_file : (a a2 : Half) (r : Receiving) → a2.received r.key ≡ a.received r.key → (NotSpoiled a2 r.name → NotSpoiled a r.name) → a2.settled r.name ≡ a.settled r.name
    → a2.node.shelf.seen r.name ≡ a.node.shelf.seen r.name → a2.node.shelf.doubt r.name ≡ a.node.shelf.doubt r.name → SameAt a a2 r
same_file a a2 r got clean old seen doubt = record { got = got; file = λ c. (clean c, old, seen, doubt) }

-- Entries.

-- the same receiving with another length
record IsAgain (before r : Receiving) : Type 0 where
  name : r.name ≡ before.name
  disp : r.disp ≡ before.disp
  there : flag r.there ≡ flag before.there
  base : r.base ≡ before.base

again_parts : (before r : Receiving) → is_resized before r ≡ true → IsAgain before r
again_parts before r fits =
    let five = and_parts (bytes_eq r.name before.name && eqb (disp_code r.disp) (disp_code before.disp) && eqb (flag r.there) (flag before.there) && eqb r.base before.base && eqb r.interval before.interval) (not (eqb r.length before.length)) fits in
    let four = and_parts (bytes_eq r.name before.name && eqb (disp_code r.disp) (disp_code before.disp) && eqb (flag r.there) (flag before.there) && eqb r.base before.base) (eqb r.interval before.interval) five.0 in
    let three = and_parts (bytes_eq r.name before.name && eqb (disp_code r.disp) (disp_code before.disp) && eqb (flag r.there) (flag before.there)) (eqb r.base before.base) four.0 in
    let two = and_parts (bytes_eq r.name before.name && eqb (disp_code r.disp) (disp_code before.disp)) (eqb (flag r.there) (flag before.there)) three.0 in
    let one = and_parts (bytes_eq r.name before.name) (eqb (disp_code r.disp) (disp_code before.disp)) two.0 in
    record {
      name = (bytes_eq-Decides r.name before.name).0 one.0;
      disp = disp_same r.disp before.disp one.1;
      there = eqb-true (flag r.there) (flag before.there) two.1;
      base = eqb-true r.base before.base three.1;
    }

same_flag : (a b : Bool) → flag a ≡ flag b → a ≡ b
same_flag true true is = refl
same_flag false false is = refl
same_flag true false is = absurd (omega (arith, is))
same_flag false true is = absurd (omega (arith, is))

may_receive_again : (read : Reading) (journal : List Entry) (q : Receiving) → is_legal read (entry.Receiving q ∷ journal) ≡ true → may_receive_from (status.status journal q.key) q ≡ true
may_receive_again read journal q legal2 =
    let first : Bool = may_receive_from (status.status journal q.key) q in
    let five = and_parts (first && not (is_over journal q.key) && not (is_in_use journal q.key q.name) && is_base_of q.disp q.there q.base && leb (q.base + q.length) greatest_file) (fits_own read journal q.key (is_pull_of q)) (follows read (entry.Receiving q) journal legal2) in
    let four = and_parts (first && not (is_over journal q.key) && not (is_in_use journal q.key q.name) && is_base_of q.disp q.there q.base) (leb (q.base + q.length) greatest_file) five.0 in
    let three = and_parts (first && not (is_over journal q.key) && not (is_in_use journal q.key q.name)) (is_base_of q.disp q.there q.base) four.0 in
    let two = and_parts (first && not (is_over journal q.key)) (not (is_in_use journal q.key q.name)) three.0 in
    (and_parts first (not (is_over journal q.key)) two.0).0

-- what a new receiving makes of a status
opened_is : (q r : Receiving) (safe : ℕ) (s : Status) → may_receive_from s q ≡ true → status.opened q s ≡ status.Open r safe → (q ≡ r) × (0 ≡ safe)
opened_is q r safe status.Fresh fits is = open_same q r 0 safe is
opened_is q r safe (status.Started tries kind) fits is = open_same q r 0 safe is
opened_is q r safe (status.Open before m) fits is = open_same q r 0 safe is
opened_is q r safe (status.Done o) fits is = absurd (false≢true fits)

opens_so : (q : Receiving) (s : Status) → may_receive_from s q ≡ true → status.opened q s ≡ status.Open q 0
opens_so q status.Fresh fits = refl
opens_so q (status.Started tries kind) fits = refl
opens_so q (status.Open before m) fits = refl
opens_so q (status.Done o) fits = absurd (false≢true fits)

abbrev NotOpen : Status → Type 0
NotOpen (status.Open r safe) = ⊥
NotOpen _ = Unit {0}

module _ (x : At) (sid : ℕ) (a : Half) (h : Standing a) (legal : is_legal a.node.view.config.read (journal_of a) ≡ true) where
  before_other : (e : Entry) (key : Key) (r : Receiving) (safe : ℕ) → is_of key e ≡ false → status.status (e ∷ journal_of a) key ≡ status.Open r safe → status.status (journal_of a) key ≡ status.Open r safe
  before_other e key r safe apart is = sym (status-other e (journal_of a) key apart) ∙ is

  -- an entry of no step
  plain_stands : (e : Entry) → ((key : Key) → is_of key e ≡ false) → Standing (record a { node = did sid (Keep e) a.node })
  plain_stands e apart = record {
    free = λ name clean nobody. h.free name clean (λ key r safe is. nobody key r safe (status-other e (journal_of a) key (apart key) ∙ is));
    held = λ key r safe is. h.held key r safe (before_other e key r safe (apart key) is);
  }

  plain_rests : (n : ℕ) (e : Entry) → ((key : Key) → is_of key e ≡ false) → (phase : Phase) → Rested n a phase → Rested n (record a { node = did sid (Keep e) a.node }) phase
  plain_rests n e apart =
      rested_more n a (record a { node = did sid (Keep e) a.node }) (λ key held. held)
      (λ key r safe held is. (before_other e key r safe (apart key) is, same_file a (record a { node = did sid (Keep e) a.node }) r refl (λ clean. clean) refl refl refl))

  -- an outcome, with which the file of the step is settled
  module _ (e : Entry) (step : Key) (o : Outcomes) (of_step : (key : Key) → is_of key e ≡ same_key key step) (done : (s : Status) → status.after e s ≡ status.Done o) where
    not_now : (key : Key) (r : Receiving) (safe : ℕ) → status.status (e ∷ journal_of a) key ≡ status.Open r safe → same_key key step ≡ false
    not_now key r safe is =
        false_from_ne_true (same_key key step) (λ same.
        let now : status.status (e ∷ journal_of a) key ≡ status.Done o = status-own e (journal_of a) key (of_step key ∙ same) ∙ done (status.status (journal_of a) key) in
        never (sym now ∙ is)) where
          never : status.Done o ≡ status.Open r safe → ⊥
          never same = cc

    was_open : (key : Key) (r : Receiving) (safe : ℕ) → status.status (e ∷ journal_of a) key ≡ status.Open r safe → status.status (journal_of a) key ≡ status.Open r safe
    was_open key r safe is = before_other e key r safe (of_step key ∙ not_now key r safe is) is

    still_open : (key : Key) (r : Receiving) (safe : ℕ) → same_key key step ≡ false → status.status (journal_of a) key ≡ status.Open r safe → status.status (e ∷ journal_of a) key ≡ status.Open r safe
    still_open key r safe apart is = status-other e (journal_of a) key (of_step key ∙ apart) ∙ is

    -- where nothing was received for it
    none_stands : NotOpen (status.status (journal_of a) step) → Standing (record a { node = did sid (Keep e) a.node })
    none_stands closed = record {
      free = λ name clean nobody. h.free name clean (λ key r safe is.
          elim (cases_Bool (same_key key step)) [
            | inl same ↦ absurd (subst NotOpen (subst (λ (k : Key). status.status (journal_of a) k ≡ status.Open r safe) (same_key-true key step same) is) closed)
            | inr other ↦ nobody key r safe (still_open key r safe other is)
          ]);
      held = λ key r safe is. h.held key r safe (was_open key r safe is);
    }

    module _ (q : Receiving) (m : ℕ) (opens : status.status (journal_of a) step ≡ status.Open q m) (file : Option (List ℕ))
        (settles : NotSpoiled a q.name → (a.node.shelf.seen q.name ≡ file) × (a.node.shelf.doubt q.name ≡ settled_file file)) where
      abbrev a_done : Half
      a_done = record a { node = did sid (Keep e) a.node; settled = shelves.put q.name file a.settled }

      outcome_same : (key : Key) (r : Receiving) (safe : ℕ) → status.status (e ∷ journal_of a) key ≡ status.Open r safe → SameAt a a_done r
      outcome_same key r safe is =
          let apart : bytes_eq q.name r.name ≡ false =
          names_apart a.node.view.config.read (journal_of a) legal step key q r m safe opens (was_open key r safe is) (key_apart key step (not_now key r safe is)) in
          same_file a a_done r refl (λ clean. clean) (put_there file a.settled q.name r.name apart) refl refl

      outcome_stands : Standing a_done
      outcome_stands = record {
        free = λ name clean nobody.
            elim (cases_Bool (bytes_eq q.name name)) [
              | inl same ↦
                  let name_is : q.name ≡ name = (bytes_eq-Decides q.name name).0 same in
                  let now : shelves.put q.name file a.settled name ≡ file = cond-true (bytes_eq q.name name) file (a.settled name) same in
                  let is = subst (λ (n : List ℕ). NotSpoiled a n → (a.node.shelf.seen n ≡ file) × (a.node.shelf.doubt n ≡ settled_file file)) name_is settles clean in
                  (is.0 ∙ sym now, is.1 ∙ ap settled_file (sym now))
              | inr other ↦
                  let now : shelves.put q.name file a.settled name ≡ a.settled name = put_there file a.settled q.name name other in
                  let is = h.free name clean (λ key r safe opens2.
                  elim (cases_Bool (same_key key step)) [
                    | inl same ↦
                        λ name_is.
                        let there : status.status (journal_of a) step ≡ status.Open r safe = subst (λ (k : Key). status.status (journal_of a) k ≡ status.Open r safe) (same_key-true key step same) opens2 in
                        let q_is : q ≡ r = (open_same q r m safe (sym opens ∙ there)).0 in
                        false≢true (sym other ∙ (bytes_eq-Decides q.name name).1 (ap (λ (y : Receiving). y.name) q_is ∙ name_is))
                    | inr apart ↦ nobody key r safe (still_open key r safe apart opens2)
                  ]) in
                  (is.0 ∙ sym now, is.1 ∙ ap settled_file (sym now))
            ];
        held = λ key r safe is. same_held a a_done r safe (outcome_same key r safe is) (h.held key r safe (was_open key r safe is));
      }

      outcome_rests : (n : ℕ) (phase : Phase) → Rested n a phase → Rested n a_done phase
      outcome_rests n = rested_more n a a_done (λ key held. held) (λ key r safe held is. (was_open key r safe is, outcome_same key r safe is))

    none_rests : (n : ℕ) (phase : Phase) → Rested n a phase → Rested n (record a { node = did sid (Keep e) a.node }) phase
    none_rests n = rested_more n a (record a { node = did sid (Keep e) a.node }) (λ key held. held) (λ key r safe held is. (was_open key r safe is, same_file a (record a { node = did sid (Keep e) a.node }) r refl (λ clean. clean) refl refl refl))

    -- the session that received it is at rest now
    done_rests : (a2 : Half) → journal_of a2 ≡ e ∷ journal_of a → (phase : Phase) → key_under_way phase ≡ Some step → Rested sid a2 phase
    done_rests a2 journal (Take role terms key came) under = λ held r safe is.
        let key_is : key ≡ step = some_same key step under in
        let opens : status.status (e ∷ journal_of a) key ≡ status.Open r safe = subst (λ (j : List Entry). status.status j key ≡ status.Open r safe) journal is in
        let same : same_key key step ≡ true = subst (λ (k : Key). same_key key k ≡ true) key_is (same_key-refl key) in
        absurd (false≢true (sym (not_now key r safe opens) ∙ same))
    done_rests a2 journal phase under = tt

  -- a mark, of what is synced
  module _ (step : Key) (offset : ℕ) (enough : offset ≤ length (a.received step))
      (synced : OfOpen (journal_of a) step (λ r safe. (offset ≡ 0) ⊎ (NotSpoiled a r.name → Begins (front_of a r offset) (a.node.shelf.seen r.name) × (a.node.shelf.doubt r.name ≡ settled_file (a.node.shelf.seen r.name))))) where
    abbrev a_marked : Half
    a_marked = record a { node = did sid (Keep (entry.Mark step offset)) a.node }

    now_marked : (key : Key) (r : Receiving) (safe : ℕ) → same_key key step ≡ true → status.status (entry.Mark step offset ∷ journal_of a) key ≡ status.Open r safe
        → (before : ℕ) × (status.status (journal_of a) key ≡ status.Open r before) × (safe ≡ offset)
    now_marked key r safe same is = marked_opens offset (status.status (journal_of a) key) r safe (sym (status-own (entry.Mark step offset) (journal_of a) key same) ∙ is)

    mark_stands : Standing a_marked
    mark_stands = record {
      free = λ name clean nobody. h.free name clean (λ key r safe is.
          elim (cases_Bool (same_key key step)) [
            | inl same ↦ nobody key r offset (status-own (entry.Mark step offset) (journal_of a) key same ∙ ap (status.marked offset) is)
            | inr other ↦ nobody key r safe (status-other (entry.Mark step offset) (journal_of a) key other ∙ is)
          ]);
      held = λ key r safe is.
          elim (cases_Bool (same_key key step)) [
            | inl same ↦
                let before = now_marked key r safe same is in
                let held : Held a r before.0 = h.held key r before.0 before.1 in
                let key_is : r.key ≡ step = keyed a.node.view.config.read (journal_of a) legal key r before.0 before.1 ∙ same_key-true key step same in
                let there : offset ≤ length (a.received r.key) = subst (λ (k : Key). offset ≤ length (a.received k)) (sym key_is) enough in
                let at_step : status.status (journal_of a) step ≡ status.Open r before.0 = subst (λ (k : Key). status.status (journal_of a) k ≡ status.Open r before.0) (same_key-true key step same) before.1 in
                let safe_is : NotSpoiled a r.name → IsSafe (front_of a r offset) (a.node.shelf.seen r.name) (a.node.shelf.doubt r.name) =
                λ clean. marked_safe r before.0 held clean (synced r before.0 at_step) in
                subst (λ (n : ℕ). Held a r n) (sym before.2) (there, held.1, λ clean. ((held.2 clean).0, safe_is clean))
            | inr other ↦ h.held key r safe (before_other (entry.Mark step offset) key r safe other is)
          ];
    } where
      marked_safe : (r : Receiving) (m : ℕ) → Held a r m → NotSpoiled a r.name
          → ((offset ≡ 0) ⊎ (NotSpoiled a r.name → Begins (front_of a r offset) (a.node.shelf.seen r.name) × (a.node.shelf.doubt r.name ≡ settled_file (a.node.shelf.seen r.name))))
          → IsSafe (front_of a r offset) (a.node.shelf.seen r.name) (a.node.shelf.doubt r.name)
      marked_safe r m held clean (inl none) = subst (λ (n : ℕ). IsSafe (front_of a r n) (a.node.shelf.seen r.name) (a.node.shelf.doubt r.name)) (sym none) (file_back a r m (held.2 clean))
      marked_safe r m held clean (inr both) =
          let is = both clean in
          subst (λ (d : FileDoubt). IsSafe (front_of a r offset) (a.node.shelf.seen r.name) d) (sym is.1) (safe_settled (front_of a r offset) (a.node.shelf.seen r.name) is.0)

    -- other sessions hold other keys
    mark_others : a.node.sessions.holder step ≡ Some sid → (n : ℕ) → eqb sid n ≡ false → (phase : Phase) → Rested n a phase → Rested n a_marked phase
    mark_others holds n other_session = rested_more n a a_marked (λ key held. held) (λ key r safe held is.
        let apart : same_key key step ≡ false = key_apart step key (owners_apart a.node.sessions.holder step key sid n holds held other_session) in
        (before_other (entry.Mark step offset) key r safe apart is, same_file a a_marked r refl (λ clean. clean) refl refl refl))

    -- back at the beginning
    mark_own : offset ≡ 0 → (n : ℕ) (phase : Phase) → Rested n a phase → Rested n a_marked phase
    mark_own zero_is n (Take role terms key came) t = λ held r safe is.
        elim (cases_Bool (same_key key step)) [
          | inl same ↦
              let before = now_marked key r safe same is in
              let rest : AtRest a r before.0 came = t held r before.0 before.1 in
              let at : safe ≡ offset = before.2 in
              inr (omega (arith, at, zero_is), λ clean. rest_came a r before.0 came (h.held key r before.0 before.1) rest clean)
          | inr other ↦ t held r safe (before_other (entry.Mark step offset) key r safe other is)
        ]
    mark_own zero_is n phase t = tt

  -- a receiving begins
  module _ (q : Receiving) (legal2 : is_legal a.node.view.config.read (entry.Receiving q ∷ journal_of a) ≡ true)
      (told : OfOpen (journal_of a) q.key (λ before safe. ⊥) → ToldOf q (a.node.shelf.seen q.name)) where
    abbrev a_opened : Half
    a_opened = record a { node = did sid (Keep (entry.Receiving q)) a.node; received = put same_key q.key [] a.received }

    may : may_receive_from (status.status (journal_of a) q.key) q ≡ true
    may = may_receive_again a.node.view.config.read (journal_of a) q legal2

    open_now : status.status (entry.Receiving q ∷ journal_of a) q.key ≡ status.Open q 0
    open_now = status-own (entry.Receiving q) (journal_of a) q.key (same_key-refl q.key) ∙ opens_so q (status.status (journal_of a) q.key) may

    got_now : put same_key q.key [] a.received q.key ≡ []
    got_now = cond-true (same_key q.key q.key) [] (a.received q.key) (same_key-refl q.key)

    opened_same : (key : Key) (r : Receiving) (safe : ℕ) → same_key key q.key ≡ false → status.status (journal_of a) key ≡ status.Open r safe → SameAt a a_opened r
    opened_same key r safe apart is =
        let key_is : r.key ≡ key = keyed a.node.view.config.read (journal_of a) legal key r safe is in
        let other : same_key q.key r.key ≡ false = key_apart r.key q.key (subst (λ (k : Key). same_key k q.key ≡ false) (sym key_is) apart) in
        same_file a a_opened r (cond-false (same_key q.key r.key) [] (a.received r.key) other) (λ clean. clean) refl refl refl

    -- nobody received onto it
    new_file : {s : Status} → status.status (journal_of a) q.key ≡ s → NotOpen s → NotSpoiled a q.name
        → ToldOf q (a.settled q.name) × IsSafe (take q.base (content_of (a.settled q.name)) ++ []) (a.node.shelf.seen q.name) (a.node.shelf.doubt q.name)
    new_file {s} is closed clean =
        let nobody : NobodyOn a q.name =
        λ key r safe opens names.
        elim (cases_Bool (same_key key q.key)) [
          | inl same ↦ subst NotOpen (sym is ∙ subst (λ (k : Key). status.status (journal_of a) k ≡ status.Open r safe) (same_key-true key q.key same) opens) closed
          | inr apart ↦
              let still : status.status (entry.Receiving q ∷ journal_of a) key ≡ status.Open r safe = status-other (entry.Receiving q) (journal_of a) key apart ∙ opens in
              let differ : bytes_eq r.name q.name ≡ false = names_apart a.node.view.config.read (entry.Receiving q ∷ journal_of a) legal2 key q.key r q safe 0 still open_now apart in
              false≢true (sym differ ∙ (bytes_eq-Decides r.name q.name).1 names)
        ] in
        let is_free = h.free q.name clean nobody in
        let old : ToldOf q (a.settled q.name) = subst (ToldOf q) is_free.0 (told (λ r safe opens. subst NotOpen (sym is ∙ opens) closed)) in
        let kept : List ℕ = take q.base (content_of (a.settled q.name)) in
        let begins : Begins kept (a.settled q.name) = ap (λ (n : ℕ). take n (content_of (a.settled q.name))) (kept_length q (a.settled q.name) old) in
        let safe : IsSafe kept (a.settled q.name) (settled_file (a.settled q.name)) = safe_settled kept (a.settled q.name) begins in (
          old,
          subst (λ (front : List ℕ). IsSafe front (a.node.shelf.seen q.name) (a.node.shelf.doubt q.name)) (sym (append-nil kept))
              (subst (λ (d : FileDoubt). IsSafe kept (a.node.shelf.seen q.name) d) (sym is_free.1) (subst (λ (f : Option (List ℕ)). IsSafe kept f (settled_file (a.settled q.name))) (sym is_free.0) safe)),
        )

    -- its file, by the status before
    begun_file : (s : Status) → status.status (journal_of a) q.key ≡ s → NotSpoiled a q.name
        → ToldOf q (a.settled q.name) × IsSafe (take q.base (content_of (a.settled q.name)) ++ []) (a.node.shelf.seen q.name) (a.node.shelf.doubt q.name)
    begun_file (status.Open before m) is clean =
        let again : IsAgain before q = again_parts before q (subst (λ (s : Status). may_receive_from s q ≡ true) is may) in
        let clean2 : NotSpoiled a before.name = subst (NotSpoiled a) again.name clean in
        let file : OnFile a before m = (h.held q.key before m is).2 clean2 in
        let old : ToldOf before (a.settled q.name) = subst (λ (n : List ℕ). ToldOf before (a.settled n)) (sym again.name) file.0 in
        let back : IsSafe (take before.base (content_of (a.settled before.name)) ++ []) (a.node.shelf.seen before.name) (a.node.shelf.doubt before.name) = file_back a before m file in
        let named : IsSafe (take before.base (content_of (a.settled q.name)) ++ []) (a.node.shelf.seen q.name) (a.node.shelf.doubt q.name) =
        subst (λ (n : List ℕ). IsSafe (take before.base (content_of (a.settled n)) ++ []) (a.node.shelf.seen n) (a.node.shelf.doubt n)) (sym again.name) back in (
          (same_flag q.there before.there again.there ∙ old.0, again.base ∙ old.1 ∙ ap (λ (d : Disp). kept_base d (size (a.settled q.name))) (sym again.disp)),
          subst (λ (n : ℕ). IsSafe (take n (content_of (a.settled q.name)) ++ []) (a.node.shelf.seen q.name) (a.node.shelf.doubt q.name)) (sym again.base) named,
        )
    begun_file status.Fresh is clean = new_file is tt clean
    begun_file (status.Started tries kind) is clean = new_file is tt clean
    begun_file (status.Done o) is clean = new_file is tt clean

    opened_held : (key : Key) → same_key key q.key ≡ true → OfOpen (entry.Receiving q ∷ journal_of a) key (λ r safe. Held a_opened r safe)
    opened_held key same r safe is =
        let now = opened_is q r safe (status.status (journal_of a) q.key) may
        (sym (status-own (entry.Receiving q) (journal_of a) q.key (same_key-refl q.key)) ∙ subst (λ (k : Key). status.status (entry.Receiving q ∷ journal_of a) k ≡ status.Open r safe) (same_key-true key q.key same) is) in
        let first : Held a_opened q 0 = (
          omega arith,
          subst (λ (g : List ℕ). length g ≤ q.length) (sym got_now) (omega arith),
          λ clean. begun_file (status.status (journal_of a) q.key) refl clean,
        ) in
        subst (λ (n : ℕ). Held a_opened r n) now.1 (subst (λ (y : Receiving). Held a_opened y 0) now.0 first)

    opened_stands : Standing a_opened
    opened_stands = record {
      free = λ name clean nobody. h.free name clean (λ key r safe is.
          elim (cases_Bool (same_key key q.key)) [
            | inl same ↦
                let at_q : status.status (journal_of a) q.key ≡ status.Open r safe = subst (λ (k : Key). status.status (journal_of a) k ≡ status.Open r safe) (same_key-true key q.key same) is in
                let again : IsAgain r q = again_parts r q (subst (λ (s : Status). may_receive_from s q ≡ true) at_q may) in
                λ names. nobody q.key q 0 open_now (again.name ∙ names)
            | inr apart ↦ nobody key r safe (status-other (entry.Receiving q) (journal_of a) key apart ∙ is)
          ]);
      held = λ key r safe is.
          elim (cases_Bool (same_key key q.key)) [
            | inl same ↦ opened_held key same r safe is
            | inr apart ↦
                let before : status.status (journal_of a) key ≡ status.Open r safe = before_other (entry.Receiving q) key r safe apart is in
                same_held a a_opened r safe (opened_same key r safe apart before) (h.held key r safe before)
          ];
    }

    opened_others : a.node.sessions.holder q.key ≡ Some sid → (n : ℕ) → eqb sid n ≡ false → (phase : Phase) → Rested n a phase → Rested n a_opened phase
    opened_others holds n other_session = rested_more n a a_opened (λ key held. held) (λ key r safe held is.
        let apart : same_key key q.key ≡ false = key_apart q.key key (owners_apart a.node.sessions.holder q.key key sid n holds held other_session) in
        let before : status.status (journal_of a) key ≡ status.Open r safe = before_other (entry.Receiving q) key r safe apart is in
        (before, opened_same key r safe apart before))

-- Changes of files, and what sessions do.

take_put : (step key : Key) (value : List ℕ) (others : Key → List ℕ) → same_key step key ≡ false → put same_key step value others key ≡ others key
take_put step key value others apart = cond-false (same_key step key) value (others key) apart

-- Ready keeps what is marked
readied_kept : (x : At) (sid : ℕ) (w : World) (frames : List Message) → AllTrue x sid w frames → (g : Key → List ℕ) (key : Key) (r : Receiving) (safe : ℕ) → status.status (journal_of w.a) key ≡ status.Open r safe → safe ≤ length (g key)
    → (safe ≤ length (readied frames g key)) × (length (readied frames g key) ≤ length (g key)) × (take safe (readied frames g key) ≡ take safe (g key))
readied_kept x sid w [] sent g key r safe is enough = (enough, omega arith, refl)
readied_kept x sid w (message.Ready step offset ∷ frames) sent g key r safe is enough =
    let g2 : Key → List ℕ = put same_key step (take offset (g step)) g in
    let once : (safe ≤ length (g2 key)) × (length (g2 key) ≤ length (g key)) × (take safe (g2 key) ≡ take safe (g key)) =
    elim (cases_Bool (same_key step key)) [
      | inl same ↦
          let key_is : key ≡ step = sym (same_key-true step key same) in
          let low : safe ≤ offset = sent.0.1 r safe (subst (λ (k : Key). status.status (journal_of w.a) k ≡ status.Open r safe) key_is is) in
          let now : g2 key ≡ take offset (g key) = cond-true (same_key step key) (take offset (g step)) (g key) same ∙ ap (λ (k : Key). take offset (g k)) (sym key_is) in
          let len : length (take offset (g key)) ≡ min offset (length (g key)) = length-take offset (g key) in
          let now_len : length (g2 key) ≡ length (take offset (g key)) = ap (λ (l : List ℕ). length l) now in
          (omega (arith, now_len, len, low, enough), omega (arith, now_len, len), ap (λ (l : List ℕ). take safe l) now ∙ take-take safe offset (g key) low)
      | inr other ↦
          let now : g2 key ≡ g key = cond-false (same_key step key) (take offset (g step)) (g key) other in
          let now_len : length (g2 key) ≡ length (g key) = ap (λ (l : List ℕ). length l) now in
          (omega (arith, now_len, enough), omega (arith, now_len), ap (λ (l : List ℕ). take safe l) now)
    ] in
    let rest = readied_kept x sid w frames sent.1 g2 key r safe is once.0 in
    let less : length (readied frames g2 key) ≤ length (g2 key) = rest.1 in
    let less2 : length (g2 key) ≤ length (g key) = once.1 in
    (rest.0, omega (arith, less, less2), rest.2 ∙ once.2)
readied_kept x sid w (message.Bye ∷ frames) sent g key r safe is enough = readied_kept x sid w frames sent.1 g key r safe is enough
readied_kept x sid w (m ∷ frames) sent g key r safe is enough = readied_kept x sid w frames sent.1 g key r safe is enough

module _ (x : At) (sid : ℕ) where
  -- the bytes received of another step stay
  touched_other : (w : World) (change : FileChange) (u : Under x sid w change) (key : Key) → same_key u.r.key key ≡ false → (world_did x sid (Touch change) w).a.received key ≡ w.a.received key
  touched_other w (WriteFile name at bytes) u key apart =
      let G : Key → List ℕ = w.a.received in
      let over : List ℕ = overwritten (at - u.r.base) bytes (G u.r.key) in
      let one : written_by (journal_of w.a) (key_under_way (w.a.node.sessions.phase sid)) (WriteFile name at bytes) G ≡ written_for u.r.key at bytes (status.status (journal_of w.a) u.r.key) G =
      ap (λ (k : Option Key). written_by (journal_of w.a) k (WriteFile name at bytes) G) u.writes in
      let two : written_for u.r.key at bytes (status.status (journal_of w.a) u.r.key) G ≡ put same_key u.r.key over G = ap (λ (s : Status). written_for u.r.key at bytes s G) u.open_is in
      ap (λ (g : Key → List ℕ). g key) (one ∙ two) ∙ take_put u.r.key key over G apart
  touched_other w (shelves.CutFile name len) u key apart = refl
  touched_other w (shelves.SyncFile name) u key apart = refl
  touched_other w (shelves.RemoveFile name) u key apart = refl

  -- those of its own step grow within the length, and what is marked of them stays
  record Grew (w : World) (change : FileChange) (u : Under x sid w change) : Type 0 where
    longer : length (w.a.received u.r.key) ≤ length ((world_did x sid (Touch change) w).a.received u.r.key)
    short : length ((world_did x sid (Touch change) w).a.received u.r.key) ≤ u.r.length
    same : NotSpoiled w.a u.r.name → take u.safe ((world_did x sid (Touch change) w).a.received u.r.key) ≡ take u.safe (w.a.received u.r.key)

  touched_own : (w : World) (change : FileChange) (good : GoodChange x sid w change) → Held w.a good.1.r good.1.safe → Grew w change good.1
  touched_own w (WriteFile name at bytes) good held =
      let b : Brought x sid w at bytes = good.0 in
      let u : Under x sid w (WriteFile name at bytes) = good.1 in
      let G : Key → List ℕ = w.a.received in
      let g : List ℕ = G u.r.key in
      let over : List ℕ = overwritten (at - u.r.base) bytes g in
      let one : written_by (journal_of w.a) (key_under_way (w.a.node.sessions.phase sid)) (WriteFile name at bytes) G ≡ written_for u.r.key at bytes (status.status (journal_of w.a) u.r.key) G =
      ap (λ (k : Option Key). written_by (journal_of w.a) k (WriteFile name at bytes) G) u.writes in
      let two : written_for u.r.key at bytes (status.status (journal_of w.a) u.r.key) G ≡ put same_key u.r.key over G = ap (λ (s : Status). written_for u.r.key at bytes s G) u.open_is in
      let now : (world_did x sid (Touch (WriteFile name at bytes)) w).a.received u.r.key ≡ over = ap (λ (f : Key → List ℕ). f u.r.key) (one ∙ two) ∙ cond-true (same_key u.r.key u.r.key) over g (same_key-refl u.r.key) in
      let key_is : b.key ≡ u.r.key = some_same b.key u.r.key (sym b.under ∙ u.writes) in
      let r_is : b.r ≡ u.r = (open_same b.r u.r b.safe u.safe (sym b.open_is ∙ ap (λ (k : Key). status.status (journal_of w.a) k) key_is ∙ u.open_is)).0 in
      let at_is : at - u.r.base ≡ b.came = subst (λ (q : Receiving). at - q.base ≡ b.came) r_is b.at_is in
      let enough : b.came ≤ length g = subst (λ (k : Key). b.came ≤ length (G k)) key_is b.enough in
      let fits : b.came + length bytes ≤ u.r.length = subst (λ (q : Receiving). b.came + length bytes ≤ q.length) r_is b.within in
      let short : length g ≤ u.r.length = held.1 in
      let marks : u.safe ≤ length g = held.0 in
      let len : length over ≡ (at - u.r.base) + (length bytes + (length g - ((at - u.r.base) + length bytes))) = length_over (at - u.r.base) bytes g in
      record {
        longer = subst (λ (l : List ℕ). length g ≤ length l) (sym now) (omega (arith, len));
        short = subst (λ (l : List ℕ). length l ≤ u.r.length) (sym now) (omega (arith, len, at_is, enough, fits, short));
        same = λ clean.
            let keeps : u.r.base + u.safe ≤ at = u.keeps clean in
            subst (λ (l : List ℕ). take u.safe l ≡ take u.safe g) (sym now) (over_start u.safe (at - u.r.base) bytes g (omega (arith, keeps)) marks);
      }
  touched_own w (shelves.CutFile name len) good held = record { longer = omega arith; short = held.1; same = λ clean. refl }
  touched_own w (shelves.SyncFile name) good held = record { longer = omega arith; short = held.1; same = λ clean. refl }
  touched_own w (shelves.RemoveFile name) good held = record { longer = omega arith; short = held.1; same = λ clean. refl }

  module _ (w : World) (h : Standing w.a) (legal : is_legal w.a.node.view.config.read (journal_of w.a) ≡ true) where
    -- the name of the change, and others
    module _ (change : FileChange) (u : Under x sid w change) where
      other_name : (key : Key) (r : Receiving) (safe : ℕ) → status.status (journal_of w.a) key ≡ status.Open r safe → same_key u.r.key key ≡ false → bytes_eq (name_of change) r.name ≡ false
      other_name key r safe is apart =
          subst (λ (n : List ℕ). bytes_eq n r.name ≡ false) u.name_is (names_apart w.a.node.view.config.read (journal_of w.a) legal u.r.key key u.r r u.safe safe u.open_is is apart)

      own_name : bytes_eq (name_of change) u.r.name ≡ true
      own_name = (bytes_eq-Decides (name_of change) u.r.name).1 (sym u.name_is)

      free_name : (name : List ℕ) → NobodyOn w.a name → bytes_eq (name_of change) name ≡ false
      free_name name nobody = false_from_ne_true (bytes_eq (name_of change) name) (λ same. nobody u.r.key u.r u.safe u.open_is (u.name_is ∙ (bytes_eq-Decides (name_of change) name).0 same))

      -- a receiving of this step is this one
      own_key : (key : Key) (r : Receiving) (safe : ℕ) → status.status (journal_of w.a) key ≡ status.Open r safe → same_key u.r.key key ≡ true → (u.r ≡ r) × (u.safe ≡ safe)
      own_key key r safe is same =
          open_same u.r r u.safe safe (sym u.open_is ∙ ap (λ (k : Key). status.status (journal_of w.a) k) (same_key-true u.r.key key same) ∙ is)

      -- the doubt within the change
      doubt_free : (name : List ℕ) → NotSpoiled w.a name → NobodyOn w.a name → within change w.a.node.shelf name ≡ settled_file (w.a.settled name)
      doubt_free name clean nobody = within_other change w.a.node.shelf name (free_name name nobody) ∙ (h.free name clean nobody).1

      doubt_held : (key : Key) → OfOpen (journal_of w.a) key (λ r safe. NotSpoiled w.a r.name → IsSafe (front_of w.a r safe) (w.a.node.shelf.seen r.name) (within change w.a.node.shelf r.name))
      doubt_held key r safe is clean =
          elim (cases_Bool (same_key u.r.key key)) [
            | inl same ↦
                let own = own_key key r safe is same in
                subst (λ (y : Receiving). IsSafe (front_of w.a y safe) (w.a.node.shelf.seen y.name) (within change w.a.node.shelf y.name)) own.0
                (subst (λ (n : ℕ). IsSafe (front_of w.a u.r n) (w.a.node.shelf.seen u.r.name) (within change w.a.node.shelf u.r.name)) own.1 (own_doubt (subst (λ (y : Receiving). NotSpoiled w.a y.name) (sym own.0) clean)))
            | inr apart ↦
                subst (λ (d : FileDoubt). IsSafe (front_of w.a r safe) (w.a.node.shelf.seen r.name) d) (sym (within_other change w.a.node.shelf r.name (other_name key r safe is apart))) ((h.held key r safe is).2 clean).1
          ] where
            own_doubt : NotSpoiled w.a u.r.name → IsSafe (front_of w.a u.r u.safe) (w.a.node.shelf.seen u.r.name) (within change w.a.node.shelf u.r.name)
            own_doubt clean2 =
                let held : Held w.a u.r u.safe = h.held u.r.key u.r u.safe u.open_is in
                let file : OnFile w.a u.r u.safe = held.2 clean2 in
                let keeps : KeepsSafe (length (front_of w.a u.r u.safe)) change = subst (λ (n : ℕ). KeepsSafe n change) (sym (front_length w.a u.r u.safe file.0 held.0)) (u.keeps clean2) in
                subst (λ (d : FileDoubt). IsSafe (front_of w.a u.r u.safe) (w.a.node.shelf.seen u.r.name) d) (sym (within_same change w.a.node.shelf u.r.name own_name))
                (safe_within (front_of w.a u.r u.safe) (w.a.node.shelf.seen u.r.name) (w.a.node.shelf.doubt u.r.name) change file.1 keeps)

    -- a change, done
    touch_same : (change : FileChange) (u : Under x sid w change) (key : Key) (r : Receiving) (safe : ℕ) → status.status (journal_of w.a) key ≡ status.Open r safe → same_key u.r.key key ≡ false
        → SameAt w.a (world_did x sid (Touch change) w).a r
    touch_same change u key r safe is apart =
        let key_is : r.key ≡ key = keyed w.a.node.view.config.read (journal_of w.a) legal key r safe is in
        let name : bytes_eq (name_of change) r.name ≡ false = other_name change u key r safe is apart in
        same_file w.a (world_did x sid (Touch change) w).a r (touched_other w change u r.key (subst (λ (k : Key). same_key u.r.key k ≡ false) (sym key_is) apart)) (λ clean. clean) refl
        (seen_other change w.a.node.shelf r.name name) (doubt_other change w.a.node.shelf r.name name)

    touch_held : (change : FileChange) (good : GoodChange x sid w change) → Held (world_did x sid (Touch change) w).a good.1.r good.1.safe
    touch_held change good =
        let u : Under x sid w change = good.1 in
        let a2 : Half = (world_did x sid (Touch change) w).a in
        let held : Held w.a u.r u.safe = h.held u.r.key u.r u.safe u.open_is in
        let grew : Grew w change u = touched_own w change good held in
        let longer : length (w.a.received u.r.key) ≤ length (a2.received u.r.key) = grew.longer in
        let marks : u.safe ≤ length (w.a.received u.r.key) = held.0 in (
          omega (arith, longer, marks),
          grew.short,
          λ clean.
              let file : OnFile w.a u.r u.safe = held.2 clean in
              let keeps : KeepsSafe (length (front_of w.a u.r u.safe)) change = subst (λ (n : ℕ). KeepsSafe n change) (sym (front_length w.a u.r u.safe file.0 held.0)) (u.keeps clean) in
              let front : front_of w.a u.r u.safe ≡ front_of a2 u.r u.safe = ap (λ (got : List ℕ). take u.r.base (content_of (w.a.settled u.r.name)) ++ got) (sym (grew.same clean)) in
              let safe = safe_after (front_of w.a u.r u.safe) (w.a.node.shelf.seen u.r.name) (w.a.node.shelf.doubt u.r.name) change file.1 keeps in (
                file.0,
                subst (λ (f : List ℕ). IsSafe f (a2.node.shelf.seen u.r.name) (a2.node.shelf.doubt u.r.name)) front
                    (subst (λ (d : FileDoubt). IsSafe (front_of w.a u.r u.safe) (a2.node.shelf.seen u.r.name) d) (sym (doubt_same change w.a.node.shelf u.r.name (own_name change u)))
                    (subst (λ (s : Option (List ℕ)). IsSafe (front_of w.a u.r u.safe) s (doubt_after change (w.a.node.shelf.seen u.r.name) (w.a.node.shelf.doubt u.r.name))) (sym (seen_same change w.a.node.shelf u.r.name (own_name change u))) safe)),
              ),
        )

    touch_stands : (change : FileChange) (good : GoodChange x sid w change) → Standing (world_did x sid (Touch change) w).a
    touch_stands change good =
        let u : Under x sid w change = good.1 in
        let a2 : Half = (world_did x sid (Touch change) w).a in
        record {
          free = λ name clean nobody.
              let apart : bytes_eq (name_of change) name ≡ false = free_name change u name nobody in
              let before = h.free name clean nobody in
              (seen_other change w.a.node.shelf name apart ∙ before.0, doubt_other change w.a.node.shelf name apart ∙ before.1);
          held = λ key r safe is.
              elim (cases_Bool (same_key u.r.key key)) [
                | inl same ↦
                    let own = own_key change u key r safe is same in
                    subst (λ (n : ℕ). Held a2 r n) own.1 (subst (λ (y : Receiving). Held a2 y u.safe) own.0 (touch_held change good))
                | inr apart ↦ same_held w.a a2 r safe (touch_same change u key r safe is apart) (h.held key r safe is)
              ];
        }

    touch_others : (change : FileChange) (u : Under x sid w change) (n : ℕ) → eqb sid n ≡ false → (phase : Phase) → Rested n w.a phase → Rested n (world_did x sid (Touch change) w).a phase
    touch_others change u n other_session = rested_more n w.a (world_did x sid (Touch change) w).a (λ key held. held) (λ key r safe held is.
        (is, touch_same change u key r safe is (owners_apart w.a.node.sessions.holder u.r.key key sid n u.holds held other_session)))

    -- a change that is cut off
    abbrev cut_half : Half → FileChange → Option (List ℕ) → Half
    cut_half a change left = record a { node = record a.node { shelf = record { seen = shelves.put (name_of change) left a.node.shelf.seen; doubt = within change a.node.shelf } } }

    cut_same : (change : FileChange) (u : Under x sid w change) (left : Option (List ℕ)) (key : Key) (r : Receiving) (safe : ℕ) → status.status (journal_of w.a) key ≡ status.Open r safe → same_key u.r.key key ≡ false
        → SameAt w.a (cut_half w.a change left) r
    cut_same change u left key r safe is apart =
        let name : bytes_eq (name_of change) r.name ≡ false = other_name change u key r safe is apart in
        same_file w.a (cut_half w.a change left) r refl (λ clean. clean) refl (put_there left w.a.node.shelf.seen (name_of change) r.name name) (within_other change w.a.node.shelf r.name name)

    cut_stands : (change : FileChange) (u : Under x sid w change) (left : Option (List ℕ)) → IsFileImage (within change w.a.node.shelf (name_of change)) left → Standing (cut_half w.a change left)
    cut_stands change u left is = record {
      free = λ name clean nobody.
          let apart : bytes_eq (name_of change) name ≡ false = free_name change u name nobody in
          (put_there left w.a.node.shelf.seen (name_of change) name apart ∙ (h.free name clean nobody).0, doubt_free change u name clean nobody);
      held = λ key r safe opens.
          elim (cases_Bool (same_key u.r.key key)) [
            | inl same ↦
                let own = own_key change u key r safe opens same in
                let held : Held w.a r safe = h.held key r safe opens in
                let name_is : name_of change ≡ r.name = sym u.name_is ∙ ap (λ (y : Receiving). y.name) own.0 in
                let seen : shelves.put (name_of change) left w.a.node.shelf.seen r.name ≡ left = cond-true (bytes_eq (name_of change) r.name) left (w.a.node.shelf.seen r.name) ((bytes_eq-Decides (name_of change) r.name).1 name_is) in
                let image : IsFileImage (within change w.a.node.shelf r.name) left = subst (λ (n : List ℕ). IsFileImage (within change w.a.node.shelf n) left) name_is is in (
                  held.0,
                  held.1,
                  λ clean. (
                    (held.2 clean).0,
                    subst (λ (s : Option (List ℕ)). IsSafe (front_of w.a r safe) s (within change w.a.node.shelf r.name)) (sym seen)
                        (safe_left (front_of w.a r safe) (w.a.node.shelf.seen r.name) left (within change w.a.node.shelf r.name) (doubt_held change u key r safe opens clean) image),
                  ),
                )
            | inr apart ↦ same_held w.a (cut_half w.a change left) r safe (cut_same change u left key r safe opens apart) (h.held key r safe opens)
          ];
    }

    cut_others : (change : FileChange) (u : Under x sid w change) (left : Option (List ℕ)) (n : ℕ) → eqb sid n ≡ false → (phase : Phase) → Rested n w.a phase → Rested n (cut_half w.a change left) phase
    cut_others change u left n other_session = rested_more n w.a (cut_half w.a change left) (λ key held. held) (λ key r safe held is.
        (is, cut_same change u left key r safe is (owners_apart w.a.node.sessions.holder u.r.key key sid n u.holds held other_session)))

    -- a stop
    down_stands : (image : shelves.FileMap) (doubt : List ℕ → FileDoubt) → ((name : List ℕ) → NotSpoiled w.a name → NobodyOn w.a name → doubt name ≡ settled_file (w.a.settled name))
        → ((key : Key) → OfOpen (journal_of w.a) key (λ r safe. NotSpoiled w.a r.name → IsSafe (front_of w.a r safe) (w.a.node.shelf.seen r.name) (doubt r.name)))
        → IsShelfImage doubt image → Standing (down image w).a
    down_stands image doubt free_is held_is is = record {
      free = λ name clean nobody.
          let same : image name ≡ w.a.settled name = settled_image (w.a.settled name) (image name) (subst (λ (d : FileDoubt). IsFileImage d (image name)) (free_is name clean nobody) (is name)) in
          (same, ap settled_file same);
      held = λ key r safe opens.
          let held : Held w.a r safe = h.held key r safe opens in
          (held.0, held.1, λ clean. ((held.2 clean).0, safe_settled (front_of w.a r safe) (image r.name) (safe_image (front_of w.a r safe) (w.a.node.shelf.seen r.name) (doubt r.name) (image r.name) (held_is key r safe opens clean) (is r.name))));
    }

    still_down : (image : shelves.FileMap) → IsShelfImage w.a.node.shelf.doubt image → Standing (down image w).a
    still_down image is = down_stands image w.a.node.shelf.doubt (λ name clean nobody. (h.free name clean nobody).1) (λ key r safe opens clean. ((h.held key r safe opens).2 clean).1) is

    left_down : (image : shelves.FileMap) (more : List Effect) → IsLeft image more w.a.node.shelf → AllGood x sid w more → Standing (down image w).a
    left_down image (Touch change ∷ more) is good = down_stands image (within change w.a.node.shelf) (doubt_free change good.1.1) (doubt_held change good.1.1) is
    left_down image [] is good = still_down image is
    left_down image (Keep e ∷ more) is good = still_down image is
    left_down image (AskSize name ∷ more) is good = still_down image is
    left_down image (AskBytes name at len ∷ more) is good = still_down image is
    left_down image (Begin key phase ∷ more) is good = still_down image is
    left_down image (Go phase frames ∷ more) is good = still_down image is

    -- Ready
    ready_held : (frames : List Message) → AllTrue x sid w frames → (key : Key) → OfOpen (journal_of w.a) key (λ r safe. Held (record w.a { received = readied frames w.a.received }) r safe)
    ready_held frames sent key r safe is =
        let held : Held w.a r safe = h.held key r safe is in
        let key_is : r.key ≡ key = keyed w.a.node.view.config.read (journal_of w.a) legal key r safe is in
        let opens : status.status (journal_of w.a) r.key ≡ status.Open r safe = subst (λ (k : Key). status.status (journal_of w.a) k ≡ status.Open r safe) (sym key_is) is in
        let cut = readied_kept x sid w frames sent w.a.received r.key r safe opens held.0 in
        let less : length (readied frames w.a.received r.key) ≤ length (w.a.received r.key) = cut.1 in
        let short : length (w.a.received r.key) ≤ r.length = held.1 in
        let front : front_of w.a r safe ≡ take r.base (content_of (w.a.settled r.name)) ++ take safe (readied frames w.a.received r.key) = ap (λ (got : List ℕ). take r.base (content_of (w.a.settled r.name)) ++ got) (sym cut.2) in
        (cut.0, omega (arith, less, short), λ clean. ((held.2 clean).0, subst (λ (f : List ℕ). IsSafe f (w.a.node.shelf.seen r.name) (w.a.node.shelf.doubt r.name)) front (held.2 clean).1))

    go_stands : (phase : Phase) (frames : List Message) → AllTrue x sid w frames → Standing (world_did x sid (Go phase frames) w).a
    go_stands phase frames sent = record { free = h.free; held = ready_held frames sent }

    go_others : (phase : Phase) (frames : List Message) → AllTrue x sid w frames → (n : ℕ) → eqb sid n ≡ false → (p : Phase) → Rested n w.a p → Rested n (world_did x sid (Go phase frames) w).a p
    go_others phase frames sent n other_session = rested_more n w.a (world_did x sid (Go phase frames) w).a (λ key held. held) (λ key r safe held is.
        let key_is : r.key ≡ key = keyed w.a.node.view.config.read (journal_of w.a) legal key r safe is in
        let holds : w.a.node.sessions.holder r.key ≡ Some n = subst (λ (k : Key). w.a.node.sessions.holder k ≡ Some n) (sym key_is) held in
        (is, same_file w.a (world_did x sid (Go phase frames) w).a r (readied_apart x sid w frames sent w.a.received r.key n holds other_session) (λ clean. clean) refl refl refl))

  -- what goes on is at rest
  go_own : (w : World) (phase : Phase) (frames : List Message) (p : Phase) → RestsOn x sid w frames p → rests_in p frames ≡ true → Rested sid (world_did x sid (Go phase frames) w).a p
  go_own w phase frames (Take role terms key came) rests goes = rests goes
  go_own w phase frames p rests goes = tt

  held_before : (holder : Key → Option ℕ) (step : Key) (n : ℕ) → eqb sid n ≡ false → (key : Key) → put same_key step (Some sid) holder key ≡ Some n → holder key ≡ Some n
  held_before holder step n other_session key held =
      elim (cases_Bool (same_key step key)) [
        | inl same ↦ absurd (false≢true (sym other_session ∙ eq-eqb sid n (some_same sid n (sym (cond-true (same_key step key) (Some sid) (holder key) same) ∙ held))))
        | inr other ↦ sym (cond-false (same_key step key) (Some sid) (holder key) other) ∙ held
      ]

  -- Effects, one after another.

  phase_there : (phases : ℕ → Phase) (phase : Phase) (n : ℕ) → eqb sid n ≡ false → put (λ m k. eqb m k) sid phase phases n ≡ phases n
  phase_there phases phase n other = cond-false (eqb sid n) phase (phases n) other

  phase_here : (phases : ℕ → Phase) (phase : Phase) → put (λ m k. eqb m k) sid phase phases sid ≡ phase
  phase_here phases phase = cond-true (eqb sid sid) phase (phases sid) (eq-eqb sid sid refl)

  begin_filed : (w : World) (b : Bool) (key : Key) (phase : Phase) → NotTaking phase → FiledIn sid b w.a → FiledIn sid true (world_did x sid (Begin key phase) w).a
  begin_filed w b key phase free h =
      let a2 : Half = (world_did x sid (Begin key phase) w).a in
      record {
        stands = record { free = h.stands.free; held = h.stands.held };
        others = λ n other.
            subst (Rested n a2) (sym (phase_there w.a.node.sessions.phase phase n other))
            (rested_more n w.a a2 (held_before w.a.node.sessions.holder key n other) (λ k r safe held is. (is, same_file w.a a2 r refl (λ clean. clean) refl refl refl)) (w.a.node.sessions.phase n) (h.others n other));
        own = λ yes. subst (Rested sid a2) (sym (phase_here w.a.node.sessions.phase phase)) (free_rested sid a2 phase free);
      }

  go_filed : (w : World) (b : Bool) (phase : Phase) (frames : List Message) → is_legal w.a.node.view.config.read (journal_of w.a) ≡ true → GoesOn x sid w phase frames → FiledIn sid b w.a
      → FiledIn sid (rests_in phase frames) (world_did x sid (Go phase frames) w).a
  go_filed w b phase frames legal goes h =
      let a2 : Half = (world_did x sid (Go phase frames) w).a in
      record {
        stands = go_stands w h.stands legal phase frames goes.sent;
        others = λ n other. subst (Rested n a2) (sym (phase_there w.a.node.sessions.phase phase n other)) (go_others w h.stands legal phase frames goes.sent n other (w.a.node.sessions.phase n) (h.others n other));
        own = λ yes. subst (Rested sid a2) (sym (phase_here w.a.node.sessions.phase phase)) (go_own w phase frames phase goes.rests yes);
      }

  touch_filed : (w : World) (b : Bool) (change : FileChange) → is_legal w.a.node.view.config.read (journal_of w.a) ≡ true → GoodChange x sid w change → FiledIn sid b w.a → FiledIn sid false (world_did x sid (Touch change) w).a
  touch_filed w b change legal good h = record {
    stands = touch_stands w h.stands legal change good;
    others = λ n other. touch_others w h.stands legal change good.1 n other (w.a.node.sessions.phase n) (h.others n other);
    own = λ never. absurd (false≢true never);
  }

  own_done : (w : World) (a2 : Half) (step : Key) → ((phase : Phase) → key_under_way phase ≡ Some step → Rested sid a2 phase) → Frees x sid w step → Rested sid a2 (w.a.node.sessions.phase sid)
  own_done w a2 step done (inl free) = free_rested sid a2 (w.a.node.sessions.phase sid) free
  own_done w a2 step done (inr under) = done (w.a.node.sessions.phase sid) under

  result_filed : (w : World) (b : Bool) (step : Key) (o : Outcomes) (moment : ℕ) → is_legal w.a.node.view.config.read (journal_of w.a) ≡ true → GoodKeep x sid w (entry.Result step o moment) → FiledIn sid b w.a
      → FiledIn sid true (world_did x sid (Keep (entry.Result step o moment)) w).a
  result_filed w b step o moment legal good h = by_status (status.status (journal_of w.a) step) refl where
    e : Entry
    e = entry.Result step o moment

    none_filed : NotOpen (status.status (journal_of w.a) step) → FiledIn sid true (record w.a { node = did sid (Keep (entry.Result step o moment)) w.a.node })
    none_filed closed =
        let a2 : Half = record w.a { node = did sid (Keep (entry.Result step o moment)) w.a.node } in
        record {
          stands = none_stands x sid w.a h.stands legal (entry.Result step o moment) step o (λ key. refl) (λ s. refl) closed;
          others = λ n other. none_rests x sid w.a h.stands legal (entry.Result step o moment) step o (λ key. refl) (λ s. refl) n (w.a.node.sessions.phase n) (h.others n other);
          own = λ yes. own_done w a2 step (done_rests x sid w.a h.stands legal (entry.Result step o moment) step o (λ key. refl) (λ s. refl) a2 refl) good.2;
        }

    by_status : (s : Status) → status.status (journal_of w.a) step ≡ s → FiledIn sid true (record w.a { node = did sid (Keep (entry.Result step o moment)) w.a.node; settled = landed_by s (w.a.received step) w.a.settled })
    by_status (status.Open q m) is =
        let file : Option (List ℕ) = Some (landed q.disp (w.a.settled q.name) (w.a.received step)) in
        let a2 : Half = record w.a { node = did sid (Keep (entry.Result step o moment)) w.a.node; settled = shelves.put q.name file w.a.settled } in
        record {
          stands = outcome_stands x sid w.a h.stands legal (entry.Result step o moment) step o (λ key. refl) (λ s. refl) q m is file (good.1 q m is);
          others = λ n other. outcome_rests x sid w.a h.stands legal (entry.Result step o moment) step o (λ key. refl) (λ s. refl) q m is file (good.1 q m is) n (w.a.node.sessions.phase n) (h.others n other);
          own = λ yes. own_done w a2 step (done_rests x sid w.a h.stands legal (entry.Result step o moment) step o (λ key. refl) (λ s. refl) a2 refl) good.2;
        }
    by_status status.Fresh is = none_filed (subst NotOpen (sym is) tt)
    by_status (status.Started tries kind) is = none_filed (subst NotOpen (sym is) tt)
    by_status (status.Done before) is = none_filed (subst NotOpen (sym is) tt)

  dropped_filed : (w : World) (b : Bool) (step : Key) (rc : ℕ) (why : Cause) (moment : ℕ) → is_legal w.a.node.view.config.read (journal_of w.a) ≡ true → GoodKeep x sid w (entry.Dropped step rc why moment) → FiledIn sid b w.a
      → FiledIn sid true (world_did x sid (Keep (entry.Dropped step rc why moment)) w).a
  dropped_filed w b step rc why moment legal good h = by_status (status.status (journal_of w.a) step) refl where
    none_filed : NotOpen (status.status (journal_of w.a) step) → FiledIn sid true (record w.a { node = did sid (Keep (entry.Dropped step rc why moment)) w.a.node })
    none_filed closed =
        let a2 : Half = record w.a { node = did sid (Keep (entry.Dropped step rc why moment)) w.a.node } in
        record {
          stands = none_stands x sid w.a h.stands legal (entry.Dropped step rc why moment) step (status.dropped_outcome rc why) (λ key. refl) (λ s. refl) closed;
          others = λ n other. none_rests x sid w.a h.stands legal (entry.Dropped step rc why moment) step (status.dropped_outcome rc why) (λ key. refl) (λ s. refl) n (w.a.node.sessions.phase n) (h.others n other);
          own = λ yes. own_done w a2 step (done_rests x sid w.a h.stands legal (entry.Dropped step rc why moment) step (status.dropped_outcome rc why) (λ key. refl) (λ s. refl) a2 refl) good.1;
        }

    by_status : (s : Status) → status.status (journal_of w.a) step ≡ s → FiledIn sid true (record w.a { node = did sid (Keep (entry.Dropped step rc why moment)) w.a.node; settled = dropped_by s w.a.settled })
    by_status (status.Open q m) is =
        let file : Option (List ℕ) = dropped q.disp (w.a.settled q.name) in
        let a2 : Half = record w.a { node = did sid (Keep (entry.Dropped step rc why moment)) w.a.node; settled = shelves.put q.name file w.a.settled } in
        record {
          stands = outcome_stands x sid w.a h.stands legal (entry.Dropped step rc why moment) step (status.dropped_outcome rc why) (λ key. refl) (λ s. refl) q m is file (good.0 q m is);
          others = λ n other. outcome_rests x sid w.a h.stands legal (entry.Dropped step rc why moment) step (status.dropped_outcome rc why) (λ key. refl) (λ s. refl) q m is file (good.0 q m is) n (w.a.node.sessions.phase n) (h.others n other);
          own = λ yes. own_done w a2 step (done_rests x sid w.a h.stands legal (entry.Dropped step rc why moment) step (status.dropped_outcome rc why) (λ key. refl) (λ s. refl) a2 refl) good.1;
        }
    by_status status.Fresh is = none_filed (subst NotOpen (sym is) tt)
    by_status (status.Started tries kind) is = none_filed (subst NotOpen (sym is) tt)
    by_status (status.Done before) is = none_filed (subst NotOpen (sym is) tt)

  plain_filed : (a : Half) (b : Bool) (e : Entry) → is_legal a.node.view.config.read (journal_of a) ≡ true → ((key : Key) → is_of key e ≡ false) → FiledIn sid b a → FiledIn sid b (record a { node = did sid (Keep e) a.node })
  plain_filed a b e legal apart h = record {
    stands = plain_stands x sid a h.stands legal e apart;
    others = λ n other. plain_rests x sid a h.stands legal n e apart (a.node.sessions.phase n) (h.others n other);
    own = λ yes. plain_rests x sid a h.stands legal sid e apart (a.node.sessions.phase sid) (h.own yes);
  }

  pub keep_filed : (w : World) (b : Bool) (e : Entry) → is_legal w.a.node.view.config.read (e ∷ journal_of w.a) ≡ true → GoodKeep x sid w e → FiledIn sid b w.a → FiledIn sid (rests_behind e b) (world_did x sid (Keep e) w).a
  keep_filed w b (entry.Result step o moment) legal2 good h = result_filed w b step o moment (legal_parts w.a.node.view.config.read _ (journal_of w.a) legal2).0 good h
  keep_filed w b (entry.Dropped step rc why moment) legal2 good h = dropped_filed w b step rc why moment (legal_parts w.a.node.view.config.read _ (journal_of w.a) legal2).0 good h
  keep_filed w b (entry.Started key kind try moment) legal2 good h = absurd good
  keep_filed w b (entry.Mark step zero) legal2 good h =
      let legal = (legal_parts w.a.node.view.config.read (entry.Mark step 0) (journal_of w.a) legal2).0 in
      record {
        stands = mark_stands x sid w.a h.stands legal step 0 good.0 good.2;
        others = λ n other. mark_others x sid w.a h.stands legal step 0 good.0 good.2 good.1 n other (w.a.node.sessions.phase n) (h.others n other);
        own = λ yes. mark_own x sid w.a h.stands legal step 0 good.0 good.2 refl sid (w.a.node.sessions.phase sid) (h.own yes);
      }
  keep_filed w b (entry.Mark step (suc offset)) legal2 good h =
      let legal = (legal_parts w.a.node.view.config.read (entry.Mark step (suc offset)) (journal_of w.a) legal2).0 in
      record {
        stands = mark_stands x sid w.a h.stands legal step (suc offset) good.0 good.2;
        others = λ n other. mark_others x sid w.a h.stands legal step (suc offset) good.0 good.2 good.1 n other (w.a.node.sessions.phase n) (h.others n other);
        own = λ never. absurd (false≢true never);
      }
  keep_filed w b (entry.Receiving q) legal2 good h =
      let legal = (legal_parts w.a.node.view.config.read (entry.Receiving q) (journal_of w.a) legal2).0 in
      record {
        stands = opened_stands x sid w.a h.stands legal q legal2 good.3;
        others = λ n other. opened_others x sid w.a h.stands legal q legal2 good.3 good.0 n other (w.a.node.sessions.phase n) (h.others n other);
        own = λ yes. free_rested sid (world_did x sid (Keep (entry.Receiving q)) w).a (w.a.node.sessions.phase sid) good.1;
      }
  keep_filed w b e legal2 good h = plain_filed w.a b e (legal_parts w.a.node.view.config.read e (journal_of w.a) legal2).0 (λ key. refl) h

  legal_now : (effects : List Effect) (w : World) → is_legal w.a.node.view.config.read (does sid effects w.a.node).view.journal ≡ true → is_legal w.a.node.view.config.read (journal_of w.a) ≡ true
  legal_now effects w legal =
      let rest = reaction_extends sid effects w.a.node in
      legal_before w.a.node.view.config.read rest.0 (journal_of w.a) (subst (λ (journal : List Entry). is_legal w.a.node.view.config.read journal ≡ true) rest.1 legal)

  pub does_filed : (effects : List Effect) (w : World) (b : Bool) → FiledIn sid b w.a → AllGood x sid w effects → is_legal w.a.node.view.config.read (does sid effects w.a.node).view.journal ≡ true
      → FiledIn sid (rested b effects) (world_does x sid effects w).a
  does_filed [] w b h good legal = h
  does_filed (Keep e ∷ effects) w b h good legal =
      does_filed effects (world_did x sid (Keep e) w) (rests_behind e b) (keep_filed w b e (legal_now effects (world_did x sid (Keep e) w) legal) good.0 h) good.1 legal
  does_filed (Touch change ∷ effects) w b h good legal = does_filed effects (world_did x sid (Touch change) w) false (touch_filed w b change (legal_now (Touch change ∷ effects) w legal) good.1 h) good.2 legal
  does_filed (AskSize name ∷ effects) w b h good legal = does_filed effects (world_did x sid (AskSize name) w) b h good.1 legal
  does_filed (AskBytes name at len ∷ effects) w b h good legal = does_filed effects (world_did x sid (AskBytes name at len) w) b h good.1 legal
  does_filed (Begin key phase ∷ effects) w b h good legal = does_filed effects (world_did x sid (Begin key phase) w) true (begin_filed w b key phase good.1 h) good.2 legal
  does_filed (Go phase frames ∷ effects) w b h good legal =
      does_filed effects (world_did x sid (Go phase frames) w) (rests_in phase frames) (go_filed w b phase frames (legal_now (Go phase frames ∷ effects) w legal) good.0 h) good.1 legal

  -- the other node only gets frames
  pub others_filed : (effects : List Effect) (w : World) → Filed w.b → Filed (world_does x sid effects w).b
  others_filed [] w h = h
  others_filed (Keep e ∷ effects) w h = others_filed effects (world_did x sid (Keep e) w) h
  others_filed (Touch change ∷ effects) w h = others_filed effects (world_did x sid (Touch change) w) h
  others_filed (AskSize name ∷ effects) w h = others_filed effects (world_did x sid (AskSize name) w) h
  others_filed (AskBytes name at len ∷ effects) w h = others_filed effects (world_did x sid (AskBytes name at len) w) h
  others_filed (Begin key phase ∷ effects) w h = others_filed effects (world_did x sid (Begin key phase) w) h
  others_filed (Go phase frames ∷ effects) w h = others_filed effects (world_did x sid (Go phase frames) w) (record { stands = record { free = h.stands.free; held = h.stands.held }; rests = h.rests })

  -- a call that fails
  may_leave : (change : FileChange) (left : Option (List ℕ)) (shelf : Shelf) → MayLeave change left shelf → IsFileImage (within change shelf (name_of change)) left
  may_leave (WriteFile name at bytes) left shelf is = is
  may_leave (shelves.CutFile name len) left shelf is = is
  may_leave (shelves.SyncFile name) left shelf is = absurd is
  may_leave (shelves.RemoveFile name) left shelf is = is

  unrested : (b : Bool) (a : Half) → FiledIn sid b a → FiledIn sid false a
  unrested b a h = record { stands = h.stands; others = h.others; own = λ never. absurd (false≢true never) }

  pub cut_filed : (cut : Cut) (more : List Effect) (w : World) (b : Bool) → is_legal w.a.node.view.config.read (journal_of w.a) ≡ true → IsCutOff cut more w.a.node.shelf → AllGood x sid w more → FiledIn sid b w.a
      → FiledIn sid false (with_shelf (cut_off cut more w.a.node.shelf) w).a
  cut_filed (Begun left) (Touch change ∷ more) w b legal is good h = record {
    stands = cut_stands w h.stands legal change good.1.1 left (may_leave change left w.a.node.shelf is);
    others = λ n other. cut_others w h.stands legal change good.1.1 left n other (w.a.node.sessions.phase n) (h.others n other);
    own = λ never. absurd (false≢true never);
  }
  cut_filed (Begun left) [] w b legal is good h = absurd is
  cut_filed (Begun left) (Keep e ∷ more) w b legal is good h = absurd is
  cut_filed (Begun left) (AskSize name ∷ more) w b legal is good h = absurd is
  cut_filed (Begun left) (AskBytes name at len ∷ more) w b legal is good h = absurd is
  cut_filed (Begun left) (Begin key phase ∷ more) w b legal is good h = absurd is
  cut_filed (Begun left) (Go phase frames ∷ more) w b legal is good h = absurd is
  cut_filed Unchanged more w b legal is good h = unrested b w.a h

  pub down_filed : (image : shelves.FileMap) (more : List Effect) (w : World) (b : Bool) → is_legal w.a.node.view.config.read (journal_of w.a) ≡ true → IsLeft image more w.a.node.shelf → AllGood x sid w more → FiledIn sid b w.a
      → Filed (down image w).a
  down_filed image more w b legal is good h = record { stands = left_down w h.stands legal image more is good; rests = λ n. tt }
