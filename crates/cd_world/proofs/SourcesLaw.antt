-- What lands is the source, whole: the bytes received and each piece on the way are what every source has there that agrees with
-- the reads noted since the key's last Receiving.
use Rattle.std.proofs.Common.{◌≡◌, ℕ, zero, suc, ◌+◌, ◌-◌, ◌≤◌, Bool, true, false, cond, ◌&&◌, eqb, List, [], ◌∷◌, ◌++◌, length, take, Option, Some, None, inl, inr, refl, sym, ◌∙◌, ap, subst, min, arith, length-take}
use Rattle.std.proofs.lemmas.Bool.{cases_Bool, cond-true, cond-false, false≢true, eqb-true, eq-eqb}
use Rattle.cd_outside.specs.Content.{overwritten}
use Rattle.cd_outside.specs.Shelf as shelves
use Rattle.cd_outside.specs.Shelf.{FileChange, WriteFile}
use Rattle.cd_types.specs.declared.key.Key.{Key}
use Rattle.cd_types.specs.declared.rows.Outcomes.{Outcomes}
use Rattle.cd_types.specs.declared.rows.Receiving.{Receiving}
use Rattle.cd_entries.specs.declared.entry.Entry.{Entry}
use Rattle.cd_entries.specs.declared.entry.Entry.TheVariants as entry
use Rattle.cd_frames.specs.Message as message
use Rattle.cd_frames.specs.Message.{Message}
use Rattle.cd_rules.specs.Keys.{same_key, is_of}
use Rattle.cd_rules.proofs.KeysLaw.{same_key-refl, same_key-true}
use Rattle.cd_rules.specs.Status as status
use Rattle.cd_rules.specs.Status.{Status}
use Rattle.cd_rules.proofs.StatusLaw.{status-other, status-own}
use Rattle.cd_rules.specs.Legal.{is_legal}
use Rattle.cd_rules.proofs.LegalLaw.{legal_parts, legal_before}
use Rattle.cd_rules.proofs.OpeningsLaw as openings
use Rattle.cd_protocol.specs.declared.session.Phase.{Phase}
use Rattle.cd_protocol.specs.declared.session.Phase.TheVariants.{Take}
use Rattle.cd_protocol.specs.Closing.{key_under_way}
use Rattle.cd_protocol.specs.Node.{Effect, Keep, Touch, AskSize, AskBytes, Begin, Go, put, did, does}
use Rattle.cd_protocol.proofs.RowsLaw.{reaction_extends}
use Rattle.cd_world.specs.World.{At, across, Note, Began, Half, World, Unless, landing_of, dropping_of, noted_by, read_for, written_for, written_by, readied, is_gone, at_session, behind_them, world_did, world_does}
use Rattle.cd_world.specs.Holds.{journal_of, is_at, IsFoundIn, Agrees, AreSources}
use Rattle.cd_world.proofs.FilesLaw.{marked_opens}
use Rattle.cd_world.proofs.FrontsLaw.{IsFront, front_take, front_whole, length_over, over_front}
use Rattle.cd_world.proofs.AgreedLaw.{at_self, not_across}
use Rattle.cd_world.proofs.PiecesLaw.{speaking, on_way, NotTaking, OfOpen, Silent, GoodKeep, Brought, GoodChange, SentTrue, AllTrue, TakesOn, GoesOn, AllGood}

abbrev pub TookAt : ℕ → Half → Phase → Type 0
TookAt n a (Take role terms key came) = a.node.sessions.holder key ≡ Some n → OfOpen (journal_of a) key (λ r safe. came ≤ length (a.received key))
TookAt n a _ = Unit {0}

abbrev pub HeardAt : At → ℕ → Half → List Note → Message → Type 0
HeardAt x n a notes (message.Data key offset bytes) = a.node.sessions.holder key ≡ Some n → (source : List ℕ) → Agrees notes x key source → IsFoundIn bytes offset source
HeardAt x n a notes _ = Unit {0}

abbrev pub AllHeardAt : At → ℕ → Half → List Note → List Message → Type 0
AllHeardAt x n a notes [] = Unit {0}
AllHeardAt x n a notes (m ∷ frames) = HeardAt x n a notes m × AllHeardAt x n a notes frames

-- What holds of what a node receives.
pub record Sourced (x : At) (a : Half) (notes : List Note) : Type 0 where
  pub marks : (key : Key) → OfOpen (journal_of a) key (λ r safe. safe ≤ length (a.received key))
  pub bytes : (key : Key) → OfOpen (journal_of a) key (λ r safe. (source : List ℕ) → length source ≡ r.length → Agrees notes x key source → IsFront (a.received key) source)
  pub takes : (n : ℕ) → TookAt n a (a.node.sessions.phase n)
  pub datas : (n : ℕ) → AllHeardAt x n a notes (a.way n)

pub record BothSourced (x : At) (w : World) : Type 0 where
  pub a : Sourced x w.a w.notes
  pub b : Sourced (across x) w.b w.notes
  pub tokens : (n : ℕ) → on_way n w ≤ 1
  pub sources : AreSources w.notes

-- With other notes, that ask for as much; and in another state, with as much open and as many bytes.
heard_more : (x : At) (n : ℕ) (a a2 : Half) (notes notes2 : List Note) → ((key : Key) → a2.node.sessions.holder key ≡ Some n → a.node.sessions.holder key ≡ Some n)
    → ((key : Key) (source : List ℕ) → Agrees notes2 x key source → Agrees notes x key source) → (m : Message) → HeardAt x n a notes m → HeardAt x n a2 notes2 m
heard_more x n a a2 notes notes2 holds weaken (message.Data key offset bytes) h = λ held source agrees. h (holds key held) source (weaken key source agrees)
heard_more x n a a2 notes notes2 holds weaken m h = tt

all_heard_more : (x : At) (n : ℕ) (a a2 : Half) (notes notes2 : List Note) → ((key : Key) → a2.node.sessions.holder key ≡ Some n → a.node.sessions.holder key ≡ Some n)
    → ((key : Key) (source : List ℕ) → Agrees notes2 x key source → Agrees notes x key source) → (frames : List Message) → AllHeardAt x n a notes frames → AllHeardAt x n a2 notes2 frames
all_heard_more x n a a2 notes notes2 holds weaken [] h = tt
all_heard_more x n a a2 notes notes2 holds weaken (m ∷ frames) h = (heard_more x n a a2 notes notes2 holds weaken m h.0, all_heard_more x n a a2 notes notes2 holds weaken frames h.1)

took_more : (n : ℕ) (a a2 : Half) → ((key : Key) → a2.node.sessions.holder key ≡ Some n → a.node.sessions.holder key ≡ Some n)
    → ((key : Key) → OfOpen (journal_of a2) key (λ r safe. (before : ℕ) × (status.status (journal_of a) key ≡ status.Open r before)))
    → ((key : Key) (came : ℕ) → came ≤ length (a.received key) → came ≤ length (a2.received key)) → (phase : Phase) → TookAt n a phase → TookAt n a2 phase
took_more n a a2 holds opens grows (Take role terms key came) h = λ held r safe is. let o = opens key r safe is in grows key came (h (holds key held) r o.0 o.1)
took_more n a a2 holds opens grows phase h = tt

pub renoted : (x : At) (a : Half) (notes notes2 : List Note) → ((key : Key) (source : List ℕ) → Agrees notes2 x key source → Agrees notes x key source) → Sourced x a notes → Sourced x a notes2
renoted x a notes notes2 weaken h = record {
  marks = h.marks;
  bytes = λ key r safe is source len agrees. h.bytes key r safe is source len (weaken key source agrees);
  takes = h.takes;
  datas = λ n. all_heard_more x n a a notes notes2 (λ key held. held) weaken (a.way n) (h.datas n);
}

unless_false : (b : Bool) (T : Type 0) → b ≡ false → Unless b T → T
unless_false true T is h = absurd (false≢true (sym is))
unless_false false T is h = h

-- what the first node notes asks no less of the other one's sources
others_agree : (x : At) (journal : List Entry) (received : Key → List ℕ) (notes : List Note) (e : Entry) (key : Key) (source : List ℕ)
    → Agrees (noted_by x journal received e notes) (across x) key source → Agrees notes (across x) key source
others_agree x journal received notes (entry.Receiving r) key source agrees =
    unless_false (is_at (across x) x && same_key key r.key) (Agrees notes (across x) key source) (ap (λ (b : Bool). b && same_key key r.key) (not_across x)) agrees
others_agree x journal received notes (entry.Result step o moment) key source agrees = by_status (status.status journal step) agrees where
  by_status : (s : Status) → Agrees (landing_of x s (received step) notes) (across x) key source → Agrees notes (across x) key source
  by_status status.Fresh h = h
  by_status (status.Started tries kind) h = h
  by_status (status.Open r safe) h = h
  by_status (status.Done before) h = h
others_agree x journal received notes (entry.Dropped step rc why moment) key source agrees = by_status (status.status journal step) agrees where
  by_status : (s : Status) → Agrees (dropping_of x s notes) (across x) key source → Agrees notes (across x) key source
  by_status status.Fresh h = h
  by_status (status.Started tries kind) h = h
  by_status (status.Open r safe) h = h
  by_status (status.Done before) h = h
others_agree x journal received notes e key source agrees = agrees

-- Entries.

module _ (x : At) (sid : ℕ) (a : Half) (notes : List Note) (h : Sourced x a notes) where
  -- an entry behind which nothing new is open
  carried : (e : Entry) (notes2 : List Note) (settled2 : shelves.FileMap)
      → ((key : Key) → OfOpen (e ∷ journal_of a) key (λ r safe. (before : ℕ) × (status.status (journal_of a) key ≡ status.Open r before)))
      → ((key : Key) → OfOpen (e ∷ journal_of a) key (λ r safe. safe ≤ length (a.received key)))
      → ((key : Key) (source : List ℕ) → Agrees notes2 x key source → Agrees notes x key source)
      → Sourced x (record a { node = did sid (Keep e) a.node; settled = settled2 }) notes2
  carried e notes2 settled2 opens marks weaken =
      let a2 : Half = record a { node = did sid (Keep e) a.node; settled = settled2 } in
      record {
        marks = marks;
        bytes = λ key r safe is source len agrees. let o = opens key r safe is in h.bytes key r o.0 o.1 source len (weaken key source agrees);
        takes = λ n. took_more n a a2 (λ key held. held) opens (λ key came enough. enough) (a.node.sessions.phase n) (h.takes n);
        datas = λ n. all_heard_more x n a a2 notes notes2 (λ key held. held) weaken (a.way n) (h.datas n);
      }

  other_open : (e : Entry) (key : Key) → is_of key e ≡ false → OfOpen (e ∷ journal_of a) key (λ r safe. status.status (journal_of a) key ≡ status.Open r safe)
  other_open e key apart r safe is = sym (status-other e (journal_of a) key apart) ∙ is

  -- an entry of no step
  plain_kept : (e : Entry) (settled2 : shelves.FileMap) → ((key : Key) → is_of key e ≡ false) → Sourced x (record a { node = did sid (Keep e) a.node; settled = settled2 }) notes
  plain_kept e settled2 apart =
      carried e notes settled2 (λ key r safe is. (safe, other_open e key (apart key) r safe is)) (λ key r safe is. h.marks key r safe (other_open e key (apart key) r safe is)) (λ key source agrees. agrees)

  -- an outcome
  done_opens : (e : Entry) (o : Outcomes) → ((s : Status) → status.after e s ≡ status.Done o) → (key : Key) → OfOpen (e ∷ journal_of a) key (λ r safe. status.status (journal_of a) key ≡ status.Open r safe)
  done_opens e o done key r safe is =
      elim (cases_Bool (is_of key e)) [
        | inl same ↦
            let never : status.Done o ≡ status.Open r safe = sym (done (status.status (journal_of a) key)) ∙ sym (status-own e (journal_of a) key same) ∙ is in
            absurd cc
        | inr other ↦ other_open e key other r safe is
      ]

  done_kept : (e : Entry) (o : Outcomes) (notes2 : List Note) (settled2 : shelves.FileMap) → ((s : Status) → status.after e s ≡ status.Done o)
      → ((key : Key) (source : List ℕ) → Agrees notes2 x key source → Agrees notes x key source) → Sourced x (record a { node = did sid (Keep e) a.node; settled = settled2 }) notes2
  done_kept e o notes2 settled2 done weaken =
      carried e notes2 settled2 (λ key r safe is. (safe, done_opens e o done key r safe is)) (λ key r safe is. h.marks key r safe (done_opens e o done key r safe is)) weaken

  landing_agrees : (s : Status) (got : List ℕ) (key : Key) (source : List ℕ) → Agrees (landing_of x s got notes) x key source → Agrees notes x key source
  landing_agrees status.Fresh got key source h2 = h2
  landing_agrees (status.Started tries kind) got key source h2 = h2
  landing_agrees (status.Open r safe) got key source h2 = h2
  landing_agrees (status.Done o) got key source h2 = h2

  dropping_agrees : (s : Status) (key : Key) (source : List ℕ) → Agrees (dropping_of x s notes) x key source → Agrees notes x key source
  dropping_agrees status.Fresh key source h2 = h2
  dropping_agrees (status.Started tries kind) key source h2 = h2
  dropping_agrees (status.Open r safe) key source h2 = h2
  dropping_agrees (status.Done o) key source h2 = h2

  -- a mark
  mark_kept : (step : Key) (offset : ℕ) → offset ≤ length (a.received step) → Sourced x (record a { node = did sid (Keep (entry.Mark step offset)) a.node }) notes
  mark_kept step offset enough = carried e notes a.settled opens marks (λ key source agrees. agrees) where
    e : Entry
    e = entry.Mark step offset

    opens : (key : Key) → OfOpen (e ∷ journal_of a) key (λ r safe. (before : ℕ) × (status.status (journal_of a) key ≡ status.Open r before))
    opens key r safe is =
        elim (cases_Bool (same_key key step)) [
          | inl same ↦ let o = marked_opens offset (status.status (journal_of a) key) r safe (sym (status-own e (journal_of a) key same) ∙ is) in (o.0, o.1)
          | inr other ↦ (safe, other_open e key other r safe is)
        ]

    marks : (key : Key) → OfOpen (e ∷ journal_of a) key (λ r safe. safe ≤ length (a.received key))
    marks key r safe is =
        elim (cases_Bool (same_key key step)) [
          | inl same ↦
              let o = marked_opens offset (status.status (journal_of a) key) r safe (sym (status-own e (journal_of a) key same) ∙ is) in
              let at : safe ≡ offset = o.2 in
              let there : offset ≤ length (a.received key) = subst (λ (k : Key). offset ≤ length (a.received k)) (sym (same_key-true key step same)) enough in
              omega (arith, at, there)
          | inr other ↦ h.marks key r safe (other_open e key other r safe is)
        ]

  -- a receiving begins
  opened_is_zero : (q r : Receiving) (safe : ℕ) (s : Status) → status.opened q s ≡ status.Open r safe → safe ≤ 0
  opened_is_zero q r safe status.Fresh is = let same : 0 ≡ safe = cc in omega (arith, same)
  opened_is_zero q r safe (status.Started tries kind) is = let same : 0 ≡ safe = cc in omega (arith, same)
  opened_is_zero q r safe (status.Open before m) is = let same : 0 ≡ safe = cc in omega (arith, same)
  opened_is_zero q r safe (status.Done o) is = absurd cc

  same_number : (m n : ℕ) → Some m ≡ Some n → m ≡ n
  same_number m n e = cc

  -- no Data is on the way where nobody speaks
  silent_heard : (n : ℕ) (a2 : Half) (notes2 : List Note) (frames : List Message) → speaking frames ≡ 0 → AllHeardAt x n a2 notes2 frames
  silent_heard n a2 notes2 [] none = tt
  silent_heard n a2 notes2 (message.Data key offset bytes ∷ frames) none = absurd (omega (arith, none))
  silent_heard n a2 notes2 (message.Forget home number ∷ frames) none = (tt, silent_heard n a2 notes2 frames (omega (arith, none)))
  silent_heard n a2 notes2 (message.Bye ∷ frames) none = (tt, silent_heard n a2 notes2 frames (omega (arith, none)))
  silent_heard n a2 notes2 (m ∷ frames) none = (tt, silent_heard n a2 notes2 frames (omega (arith, none)))

  free_took : (n : ℕ) (a2 : Half) (phase : Phase) → NotTaking phase → TookAt n a2 phase
  free_took n a2 (Take role terms key came) free = absurd free
  free_took n a2 phase free = tt

  module _ (q : Receiving) (holds : a.node.sessions.holder q.key ≡ Some sid) (free : NotTaking (a.node.sessions.phase sid)) (silent : speaking (a.way sid) ≡ 0) where
    a_begun : Half
    a_begun = record a { node = did sid (Keep (entry.Receiving q)) a.node; received = put same_key q.key [] a.received }

    -- of another step nothing changed
    apart_key : (key : Key) → same_key key q.key ≡ false → put same_key q.key [] a.received key ≡ a.received key
    apart_key key other =
        elim (cases_Bool (same_key q.key key)) [
          | inl same ↦ absurd (false≢true (sym other ∙ subst (λ (k : Key). same_key k q.key ≡ true) (same_key-true q.key key same) (same_key-refl q.key)))
          | inr not_same ↦ cond-false (same_key q.key key) [] (a.received key) not_same
        ]

    own_key : (key : Key) → same_key key q.key ≡ true → put same_key q.key [] a.received key ≡ []
    own_key key same = cond-true (same_key q.key key) [] (a.received key) (subst (λ (k : Key). same_key q.key k ≡ true) (sym (same_key-true key q.key same)) (same_key-refl q.key))

    begun_marks : (key : Key) → OfOpen (entry.Receiving q ∷ journal_of a) key (λ r safe. safe ≤ length (put same_key q.key [] a.received key))
    begun_marks key r safe is =
        elim (cases_Bool (same_key key q.key)) [
          | inl same ↦
              let zero_is : safe ≤ 0 = opened_is_zero q r safe (status.status (journal_of a) key) (sym (status-own (entry.Receiving q) (journal_of a) key same) ∙ is) in
              omega (arith, zero_is)
          | inr other ↦ subst (λ (g : List ℕ). safe ≤ length g) (sym (apart_key key other)) (h.marks key r safe (other_open (entry.Receiving q) key other r safe is))
        ]

    begun_agrees : (key : Key) (source : List ℕ) → same_key key q.key ≡ false → Agrees (Began x q ∷ notes) x key source → Agrees notes x key source
    begun_agrees key source other agrees =
        unless_false (is_at x x && same_key key q.key) (Agrees notes x key source) (ap (λ (b : Bool). is_at x x && b) other ∙ ap (λ (b : Bool). b && false) (at_self x)) agrees

    begun_bytes : (key : Key) → OfOpen (entry.Receiving q ∷ journal_of a) key (λ r safe. (source : List ℕ) → length source ≡ r.length → Agrees (Began x q ∷ notes) x key source → IsFront (put same_key q.key [] a.received key) source)
    begun_bytes key r safe is source len agrees =
        elim (cases_Bool (same_key key q.key)) [
          | inl same ↦ subst (λ (g : List ℕ). IsFront g source) (sym (own_key key same)) refl
          | inr other ↦
              subst (λ (g : List ℕ). IsFront g source) (sym (apart_key key other)) (h.bytes key r safe (other_open (entry.Receiving q) key other r safe is) source len (begun_agrees key source other agrees))
        ]

    -- another session than the one that holds the key
    took_begun : (n : ℕ) → eqb sid n ≡ false → (phase : Phase) → TookAt n a phase → TookAt n a_begun phase
    unfolding a_begun
    took_begun n other_session (Take role terms key came) t = λ held r safe is.
        elim (cases_Bool (same_key key q.key)) [
          | inl same ↦
              let mine : a.node.sessions.holder key ≡ Some sid = subst (λ (k : Key). a.node.sessions.holder k ≡ Some sid) (sym (same_key-true key q.key same)) holds in
              absurd (false≢true (sym other_session ∙ eq-eqb sid n (same_number sid n (sym mine ∙ held))))
          | inr other ↦ subst (λ (g : List ℕ). came ≤ length g) (sym (apart_key key other)) (t held r safe (other_open (entry.Receiving q) key other r safe is))
        ]
    took_begun n other_session phase t = tt

    heard_begun : (n : ℕ) → eqb sid n ≡ false → (frames : List Message) → AllHeardAt x n a notes frames → AllHeardAt x n a_begun (Began x q ∷ notes) frames
    unfolding a_begun
    heard_begun n other_session [] t = tt
    heard_begun n other_session (message.Data key offset bytes ∷ frames) t = (
      λ held source agrees.
          elim (cases_Bool (same_key key q.key)) [
            | inl same ↦
                let mine : a.node.sessions.holder key ≡ Some sid = subst (λ (k : Key). a.node.sessions.holder k ≡ Some sid) (sym (same_key-true key q.key same)) holds in
                absurd (false≢true (sym other_session ∙ eq-eqb sid n (same_number sid n (sym mine ∙ held))))
            | inr other ↦ t.0 held source (begun_agrees key source other agrees)
          ],
      heard_begun n other_session frames t.1,
    )
    heard_begun n other_session (m ∷ frames) t = (tt, heard_begun n other_session frames t.1)

    receiving_kept : Sourced x a_begun (Began x q ∷ notes)
    unfolding a_begun
    receiving_kept = record {
      marks = begun_marks;
      bytes = begun_bytes;
      takes = λ n. elim (cases_Bool (eqb sid n)) [
        | inl same ↦ free_took n a_begun (a.node.sessions.phase n) (subst (λ (m : ℕ). NotTaking (a.node.sessions.phase m)) (eqb-true sid n same) free)
        | inr other ↦ took_begun n other (a.node.sessions.phase n) (h.takes n)
      ];
      datas = λ n. elim (cases_Bool (eqb sid n)) [
        | inl same ↦ silent_heard n a_begun (Began x q ∷ notes) (a.way n) (subst (λ (m : ℕ). speaking (a.way m) ≡ 0) (eqb-true sid n same) silent)
        | inr other ↦ heard_begun n other (a.way n) (h.datas n)
      ];
    }

  -- a piece is written
  module _ (at : ℕ) (piece : List ℕ) (name : List ℕ) (key : Key) (r : Receiving) (safe came : ℕ) (opens : status.status (journal_of a) key ≡ status.Open r safe) (at_is : at - r.base ≡ came)
      (enough : came ≤ length (a.received key)) (within : came + length piece ≤ r.length)
      (found : (source : List ℕ) → length source ≡ r.length → Agrees notes x key source → IsFoundIn piece came source) where
    abbrev over : List ℕ
    over = overwritten (at - r.base) piece (a.received key)

    abbrev a_written : Half
    a_written = record a { node = did sid (Touch (WriteFile name at piece)) a.node; received = put same_key key over a.received }

    over_longer : length (a.received key) ≤ length over
    over_longer =
        let len : length over ≡ (at - r.base) + (length piece + (length (a.received key) - ((at - r.base) + length piece))) = length_over (at - r.base) piece (a.received key) in
        omega (arith, len)

    grows : (step : Key) (n : ℕ) → n ≤ length (a.received step) → n ≤ length (put same_key key over a.received step)
    grows step n less =
        elim (cases_Bool (same_key key step)) [
          | inl same ↦
              let there : n ≤ length (a.received key) = subst (λ (k : Key). n ≤ length (a.received k)) (sym (same_key-true key step same)) less in
              let longer : length (a.received key) ≤ length over = over_longer in
              subst (λ (g : List ℕ). n ≤ length g) (sym (cond-true (same_key key step) over (a.received step) same)) (omega (arith, there, longer))
          | inr other ↦ subst (λ (g : List ℕ). n ≤ length g) (sym (cond-false (same_key key step) over (a.received step) other)) less
        ]

    same_receiving : (q : Receiving) (m : ℕ) → status.status (journal_of a) key ≡ status.Open q m → r ≡ q
    same_receiving q m is = let e : status.Open r safe ≡ status.Open q m = sym opens ∙ is in cc

    fronts : (step : Key) → OfOpen (journal_of a) step (λ q m. (source : List ℕ) → length source ≡ q.length → Agrees notes x step source → IsFront (put same_key key over a.received step) source)
    fronts step q m is source len agrees =
        elim (cases_Bool (same_key key step)) [
          | inl same ↦
              let key_is : step ≡ key = sym (same_key-true key step same) in
              let q_is : r ≡ q = same_receiving q m (subst (λ (k : Key). status.status (journal_of a) k ≡ status.Open q m) key_is is) in
              let lengths : q.length ≡ r.length = ap (λ (y : Receiving). y.length) (sym q_is) in
              let len2 : length source ≡ r.length = len ∙ lengths in
              let agrees2 : Agrees notes x key source = subst (λ (k : Key). Agrees notes x k source) key_is agrees in
              let front : IsFront (a.received key) source = h.bytes key r safe opens source len2 agrees2 in
              let there : IsFoundIn piece (at - r.base) source = subst (λ (n : ℕ). IsFoundIn piece n source) (sym at_is) (found source len2 agrees2) in
              let in_source : (at - r.base) + length piece ≤ length source = omega (arith, at_is, within, len2) in
              let begins : at - r.base ≤ length (a.received key) = omega (arith, at_is, enough) in
              subst (λ (g : List ℕ). IsFront g source) (sym (cond-true (same_key key step) over (a.received step) same)) (over_front (at - r.base) piece (a.received key) source front there begins in_source)
          | inr other ↦ subst (λ (g : List ℕ). IsFront g source) (sym (cond-false (same_key key step) over (a.received step) other)) (h.bytes step q m is source len agrees)
        ]

    written_kept : Sourced x a_written notes
    written_kept = record {
      marks = λ step q m is. grows step m (h.marks step q m is);
      bytes = fronts;
      takes = λ n. took_more n a a_written (λ step held. held) (λ step q m is. (m, is)) grows (a.node.sessions.phase n) (h.takes n);
      datas = λ n. all_heard_more x n a a_written notes notes (λ step held. held) (λ step source agrees. agrees) (a.way n) (h.datas n);
    }

  -- a step is begun
  module _ (step : Key) (phase : Phase) (free : NotTaking phase) (silent : speaking (a.way sid) ≡ 0) where
    abbrev a_step : Half
    a_step = record a { node = did sid (Begin step phase) a.node }

    held_before : (n : ℕ) → eqb sid n ≡ false → (key : Key) → put same_key step (Some sid) a.node.sessions.holder key ≡ Some n → a.node.sessions.holder key ≡ Some n
    held_before n other_session key held =
        elim (cases_Bool (same_key step key)) [
          | inl same ↦ absurd (false≢true (sym other_session ∙ eq-eqb sid n (same_number sid n (sym (cond-true (same_key step key) (Some sid) (a.node.sessions.holder key) same) ∙ held))))
          | inr other ↦ sym (cond-false (same_key step key) (Some sid) (a.node.sessions.holder key) other) ∙ held
        ]

    step_begun : Sourced x a_step notes
    step_begun = record {
      marks = h.marks;
      bytes = h.bytes;
      takes = λ n. elim (cases_Bool (eqb sid n)) [
        | inl same ↦ subst (TookAt n a_step) (sym (cond-true (eqb sid n) phase (a.node.sessions.phase n) same)) (free_took n a_step phase free)
        | inr other ↦
            subst (TookAt n a_step) (sym (cond-false (eqb sid n) phase (a.node.sessions.phase n) other))
            (took_more n a a_step (held_before n other) (λ key q m is. (m, is)) (λ key came enough. enough) (a.node.sessions.phase n) (h.takes n))
      ];
      datas = λ n. elim (cases_Bool (eqb sid n)) [
        | inl same ↦ silent_heard n a_step notes (a.way n) (subst (λ (m : ℕ). speaking (a.way m) ≡ 0) (eqb-true sid n same) silent)
        | inr other ↦ all_heard_more x n a a_step notes notes (held_before n other) (λ key source agrees. agrees) (a.way n) (h.datas n)
      ];
    }

-- Ready cuts what was received.

readied_front : (frames : List Message) (g : Key → List ℕ) (key : Key) (source : List ℕ) → IsFront (g key) source → IsFront (readied frames g key) source
readied_front [] g key source front = front
readied_front (message.Ready step offset ∷ frames) g key source front =
    readied_front frames (put same_key step (take offset (g step)) g) key source
    (elim (cases_Bool (same_key step key)) [
      | inl same ↦
          let there : IsFront (g step) source = subst (λ (k : Key). IsFront (g k) source) (sym (same_key-true step key same)) front in
          subst (λ (l : List ℕ). IsFront l source) (sym (cond-true (same_key step key) (take offset (g step)) (g key) same)) (front_take offset (g step) source there)
      | inr other ↦ subst (λ (l : List ℕ). IsFront l source) (sym (cond-false (same_key step key) (take offset (g step)) (g key) other)) front
    ])
readied_front (message.Bye ∷ frames) g key source front = readied_front frames g key source front
readied_front (m ∷ frames) g key source front = readied_front frames g key source front

module _ (x : At) (sid : ℕ) (w : World) where
  readied_marks : (frames : List Message) → AllTrue x sid w frames → (g : Key → List ℕ) (key : Key) (r : Receiving) (safe : ℕ) → status.status (journal_of w.a) key ≡ status.Open r safe → safe ≤ length (g key)
      → safe ≤ length (readied frames g key)
  readied_marks [] sent g key r safe is enough = enough
  readied_marks (message.Ready step offset ∷ frames) sent g key r safe is enough =
      readied_marks frames sent.1 (put same_key step (take offset (g step)) g) key r safe is
      (elim (cases_Bool (same_key step key)) [
        | inl same ↦
            let key_is : key ≡ step = sym (same_key-true step key same) in
            let low : safe ≤ offset = sent.0.1 r safe (subst (λ (k : Key). status.status (journal_of w.a) k ≡ status.Open r safe) key_is is) in
            let there : safe ≤ length (g step) = subst (λ (k : Key). safe ≤ length (g k)) key_is enough in
            let len : length (take offset (g step)) ≡ min offset (length (g step)) = length-take offset (g step) in
            subst (λ (l : List ℕ). safe ≤ length l) (sym (cond-true (same_key step key) (take offset (g step)) (g key) same)) (omega (arith, len, low, there))
        | inr other ↦ subst (λ (l : List ℕ). safe ≤ length l) (sym (cond-false (same_key step key) (take offset (g step)) (g key) other)) enough
      ])
  readied_marks (message.Bye ∷ frames) sent g key r safe is enough = readied_marks frames sent.1 g key r safe is enough
  readied_marks (m ∷ frames) sent g key r safe is enough = readied_marks frames sent.1 g key r safe is enough

  number_of : (m n : ℕ) → Some m ≡ Some n → m ≡ n
  number_of m n e = cc

  pub readied_apart : (frames : List Message) → AllTrue x sid w frames → (g : Key → List ℕ) (key : Key) (n : ℕ) → w.a.node.sessions.holder key ≡ Some n → eqb sid n ≡ false → readied frames g key ≡ g key
  readied_apart [] sent g key n held other_session = refl
  readied_apart (message.Ready step offset ∷ frames) sent g key n held other_session =
      readied_apart frames sent.1 (put same_key step (take offset (g step)) g) key n held other_session
      ∙ (elim (cases_Bool (same_key step key)) [
        | inl same ↦
            let mine : w.a.node.sessions.holder key ≡ Some sid = subst (λ (k : Key). w.a.node.sessions.holder k ≡ Some sid) (same_key-true step key same) sent.0.0 in
            absurd (false≢true (sym other_session ∙ eq-eqb sid n (number_of sid n (sym mine ∙ held))))
        | inr other ↦ cond-false (same_key step key) (take offset (g step)) (g key) other
      ])
  readied_apart (message.Bye ∷ frames) sent g key n held other_session = readied_apart frames sent.1 g key n held other_session
  readied_apart (m ∷ frames) sent g key n held other_session = readied_apart frames sent.1 g key n held other_session

-- Turns to speak.

speaking_append : (first second : List Message) → speaking (first ++ second) ≡ speaking first + speaking second
speaking_append [] second = omega arith
speaking_append (m ∷ first) second = let rest : speaking (first ++ second) ≡ speaking first + speaking second = speaking_append first second in omega (arith, rest)

pub speaking_take : (k : ℕ) (frames : List Message) → speaking (take k frames) ≤ speaking frames
speaking_take zero frames = omega arith
speaking_take (suc k) [] = omega arith
speaking_take (suc k) (m ∷ frames) = let rest : speaking (take k frames) ≤ speaking frames = speaking_take k frames in omega (arith, rest)

module _ (x : At) (sid : ℕ) (w : World) (phase : Phase) (frames : List Message) where
  fewer : (b : Bool) (n : ℕ) → speaking (cond b (at_session sid [] w.a.way) w.a.way n) ≤ speaking (w.a.way n)
  fewer false n = omega arith
  fewer true n = elim (eqb sid n) as (λ b. speaking (cond b [] (w.a.way n)) ≤ speaking (w.a.way n)) [ true ↦ omega arith | false ↦ omega arith ]

  more_there : (b : Bool) → speaking (behind_them b (w.b.way sid) frames) ≤ speaking (w.b.way sid) + speaking frames
  more_there true = omega arith
  more_there false = let all : speaking (w.b.way sid ++ frames) ≡ speaking (w.b.way sid) + speaking frames = speaking_append (w.b.way sid) frames in omega (arith, all)

  pub go_tokens : speaking frames + on_way sid w ≤ 1 → ((n : ℕ) → on_way n w ≤ 1) → (n : ℕ) → on_way n (world_did x sid (Go phase frames) w) ≤ 1
  go_tokens quiet tokens n =
      let there : List Message = behind_them (w.b.ends sid) (w.b.way sid) frames in
      let here : speaking (cond (is_gone phase) (at_session sid [] w.a.way) w.a.way n) ≤ speaking (w.a.way n) = fewer (is_gone phase) n in
      elim (cases_Bool (eqb sid n)) [
        | inl same ↦
            let way : speaking (at_session sid there w.b.way n) ≡ speaking there = ap speaking (cond-true (eqb sid n) there (w.b.way n) same) in
            let more : speaking there ≤ speaking (w.b.way sid) + speaking frames = more_there (w.b.ends sid) in
            let here_sid : speaking (w.a.way n) ≡ speaking (w.a.way sid) = ap (λ (m : ℕ). speaking (w.a.way m)) (sym (eqb-true sid n same)) in
            omega (arith, quiet, way, more, here, here_sid)
        | inr other ↦
            let way : speaking (at_session sid there w.b.way n) ≡ speaking (w.b.way n) = ap speaking (cond-false (eqb sid n) there (w.b.way n) other) in
            let before : on_way n w ≤ 1 = tokens n in
            omega (arith, way, here, before)
      ]

  -- Data that is sent is what every source that agrees has there
  sent_heard : (m : Message) → SentTrue x sid w m → HeardAt (across x) sid w.b w.notes m
  sent_heard (message.Data key offset bytes) sent = λ held source agrees. sent (across x) source agrees
  sent_heard m sent = tt

  all_sent_heard : (more : List Message) → AllTrue x sid w more → AllHeardAt (across x) sid w.b w.notes more
  all_sent_heard [] sent = tt
  all_sent_heard (m ∷ more) sent = (sent_heard m sent.0, all_sent_heard more sent.1)

heard_append : (x : At) (n : ℕ) (a : Half) (notes : List Note) (first second : List Message) → AllHeardAt x n a notes first → AllHeardAt x n a notes second → AllHeardAt x n a notes (first ++ second)
heard_append x n a notes [] second one two = two
heard_append x n a notes (m ∷ first) second one two = (one.0, heard_append x n a notes first second one.1 two)

pub heard_take : (x : At) (n : ℕ) (a : Half) (notes : List Note) (k : ℕ) (frames : List Message) → AllHeardAt x n a notes frames → AllHeardAt x n a notes (take k frames)
heard_take x n a notes zero frames h = tt
heard_take x n a notes (suc k) [] h = tt
heard_take x n a notes (suc k) (m ∷ frames) h = (h.0, heard_take x n a notes k frames h.1)

-- a fact about the frames of each session, where those of one changed
pub way_at : (P : ℕ → List Message → Type 0) (sid : ℕ) (value : List Message) (others : ℕ → List Message) → P sid value → ((n : ℕ) → P n (others n)) → (n : ℕ) → P n (at_session sid value others n)
way_at P sid value others one rest n =
    elim (cases_Bool (eqb sid n)) [
      | inl same ↦ subst (P n) (sym (cond-true (eqb sid n) value (others n) same)) (subst (λ (m : ℕ). P m value) (eqb-true sid n same) one)
      | inr other ↦ subst (P n) (sym (cond-false (eqb sid n) value (others n) other)) (rest n)
    ]

module _ (x : At) (sid : ℕ) where
  go_sourced : (w : World) (phase : Phase) (frames : List Message) → BothSourced x w → GoesOn x sid w phase frames → BothSourced x (world_did x sid (Go phase frames) w)
  go_sourced w phase frames h goes = record {
    a = record {
      marks = λ key r safe is. readied_marks x sid w frames goes.sent w.a.received key r safe is (h.a.marks key r safe is);
      bytes = λ key r safe is source len agrees. readied_front frames w.a.received key source (h.a.bytes key r safe is source len agrees);
      takes = λ n. elim (cases_Bool (eqb sid n)) [
        | inl same ↦
            subst (TookAt n a2) (sym (cond-true (eqb sid n) phase (w.a.node.sessions.phase n) same))
            (subst (λ (m : ℕ). TookAt m a2 phase) (eqb-true sid n same) (now_takes phase goes.takes))
        | inr other ↦ subst (TookAt n a2) (sym (cond-false (eqb sid n) phase (w.a.node.sessions.phase n) other)) (still_took n other (w.a.node.sessions.phase n) (h.a.takes n))
      ];
      datas = datas_a (is_gone phase);
    };
    b = record {
      marks = h.b.marks;
      bytes = h.b.bytes;
      takes = h.b.takes;
      datas = way_at (λ n more. AllHeardAt (across x) n w.b w.notes more) sid (behind_them (w.b.ends sid) (w.b.way sid) frames) w.b.way (datas_b (w.b.ends sid)) h.b.datas;
    };
    tokens = go_tokens x sid w phase frames goes.quiet h.tokens;
    sources = h.sources;
  } where
    a2 : Half
    a2 = record w.a { node = did sid (Go phase frames) w.a.node; received = readied frames w.a.received }

    now_takes : (p : Phase) → TakesOn x sid w frames p → TookAt sid (record w.a { node = did sid (Go phase frames) w.a.node; received = readied frames w.a.received }) p
    now_takes (Take role terms key came) t = t
    now_takes p t = tt

    still_took : (n : ℕ) → eqb sid n ≡ false → (p : Phase) → TookAt n w.a p → TookAt n (record w.a { node = did sid (Go phase frames) w.a.node; received = readied frames w.a.received }) p
    still_took n other (Take role terms key came) t = λ held r safe is. subst (λ (g : List ℕ). came ≤ length g) (sym (readied_apart x sid w frames goes.sent w.a.received key n held other)) (t held r safe is)
    still_took n other p t = tt

    datas_a : (b : Bool) (n : ℕ) → AllHeardAt x n w.a w.notes (cond b (at_session sid [] w.a.way) w.a.way n)
    datas_a true = way_at (λ n more. AllHeardAt x n w.a w.notes more) sid [] w.a.way tt h.a.datas
    datas_a false = h.a.datas

    datas_b : (b : Bool) → AllHeardAt (across x) sid w.b w.notes (behind_them b (w.b.way sid) frames)
    datas_b true = h.b.datas sid
    datas_b false = heard_append (across x) sid w.b w.notes (w.b.way sid) frames (h.b.datas sid) (all_sent_heard x sid w phase frames frames goes.sent)

  way_silent : (w : World) → Silent x sid w → speaking (w.a.way sid) ≡ 0
  way_silent w silent = omega (arith, silent)

  entry_kept : (w : World) (e : Entry) → Sourced x w.a w.notes → GoodKeep x sid w e → Sourced x (world_did x sid (Keep e) w).a (world_did x sid (Keep e) w).notes
  unfolding a_begun
  entry_kept w (entry.Receiving q) h good = receiving_kept x sid w.a w.notes h q good.0 good.1 (way_silent w good.2)
  entry_kept w (entry.Mark step offset) h good = mark_kept x sid w.a w.notes h step offset good.0
  entry_kept w (entry.Result step o moment) h good =
      let w2 : World = world_did x sid (Keep (entry.Result step o moment)) w in
      done_kept x sid w.a w.notes h (entry.Result step o moment) o w2.notes w2.a.settled (λ s. refl) (landing_agrees x sid w.a w.notes h (status.status (journal_of w.a) step) (w.a.received step))
  entry_kept w (entry.Dropped step rc why moment) h good =
      let w2 : World = world_did x sid (Keep (entry.Dropped step rc why moment)) w in
      done_kept x sid w.a w.notes h (entry.Dropped step rc why moment) (status.dropped_outcome rc why) w2.notes w2.a.settled (λ s. refl) (dropping_agrees x sid w.a w.notes h (status.status (journal_of w.a) step))
  entry_kept w (entry.Started step kind try moment) h good = absurd good
  entry_kept w e h good = plain_kept x sid w.a w.notes h e w.a.settled (λ key. refl)

  -- what lands is the source
  landing_source : (w : World) (step : Key) (s : Status) → status.status (journal_of w.a) step ≡ s → is_legal w.a.node.view.config.read (journal_of w.a) ≡ true → Sourced x w.a w.notes
      → OfOpen (journal_of w.a) step (λ r safe. r.length ≤ length (w.a.received step)) → AreSources w.notes → AreSources (landing_of x s (w.a.received step) w.notes)
  landing_source w step status.Fresh is legal h whole sources = sources
  landing_source w step (status.Started tries kind) is legal h whole sources = sources
  landing_source w step (status.Done o) is legal h whole sources = sources
  landing_source w step (status.Open r safe) is legal h whole sources =
      let key_is : r.key ≡ step = (openings.open-on w.a.node.view.config.read (journal_of w.a) step r safe legal is).0 in
      let all : r.length ≤ length (w.a.received step) = whole r safe is in
      (λ source len agrees. front_whole (w.a.received step) source (h.bytes step r safe is source len (subst (λ (k : Key). Agrees w.notes x k source) key_is agrees)) (omega (arith, len, all)), sources)

  entry_sources : (w : World) (e : Entry) → is_legal w.a.node.view.config.read (journal_of w.a) ≡ true → Sourced x w.a w.notes → GoodKeep x sid w e → AreSources w.notes → AreSources (world_did x sid (Keep e) w).notes
  entry_sources w (entry.Result step o moment) legal h good sources = landing_source w step (status.status (journal_of w.a) step) refl legal h good.0 sources
  entry_sources w (entry.Dropped step rc why moment) legal h good sources = by_status (status.status (journal_of w.a) step) where
    by_status : (s : Status) → AreSources (dropping_of x s w.notes)
    by_status status.Fresh = sources
    by_status (status.Started tries kind) = sources
    by_status (status.Open r safe) = sources
    by_status (status.Done o) = sources
  entry_sources w (entry.Receiving q) legal h good sources = sources
  entry_sources w e legal h good sources = sources

  pub keep_sourced : (w : World) (e : Entry) → BothSourced x w → is_legal w.a.node.view.config.read (journal_of w.a) ≡ true → GoodKeep x sid w e → BothSourced x (world_did x sid (Keep e) w)
  keep_sourced w e h legal good = record {
    a = entry_kept w e h.a good;
    b = renoted (across x) w.b w.notes (world_did x sid (Keep e) w).notes (others_agree x (journal_of w.a) w.a.received w.notes e) h.b;
    tokens = h.tokens;
    sources = entry_sources w e legal h.a good h.sources;
  }

  change_kept : (w : World) (change : FileChange) → Sourced x w.a w.notes → GoodChange x sid w change → Sourced x (world_did x sid (Touch change) w).a w.notes
  change_kept w (WriteFile name at bytes) h good =
      let b : Brought x sid w at bytes = good.0 in
      let G : Key → List ℕ = w.a.received in
      let over : List ℕ = overwritten (at - b.r.base) bytes (G b.key) in
      let one : written_by (journal_of w.a) (key_under_way (w.a.node.sessions.phase sid)) (WriteFile name at bytes) G ≡ written_for b.key at bytes (status.status (journal_of w.a) b.key) G =
      ap (λ (k : Option Key). written_by (journal_of w.a) k (WriteFile name at bytes) G) b.under in
      let two : written_for b.key at bytes (status.status (journal_of w.a) b.key) G ≡ put same_key b.key over G = ap (λ (s : Status). written_for b.key at bytes s G) b.open_is in
      let kept : Sourced x (record w.a { node = did sid (Touch (WriteFile name at bytes)) w.a.node; received = put same_key b.key over G }) w.notes =
      written_kept x sid w.a w.notes h at bytes name b.key b.r b.safe b.came b.open_is b.at_is b.enough b.within b.found in
      subst (λ (g : Key → List ℕ). Sourced x (record w.a { node = did sid (Touch (WriteFile name at bytes)) w.a.node; received = g }) w.notes) (sym (one ∙ two)) kept
  change_kept w (shelves.CutFile name len) h good = record { marks = h.marks; bytes = h.bytes; takes = h.takes; datas = h.datas }
  change_kept w (shelves.SyncFile name) h good = record { marks = h.marks; bytes = h.bytes; takes = h.takes; datas = h.datas }
  change_kept w (shelves.RemoveFile name) h good = record { marks = h.marks; bytes = h.bytes; takes = h.takes; datas = h.datas }

  read_agrees : (y z : At) (under : Option Key) (at : ℕ) (bytes : List ℕ) (notes : List Note) (key : Key) (source : List ℕ) → Agrees (read_for z under at bytes notes) y key source → Agrees notes y key source
  read_agrees y z None at bytes notes key source agrees = agrees
  read_agrees y z (Some step) at bytes notes key source agrees = agrees.1

  read_sources : (z : At) (under : Option Key) (at : ℕ) (bytes : List ℕ) (notes : List Note) → AreSources notes → AreSources (read_for z under at bytes notes)
  read_sources z None at bytes notes sources = sources
  read_sources z (Some step) at bytes notes sources = sources

  -- effects, one after another
  pub does_sourced : (effects : List Effect) (w : World) → BothSourced x w → AllGood x sid w effects → is_legal w.a.node.view.config.read (does sid effects w.a.node).view.journal ≡ true → BothSourced x (world_does x sid effects w)
  does_sourced [] w h good legal = h
  does_sourced (Keep e ∷ effects) w h good legal =
      let rest = reaction_extends sid effects (did sid (Keep e) w.a.node) in
      let legal2 : is_legal w.a.node.view.config.read (e ∷ journal_of w.a) ≡ true =
      legal_before w.a.node.view.config.read rest.0 (e ∷ journal_of w.a) (subst (λ (journal : List Entry). is_legal w.a.node.view.config.read journal ≡ true) rest.1 legal) in
      does_sourced effects (world_did x sid (Keep e) w) (keep_sourced w e h (legal_parts w.a.node.view.config.read e (journal_of w.a) legal2).0 good.0) good.1 legal
  does_sourced (Touch change ∷ effects) w h good legal =
      does_sourced effects (world_did x sid (Touch change) w) (record { a = change_kept w change h.a good.1; b = h.b; tokens = h.tokens; sources = h.sources }) good.2 legal
  does_sourced (AskSize name ∷ effects) w h good legal =
      let w2 : World = world_did x sid (AskSize name) w in
      does_sourced effects w2 (record {
        a = renoted x w.a w.notes w2.notes (λ key source agrees. agrees) h.a;
        b = renoted (across x) w.b w.notes w2.notes (λ key source agrees. agrees) h.b;
        tokens = h.tokens;
        sources = h.sources;
      }) good.1 legal
  does_sourced (AskBytes name at len ∷ effects) w h good legal =
      let w2 : World = world_did x sid (AskBytes name at len) w in
      let under : Option Key = key_under_way (w.a.node.sessions.phase sid) in
      does_sourced effects w2 (record {
        a = renoted x w.a w.notes w2.notes (read_agrees x x under at _ w.notes) h.a;
        b = renoted (across x) w.b w.notes w2.notes (read_agrees (across x) x under at _ w.notes) h.b;
        tokens = h.tokens;
        sources = read_sources x under at _ w.notes h.sources;
      }) good.1 legal
  does_sourced (Begin key phase ∷ effects) w h good legal =
      does_sourced effects (world_did x sid (Begin key phase) w)
      (record { a = step_begun x sid w.a w.notes h.a key phase good.1 (way_silent w good.0); b = h.b; tokens = h.tokens; sources = h.sources }) good.2 legal
  does_sourced (Go phase frames ∷ effects) w h good legal = does_sourced effects (world_did x sid (Go phase frames) w) (go_sourced w phase frames h good.0) good.1 legal
