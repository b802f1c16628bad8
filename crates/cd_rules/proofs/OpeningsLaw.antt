-- In a legal journal the receivings that are open are those of the steps whose status is Open, and each file has one of them
-- at most.
use Rattle.std.proofs.Common.{◌≡◌, ℕ, ◌+◌, leb, Bool, true, false, cond, ◌&&◌, List, [], ◌∷◌, Some, None, ◌⊎◌, inl, inr, refl, sym, ◌∙◌, ap, subst}
use Rattle.std.specs.Prelude.{not}
use Rattle.std.specs.List.{list_any}
use Rattle.std.specs.Str.{bytes_eq}
use Rattle.std.proofs.lemmas.Bool.{cases_Bool, and_parts, and_from, or_parts, not-true, cond-true, cond-false, false≢true, false_from_ne_true, not_from_false}
use Rattle.std.proofs.lemmas.Slice.Eq.{bytes_eq-Decides}
use Rattle.cd_types.specs.declared.choices.TaskKind.{TaskKind}
use Rattle.cd_types.specs.declared.key.Key.{Key}
use Rattle.cd_types.specs.declared.rows.Receiving.{Receiving}
use Rattle.cd_entries.specs.declared.entry.Entry.{Entry}
use Rattle.cd_entries.specs.declared.entry.Entry.TheVariants as entry
use Rattle.cd_rules.specs.Keys.{same_key, is_of}
use Rattle.cd_rules.proofs.KeysLaw.{same_key-refl, same_key-true}
use Rattle.cd_rules.specs.Openings.{without, openings, on_file, open_on, is_in_use}
use Rattle.cd_rules.specs.Status.{Status, Fresh, Started, Open, Done, once_more, opened, marked, after, status}
use Rattle.cd_rules.proofs.StatusLaw.{status-other, status-own}
use Rattle.cd_rules.specs.Steps.{Reading, fits_own, is_pull_of}
use Rattle.cd_rules.specs.Legal.{is_legal, may_receive, may_receive_from, is_base_of, greatest_file}
use Rattle.cd_rules.specs.Processes.{is_over}
use Rattle.cd_rules.proofs.LegalLaw.{legal_parts, follows}

-- this receiving is the open one of its step
record IsOpen (journal : List Entry) (r : Receiving) : Type 0 where
  safe : ℕ
  status_is : status journal r.key ≡ Open r safe

-- each of these is
abbrev AreOpen : List Entry → List Receiving → Type 0
AreOpen journal [] = Unit {0}
AreOpen journal (r ∷ more) = IsOpen journal r × AreOpen journal more

-- an entry of another step leaves it open
still_open : (e : Entry) (journal : List Entry) (r : Receiving) → is_of r.key e ≡ false → IsOpen journal r → IsOpen (e ∷ journal) r
still_open e journal r other open_r = record { safe = open_r.safe; status_is = status-other e journal r.key other ∙ open_r.status_is }

not_same : (a b : Key) → same_key a b ≡ false → same_key b a ≡ false
not_same a b apart = false_from_ne_true (same_key b a) (λ same. false≢true (sym apart ∙ subst (λ (k : Key). same_key a k ≡ true) (sym (same_key-true b a same)) (same_key-refl a)))

-- those of other steps stay open behind an entry of this step
without_open : (e : Entry) (journal : List Entry) (step : Key) → ((key : Key) → same_key key step ≡ false → is_of key e ≡ false)
    → (rs : List Receiving) → AreOpen journal rs → AreOpen (e ∷ journal) (without step rs)
without_open e journal step apart [] all = tt
without_open e journal step apart (r ∷ more) all =
    elim (cases_Bool (same_key step r.key)) [
      | inl same ↦ subst (λ (b : Bool). AreOpen (e ∷ journal) (cond (not b) (r ∷ without step more) (without step more))) (sym same) (without_open e journal step apart more all.1)
      | inr other ↦ subst (λ (b : Bool). AreOpen (e ∷ journal) (cond (not b) (r ∷ without step more) (without step more))) (sym other)
          (still_open e journal r (apart r.key (not_same step r.key other)) all.0, without_open e journal step apart more all.1)
    ]

-- an entry that leaves an open status open
keeps_open : (e : Entry) (journal : List Entry)
    → ((r : Receiving) (safe : ℕ) → is_of r.key e ≡ true → (safe' : ℕ) × (after e (Open r safe) ≡ Open r safe')) → (rs : List Receiving)
    → AreOpen journal rs → AreOpen (e ∷ journal) rs
keeps_open e journal keeps [] all = tt
keeps_open e journal keeps (r ∷ more) all = (one, keeps_open e journal keeps more all.1) where
  one : IsOpen (e ∷ journal) r
  one = elim (cases_Bool (is_of r.key e)) [
    | inl own ↦
        let kept = keeps r all.0.safe own in
        record { safe = kept.0; status_is = status-own e journal r.key own ∙ ap (after e) all.0.status_is ∙ kept.1 }
    | inr other ↦ still_open e journal r other all.0
  ]

-- a receiving may begin where its step isn't done
opens : (x : Receiving) (s : Status) → may_receive_from s x ≡ true → opened x s ≡ Open x 0
opens x Fresh fits = refl
opens x (Started tries kind) fits = refl
opens x (Open before safe) fits = refl
opens x (Done o) fits = absurd (false≢true fits)

-- of a receiving that may follow: its status, and that no other step has its file
receive_parts : (read : Reading) (journal : List Entry) (x : Receiving) → may_receive read journal x ≡ true
    → (may_receive_from (status journal x.key) x ≡ true) × (is_in_use journal x.key x.name ≡ false)
receive_parts read journal x fits =
    let first : Bool = may_receive_from (status journal x.key) x in
    let five = and_parts (first && not (is_over journal x.key) && not (is_in_use journal x.key x.name) && is_base_of x.disp x.there x.base && leb (x.base + x.length) greatest_file) (fits_own read journal x.key (is_pull_of x)) fits in
    let four = and_parts (first && not (is_over journal x.key) && not (is_in_use journal x.key x.name) && is_base_of x.disp x.there x.base) (leb (x.base + x.length) greatest_file) five.0 in
    let three = and_parts (first && not (is_over journal x.key) && not (is_in_use journal x.key x.name)) (is_base_of x.disp x.there x.base) four.0 in
    let two = and_parts (first && not (is_over journal x.key)) (not (is_in_use journal x.key x.name)) three.0 in
    let one = and_parts first (not (is_over journal x.key)) two.0 in
    (one.0, not-true (is_in_use journal x.key x.name) two.1)

are_open : (read : Reading) (journal : List Entry) → is_legal read journal ≡ true → AreOpen journal (openings journal)
unfolding openings
are_open read [] legal = tt
are_open read (entry.Receiving x ∷ journal) legal =
    let before = are_open read journal (legal_parts read _ journal legal).0 in
    let fits = receive_parts read journal x (follows read _ journal legal) in (
      record { safe = 0; status_is = status-own (entry.Receiving x) journal x.key (same_key-refl x.key) ∙ opens x (status journal x.key) fits.0 },
      without_open (entry.Receiving x) journal x.key (λ key apart. apart) (openings journal) before,
    )
are_open read (entry.Result step o moment ∷ journal) legal =
    without_open (entry.Result step o moment) journal step (λ key apart. apart) (openings journal) (are_open read journal (legal_parts read _ journal legal).0)
are_open read (entry.Dropped step rc why moment ∷ journal) legal =
    without_open (entry.Dropped step rc why moment) journal step (λ key apart. apart) (openings journal) (are_open read journal (legal_parts read _ journal legal).0)
are_open read (entry.Mark step offset ∷ journal) legal =
    keeps_open (entry.Mark step offset) journal (λ r safe own. (offset, refl)) (openings journal) (are_open read journal (legal_parts read _ journal legal).0)
are_open read (e ∷ journal) legal = keeps_open e journal (λ r safe own. (safe, refl)) (openings journal) (are_open read journal (legal_parts read _ journal legal).0)

-- among the receivings
abbrev IsAmong : Receiving → List Receiving → Type 0
IsAmong r [] = ⊥
IsAmong r (x ∷ more) = (r ≡ x) ⊎ IsAmong r more

among_without : (step : Key) (r : Receiving) → same_key step r.key ≡ false → (rs : List Receiving) → IsAmong r rs → IsAmong r (without step rs)
among_without step r apart [] there = there
among_without step r apart (x ∷ more) (inl is) =
    let other : same_key step x.key ≡ false = ap (λ (y : Receiving). same_key step y.key) (sym is) ∙ apart in
    subst (λ (b : Bool). IsAmong r (cond (not b) (x ∷ without step more) (without step more))) (sym other) (inl is)
among_without step r apart (x ∷ more) (inr later) =
    elim (same_key step x.key) as (λ b. IsAmong r (cond (not b) (x ∷ without step more) (without step more))) [
      | true ↦ among_without step r apart more later
      | false ↦ inr (among_without step r apart more later)
    ]

opened-open : (x : Receiving) (s : Status) (r : Receiving) (safe : ℕ) → opened x s ≡ Open r safe → r ≡ x
opened-open x Fresh r safe is = cc
opened-open x (Started tries kind) r safe is = cc
opened-open x (Open before m) r safe is = cc
opened-open x (Done o) r safe is = absurd cc

marked-open : (offset : ℕ) (s : Status) (r : Receiving) (safe : ℕ) → marked offset s ≡ Open r safe → (before : ℕ) × (s ≡ Open r before)
marked-open offset Fresh r safe is = absurd cc
marked-open offset (Started tries kind) r safe is = absurd cc
marked-open offset (Open x m) r safe is = (m, cc)
marked-open offset (Done o) r safe is = absurd cc

started-open : (kind : TaskKind) (s : Status) (r : Receiving) (safe : ℕ) → once_more kind s ≡ Open r safe → s ≡ Open r safe
started-open kind Fresh r safe is = absurd cc
started-open kind (Started tries last) r safe is = absurd cc
started-open kind (Open x m) r safe is = is
started-open kind (Done o) r safe is = absurd cc

-- what is open of a step is among the openings
abbrev Is : List Entry → Key → Receiving → Type 0
Is journal key r = (r.key ≡ key) × IsAmong r (openings journal)

apart_key : (key step : Key) (r : Receiving) → r.key ≡ key → same_key key step ≡ false → same_key step r.key ≡ false
apart_key key step r is apart = ap (same_key step) is ∙ not_same key step apart

among_other : (e : Entry) (journal : List Entry) (key : Key) (r : Receiving) → is_of key e ≡ false → Is journal key r → Is (e ∷ journal) key r
unfolding openings
among_other (entry.Receiving x) journal key r other found = (found.0, inr (among_without x.key r (apart_key key x.key r found.0 other) (openings journal) found.1))
among_other (entry.Result step o moment) journal key r other found = (found.0, among_without step r (apart_key key step r found.0 other) (openings journal) found.1)
among_other (entry.Dropped step rc why moment) journal key r other found = (found.0, among_without step r (apart_key key step r found.0 other) (openings journal) found.1)
among_other e journal key r other found = found

among_own : (e : Entry) (journal : List Entry) (key : Key) (r : Receiving) (safe : ℕ) → is_of key e ≡ true → after e (status journal key) ≡ Open r safe
    → ((before : ℕ) → status journal key ≡ Open r before → Is journal key r) → Is (e ∷ journal) key r
unfolding openings
among_own (entry.Started step kind attempt moment) journal key r safe own is earlier = earlier safe (started-open kind (status journal key) r safe is)
among_own (entry.Receiving x) journal key r safe own is earlier =
    let same : r ≡ x = opened-open x (status journal key) r safe is in
    (ap (λ (y : Receiving). y.key) same ∙ sym (same_key-true key x.key own), inl same)
among_own (entry.Mark step offset) journal key r safe own is earlier =
    let before = marked-open offset (status journal key) r safe is in earlier before.0 before.1
among_own (entry.Result step o moment) journal key r safe own is earlier = absurd cc
among_own (entry.Dropped step rc why moment) journal key r safe own is earlier = absurd cc
among_own e journal key r safe own is earlier = absurd (false≢true own)

among : (journal : List Entry) (key : Key) (r : Receiving) (safe : ℕ) → status journal key ≡ Open r safe → Is journal key r
unfolding status
among [] key r safe is = absurd cc
among (e ∷ journal) key r safe is =
    elim (cases_Bool (is_of key e)) [
      | inl own ↦ among_own e journal key r safe own (sym (status-own e journal key own) ∙ is) (λ before was. among journal key r before was)
      | inr other ↦ among_other e journal key r other (among journal key r safe (sym (status-other e journal key other) ∙ is))
    ]

-- no two of them are on one file
abbrev NamesApart : List Receiving → Type 0
NamesApart [] = Unit {0}
NamesApart (r ∷ more) = (on_file more r.name ≡ None) × NamesApart more

on_file-without : (step : Key) (rs : List Receiving) (name : List ℕ) → on_file rs name ≡ None → on_file (without step rs) name ≡ None
on_file-without step [] name none = none
on_file-without step (r ∷ more) name none =
    elim (cases_Bool (bytes_eq name r.name)) [
      | inl same ↦ absurd (no_some r (sym (cond-true (bytes_eq name r.name) (Some r) (on_file more name) same) ∙ none))
      | inr other ↦
          let rest : on_file (without step more) name ≡ None = on_file-without step more name (sym (cond-false (bytes_eq name r.name) (Some r) (on_file more name) other) ∙ none) in
          elim (same_key step r.key) as (λ b. on_file (cond (not b) (r ∷ without step more) (without step more)) name ≡ None) [
            | true ↦ rest
            | false ↦ cond-false (bytes_eq name r.name) (Some r) (on_file (without step more) name) other ∙ rest
          ]
    ] where
      no_some : (x : Receiving) → Some x ≡ None → ⊥
      no_some x is = cc

apart_without : (step : Key) (rs : List Receiving) → NamesApart rs → NamesApart (without step rs)
apart_without step [] apart = tt
apart_without step (r ∷ more) apart =
    elim (same_key step r.key) as (λ b. NamesApart (cond (not b) (r ∷ without step more) (without step more))) [
      | true ↦ apart_without step more apart.1
      | false ↦ (on_file-without step more r.name apart.0, apart_without step more apart.1)
    ]

-- a file that no other step has is none of theirs
not_in_use : (step : Key) (name : List ℕ) (rs : List Receiving) → list_any (λ r. bytes_eq name r.name && not (same_key step r.key)) rs ≡ false → on_file (without step rs) name ≡ None
not_in_use step name [] free = refl
not_in_use step name (r ∷ more) free =
    let parts = or_parts (bytes_eq name r.name && not (same_key step r.key)) (list_any (λ x. bytes_eq name x.name && not (same_key step x.key)) more) free in
    let rest : on_file (without step more) name ≡ None = not_in_use step name more parts.1 in
    elim (cases_Bool (same_key step r.key)) [
      | inl same ↦ subst (λ (b : Bool). on_file (cond (not b) (r ∷ without step more) (without step more)) name ≡ None) (sym same) rest
      | inr other ↦
          let apart : bytes_eq name r.name ≡ false =
          false_from_ne_true (bytes_eq name r.name) (λ is. false≢true (sym parts.0 ∙ and_from (bytes_eq name r.name) (not (same_key step r.key)) is (not_from_false (same_key step r.key) other))) in
          subst (λ (b : Bool). on_file (cond (not b) (r ∷ without step more) (without step more)) name ≡ None) (sym other)
          (cond-false (bytes_eq name r.name) (Some r) (on_file (without step more) name) apart ∙ rest)
    ]

names_apart : (read : Reading) (journal : List Entry) → is_legal read journal ≡ true → NamesApart (openings journal)
unfolding openings
names_apart read [] legal = tt
names_apart read (entry.Receiving x ∷ journal) legal =
    let fits = receive_parts read journal x (follows read _ journal legal) in
    (not_in_use x.key x.name (openings journal) fits.1, apart_without x.key (openings journal) (names_apart read journal (legal_parts read _ journal legal).0))
names_apart read (entry.Result step o moment ∷ journal) legal = apart_without step (openings journal) (names_apart read journal (legal_parts read _ journal legal).0)
names_apart read (entry.Dropped step rc why moment ∷ journal) legal = apart_without step (openings journal) (names_apart read journal (legal_parts read _ journal legal).0)
names_apart read (e ∷ journal) legal = names_apart read journal (legal_parts read _ journal legal).0

found_on : (r : Receiving) (rs : List Receiving) → NamesApart rs → IsAmong r rs → on_file rs r.name ≡ Some r
found_on r [] apart there = absurd there
found_on r (x ∷ more) apart (inl is) =
    cond-true (bytes_eq r.name x.name) (Some x) (on_file more r.name) ((bytes_eq-Decides r.name x.name).1 (ap (λ (y : Receiving). y.name) is)) ∙ ap (λ (y : Receiving). Some y) (sym is)
found_on r (x ∷ more) apart (inr later) =
    let rest : on_file more r.name ≡ Some r = found_on r more apart.1 later in
    elim (cases_Bool (bytes_eq r.name x.name)) [
      | inl same ↦ absurd (none_some r (sym apart.0 ∙ ap (on_file more) (sym ((bytes_eq-Decides r.name x.name).0 same)) ∙ rest))
      | inr other ↦ cond-false (bytes_eq r.name x.name) (Some x) (on_file more r.name) other ∙ rest
    ] where
      none_some : (y : Receiving) → None ≡ Some y → ⊥
      none_some y is = cc

-- what is open on a file is one of them, and on that file
is_on : (journal : List Entry) (rs : List Receiving) (name : List ℕ) (r : Receiving) → AreOpen journal rs → on_file rs name ≡ Some r → (r.name ≡ name) × IsOpen journal r
is_on journal [] name r all is = absurd cc
is_on journal (x ∷ more) name r all is =
    elim (cases_Bool (bytes_eq name x.name)) [
      | inl same ↦
          let found : x ≡ r = some_same x r (sym (cond-true (bytes_eq name x.name) (Some x) (on_file more name) same) ∙ is) in
          (ap (λ (y : Receiving). y.name) (sym found) ∙ sym ((bytes_eq-Decides name x.name).0 same), subst (λ (y : Receiving). IsOpen journal y) found all.0)
      | inr other ↦ is_on journal more name r all.1 (sym (cond-false (bytes_eq name x.name) (Some x) (on_file more name) other) ∙ is)
    ] where
      some_same : (y z : Receiving) → Some y ≡ Some z → y ≡ z
      some_same y z e = cc

pub open-on : (read : Reading) (journal : List Entry) (key : Key) (r : Receiving) (safe : ℕ) → is_legal read journal ≡ true → status journal key ≡ Open r safe
    → (r.key ≡ key) × (open_on journal r.name ≡ Some r)
open-on read journal key r safe legal is =
    let found = among journal key r safe is in
    (found.0, found_on r (openings journal) (names_apart read journal legal) found.1)

pub on-open : (read : Reading) (journal : List Entry) (name : List ℕ) (r : Receiving) → is_legal read journal ≡ true → open_on journal name ≡ Some r
    → (r.name ≡ name) × ((safe : ℕ) × (status journal r.key ≡ Open r safe))
on-open read journal name r legal is =
    let found = is_on journal (openings journal) name r (are_open read journal legal) is in
    (found.0, (found.1.safe, found.1.status_is))
