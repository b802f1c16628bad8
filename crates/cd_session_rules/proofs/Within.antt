-- What is open of a step in a legal journal fits a file, and its mark lies within its length.
use Rattle.std.proofs.Common.{◌≡◌, ℕ, ◌+◌, ◌≤◌, leb, Bool, true, false, ◌&&◌, eqb, List, [], ◌∷◌, inl, inr, refl, sym, ◌∙◌, ap, subst, arith}
use Rattle.std.specs.Prelude.{not, ◌||◌}
use Rattle.std.proofs.lemmas.Bool.{cases_Bool, and_parts, or_cases, eqb-true, leb-true, false≢true}
use Rattle.cd_types.specs.declared.choices.TaskKind.{TaskKind}
use Rattle.cd_types.specs.declared.key.Key.{Key}
use Rattle.cd_types.specs.declared.rows.Receiving.{Receiving}
use Rattle.cd_entries.specs.declared.entry.Entry.{Entry}
use Rattle.cd_entries.specs.declared.entry.Entry.TheVariants as entry
use Rattle.cd_rules.specs.Keys.{same_key, is_of}
use Rattle.cd_rules.proofs.KeysLaw.{same_key-true}
use Rattle.cd_rules.specs.Openings.{is_in_use}
use Rattle.cd_rules.specs.Processes.{is_over}
use Rattle.cd_rules.specs.Status.{Status, Fresh, Started, Open, Done, once_more, opened, marked, after, status}
use Rattle.cd_rules.proofs.StatusLaw.{status-other, status-own}
use Rattle.cd_rules.specs.Steps.{Reading, fits_own, is_pull_of}
use Rattle.cd_rules.specs.Legal.{is_legal, may_follow, may_receive, may_receive_from, is_base_of, may_mark_from, greatest_file}
use Rattle.cd_rules.proofs.LegalLaw.{legal_parts, follows}

-- the whole has at most the bytes of the greatest file, and the mark lies within what comes
pub record IsWithin (r : Receiving) (safe : ℕ) : Type 0 where
  pub whole : r.base + r.length ≤ greatest_file
  pub mark : safe ≤ r.length

receive_whole : (read : Reading) (journal : List Entry) (x : Receiving) → may_receive read journal x ≡ true → x.base + x.length ≤ greatest_file
receive_whole read journal x fits =
    let before : Bool = may_receive_from (status journal x.key) x && not (is_over journal x.key) && not (is_in_use journal x.key x.name) && is_base_of x.disp x.there x.base in
    let five = and_parts (before && leb (x.base + x.length) greatest_file) (fits_own read journal x.key (is_pull_of x)) fits in
    let four = and_parts before (leb (x.base + x.length) greatest_file) five.0 in
    leb-true (x.base + x.length) greatest_file four.1

opened-within : (x : Receiving) (s : Status) (r : Receiving) (safe : ℕ) → x.base + x.length ≤ greatest_file → opened x s ≡ Open r safe → IsWithin r safe
opened-within x Fresh r safe small is = let same : x ≡ r = cc in let none : safe ≡ 0 = cc in record { whole = subst (λ (y : Receiving). y.base + y.length ≤ greatest_file) same small; mark = omega (arith, none) }
opened-within x (Started tries kind) r safe small is = let same : x ≡ r = cc in let none : safe ≡ 0 = cc in record { whole = subst (λ (y : Receiving). y.base + y.length ≤ greatest_file) same small; mark = omega (arith, none) }
opened-within x (Open before m) r safe small is = let same : x ≡ r = cc in let none : safe ≡ 0 = cc in record { whole = subst (λ (y : Receiving). y.base + y.length ≤ greatest_file) same small; mark = omega (arith, none) }
opened-within x (Done o) r safe small is = absurd cc

mark_upto : (x : Receiving) (m offset : ℕ) → may_mark_from (Open x m) offset ≡ true → offset ≤ x.length
mark_upto x m offset fits =
    elim (or_cases (eqb offset 0) (not (eqb x.interval 0) && eqb offset (m + x.interval) && leb offset x.length) fits) [
      | inl back ↦ omega (arith, eqb-true offset 0 back)
      | inr further ↦ leb-true offset x.length (and_parts (not (eqb x.interval 0) && eqb offset (m + x.interval)) (leb offset x.length) further).1
    ]

marked-within : (offset : ℕ) (s : Status) (r : Receiving) (safe : ℕ) → may_mark_from s offset ≡ true → ((x : Receiving) (m : ℕ) → s ≡ Open x m → IsWithin x m)
    → marked offset s ≡ Open r safe → IsWithin r safe
marked-within offset Fresh r safe fits earlier is = absurd cc
marked-within offset (Started tries kind) r safe fits earlier is = absurd cc
marked-within offset (Open x m) r safe fits earlier is =
    let same : x ≡ r = cc in
    let there : offset ≡ safe = cc in
    let before = earlier x m refl in
    record { whole = subst (λ (y : Receiving). y.base + y.length ≤ greatest_file) same before.whole; mark = subst (λ (y : Receiving). safe ≤ y.length) same (omega (arith, there, mark_upto x m offset fits)) }
marked-within offset (Done o) r safe fits earlier is = absurd cc

started-within : (kind : TaskKind) (s : Status) (r : Receiving) (safe : ℕ) → ((x : Receiving) (m : ℕ) → s ≡ Open x m → IsWithin x m)
    → once_more kind s ≡ Open r safe → IsWithin r safe
started-within kind Fresh r safe earlier is = absurd cc
started-within kind (Started tries last) r safe earlier is = absurd cc
started-within kind (Open x m) r safe earlier is = earlier r safe is
started-within kind (Done o) r safe earlier is = absurd cc

own_within : (read : Reading) (e : Entry) (journal : List Entry) (key : Key) (r : Receiving) (safe : ℕ) → is_of key e ≡ true → may_follow read journal e ≡ true
    → after e (status journal key) ≡ Open r safe → ((x : Receiving) (m : ℕ) → status journal key ≡ Open x m → IsWithin x m) → IsWithin r safe
own_within read (entry.Started step kind attempt moment) journal key r safe own fits is earlier = started-within kind (status journal key) r safe earlier is
own_within read (entry.Receiving x) journal key r safe own fits is earlier = opened-within x (status journal key) r safe (receive_whole read journal x fits) is
own_within read (entry.Mark step offset) journal key r safe own fits is earlier =
    marked-within offset (status journal key) r safe (subst (λ (k : Key). may_mark_from (status journal k) offset ≡ true) (sym (same_key-true key step own)) fits) earlier is
own_within read (entry.Result step o moment) journal key r safe own fits is earlier = absurd cc
own_within read (entry.Dropped step rc why moment) journal key r safe own fits is earlier = absurd cc
own_within read e journal key r safe own fits is earlier = absurd (false≢true own)

pub open_within : (read : Reading) (journal : List Entry) (key : Key) (r : Receiving) (safe : ℕ) → is_legal read journal ≡ true → status journal key ≡ Open r safe → IsWithin r safe
unfolding status
open_within read [] key r safe legal is = absurd cc
open_within read (e ∷ journal) key r safe legal is =
    let before = (legal_parts read e journal legal).0 in
    elim (cases_Bool (is_of key e)) [
      | inl own ↦ own_within read e journal key r safe own (follows read e journal legal) (sym (status-own e journal key own) ∙ is) (λ x m was. open_within read journal key x m before was)
      | inr other ↦ open_within read journal key r safe before (sym (status-other e journal key other) ∙ is)
    ]
