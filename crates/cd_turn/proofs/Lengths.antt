-- The length of a journal.
use Rattle.std.proofs.Common.{◌≡◌, ◌⊎◌, ⊎_elim, ℕ, zero, suc, ◌+◌, ◌^◌, ◌≤◌, ◌<◌, Bool, true, false, cond, eqb, not, List, [], ◌∷◌, ◌++◌, length, map, take, drop, Result, Ok, Err, refl, sym, ap, subst, ◌∙◌, arith, append_assoc, length-append, length-take, length-drop, take-append-drop}
use Rattle.std.specs.Prelude.{sum_by}
use Rattle.std.specs.List.{list_all}
use Rattle.std.proofs.lemmas.List.Sums.{sum_by-append}
use Rattle.std.proofs.lemmas.Bool.{cond-true, cond-false}
use Rattle.std.proofs.lemmas.List.{append-nil, take_at, drop_at}
use Rattle.cd_outside.specs.Disk.{DiskState}
use Rattle.cd_types.specs.TextLaw.{both_true}
use Rattle.cd_journal.specs.Bytes.{Listing, header, told_length, has_body, first_body, with_first, gates, after_header, list_of, after_bodies, IsFront}
use Rattle.cd_journal.specs.Index.{bodies_in}
use Rattle.cd_journal.specs.Journal.{length_of}
use Rattle.cd_journal.proofs.Fronts.{told_length-append, has_body-parts, has_body-true}
use Rattle.cd_entries.specs.declared.entry.Entry.{Entry}
use Rattle.cd_entries.specs.Entry.{entry_bytes}
use Rattle.cd_turn.specs.Home.{HomeState, IsHome}
use Rattle.cd_turn.specs.Ends.{journal_length}

-- the bytes of entries with these bodies
unfoldable pub bodies_length : List (List ℕ) → ℕ
bodies_length bodies = sum_by (λ body. 5 + length body) bodies

sum_first : {X : Type 0} (f : X → ℕ) (x : X) (xs : List X) → sum_by f (x ∷ xs) ≡ f x + sum_by f xs
sum_first f x xs = let parts : sum_by f (x ∷ xs) ≡ sum_by f (x ∷ []) + sum_by f xs = sum_by-append f (x ∷ []) xs in omega arith

bodies_first : (body : List ℕ) (bodies : List (List ℕ)) → bodies_length (body ∷ bodies) ≡ 5 + length body + bodies_length bodies
unfolding bodies_length
bodies_first body bodies = sum_first (λ (b : List ℕ). 5 + length b) body bodies

abbrev listed : List (List ℕ) → Listing
listed bodies = Ok bodies

abbrev unfit : ℕ → Listing
unfit at = Err at

gates_none : (still at : ℕ) → gates still at [] ≡ unfit at
unfolding gates
gates_none zero at = refl
gates_none (suc still) at = refl

gates_shut : (still at : ℕ) (rest : List ℕ) → gates 0 at (0 ∷ rest) ≡ listed []
unfolding gates
gates_shut still at rest = refl

-- bytes up to a closed gate are no fault
ends_listed : (bodies : List (List ℕ)) (at k : ℕ) (l : Listing) → l ≡ after_bodies bodies (gates 0 k (0 ∷ [])) → l ≡ unfit at → ⊥
ends_listed bodies at k l is bad = let h : unfit at ≡ listed (bodies ++ []) = sym bad ∙ is ∙ ap (after_bodies bodies) (gates_shut 0 k []) in cc

record Parts (bs : List ℕ) : Type 0 where
  pub len : ℕ
  pub told : (rest : List ℕ) → told_length (bs ++ rest) ≡ len
  pub has : (rest : List ℕ) → has_body (bs ++ rest) ≡ true
  pub body : List ℕ
  pub first : (rest : List ℕ) → first_body (bs ++ rest) ≡ body
  pub body_len : length body ≡ len

-- a whole body in front is there whatever follows
parts_of : (bs : List ℕ) → has_body bs ≡ true → Parts bs
parts_of bs h =
    let is = has_body-parts bs h in
    let len = told_length bs in
    let four : length (take 4 bs) ≡ 4 = let w = is.whole in omega (arith, length-take 4 bs) in
    let split : take 4 bs ++ drop 4 bs ≡ bs = take-append-drop 4 bs in
    let told_is : (rest : List ℕ) → told_length (bs ++ rest) ≡ len = λ rest.
    ap (λ (l : List ℕ). told_length (l ++ rest)) (sym split) ∙ ap told_length (append_assoc (take 4 bs) (drop 4 bs) rest) ∙ told_length-append (take 4 bs) (drop 4 bs ++ rest) four
    ∙ sym (told_length-append (take 4 bs) (drop 4 bs) four) ∙ ap told_length split in
    record {
      len = len;
      told = told_is;
      has = λ rest.
          has_body-true (bs ++ rest) (subst (λ (n : ℕ). 1 ≤ n) (sym (told_is rest)) is.low) (subst (λ (n : ℕ). n ≤ 262144) (sym (told_is rest)) is.high)
          (let w = is.whole in subst (λ (n : ℕ). 4 + n ≤ length (bs ++ rest)) (sym (told_is rest)) (omega (arith, length-append bs rest)));
      body = first_body bs;
      first = λ rest.
          ap (λ (n : ℕ). take n (drop 4 (bs ++ rest))) (told_is rest)
          ∙ ap (take len) (drop_front bs rest (let w = is.whole in omega arith))
          ∙ take_front len (drop 4 bs) rest (let w = is.whole in omega (arith, length-drop 4 bs));
      body_len = let w = is.whole in omega (arith, length-take len (drop 4 bs), length-drop 4 bs);
    }
  where
    take_front : (n : ℕ) (xs ys : List ℕ) → n ≤ length xs → take n (xs ++ ys) ≡ take n xs
    take_front zero xs ys le = refl
    take_front (suc n) [] ys le = absurd (omega arith)
    take_front (suc n) (x ∷ xs) ys le = ap (λ (l : List ℕ). x ∷ l) (take_front n xs ys (omega arith))

    drop_front : (xs ys : List ℕ) → 4 ≤ length xs → drop 4 (xs ++ ys) ≡ drop 4 xs ++ ys
    drop_front [] ys le = absurd (omega arith)
    drop_front (a ∷ []) ys le = absurd (omega arith)
    drop_front (a ∷ b ∷ []) ys le = absurd (omega arith)
    drop_front (a ∷ b ∷ c ∷ []) ys le = absurd (omega arith)
    drop_front (a ∷ b ∷ c ∷ d ∷ xs) ys le = refl

with_first_parts : (body : List ℕ) (l : Listing) (bodies : List (List ℕ)) → with_first body l ≡ listed bodies → (rest : List (List ℕ)) × (bodies ≡ body ∷ rest)
with_first_parts body (Ok rest) bodies e = let same : bodies ≡ body ∷ rest = cc in (rest, same)
with_first_parts body (Err at) bodies e = absurd cc

first_off : (body : List ℕ) (rest : List (List ℕ)) (l r : Listing) → with_first body l ≡ after_bodies (body ∷ rest) r → l ≡ after_bodies rest r
first_off body rest (Ok a) (Ok b) e = let same : a ≡ rest ++ b = cc in ap listed same
first_off body rest (Ok a) (Err b) e = absurd cc
first_off body rest (Err a) (Ok b) e = absurd cc
first_off body rest (Err a) (Err b) e = let same : a ≡ b = cc in ap unfit same

short_none : has_body (0 ∷ []) ≡ false
short_none = by_case (has_body (0 ∷ [])) (λ h. let w = (has_body-parts (0 ∷ []) h).whole in absurd (omega arith))
  where
    by_case : (t : Bool) → (t ≡ true → ⊥) → t ≡ false
    by_case true never = absurd (never refl)
    by_case false never = refl

-- what stands behind a gate of these bytes
abbrev Goes : ℕ → ℕ → List ℕ → List (List ℕ) → Type 0
Goes still at front bodies = (rest : List ℕ) → gates still at (front ++ rest) ≡ after_bodies bodies (gates 0 (at + length front) rest)

moved : (still at : ℕ) (b : ℕ) (bs : List ℕ) (bodies : List (List ℕ)) → ((rest : List ℕ) → gates still (at + 1) (bs ++ rest) ≡ after_bodies bodies (gates 0 (at + length (b ∷ bs)) rest)) → Goes still (at + 1) bs bodies
moved still at b bs bodies go = λ rest. let place : at + length (b ∷ bs) ≡ at + 1 + length bs = omega arith in go rest ∙ ap (λ (k : ℕ). after_bodies bodies (gates 0 k rest)) place

entry_more : (at b : ℕ) (bs : List ℕ) (bodies : List (List ℕ)) → Parts bs
    → ((rest : List ℕ) → with_first (first_body (bs ++ rest)) (gates (4 + told_length (bs ++ rest)) (at + 1) (bs ++ rest)) ≡ after_bodies bodies (gates 0 (at + length (b ∷ bs)) rest))
    → ((still : ℕ) (more : List (List ℕ)) → Goes still (at + 1) bs more → length bs ≡ still + bodies_length more)
    → length (b ∷ bs) ≡ bodies_length bodies
unfolding bodies_length
entry_more at b bs bodies p go ih =
    let go_on : (rest : List ℕ) → with_first p.body (gates (4 + p.len) (at + 1) (bs ++ rest)) ≡ after_bodies bodies (gates 0 (at + length (b ∷ bs)) rest) =
    λ rest. ap (λ (body : List ℕ). with_first body (gates (4 + p.len) (at + 1) (bs ++ rest))) (sym (p.first rest))
    ∙ ap (λ (n : ℕ). with_first (first_body (bs ++ rest)) (gates (4 + n) (at + 1) (bs ++ rest))) (sym (p.told rest)) ∙ go rest in
    let shut : with_first p.body (gates (4 + p.len) (at + 1) (bs ++ 0 ∷ [])) ≡ listed bodies =
    go_on (0 ∷ []) ∙ ap (after_bodies bodies) (gates_shut 0 (at + length (b ∷ bs)) []) ∙ ap listed (append-nil bodies) in
    let parts = with_first_parts p.body (gates (4 + p.len) (at + 1) (bs ++ 0 ∷ [])) bodies shut in
    let goes : Goes (4 + p.len) (at + 1) bs parts.0 = moved (4 + p.len) at b bs parts.0
    (λ rest. first_off p.body parts.0 (gates (4 + p.len) (at + 1) (bs ++ rest)) (gates 0 (at + length (b ∷ bs)) rest)
    (go_on rest ∙ ap (λ (l : List (List ℕ)). after_bodies l (gates 0 (at + length (b ∷ bs)) rest)) parts.1)) in
    let more : length bs ≡ 4 + p.len + bodies_length parts.0 = ih (4 + p.len) parts.0 goes in
    let sum : bodies_length bodies ≡ 5 + length p.body + bodies_length parts.0 = ap bodies_length parts.1 ∙ bodies_first p.body parts.0 in
    let same = p.body_len in
    omega arith

abbrev Rest : List ℕ → List (List ℕ) → ℕ → Type 0
Rest bs bodies at = (still : ℕ) (more : List (List ℕ)) → Goes still (at + 1) bs more → length bs ≡ still + bodies_length more

-- no whole body stands behind the gate
no_body : (at b : ℕ) (bs : List ℕ) (bodies : List (List ℕ)) → has_body bs ≡ false
    → ((rest : List ℕ) → cond (has_body (bs ++ rest)) (with_first (first_body (bs ++ rest)) (gates (4 + told_length (bs ++ rest)) (at + 1) (bs ++ rest))) (unfit (at + 1)) ≡ after_bodies bodies (gates 0 (at + length (b ∷ bs)) rest)) → ⊥
no_body at b [] bodies has go =
    ends_listed bodies (at + 1) (at + 1) (unfit (at + 1))
    (sym (cond-false (has_body (0 ∷ [])) (with_first (first_body (0 ∷ [])) (gates (4 + told_length (0 ∷ [])) (at + 1) (0 ∷ []))) (unfit (at + 1)) short_none) ∙ go (0 ∷ [])) refl
no_body at b (x ∷ xs) bodies has go =
    let bs : List ℕ = x ∷ xs in
    let none : has_body (bs ++ []) ≡ false = ap has_body (append-nil bs) ∙ has in
    let same : unfit (at + 1) ≡ unfit (at + length (b ∷ bs)) =
    sym (cond-false (has_body (bs ++ [])) (with_first (first_body (bs ++ [])) (gates (4 + told_length (bs ++ [])) (at + 1) (bs ++ []))) (unfit (at + 1)) none) ∙ go [] ∙ ap (after_bodies bodies) (gates_none 0 (at + length (b ∷ bs))) in
    let places : at + 1 ≡ at + length (b ∷ bs) = cc in
    omega arith

by_body : (t : Bool) (at b : ℕ) (bs : List ℕ) (bodies : List (List ℕ)) → has_body bs ≡ t
    → ((rest : List ℕ) → cond (has_body (bs ++ rest)) (with_first (first_body (bs ++ rest)) (gates (4 + told_length (bs ++ rest)) (at + 1) (bs ++ rest))) (unfit (at + 1)) ≡ after_bodies bodies (gates 0 (at + length (b ∷ bs)) rest))
    → Rest bs bodies at → length (b ∷ bs) ≡ bodies_length bodies
by_body true at b bs bodies has go ih =
    let p = parts_of bs has in
    entry_more at b bs bodies p
    (λ rest. sym (cond-true (has_body (bs ++ rest)) (with_first (first_body (bs ++ rest)) (gates (4 + told_length (bs ++ rest)) (at + 1) (bs ++ rest))) (unfit (at + 1)) (p.has rest)) ∙ go rest)
    ih
by_body false at b bs bodies has go ih = absurd (no_body at b bs bodies has go)

by_gate : (t : Bool) (at b : ℕ) (bs : List ℕ) (bodies : List (List ℕ))
    → ((rest : List ℕ) → cond t (cond (has_body (bs ++ rest)) (with_first (first_body (bs ++ rest)) (gates (4 + told_length (bs ++ rest)) (at + 1) (bs ++ rest))) (unfit (at + 1))) (listed []) ≡ after_bodies bodies (gates 0 (at + length (b ∷ bs)) rest))
    → Rest bs bodies at → length (b ∷ bs) ≡ bodies_length bodies
by_gate true at b bs bodies go ih = by_body (has_body bs) at b bs bodies refl go ih
by_gate false at b bs bodies go ih =
    let same : listed [] ≡ unfit (at + length (b ∷ bs)) = go [] ∙ ap (after_bodies bodies) (gates_none 0 (at + length (b ∷ bs))) in absurd cc

-- a front of gates is as long as its bodies ask
gates_length : (still at : ℕ) (front : List ℕ) (bodies : List (List ℕ)) → Goes still at front bodies → length front ≡ still + bodies_length bodies
unfolding gates bodies_length
gates_length zero at [] bodies go =
    let shut : listed [] ≡ listed (bodies ++ []) = go (0 ∷ []) ∙ ap (after_bodies bodies) (gates_shut 0 (at + 0) []) in
    let none : bodies ++ [] ≡ [] = cc in
    subst (λ (l : List (List ℕ)). 0 ≡ 0 + bodies_length l) (sym (sym (append-nil bodies) ∙ none)) refl
gates_length (suc still) at [] bodies go = absurd (ends_listed bodies (at + 1) (at + 0) (gates still (at + 1) []) (go (0 ∷ [])) (gates_none still (at + 1)))
gates_length zero at (b ∷ bs) bodies go =
    let e = by_gate (eqb b 1) at b bs bodies go (λ still more goes. gates_length still (at + 1) bs more goes) in
    omega arith
gates_length (suc still) at (b ∷ bs) bodies go = let more = gates_length still (at + 1) bs bodies (moved still at b bs bodies go) in omega arith

-- and behind this part of the header
header_length : (wanted : List ℕ) (at : ℕ) (front : List ℕ) (bodies : List (List ℕ)) → list_all (λ w. not (eqb 0 w)) wanted ≡ true
    → ((rest : List ℕ) → after_header wanted at (front ++ rest) ≡ after_bodies bodies (gates 0 (at + length front) rest)) → length front ≡ length wanted + bodies_length bodies
unfolding after_header
header_length [] at front bodies some go = gates_length 0 at front bodies go
header_length (w ∷ wanted) at [] bodies some go =
    let tests = both_true (not (eqb 0 w)) (list_all (λ w. not (eqb 0 w)) wanted) some in
    absurd (shut_fails (eqb 0 w) at bodies (after_header wanted (at + 1) []) tests.0 (go (0 ∷ []) ∙ ap (after_bodies bodies) (gates_shut 0 (at + 0) [])))
  where
    shut_fails : (t : Bool) (at : ℕ) (bodies : List (List ℕ)) (l : Listing) → not t ≡ true → cond t l (unfit at) ≡ listed (bodies ++ []) → ⊥
    shut_fails true at bodies l h e = absurd cc
    shut_fails false at bodies l h e = cc
header_length (w ∷ wanted) at (b ∷ front) bodies some go =
    let tests = both_true (not (eqb 0 w)) (list_all (λ w. not (eqb 0 w)) wanted) some in
    let more = by_byte (eqb b w) go (λ go_on. header_length wanted (at + 1) front bodies tests.1 go_on) in
    omega arith
  where
    Behind : Type 0
    Behind = (rest : List ℕ) → after_header wanted (at + 1) (front ++ rest) ≡ after_bodies bodies (gates 0 (at + 1 + length front) rest)

    by_byte : (t : Bool) → ((rest : List ℕ) → cond t (after_header wanted (at + 1) (front ++ rest)) (unfit at) ≡ after_bodies bodies (gates 0 (at + length (b ∷ front)) rest))
        → (Behind → length front ≡ length wanted + bodies_length bodies) → length front ≡ length wanted + bodies_length bodies
    by_byte true go ih = ih (λ rest. let place : at + length (b ∷ front) ≡ at + 1 + length front = omega arith in go rest ∙ ap (λ (k : ℕ). after_bodies bodies (gates 0 k rest)) place)
    by_byte false go ih = let same : unfit at ≡ listed (bodies ++ []) = go (0 ∷ []) ∙ ap (after_bodies bodies) (gates_shut 0 (at + length (b ∷ front)) []) in absurd cc

-- a front of a journal is as long as its bodies ask
pub front_length : (front : List ℕ) (bodies : List (List ℕ)) → IsFront front bodies → length front ≡ 8 + bodies_length bodies
unfolding list_of
front_length [] bodies is = let same : listed [] ≡ unfit 0 = is.goes_on [] ∙ ap (after_bodies bodies) (gates_none 0 0) in absurd cc
front_length (b ∷ front) bodies is = header_length header 0 (b ∷ front) bodies refl (λ rest. is.goes_on rest ∙ (let place : length (b ∷ front) ≡ 0 + length (b ∷ front) = omega arith in ap (λ (k : ℕ). after_bodies bodies (gates 0 k rest)) place))

entries_length : (entries : List Entry) → bodies_length (map entry_bytes entries) ≡ sum_by (λ e. 5 + length (entry_bytes e)) entries
unfolding bodies_length
entries_length [] = refl
entries_length (e ∷ entries) =
    let one : bodies_length (entry_bytes e ∷ map entry_bytes entries) ≡ 5 + length (entry_bytes e) + bodies_length (map entry_bytes entries) = bodies_first (entry_bytes e) (map entry_bytes entries) in
    let two : sum_by (λ e. 5 + length (entry_bytes e)) (e ∷ entries) ≡ 5 + length (entry_bytes e) + sum_by (λ e. 5 + length (entry_bytes e)) entries = sum_first (λ (e : Entry). 5 + length (entry_bytes e)) e entries in
    one ∙ ap (λ (n : ℕ). 5 + length (entry_bytes e) + n) (entries_length entries) ∙ sym two

-- the length of a home's journal
pub home_length : (home : HomeState) (disk : DiskState) → IsHome home disk → home.journal.has_header ≡ true → length_of home.journal ≡ journal_length home.entries
home_length home disk is has =
    let at = is.at has in
    let end = home.journal.end in
    let bodies = bodies_in disk.seen home.journal.places in
    let inside = at.closed.inside in
    let len : length (take end disk.seen) ≡ end = omega (arith, length-take end disk.seen) in
    let front = front_length (take end disk.seen) bodies at.closed.front in
    let both : listed bodies ≡ listed (map entry_bytes home.entries) = sym at.list ∙ is.list in
    let same : bodies ≡ map entry_bytes home.entries = cc in
    let sums : bodies_length bodies ≡ sum_by (λ e. 5 + length (entry_bytes e)) home.entries = ap bodies_length same ∙ entries_length home.entries in
    omega arith
