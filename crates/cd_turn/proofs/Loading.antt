-- Reading the entries of a journal one after the other.
use Rattle.std.proofs.Common.{◌≡◌, ℕ, zero, suc, ◌+◌, ◌*◌, ◌^◌, ◌≤◌, ◌<◌, min, List, [], ◌∷◌, ◌++◌, length, map, take, drop, Option, Some, None, Result, Ok, Err, refl, sym, ap, subst, ◌∙◌, arith, length-append, length-take}
use Rattle.std.specs.Prelude.{IfOk, MatchResult, slice_get}
use Rattle.cd_journal.specs.Bytes.{Listing, list_of}
use Rattle.cd_journal.specs.Fault.{IfUnfit}
use Rattle.cd_journal.specs.Journal.{Held, KeepsList}
use Rattle.cd_journal.specs.declared.fault.JournalFault.{JournalFault}
use Rattle.cd_journal.specs.declared.fault.JournalFault.TheVariants.{Disk, Full, Unfit, NoMemory}
use Rattle.cd_entries.specs.declared.entry.Entry.{Entry}
use Rattle.cd_entries.specs.Entry.{entry_bytes}
use Rattle.cd_turn.specs.Home.{place_behind, IsBad, HasBad, IsFirstBad}
use Rattle.cd_turn.specs.Legal.{IsLegal}
use Rattle.cd_turn.proofs.BodyLengths.{AreShort, place_small, place-push, take_short, list_short}

pub keeps_then : (a b c : Held) → KeepsList a b → KeepsList b c → KeepsList a c
keeps_then a b c one two = record {
  places = two.places ∙ one.places;
  end = two.end ∙ one.end;
  has_header = two.has_header ∙ one.has_header;
  spare = let x = one.spare in let y = two.spare in omega arith;
  room = let x = one.room in let y = two.room in omega arith;
}

-- at an index stands a body
split_at : (bodies : List (List ℕ)) (i : ℕ) (body : List ℕ) → slice_get bodies i ≡ Some body → drop i bodies ≡ body ∷ drop (suc i) bodies
split_at [] i body e = absurd cc
split_at (b ∷ bodies) zero body e = let head : b ≡ body = cc in ap (λ (x : List ℕ). x ∷ bodies) head
split_at (b ∷ bodies) (suc i) body e = split_at bodies i body e

take-next : (bodies : List (List ℕ)) (i : ℕ) (body : List ℕ) → slice_get bodies i ≡ Some body → take (suc i) bodies ≡ take i bodies ++ body ∷ []
take-next [] i body e = absurd cc
take-next (b ∷ bodies) zero body e = let head : b ≡ body = cc in ap (λ (x : List ℕ). x ∷ []) head
take-next (b ∷ bodies) (suc i) body e = ap (λ (l : List (List ℕ)). b ∷ l) (take-next bodies i body e)

whole_at : (bodies : List (List ℕ)) (i : ℕ) → take i bodies ++ drop i bodies ≡ bodies
whole_at [] zero = refl
whole_at [] (suc i) = refl
whole_at (b ∷ bodies) zero = refl
whole_at (b ∷ bodies) (suc i) = ap (λ (l : List (List ℕ)). b ∷ l) (whole_at bodies i)

-- what is said of a place is said of another
pub unfit_moves : (fault : JournalFault) (P Q : ℕ → Type 0) → ((at : ℕ) → P at → Q at) → IfUnfit {T = Unit {0}} (Err fault) P → IfUnfit {T = Unit {0}} (Err fault) Q
unfit_moves Disk P Q moves p = p
unfit_moves (Full len) P Q moves p = p
unfit_moves (Unfit at) P Q moves p = moves at p
unfit_moves NoMemory P Q moves p = p

-- the body behind those that were read is the first bad one
pub bad_at : (l : Listing) (bodies : List (List ℕ)) (entries : List Entry) (i at place : ℕ) → l ≡ Ok bodies → IsLegal entries → IfOk l (λ bs. take i bs ≡ map entry_bytes entries)
    → at ≡ place_behind (map entry_bytes entries) → (place ≡ at) × IfOk l (λ bs. HasBad entries bs i) → MatchResult l (λ bs. IsFirstBad bs place) (λ p. p ≡ place)
bad_at (Err p) bodies entries i at place e legal read at_is bad = absurd cc
bad_at (Ok bs) bodies entries i at place e legal read at_is bad = record {
  good = entries;
  bad = bad.1.0;
  more = drop (suc i) bs;
  parts = sym (whole_at bs i) ∙ (λ j. read j ++ split_at bs i bad.1.0 bad.1.1 j);
  legal = legal;
  is_bad = bad.1.2;
  place = bad.0 ∙ at_is;
}

-- one body more was read
pub read_more : (l : Listing) (old new : List Entry) (body : List ℕ) (i : ℕ) → IfOk l (λ bs. take i bs ≡ map entry_bytes old) → IfOk l (λ bs. slice_get bs i ≡ Some body)
    → map entry_bytes new ≡ map entry_bytes old ++ body ∷ [] → IfOk l (λ bs. take (i + 1) bs ≡ map entry_bytes new)
read_more (Err p) old new body i read here grown = tt
read_more (Ok bs) old new body i read here grown =
    let up : i + 1 ≡ suc i = omega arith in
    let one : take (i + 1) bs ≡ take (suc i) bs = ap (λ (n : ℕ). take n bs) up in
    one ∙ take-next bs i body here ∙ ap (λ (front : List (List ℕ)). front ++ body ∷ []) read ∙ sym grown

-- and the place goes on behind it
pub place_more : (l : Listing) (bodies : List (List ℕ)) (old new : List Entry) (body : List ℕ) (i at next : ℕ) → l ≡ Ok bodies → AreShort bodies → i < 2 ^ 32 → length body < 2 ^ 63
    → IfOk l (λ bs. take i bs ≡ map entry_bytes old) → map entry_bytes new ≡ map entry_bytes old ++ body ∷ [] → at ≡ place_behind (map entry_bytes old) → next ≡ min (at + (5 + length body)) 18446744073709551615
    → next ≡ place_behind (map entry_bytes new)
place_more (Err p) bodies old new body i at next e short few small read grown at_is next_is = absurd cc
place_more (Ok bs) bodies old new body i at next e short few small read grown at_is next_is =
    let same : bs ≡ bodies = cc in
    let fits = place_small (take i bs) (take_short i bs (subst AreShort (sym same) short)) (omega (arith, length-take i bs)) in
    let here : place_behind (take i bs) ≡ at = ap place_behind read ∙ sym at_is in
    let more = place-push (map entry_bytes old) body in
    let there : place_behind (map entry_bytes new) ≡ place_behind (map entry_bytes old ++ body ∷ []) = ap place_behind grown in
    omega arith
