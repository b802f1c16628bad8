-- The bodies of a journal's bytes have at most 262,144 bytes each.
use Rattle.std.proofs.Common.{◌≡◌, ℕ, zero, suc, ◌+◌, ◌*◌, ◌^◌, ◌≤◌, ◌<◌, Bool, true, false, cond, eqb, leb, ◌&&◌, List, [], ◌∷◌, ◌++◌, length, take, drop, Result, Ok, Err, refl, sym, ap, subst, ◌∙◌, arith, length-take}
use Rattle.std.specs.Prelude.{sum_by, fold}
use Rattle.std.specs.List.{AllByRecursion}
use Rattle.std.proofs.lemmas.Bool.{leb-true}
use Rattle.std.proofs.lemmas.List.Sums.{sum_by-append}
use Rattle.cd_types.specs.TextLaw.{both_true}
use Rattle.cd_journal.specs.Bytes.{Listing, header, told_length, has_body, first_body, with_first, gates, after_header, list_of}
use Rattle.cd_turn.specs.Home.{place_behind}

abbrev pub AreShort : List (List ℕ) → Type 0
AreShort bodies = AllByRecursion (λ body. length body ≤ 262144) bodies

abbrev done : List (List ℕ) → Listing
done bodies = Ok bodies

with_first_ok : (body : List ℕ) (l : Listing) (bodies : List (List ℕ)) → with_first body l ≡ Ok bodies → (rest : List (List ℕ)) × (l ≡ Ok rest) × (bodies ≡ body ∷ rest)
with_first_ok body (Ok rest) bodies e = let same : bodies ≡ body ∷ rest = cc in (rest, refl, same)
with_first_ok body (Err at) bodies e = absurd cc

-- what an open gate or a closed one gave
gate_ok : (open_gate whole : Bool) (body : List ℕ) (l : Listing) (at : ℕ) (bodies : List (List ℕ))
    → cond open_gate (cond whole (with_first body l) (Err at)) (Ok []) ≡ Ok bodies → (whole ≡ true → length body ≤ 262144) → ((rest : List (List ℕ)) → l ≡ Ok rest → AreShort rest) → AreShort bodies
gate_ok true true body l at bodies e first more =
    let parts = with_first_ok body l bodies e in
    subst AreShort (sym parts.2) (first refl, more parts.0 parts.1)
gate_ok true false body l at bodies e first more = absurd cc
gate_ok false whole body l at bodies e first more = let none : bodies ≡ [] = cc in subst AreShort (sym none) tt

first_short : (bytes : List ℕ) → has_body bytes ≡ true → length (first_body bytes) ≤ 262144
first_short bytes has =
    let tests = both_true (leb 1 (told_length bytes) && leb (told_length bytes) 262144) (leb (4 + told_length bytes) (length bytes)) has in
    let bounds = both_true (leb 1 (told_length bytes)) (leb (told_length bytes) 262144) tests.0 in
    let most : told_length bytes ≤ 262144 = leb-true _ _ bounds.1 in
    omega (arith, length-take (told_length bytes) (drop 4 bytes))

gates_short : (still at : ℕ) (bytes : List ℕ) (bodies : List (List ℕ)) → gates still at bytes ≡ Ok bodies → AreShort bodies
unfolding gates
gates_short zero at [] bodies e = absurd cc
gates_short (suc still) at [] bodies e = absurd cc
gates_short (suc still) at (byte ∷ bytes) bodies e = gates_short still (at + 1) bytes bodies e
gates_short zero at (gate ∷ bytes) bodies e =
    gate_ok (eqb gate 1) (has_body bytes) (first_body bytes) (gates (4 + told_length bytes) (at + 1) bytes) (at + 1) bodies e (first_short bytes) (gates_short (4 + told_length bytes) (at + 1) bytes)

byte_ok : (t : Bool) (l : Listing) (at : ℕ) (bodies : List (List ℕ)) → cond t l (Err at) ≡ Ok bodies → l ≡ Ok bodies
byte_ok true l at bodies h = h
byte_ok false l at bodies h = absurd cc

header_short : (wanted : List ℕ) (at : ℕ) (bytes : List ℕ) (bodies : List (List ℕ)) → after_header wanted at bytes ≡ Ok bodies → AreShort bodies
unfolding after_header
header_short [] at bytes bodies e = gates_short 0 at bytes bodies e
header_short (w ∷ wanted) at [] bodies e = absurd cc
header_short (w ∷ wanted) at (byte ∷ bytes) bodies e = header_short wanted (at + 1) bytes bodies (byte_ok (eqb byte w) (after_header wanted (at + 1) bytes) at bodies e)

pub list_short : (bytes : List ℕ) (bodies : List (List ℕ)) → list_of bytes ≡ Ok bodies → AreShort bodies
unfolding list_of
list_short [] bodies e = let none : bodies ≡ [] = cc in subst AreShort (sym none) tt
list_short (byte ∷ bytes) bodies e = header_short header 0 (byte ∷ bytes) bodies e

pub take_short : (n : ℕ) (bodies : List (List ℕ)) → AreShort bodies → AreShort (take n bodies)
take_short zero bodies short = tt
take_short (suc n) [] short = tt
take_short (suc n) (body ∷ bodies) short = (short.0, take_short n bodies short.1)

fold_short : (bodies : List (List ℕ)) (from : ℕ) → AreShort bodies → fold (λ n body. n + (5 + length body)) from bodies ≤ from + 262149 * length bodies
fold_short [] from short = omega arith
fold_short (body ∷ bodies) from short =
    let more = fold_short bodies (from + (5 + length body)) short.1 in
    let first : length body ≤ 262144 = short.0 in
    omega arith

-- so the places of fewer than 2 ^ 32 bodies are small
pub place_small : (bodies : List (List ℕ)) → AreShort bodies → length bodies < 2 ^ 32 → place_behind bodies < 2 ^ 60
place_small bodies short few = let most = fold_short bodies 0 short in omega arith

-- one body more
pub place-push : (bodies : List (List ℕ)) (body : List ℕ) → place_behind (bodies ++ body ∷ []) ≡ place_behind bodies + (5 + length body)
place-push bodies body = let sum = sum_by-append (λ (b : List ℕ). 5 + length b) bodies (body ∷ []) in omega arith
