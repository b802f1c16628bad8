-- The bodies of a journal's bytes are bytes.
use Rattle.std.proofs.Common.{◌≡◌, ℕ, zero, suc, ◌+◌, Bool, true, false, cond, eqb, List, [], ◌∷◌, ◌++◌, take, drop, Ok, Err, refl, sym, subst, arith, take-append-drop}
use Rattle.std.specs.List.{AllByRecursion}
use Rattle.cd_types.specs.Format.{IsBytes}
use Rattle.cd_types.specs.CompoundLaw.{IsBytes-after}
use Rattle.cd_journal.specs.Bytes.{Listing, header, told_length, has_body, first_body, with_first, gates, after_header, list_of}

abbrev pub AreBytes : List (List ℕ) → Type 0
AreBytes bodies = AllByRecursion IsBytes bodies

-- a front of bytes is bytes
pub IsBytes-front : (front rest : List ℕ) → IsBytes (front ++ rest) → IsBytes front
IsBytes-front [] rest fit zero = omega arith
IsBytes-front [] rest fit (suc i) = omega arith
IsBytes-front (b ∷ front) rest fit zero = fit zero
IsBytes-front (b ∷ front) rest fit (suc i) = IsBytes-front front rest (λ j. fit (suc j)) i

IsBytes-take : (n : ℕ) (bytes : List ℕ) → IsBytes bytes → IsBytes (take n bytes)
IsBytes-take n bytes fit = IsBytes-front (take n bytes) (drop n bytes) (subst IsBytes (sym (take-append-drop n bytes)) fit)

IsBytes-drop : (n : ℕ) (bytes : List ℕ) → IsBytes bytes → IsBytes (drop n bytes)
IsBytes-drop n bytes fit = IsBytes-after (take n bytes) (drop n bytes) (subst IsBytes (sym (take-append-drop n bytes)) fit)

with_first_bytes : (body : List ℕ) (l : Listing) (bodies : List (List ℕ)) → with_first body l ≡ Ok bodies → IsBytes body → ((rest : List (List ℕ)) → l ≡ Ok rest → AreBytes rest) → AreBytes bodies
with_first_bytes body (Ok rest) bodies e first more = let same : body ∷ rest ≡ bodies = cc in subst AreBytes same (first, more rest refl)
with_first_bytes body (Err at) bodies e first more = absurd cc

-- what an open gate or a closed one gave
gate_bytes : (is_open whole : Bool) (body : List ℕ) (l : Listing) (at : ℕ) (bodies : List (List ℕ))
    → cond is_open (cond whole (with_first body l) (Err at)) (Ok []) ≡ Ok bodies → IsBytes body → ((rest : List (List ℕ)) → l ≡ Ok rest → AreBytes rest) → AreBytes bodies
gate_bytes true true body l at bodies e first more = with_first_bytes body l bodies e first more
gate_bytes true false body l at bodies e first more = absurd cc
gate_bytes false whole body l at bodies e first more = let none : [] ≡ bodies = cc in subst AreBytes none tt

gates_bytes : (still at : ℕ) (bytes : List ℕ) (bodies : List (List ℕ)) → IsBytes bytes → gates still at bytes ≡ Ok bodies → AreBytes bodies
unfolding gates
gates_bytes zero at [] bodies fit e = absurd cc
gates_bytes (suc still) at [] bodies fit e = absurd cc
gates_bytes (suc still) at (byte ∷ bytes) bodies fit e = gates_bytes still (at + 1) bytes bodies (IsBytes-after (byte ∷ []) bytes fit) e
gates_bytes zero at (gate ∷ bytes) bodies fit e =
    let rest = IsBytes-after (gate ∷ []) bytes fit in
    gate_bytes (eqb gate 1) (has_body bytes) (first_body bytes) (gates (4 + told_length bytes) (at + 1) bytes) (at + 1) bodies e
    (IsBytes-take (told_length bytes) (drop 4 bytes) (IsBytes-drop 4 bytes rest))
    (λ more is. gates_bytes (4 + told_length bytes) (at + 1) bytes more rest is)

byte_ok : (t : Bool) (l : Listing) (at : ℕ) (bodies : List (List ℕ)) → cond t l (Err at) ≡ Ok bodies → l ≡ Ok bodies
byte_ok true l at bodies h = h
byte_ok false l at bodies h = absurd cc

header_bytes : (wanted : List ℕ) (at : ℕ) (bytes : List ℕ) (bodies : List (List ℕ)) → IsBytes bytes → after_header wanted at bytes ≡ Ok bodies → AreBytes bodies
unfolding after_header
header_bytes [] at bytes bodies fit e = gates_bytes 0 at bytes bodies fit e
header_bytes (w ∷ wanted) at [] bodies fit e = absurd cc
header_bytes (w ∷ wanted) at (byte ∷ bytes) bodies fit e = header_bytes wanted (at + 1) bytes bodies (IsBytes-after (byte ∷ []) bytes fit) (byte_ok (eqb byte w) (after_header wanted (at + 1) bytes) at bodies e)

pub list_bytes : (bytes : List ℕ) (bodies : List (List ℕ)) → IsBytes bytes → list_of bytes ≡ Ok bodies → AreBytes bodies
unfolding list_of
list_bytes [] bodies fit e = let none : [] ≡ bodies = cc in subst AreBytes none tt
list_bytes (byte ∷ bytes) bodies fit e = header_bytes header 0 (byte ∷ bytes) bodies fit e
