-- Fronts of a journal, and what may stand behind them.
use Rattle.std.proofs.Common.{◌≡◌, ◌≢◌, ℕ, zero, suc, ◌+◌, ◌≤◌, List, [], ◌∷◌, ◌++◌, length, ◌&&◌, nat_le, true, false, Ok, Err, refl, sym, ◌∙◌, ap, arith, append_assoc, length-append}
use Rattle.std.proofs.lemmas.Bool.{and_from, and_parts, le-leb, leb-true, cond-true, cond-false, ne_eqb}
use Rattle.std.proofs.lemmas.List.{append-nil, take_at, drop_at}
use Rattle.byteorder.specs.Numbers.{big_from-append}
use Rattle.cd_journal.specs.Bytes.{Listing, header, told_length, has_body, first_body, with_first, gates, after_header, list_of, after_bodies, IsFront}

pub after_none : (r : Listing) → after_bodies [] r ≡ r
after_none (Ok bodies) = refl
after_none (Err at) = refl

pub after_one : (bodies : List (List ℕ)) (body : List ℕ) (r : Listing) → after_bodies bodies (with_first body r) ≡ after_bodies (bodies ++ body ∷ []) r
after_one bodies body (Ok more) = rw append_assoc refl
after_one bodies body (Err at) = refl

-- the bytes of an entry are passed over
pub gates-still : (n at : ℕ) (xs ys : List ℕ) → length xs ≡ n → gates n at (xs ++ ys) ≡ gates 0 (at + n) ys
unfolding gates
gates-still zero at [] ys e = let same : at ≡ at + 0 = omega arith in ap (λ (k : ℕ). gates 0 k ys) same
gates-still zero at (x ∷ xs) ys e = absurd (omega arith)
gates-still (suc n) at [] ys e = absurd (omega arith)
gates-still (suc n) at (x ∷ xs) ys e =
    gates-still n (at + 1) xs ys (omega arith) ∙ (let same : at + 1 + n ≡ at + suc n = omega arith in ap (λ (k : ℕ). gates 0 k ys) same)

-- a length reads no byte past its four
pub told_length-append : (len rest : List ℕ) → length len ≡ 4 → told_length (len ++ rest) ≡ told_length len
unfolding told_length
told_length-append len rest four = big_from-append 4 len rest (omega arith)

has_body-entry : (len body rest : List ℕ) → length len ≡ 4 → told_length len ≡ length body → 1 ≤ length body → length body ≤ 262144 → has_body (len ++ (body ++ rest)) ≡ true
has_body-entry len body rest four told low high =
    let same : told_length (len ++ (body ++ rest)) ≡ length body = told_length-append len (body ++ rest) four ∙ told in
    let whole : length (len ++ (body ++ rest)) ≡ 4 + (length body + length rest) = omega (arith, length-append len (body ++ rest), length-append body rest) in
    rw (same, whole) (and_from _ _ (and_from _ _ (le-leb _ _ low) (le-leb _ _ high)) (le-leb _ _ (omega arith)))

first_body-entry : (len body rest : List ℕ) → length len ≡ 4 → told_length len ≡ length body → first_body (len ++ (body ++ rest)) ≡ body
first_body-entry len body rest four told =
    let same : told_length (len ++ (body ++ rest)) ≡ length body = told_length-append len (body ++ rest) four ∙ told in
    rw (same, drop_at len (body ++ rest) 4 four) (take_at body rest (length body) refl)

-- a whole entry stands behind an open gate
pub gates-entry : (at : ℕ) (len body rest : List ℕ) → length len ≡ 4 → told_length len ≡ length body → 1 ≤ length body → length body ≤ 262144
    → gates 0 at (1 ∷ (len ++ (body ++ rest))) ≡ with_first body (gates 0 (at + 5 + length body) rest)
unfolding gates
gates-entry at len body rest four told low high =
    let same : told_length (len ++ (body ++ rest)) ≡ length body = told_length-append len (body ++ rest) four ∙ told in
    let on : gates (4 + told_length (len ++ (body ++ rest))) (at + 1) (len ++ (body ++ rest)) ≡ gates 0 (at + 5 + length body) rest =
    ap (λ (n : ℕ). gates (4 + n) (at + 1) (len ++ (body ++ rest))) same
    ∙ ap (gates (4 + length body) (at + 1)) (sym (append_assoc len body rest))
    ∙ gates-still (4 + length body) (at + 1) (len ++ body) rest (omega (arith, length-append len body))
    ∙ (let place : at + 1 + (4 + length body) ≡ at + 5 + length body = omega arith in ap (λ (k : ℕ). gates 0 k rest) place) in
    cond-true _ _ _ (has_body-entry len body rest four told low high)
    ∙ ap (λ (l : List ℕ). with_first l (gates (4 + told_length (len ++ (body ++ rest))) (at + 1) (len ++ (body ++ rest)))) (first_body-entry len body rest four told)
    ∙ ap (with_first body) on

-- no entry stands behind it
pub gates-none : (at : ℕ) (bytes : List ℕ) → has_body bytes ≡ false → gates 0 at (1 ∷ bytes) ≡ Err (at + 1)
unfolding gates
gates-none at bytes none = cond-false _ _ _ none

pub gates-closed : (at gate : ℕ) (bytes : List ℕ) → gate ≢ 1 → gates 0 at (gate ∷ bytes) ≡ Ok []
unfolding gates
gates-closed at gate bytes shut = cond-false _ _ _ (ne_eqb gate 1 shut)

pub front_header : IsFront header []
unfolding list_of after_header
front_header = record { goes_on = λ rest. sym (after_none (gates 0 8 rest)) }

-- a whole entry goes to a front
pub front_entry : (front len body : List ℕ) (bodies : List (List ℕ)) → IsFront front bodies → length len ≡ 4 → told_length len ≡ length body → 1 ≤ length body → length body ≤ 262144
    → IsFront (front ++ 1 ∷ (len ++ body)) (bodies ++ body ∷ [])
front_entry front len body bodies is four told low high = record {
  goes_on = λ rest.
      let joined : (front ++ 1 ∷ (len ++ body)) ++ rest ≡ front ++ 1 ∷ (len ++ (body ++ rest)) =
      append_assoc front (1 ∷ (len ++ body)) rest ∙ ap (λ (l : List ℕ). front ++ 1 ∷ l) (append_assoc len body rest) in
      let place : length front + 5 + length body ≡ length (front ++ 1 ∷ (len ++ body)) = omega (arith, length-append front (1 ∷ (len ++ body)), length-append len body) in
      ap list_of joined
      ∙ is.goes_on (1 ∷ (len ++ (body ++ rest)))
      ∙ ap (after_bodies bodies) (gates-entry (length front) len body rest four told low high)
      ∙ after_one bodies body (gates 0 (length front + 5 + length body) rest)
      ∙ ap (λ (k : ℕ). after_bodies (bodies ++ body ∷ []) (gates 0 k rest)) place;
}

-- a closed gate ends the list, whatever stands behind it
pub list_of-closed : (front : List ℕ) (gate : ℕ) (rest : List ℕ) (bodies : List (List ℕ)) → IsFront front bodies → gate ≢ 1 → list_of (front ++ gate ∷ rest) ≡ Ok bodies
list_of-closed front gate rest bodies is shut = is.goes_on (gate ∷ rest) ∙ ap (after_bodies bodies) (gates-closed (length front) gate rest shut) ∙ ap (λ (l : List (List ℕ)). Ok l) (append-nil bodies)

-- no gate stands where the bytes end
pub list_of-ended : (front : List ℕ) (bodies : List (List ℕ)) → IsFront front bodies → list_of front ≡ Err (length front)
unfolding gates
list_of-ended front bodies is = ap list_of (sym (append-nil front)) ∙ is.goes_on []

-- no whole entry stands behind an open gate
pub list_of-none : (front rest : List ℕ) (bodies : List (List ℕ)) → IsFront front bodies → has_body rest ≡ false → list_of (front ++ 1 ∷ rest) ≡ Err (length front + 1)
list_of-none front rest bodies is none = is.goes_on (1 ∷ rest) ∙ ap (after_bodies bodies) (gates-none (length front) rest none)

-- what a body in front says of the length
pub record HasBody (bytes : List ℕ) : Type 0 where
  pub low : 1 ≤ told_length bytes
  pub high : told_length bytes ≤ 262144
  pub whole : 4 + told_length bytes ≤ length bytes

pub has_body-parts : (bytes : List ℕ) → has_body bytes ≡ true → HasBody bytes
has_body-parts bytes h =
    let outer : ((nat_le 1 (told_length bytes) && nat_le (told_length bytes) 262144) ≡ true) × (nat_le (4 + told_length bytes) (length bytes) ≡ true) = and_parts _ _ h in
    let inner : (nat_le 1 (told_length bytes) ≡ true) × (nat_le (told_length bytes) 262144 ≡ true) = and_parts _ _ outer.0 in
    record { low = leb-true _ _ inner.0; high = leb-true _ _ inner.1; whole = leb-true _ _ outer.1 }

pub has_body-true : (bytes : List ℕ) → 1 ≤ told_length bytes → told_length bytes ≤ 262144 → 4 + told_length bytes ≤ length bytes → has_body bytes ≡ true
has_body-true bytes low high whole = and_from _ _ (and_from _ _ (le-leb _ _ low) (le-leb _ _ high)) (le-leb _ _ whole)
