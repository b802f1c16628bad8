-- An index that grows by an entry.
use Rattle.std.proofs.Common.{◌≡◌, ◌≢◌, ℕ, suc, ◌+◌, ◌-◌, ◌≤◌, ◌<◌, ◌^◌, List, [], ◌∷◌, ◌++◌, length, take, drop, get_or, true, false, Ok, Err, sym, ◌∙◌, ap, subst, arith, length-drop}
use Rattle.std.proofs.Math.Seq.{take-add}
use Rattle.std.proofs.lemmas.List.{take-append-drop, take_all, drop_more, drop-drop, length-take-le, map_push, length-take, length_push}
use Rattle.std.proofs.lemmas.List.Elements.{All-nil, All-push, All-weaker}
use Rattle.byteorder.specs.Numbers.{big_from-take}
use Rattle.cd_journal.specs.Bytes.{header, told_length, has_body, list_of, IsFront}
use Rattle.cd_journal.specs.Index.{body_in, bodies_in, IsBelow, IsIndexed, IsClosed}
use Rattle.cd_journal.specs.declared.place.Place.{Place}
use Rattle.cd_journal.proofs.Fronts.{has_body-parts, front_header, front_entry, list_of-closed, list_of-ended, list_of-none}

told_length-take : (bytes : List ℕ) → told_length (take 4 bytes) ≡ told_length bytes
unfolding told_length
told_length-take bytes = big_from-take 0 4 4 bytes (omega arith)

-- an open gate, a length and a body behind a front
pub front_step : (bytes : List ℕ) (at : ℕ) (bodies : List (List ℕ)) → IsFront (take at bytes) bodies → at < length bytes → get_or bytes at 0 ≡ 1 → has_body (drop (at + 1) bytes) ≡ true
    → (len : ℕ) → len ≡ told_length (drop (at + 1) bytes) → IsFront (take (at + 5 + len) bytes) (bodies ++ take len (drop (at + 5) bytes) ∷ [])
front_step bytes at bodies front inside gate has len is =
    let parts = has_body-parts (drop (at + 1) bytes) has in
    let rest = drop (at + 1) bytes in
    let behind : drop 4 rest ≡ drop (at + 5) bytes = drop-drop 4 (at + 1) bytes ∙ (let place : at + 1 + 4 ≡ at + 5 = omega arith in ap (λ (k : ℕ). drop k bytes) place) in
    let body = take len (drop 4 rest) in
    let long : length rest ≡ length bytes - (at + 1) = length-drop (at + 1) bytes in
    let long_behind : length (drop 4 rest) ≡ length rest - 4 = length-drop 4 rest in
    let four : length (take 4 rest) ≡ 4 = length-take-le 4 rest (omega (arith, parts.whole)) in
    let size : length body ≡ len = length-take-le len (drop 4 rest) (omega (arith, parts.whole)) in
    let first : drop at bytes ≡ 1 ∷ rest = drop_more bytes at 0 inside ∙ ap (λ (g : ℕ). g ∷ rest) gate in
    let more : take (at + 5 + len) bytes ≡ take at bytes ++ 1 ∷ (take 4 rest ++ body) =
    (let place : at + 5 + len ≡ at + suc (4 + len) = omega arith in ap (λ (k : ℕ). take k bytes) place)
    ∙ take-add at (suc (4 + len)) bytes
    ∙ ap (λ (l : List ℕ). take at bytes ++ take (suc (4 + len)) l) first
    ∙ ap (λ (l : List ℕ). take at bytes ++ 1 ∷ l) (take-add 4 len rest) in
    let whole = front_entry (take at bytes) (take 4 rest) body bodies front four (told_length-take rest ∙ sym is ∙ sym size) (omega (arith, parts.low)) (omega (arith, parts.high)) in
    subst (λ (l : List ℕ). IsFront l (bodies ++ take len (drop (at + 5) bytes) ∷ [])) (sym more)
    (subst (λ (l : List ℕ). IsFront (take at bytes ++ 1 ∷ (take 4 rest ++ body)) (bodies ++ take len l ∷ [])) behind whole)

-- the header alone is an index of no entries
pub indexed_header : (bytes : List ℕ) → take 8 bytes ≡ header → IsIndexed bytes [] 8
indexed_header bytes is = record {
  front = subst (λ (l : List ℕ). IsFront l []) (sym is) front_header;
  inside = omega (arith, ap length is, length-take 8 bytes);
}

pub indexed_more : (bytes : List ℕ) (places : List Place) (end len : ℕ) → IsIndexed bytes places end → end < length bytes → get_or bytes end 0 ≡ 1 → has_body (drop (end + 1) bytes) ≡ true → len ≡ told_length (drop (end + 1) bytes)
    → IsIndexed bytes (places ++ (record { at = end + 5; len = len }) ∷ []) (end + 5 + len)
indexed_more bytes places end len is inside gate has told =
    let place : Place = record { at = end + 5; len = len } in
    let parts = has_body-parts (drop (end + 1) bytes) has in
    record {
      front = subst (λ (l : List (List ℕ)). IsFront (take (end + 5 + len) bytes) l) (sym (map_push (body_in bytes) places place)) (front_step bytes end (bodies_in bytes places) is.front inside gate has len told);
      inside = omega (arith, parts.whole, length-drop (end + 1) bytes);
    }

pub below_none : (end : ℕ) → end < 2 ^ 32 → IsBelow [] end
below_none end small = record { ends = All-nil _; fewer = omega arith; small = small }

pub below_more : (places : List Place) (end len : ℕ) → IsBelow places end → end + 5 + len < 2 ^ 32 → IsBelow (places ++ (record { at = end + 5; len = len }) ∷ []) (end + 5 + len)
below_more places end len is small = record {
  ends = All-push (λ (place : Place). place.at + place.len ≤ end + 5 + len) places (record { at = end + 5; len = len })
      (All-weaker (λ (place : Place). place.at + place.len ≤ end) (λ (place : Place). place.at + place.len ≤ end + 5 + len) (λ place low. omega arith) places is.ends)
      (omega arith);
  fewer = omega (arith, is.fewer, length_push places (record { at = end + 5; len = len }));
  small = small;
}

pub split_at : (bytes : List ℕ) (end : ℕ) → end < length bytes → bytes ≡ take end bytes ++ get_or bytes end 0 ∷ drop (end + 1) bytes
split_at bytes end inside = sym (take-append-drop end bytes) ∙ ap (λ (l : List ℕ). take end bytes ++ l) (drop_more bytes end 0 inside)

-- the bytes end where a gate has to stand
pub indexed_ended : (bytes : List ℕ) (places : List Place) (end : ℕ) → IsIndexed bytes places end → length bytes ≤ end → list_of bytes ≡ Err end
indexed_ended bytes places end is ended =
    let whole : take end bytes ≡ bytes = take_all end bytes ended in
    ap list_of (sym whole) ∙ list_of-ended (take end bytes) (bodies_in bytes places) is.front
    ∙ (let place : length (take end bytes) ≡ end = length-take-le end bytes is.inside in ap (λ (k : ℕ). Err k) place)

-- no whole entry stands behind an open gate
pub indexed_none : (bytes : List ℕ) (places : List Place) (end : ℕ) → IsIndexed bytes places end → end < length bytes → get_or bytes end 0 ≡ 1 → has_body (drop (end + 1) bytes) ≡ false → list_of bytes ≡ Err (end + 1)
indexed_none bytes places end is inside gate none =
    ap list_of (split_at bytes end inside ∙ ap (λ (g : ℕ). take end bytes ++ g ∷ drop (end + 1) bytes) gate)
    ∙ list_of-none (take end bytes) (drop (end + 1) bytes) (bodies_in bytes places) is.front none
    ∙ (let place : length (take end bytes) ≡ end = length-take-le end bytes is.inside in ap (λ (k : ℕ). Err (k + 1)) place)

pub indexed_closed : (bytes : List ℕ) (places : List Place) (end : ℕ) → IsIndexed bytes places end → end < length bytes → get_or bytes end 0 ≢ 1 → IsClosed bytes places end
indexed_closed bytes places end is inside shut = record { front = is.front; inside = inside; closed = shut }

-- a closed gate ends the list
pub closed_list : (bytes : List ℕ) (places : List Place) (end : ℕ) → IsClosed bytes places end → list_of bytes ≡ Ok (bodies_in bytes places)
closed_list bytes places end is =
    ap list_of (split_at bytes end is.inside) ∙ list_of-closed (take end bytes) (get_or bytes end 0) (drop (end + 1) bytes) (bodies_in bytes places) is.front is.closed
