-- What comes to its end in bytes, and then in more.
use Rattle.std.proofs.Common.{◌≡◌, ℕ, zero, suc, ◌+◌, ◌-◌, ◌≤◌, ◌<◌, Bool, true, false, cond, ◌||◌, leb, List, [], ◌∷◌, ◌++◌, length, take, refl, sym, ap, subst, ◌∙◌, arith, append_assoc, length-append}
use Rattle.std.specs.List.{list_any}
use Rattle.std.proofs.lemmas.Bool.{le-leb, leb-true}
use Rattle.std.proofs.lemmas.List.{append-nil, take_all, take_at}
use Rattle.std.proofs.lemmas.List.Folds.{list_any-append}
use Rattle.cd_input.specs.Input.{Scan, Event, scan_after, events, scanned, begin, end_events, limit_events, all_events, upto_first}

pub events_then : (scan : Scan) (one two : List ℕ) → events scan (one ++ two) ≡ events scan one ++ events (scanned scan one) two
events_then scan [] two = refl
events_then scan (b ∷ one) two =
    ap (λ (more : List Event). (scan_after scan b).1 ++ more) (events_then (scan_after scan b).0 one two)
    ∙ sym (append_assoc (scan_after scan b).1 (events (scan_after scan b).0 one) (events (scanned (scan_after scan b).0 one) two))

pub scanned_then : (scan : Scan) (one two : List ℕ) → scanned scan (one ++ two) ≡ scanned (scanned scan one) two
scanned_then scan [] two = refl
scanned_then scan (b ∷ one) two = scanned_then (scan_after scan b).0 one two

-- one byte more
pub events_next : (scan : Scan) (bytes : List ℕ) (b : ℕ) → events scan (bytes ++ b ∷ []) ≡ events scan bytes ++ (scan_after (scanned scan bytes) b).1
events_next scan bytes b = events_then scan bytes (b ∷ []) ∙ ap (λ (more : List Event). events scan bytes ++ more) (append-nil (scan_after (scanned scan bytes) b).1)

pub scanned_next : (scan : Scan) (bytes : List ℕ) (b : ℕ) → scanned scan (bytes ++ b ∷ []) ≡ (scan_after (scanned scan bytes) b).0
scanned_next scan bytes b = scanned_then scan bytes (b ∷ [])

-- none of these passes the test
pub record PassNone (test : Event → Bool) (events : List Event) : Type 0 where
  pub none : list_any test events ≡ false

either_false : (a b : Bool) → (a || b) ≡ false → (a ≡ false) × (b ≡ false)
either_false true b h = absurd cc
either_false false b h = (refl, h)

pub none_then : (test : Event → Bool) (one two : List Event) → PassNone test one → PassNone test two → PassNone test (one ++ two)
none_then test one two a b = record { none = list_any-append test one two ∙ ap (λ (x : Bool). x || list_any test two) a.none ∙ b.none }

-- so all of them come first
pub upto_then : (test : Event → Bool) (one two : List Event) → PassNone test one → upto_first test (one ++ two) ≡ one ++ upto_first test two
upto_then test [] two none = refl
upto_then test (e ∷ one) two none =
    let parts = either_false (test e) (list_any test one) none.none in
    let rest : upto_first test (one ++ two) ≡ one ++ upto_first test two = upto_then test one two (record { none = parts.1 }) in
    let first : test e ≡ false = parts.0 in
    rw (first, rest) refl

pub upto_none : (test : Event → Bool) (one : List Event) → PassNone test one → upto_first test one ≡ one
upto_none test one none = ap (upto_first test) (sym (append-nil one)) ∙ upto_then test one [] none ∙ append-nil one

-- the first one comes in any case
pub upto_one : (test : Event → Bool) (e : Event) (more : List Event) → (rest : List Event) × (upto_first test (e ∷ more) ≡ e ∷ rest)
upto_one test e more = by_test (test e)
  where
    by_test : (t : Bool) → (rest : List Event) × (cond t (e ∷ []) (e ∷ upto_first test more) ≡ e ∷ rest)
    by_test true = ([], refl)
    by_test false = (upto_first test more, refl)

-- the first of two lists is taken whole
take_over : (most : ℕ) (one two : List ℕ) → length one ≤ most → take most (one ++ two) ≡ one ++ take (most - length one) two
take_over most [] two fits = let same : most - 0 ≡ most = omega arith in ap (λ (n : ℕ). take n two) (sym same)
take_over zero (b ∷ one) two fits = absurd (omega arith)
take_over (suc most) (b ∷ one) two fits =
    let less : length one ≤ most = omega arith in
    let left : most - length one ≡ suc most - length (b ∷ one) = omega arith in
    ap (λ (l : List ℕ). b ∷ l) (take_over most one two less) ∙ ap (λ (n : ℕ). b ∷ (one ++ take n two)) left

-- The events of an input begin with those of the bytes that were read, as many as may be.
pub all_begin : (most : ℕ) (read rest : List ℕ) → length read ≤ most → (tail : List Event) × (all_events most (read ++ rest) ≡ events begin read ++ tail)
all_begin most read rest fits =
    let first : take most (read ++ rest) ≡ read ++ take (most - length read) rest = take_over most read rest fits in
    let more = take (most - length read) rest in
    let last = cond (leb (length (read ++ rest)) most) (end_events (scanned begin (take most (read ++ rest)))) (limit_events (scanned begin (take most (read ++ rest)))) in (
      events (scanned begin read) more ++ last,
      ap (λ (bytes : List ℕ). events begin bytes ++ last) first ∙ ap (λ (es : List Event). es ++ last) (events_then begin read more) ∙ append_assoc (events begin read) (events (scanned begin read) more) last,
    )

-- the input came to its end
pub all_ended : (most : ℕ) (read : List ℕ) → length read ≤ most → all_events most read ≡ events begin read ++ end_events (scanned begin read)
all_ended most read fits =
    let whole : take most read ≡ read = take_all most read fits in
    let small : leb (length read) most ≡ true = le-leb (length read) most fits in
    rw (whole, small) refl

not_true : (t : Bool) → (t ≡ true → ⊥) → t ≡ false
not_true true never = absurd (never refl)
not_true false never = refl

over : (a b : ℕ) → b < a → leb a b ≡ false
over a b less = not_true (leb a b) (λ h. let le : a ≤ b = leb-true a b h in omega arith)

-- the input goes on behind the bytes that are read at most
pub all_cut : (most : ℕ) (read rest : List ℕ) → length read ≡ most → 0 < length rest → all_events most (read ++ rest) ≡ events begin read ++ limit_events (scanned begin read)
all_cut most read rest full more =
    let first : take most (read ++ rest) ≡ read = take_at read rest most full in
    let long : leb (length (read ++ rest)) most ≡ false = over (length (read ++ rest)) most (omega (arith, length-append read rest)) in
    rw (first, long) refl
