-- The law of a stream: frames_of gives the longest list of frames whose bytes are a front of it, and no other list is that.
use Rattle.std.proofs.Common.{◌≡◌, ℕ, zero, suc, ◌+◌, ◌<◌, ◌≤◌, List, [], ◌∷◌, ◌++◌, length, drop, Option, None, refl, sym, ap, subst, ◌∙◌, arith, append_assoc, length-append, add-zero, zero-add}
use Rattle.std.specs.Prelude.{All}
use Rattle.std.proofs.lemmas.List.{append-nil, drop_at}
use Rattle.cd_types.specs.CompoundLaw.{IsBytes-after}
use Rattle.cd_types.specs.Format.{IsBytes}
use Rattle.cd_types.specs.Number.{number_in}
use Rattle.cd_frames.specs.Frame.{frame_bytes, IsFrame}
use Rattle.cd_frames.specs.Message.{Message}
use Rattle.cd_frames.specs.Stream.{Front, gives, refuses, waits, front_of, joined, fault_of, led_by, frames_upto, frames_of, AreFramesOf}
use Rattle.cd_frames.proofs.StreamLaw.{frame_long, front_again, front_is}
use Rattle.cd_frames.specs.declared.frame.FrameFault.{FrameFault}

-- no frame stands at the front
abbrev pub GivesNone : Front → Type 0
GivesNone (gives m size) = ⊥
GivesNone (refuses why) = Unit {0}
GivesNone waits = Unit {0}

all_cons : (m : Message) (messages : List Message) → IsFrame m → All IsFrame messages → All IsFrame (m ∷ messages)
all_cons m messages first rest zero d below = first
all_cons m messages first rest (suc k) d below = rest k d (omega arith)

-- where no frame's bytes begin, none is given
longest_gives_none : (place : ℕ) (rest : List ℕ) → IsBytes rest → ((m : Message) (more : List ℕ) → IsFrame m → rest ≡ frame_bytes m ++ more → ⊥) → GivesNone (front_of place rest)
longest_gives_none place rest fit longest = by_front (front_of place rest) refl
  where
    by_front : (f : Front) → front_of place rest ≡ f → GivesNone f
    by_front (gives m size) is = let found = front_is place rest m size fit is in longest m (drop size rest) found.2 found.0
    by_front (refuses why) is = tt
    by_front waits is = tt

-- where none is given, no frame's bytes begin
pub none_is_longest : (place : ℕ) (rest : List ℕ) → GivesNone (front_of place rest) → (m : Message) (more : List ℕ) → IsFrame m → rest ≡ frame_bytes m ++ more → ⊥
none_is_longest place rest none m more frame is =
    subst GivesNone (ap (front_of place) is ∙ front_again place m more frame) none

-- the frames of bytes that begin with no frame
led_by_none : (f : Front) (more : ℕ → List Message × Option FrameFault) → GivesNone f → led_by f more ≡ ([], fault_of f)
led_by_none (gives m size) more none = absurd none
led_by_none (refuses why) more none = refl
led_by_none waits more none = refl

upto_none : (n place : ℕ) (rest : List ℕ) → GivesNone (front_of place rest) → frames_upto (suc n) place rest ≡ ([], fault_of (front_of place rest))
upto_none n place rest none = led_by_none (front_of place rest) (λ size. frames_upto n (place + size) (drop size rest)) none

-- a frame's bytes before others
upto_frame : (n place : ℕ) (m : Message) (bytes : List ℕ) → IsFrame m
    → frames_upto (suc n) place (frame_bytes m ++ bytes) ≡ (m ∷ (frames_upto n (place + length (frame_bytes m)) bytes).0, (frames_upto n (place + length (frame_bytes m)) bytes).1)
upto_frame n place m bytes frame =
    let front : front_of place (frame_bytes m ++ bytes) ≡ gives m (length (frame_bytes m)) = front_again place m bytes frame in
    let behind : drop (length (frame_bytes m)) (frame_bytes m ++ bytes) ≡ bytes = drop_at (frame_bytes m) bytes (length (frame_bytes m)) refl in
    ap (λ (f : Front). led_by f (λ size. frames_upto n (place + size) (drop size (frame_bytes m ++ bytes)))) front
    ∙ ap (λ (rest : List ℕ). (m ∷ (frames_upto n (place + length (frame_bytes m)) rest).0, (frames_upto n (place + length (frame_bytes m)) rest).1)) behind

-- the frames of joined frames and a rest that begins with none
upto_joined : (messages : List Message) (n place : ℕ) (rest : List ℕ) → All IsFrame messages → length messages < n
    → GivesNone (front_of (place + length (joined messages)) rest) → frames_upto n place (joined messages ++ rest) ≡ (messages, fault_of (front_of (place + length (joined messages)) rest))
upto_joined messages zero place rest each long none = absurd (omega arith)
upto_joined [] (suc n) place rest each long none =
    let same : place + length (joined []) ≡ place = add-zero place in
    upto_none n place rest (subst (λ (p : ℕ). GivesNone (front_of p rest)) same none) ∙ ap (λ (p : ℕ). ([], fault_of (front_of p rest))) (sym same)
upto_joined (m ∷ messages) (suc n) place rest each long none =
    let further : place + length (joined (m ∷ messages)) ≡ (place + length (frame_bytes m)) + length (joined messages) = omega (arith, length-append (frame_bytes m) (joined messages)) in
    let more = upto_joined messages n (place + length (frame_bytes m)) rest (λ k d below. each (suc k) d (omega arith)) (omega arith) (subst (λ (p : ℕ). GivesNone (front_of p rest)) further none) in
    ap (frames_upto (suc n) place) (append_assoc (frame_bytes m) (joined messages) rest)
    ∙ upto_frame n place m (joined messages ++ rest) (each zero m (omega arith))
    ∙ ap (λ (found : List Message × Option FrameFault). (m ∷ found.0, found.1)) more
    ∙ ap (λ (p : ℕ). (m ∷ messages, fault_of (front_of p rest))) (sym further)

upto_begins : (messages : List Message) (n place : ℕ) (rest : List ℕ) → All IsFrame messages → length messages < n
    → (more : List Message) × ((frames_upto n place (joined messages ++ rest)).0 ≡ messages ++ more)
upto_begins messages zero place rest each long = absurd (omega arith)
upto_begins [] (suc n) place rest each long = ((frames_upto (suc n) place rest).0, refl)
upto_begins (m ∷ messages) (suc n) place rest each long =
    let behind = upto_begins messages n (place + length (frame_bytes m)) rest (λ k d below. each (suc k) d (omega arith)) (omega arith) in
    let first : frames_upto (suc n) place (joined (m ∷ messages) ++ rest) ≡ (m ∷ (frames_upto n (place + length (frame_bytes m)) (joined messages ++ rest)).0, (frames_upto n (place + length (frame_bytes m)) (joined messages ++ rest)).1) =
    ap (frames_upto (suc n) place) (append_assoc (frame_bytes m) (joined messages) rest) ∙ upto_frame n place m (joined messages ++ rest) (each zero m (omega arith)) in
    (behind.0, ap (λ (found : List Message × Option FrameFault). found.0) first ∙ ap (λ (ms : List Message). m ∷ ms) behind.1)

-- there are no more frames than bytes
few : (messages : List Message) → length messages ≤ length (joined messages)
few [] = omega arith
few (m ∷ messages) = omega (arith, few messages, length-append (frame_bytes m) (joined messages), frame_long m)

-- the frames of a stream are those that frames_of gives
pub frames_are : (bytes : List ℕ) (messages : List Message) (why : Option FrameFault) → IsBytes bytes → AreFramesOf bytes messages why → frames_of bytes ≡ (messages, why)
unfolding frames_of
frames_are bytes messages why fit are =
    let rest_fit = IsBytes-after (joined messages) are.rest (subst IsBytes are.front fit) in
    let place : 0 + length (joined messages) ≡ length (joined messages) = zero-add (length (joined messages)) in
    let none = longest_gives_none (0 + length (joined messages)) are.rest rest_fit are.longest in
    let long : length messages < suc (length bytes) = omega (arith, few messages, ap length are.front, length-append (joined messages) are.rest) in
    ap (frames_upto (suc (length bytes)) 0) are.front
    ∙ upto_joined messages (suc (length bytes)) 0 are.rest are.each long none
    ∙ ap (λ (p : ℕ). (messages, fault_of (front_of p are.rest))) place
    ∙ ap (λ (next : Option FrameFault). (messages, next)) (sym are.next)

-- the frames of joined frames are they, and no fault stands behind them
pub frames_of_joined : (messages : List Message) → All IsFrame messages → frames_of (joined messages) ≡ (messages, None)
unfolding frames_of front_of number_in
frames_of_joined messages each =
    let long : length messages < suc (length (joined messages)) = omega (arith, few messages) in
    ap (frames_upto (suc (length (joined messages))) 0) (sym (append-nil (joined messages))) ∙ upto_joined messages (suc (length (joined messages))) 0 [] each long tt

-- frames that begin a stream begin its list
pub frames_begin : (messages : List Message) (rest : List ℕ) → All IsFrame messages → (more : List Message) × ((frames_of (joined messages ++ rest)).0 ≡ messages ++ more)
unfolding frames_of
frames_begin messages rest each =
    upto_begins messages (suc (length (joined messages ++ rest))) 0 rest each (omega (arith, few messages, length-append (joined messages) rest))

-- what frames_upto gives, from a place on
record Found (place : ℕ) (bytes : List ℕ) (found : List Message × Option FrameFault) : Type 0 where
  rest : List ℕ
  front : bytes ≡ joined found.0 ++ rest
  each : All IsFrame found.0
  none : GivesNone (front_of (place + length (joined found.0)) rest)
  next : found.1 ≡ fault_of (front_of (place + length (joined found.0)) rest)

found_at_end : (place : ℕ) (bytes : List ℕ) → GivesNone (front_of place bytes) → Found place bytes ([], fault_of (front_of place bytes))
found_at_end place bytes none =
    let same : place ≡ place + length (joined []) = sym (add-zero place) in
    record { rest = bytes; front = refl; each = λ k d below. absurd (omega arith); none = subst (λ (p : ℕ). GivesNone (front_of p bytes)) same none; next = ap (λ (p : ℕ). fault_of (front_of p bytes)) same }

found_behind : (place : ℕ) (bytes : List ℕ) (m : Message) (size : ℕ) (found : List Message × Option FrameFault) → (bytes ≡ frame_bytes m ++ drop size bytes) × (size ≡ length (frame_bytes m)) × IsFrame m
    → Found (place + size) (drop size bytes) found → Found place bytes (m ∷ found.0, found.1)
found_behind place bytes m size found is more =
    let further : (place + size) + length (joined found.0) ≡ place + length (joined (m ∷ found.0)) = omega (arith, is.1, length-append (frame_bytes m) (joined found.0)) in
    record {
      rest = more.rest;
      front = is.0 ∙ ap (λ (ys : List ℕ). frame_bytes m ++ ys) more.front ∙ sym (append_assoc (frame_bytes m) (joined found.0) more.rest);
      each = all_cons m found.0 is.2 more.each;
      none = subst (λ (p : ℕ). GivesNone (front_of p more.rest)) further more.none;
      next = more.next ∙ ap (λ (p : ℕ). fault_of (front_of p more.rest)) further;
    }

found_upto : (n place : ℕ) (bytes : List ℕ) → IsBytes bytes → length bytes < n → Found place bytes (frames_upto n place bytes)
found_upto zero place bytes fit long = absurd (omega arith)
found_upto (suc n) place bytes fit long = by_front (front_of place bytes) refl (λ size. found_upto n (place + size) (drop size bytes))
  where
    by_front : (f : Front) → front_of place bytes ≡ f → ((size : ℕ) → IsBytes (drop size bytes) → length (drop size bytes) < n → Found (place + size) (drop size bytes) (frames_upto n (place + size) (drop size bytes)))
        → Found place bytes (led_by f (λ size. frames_upto n (place + size) (drop size bytes)))
    by_front (gives m size) is more =
        let found = front_is place bytes m size fit is in
        let rest_fit = IsBytes-after (frame_bytes m) (drop size bytes) (subst IsBytes found.0 fit) in
        let shorter : length (drop size bytes) < n = omega (arith, long, found.1, frame_long m, ap length found.0, length-append (frame_bytes m) (drop size bytes)) in
        found_behind place bytes m size (frames_upto n (place + size) (drop size bytes)) found (more size rest_fit shorter)
    by_front (refuses why) is more = subst (λ (f : Front). Found place bytes ([], fault_of f)) is (found_at_end place bytes (subst GivesNone (sym is) tt))
    by_front waits is more = subst (λ (f : Front). Found place bytes ([], fault_of f)) is (found_at_end place bytes (subst GivesNone (sym is) tt))

-- frames_of gives the frames of a stream
pub frames_found : (bytes : List ℕ) → IsBytes bytes → AreFramesOf bytes (frames_of bytes).0 (frames_of bytes).1
unfolding frames_of
frames_found bytes fit =
    let found = found_upto (suc (length bytes)) 0 bytes fit (omega arith) in
    let given = (frames_upto (suc (length bytes)) 0 bytes).0 in
    let place : 0 + length (joined given) ≡ length (joined given) = zero-add (length (joined given)) in
    record {
      rest = found.rest;
      front = found.front;
      each = found.each;
      longest = none_is_longest (0 + length (joined given)) found.rest found.none;
      next = found.next ∙ ap (λ (p : ℕ). fault_of (front_of p found.rest)) place;
    }
