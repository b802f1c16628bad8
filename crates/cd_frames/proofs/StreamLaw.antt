-- The laws of a stream of frames.
use Rattle.std.proofs.Common.{◌≡◌, ℕ, ◌+◌, ◌<◌, ◌≤◌, min, Bool, true, false, cond, ltb, List, [], ◌∷◌, ◌++◌, length, take, drop, Option, Some, None, refl, sym, ap, subst, ◌∙◌, inl, inr, arith, append_assoc, length-append, length-drop, length-take, add-zero, take-append-drop}
use Rattle.std.proofs.Math.Nat.{min-eq_left, min-eq_right}
use Rattle.std.proofs.lemmas.Bool.{cases_lt, ltb-true, ltb-false, le-ltb}
use Rattle.std.proofs.lemmas.List.{append-nil, drop-drop, take_at}
use Rattle.byteorder.specs.Endian.{big_number}
use Rattle.cd_types.specs.CompoundLaw.{IsBytes-after}
use Rattle.cd_types.specs.Format.{IsBytes}
use Rattle.cd_types.specs.Number.{number_bytes, number_in}
use Rattle.cd_types.specs.NumberLaw.{IsBytes-take, number_has_length, number_law}
use Rattle.cd_frames.specs.Frame.{body_bytes, frame_bytes, message_in, IsFrame}
use Rattle.cd_frames.proofs.FrameLaw.{message_again, message_only}
use Rattle.cd_frames.specs.Message.{Message}
use Rattle.cd_frames.specs.Stream.{Front, gives, refuses, waits, judged, behind_length, front_of, told}
use Rattle.cd_frames.specs.declared.frame.FrameFault.TheVariants as fault

-- what is behind a number of n bytes is n bytes shorter
pub number_front : (n : ℕ) (bytes : List ℕ) (x : ℕ) (rest : List ℕ) → number_in n bytes ≡ Some (x, rest) → length bytes ≡ n + length rest
unfolding number_in
number_front n bytes x rest e = by_test (ltb (length bytes) n) refl e
  where
    same : (a b : ℕ × List ℕ) → Some a ≡ Some b → a.1 ≡ b.1
    same a b e = let whole : a ≡ b = cc in ap (λ (p : ℕ × List ℕ). p.1) whole

    by_test : (b : Bool) → ltb (length bytes) n ≡ b → cond {A = Option (ℕ × List ℕ)} b None (Some (big_number n bytes, drop n bytes)) ≡ Some (x, rest) → length bytes ≡ n + length rest
    by_test true test e = absurd cc
    by_test false test e =
        let after : drop n bytes ≡ rest = same (big_number n bytes, drop n bytes) (x, rest) e in
        omega (arith, ltb-false (length bytes) n test, length-drop n bytes, ap length after)

-- and is what comes after n bytes
pub number_after : (n : ℕ) (bytes : List ℕ) (x : ℕ) (rest : List ℕ) → number_in n bytes ≡ Some (x, rest) → drop n bytes ≡ rest
unfolding number_in
number_after n bytes x rest e = by_test (ltb (length bytes) n) e
  where
    by_test : (b : Bool) → cond {A = Option (ℕ × List ℕ)} b None (Some (big_number n bytes, drop n bytes)) ≡ Some (x, rest) → drop n bytes ≡ rest
    by_test true e = absurd cc
    by_test false e =
        let whole : (big_number n bytes, drop n bytes) ≡ (x, rest) = cc in
        ap (λ (p : ℕ × List ℕ). p.1) whole

-- bytes without a number of n bytes are fewer
pub no_number : (n : ℕ) (bytes : List ℕ) → number_in n bytes ≡ None → length bytes < n
unfolding number_in
no_number n bytes e = by_test (ltb (length bytes) n) refl e
  where
    by_test : (b : Bool) → ltb (length bytes) n ≡ b → cond {A = Option (ℕ × List ℕ)} b None (Some (big_number n bytes, drop n bytes)) ≡ None → length bytes < n
    by_test true test e = ltb-true (length bytes) n test
    by_test false test e = absurd cc

-- enough bytes begin with a number of n bytes
pub number_there : (n : ℕ) (bytes : List ℕ) → n ≤ length bytes → number_in n bytes ≡ Some (big_number n bytes, drop n bytes)
unfolding number_in
number_there n bytes long =
    let test : ltb (length bytes) n ≡ false = le-ltb (length bytes) n long in
    rw test refl

-- less than a whole frame is shorter than the greatest
pub waits_short : (place : ℕ) (bytes : List ℕ) → front_of place bytes ≡ waits → length bytes < 131076
unfolding front_of
waits_short place bytes e = by_number (number_in 4 bytes) refl e
  where
    never : (size : ℕ) (found : Option Message) → judged place size found ≡ waits → ⊥
    never size None e = cc
    never size (Some m) e = cc

    by_length : (len : ℕ) (rest : List ℕ) (b : Bool) → length bytes ≡ 4 + length rest → len ≤ 131072 → ltb (length rest) len ≡ b
        → cond b waits (judged place (4 + len) (message_in (take len rest))) ≡ waits → length bytes < 131076
    by_length len rest true long short test e = omega (arith, ltb-true (length rest) len test)
    by_length len rest false long short test e = absurd (never (4 + len) (message_in (take len rest)) e)

    by_limit : (len : ℕ) (rest : List ℕ) (b : Bool) → length bytes ≡ 4 + length rest → ltb 131072 len ≡ b
        → cond b (refuses (fault.TooLong len)) (cond (ltb (length rest) len) waits (judged place (4 + len) (message_in (take len rest)))) ≡ waits → length bytes < 131076
    by_limit len rest true long test e = absurd cc
    by_limit len rest false long test e = by_length len rest (ltb (length rest) len) long (ltb-false 131072 len test) refl e

    by_number : (found : Option (ℕ × List ℕ)) → number_in 4 bytes ≡ found → behind_length place found ≡ waits → length bytes < 131076
    by_number None is e = omega (arith, no_number 4 bytes is)
    by_number (Some found) is e = by_limit found.0 found.1 (ltb 131072 found.0) (number_front 4 bytes found.0 found.1 is) refl e

-- what a frame at the front is
pub record IsGiven (bytes : List ℕ) (m : Message) (size : ℕ) : Type 0 where
  pub len : ℕ
  pub rest : List ℕ
  pub number : number_in 4 bytes ≡ Some (len, rest)
  pub short : len ≤ 131072
  pub whole : len ≤ length rest
  pub «is» : message_in (take len rest) ≡ Some m
  pub size_is : size ≡ 4 + len

-- the same front has the same frame
gives_same : (m n : Message) (a b : ℕ) → gives m a ≡ gives n b → (m ≡ n) × (a ≡ b)
gives_same m n a b e = (ap said e, ap counted e)
  where
    said : Front → Message
    said (gives x size) = x
    said (refuses why) = m
    said waits = m

    counted : Front → ℕ
    counted (gives x size) = size
    counted (refuses why) = 0
    counted waits = 0

pub gives_only : (place : ℕ) (bytes : List ℕ) (m : Message) (size : ℕ) → front_of place bytes ≡ gives m size → IsGiven bytes m size
unfolding front_of
gives_only place bytes m size e = by_number (number_in 4 bytes) refl e
  where
    by_message : (len : ℕ) (rest : List ℕ) (found : Option Message) → number_in 4 bytes ≡ Some (len, rest) → len ≤ 131072 → len ≤ length rest → message_in (take len rest) ≡ found
        → judged place (4 + len) found ≡ gives m size → IsGiven bytes m size
    by_message len rest None number short whole is e = absurd cc
    by_message len rest (Some m') number short whole is e =
        let both = gives_same m' m (4 + len) size e in
        record { len = len; rest = rest; number = number; short = short; whole = whole; «is» = is ∙ ap Some both.0; size_is = sym both.1 }

    by_length : (len : ℕ) (rest : List ℕ) (b : Bool) → number_in 4 bytes ≡ Some (len, rest) → len ≤ 131072 → ltb (length rest) len ≡ b
        → cond b waits (judged place (4 + len) (message_in (take len rest))) ≡ gives m size → IsGiven bytes m size
    by_length len rest true number short test e = absurd cc
    by_length len rest false number short test e = by_message len rest (message_in (take len rest)) number short (ltb-false (length rest) len test) refl e

    by_limit : (len : ℕ) (rest : List ℕ) (b : Bool) → number_in 4 bytes ≡ Some (len, rest) → ltb 131072 len ≡ b
        → cond b (refuses (fault.TooLong len)) (cond (ltb (length rest) len) waits (judged place (4 + len) (message_in (take len rest)))) ≡ gives m size → IsGiven bytes m size
    by_limit len rest true number test e = absurd cc
    by_limit len rest false number test e = by_length len rest (ltb (length rest) len) number (ltb-false 131072 len test) refl e

    by_number : (found : Option (ℕ × List ℕ)) → number_in 4 bytes ≡ found → behind_length place found ≡ gives m size → IsGiven bytes m size
    by_number None is e = absurd cc
    by_number (Some found) is e = by_limit found.0 found.1 (ltb 131072 found.0) is refl e

-- the bytes of a frame: at least the four of its length
pub frame_long : (m : Message) → length (frame_bytes m) ≡ 4 + length (body_bytes m)
unfolding frame_bytes
frame_long m = omega (arith, length-append (number_bytes 4 (length (body_bytes m))) (body_bytes m), number_has_length 4 (length (body_bytes m)))

-- a frame's bytes at the front give that frame, whatever follows
pub front_again : (place : ℕ) (m : Message) (more : List ℕ) → IsFrame m → front_of place (frame_bytes m ++ more) ≡ gives m (length (frame_bytes m))
unfolding front_of frame_bytes
front_again place m more frame =
    let body = body_bytes m in
    let len = length body in
    let joined : (number_bytes 4 len ++ body) ++ more ≡ number_bytes 4 len ++ (body ++ more) = append_assoc (number_bytes 4 len) body more in
    let number : number_in 4 (number_bytes 4 len ++ (body ++ more)) ≡ Some (len, body ++ more) = (number_law 4).again len (body ++ more) (omega (arith, frame.short)) in
    let short : ltb 131072 len ≡ false = le-ltb 131072 len frame.short in
    let whole : ltb (length (body ++ more)) len ≡ false = le-ltb (length (body ++ more)) len (omega (arith, length-append body more)) in
    let front : take len (body ++ more) ≡ body = take_at body more len refl in
    let found : message_in body ≡ Some m = message_again m frame.fields in
    ap (front_of place) joined ∙ rw (number, short, whole, front, found) (ap (gives m) (sym (frame_long m)))

-- a frame that is given has its bytes there, and no others
pub front_is : (place : ℕ) (bytes : List ℕ) (m : Message) (size : ℕ) → IsBytes bytes → front_of place bytes ≡ gives m size
    → (bytes ≡ frame_bytes m ++ drop size bytes) × (size ≡ length (frame_bytes m)) × IsFrame m
unfolding frame_bytes
front_is place bytes m size fit e =
    let given = gives_only place bytes m size e in
    let number = (number_law 4).only bytes given.len given.rest fit given.number in
    let rest_fit = IsBytes-after (number_bytes 4 given.len) given.rest (subst IsBytes number.0 fit) in
    let message = message_only (take given.len given.rest) m (IsBytes-take given.len given.rest rest_fit) given.«is» in
    let len_is : given.len ≡ length (body_bytes m) = omega (arith, length-take given.len given.rest, given.whole, ap length message.0) in
    let behind : drop size bytes ≡ drop given.len given.rest =
    ap (λ n. drop n bytes) given.size_is ∙ sym (drop-drop given.len 4 bytes) ∙ ap (drop given.len) (number_after 4 bytes given.len given.rest given.number) in
    let parts : given.rest ≡ body_bytes m ++ drop size bytes = sym (take-append-drop given.len given.rest) ∙ (λ i. message.0 i ++ sym behind i) in
    let whole : bytes ≡ number_bytes 4 (length (body_bytes m)) ++ (body_bytes m ++ drop size bytes) = number.0 ∙ (λ i. number_bytes 4 (len_is i) ++ parts i) in (
      whole ∙ sym (append_assoc (number_bytes 4 (length (body_bytes m))) (body_bytes m) (drop size bytes)),
      given.size_is ∙ ap (λ n. 4 + n) len_is ∙ sym (frame_long m),
      record { fields = message.1; short = omega (arith, len_is, given.short) },
    )

-- no frame's bytes begin another frame's bytes
pub no_frame_begins_another : (m n : Message) (more : List ℕ) → IsFrame m → IsFrame n → frame_bytes n ≡ frame_bytes m ++ more → (m ≡ n) × (more ≡ [])
no_frame_begins_another m n more m_is n_is e =
    let one = front_again 0 n [] n_is in
    let other = front_again 0 m more m_is in
    let same : gives m (length (frame_bytes m)) ≡ gives n (length (frame_bytes n)) = sym other ∙ ap (front_of 0) (sym e ∙ sym (append-nil (frame_bytes n))) ∙ one in
    let both = gives_same m n (length (frame_bytes m)) (length (frame_bytes n)) same in
    (both.0, empty_is more (omega (arith, both.1, ap length e, length-append (frame_bytes m) more)))
  where
    empty_is : (xs : List ℕ) → length xs ≡ 0 → xs ≡ []
    empty_is [] long = refl
    empty_is (x ∷ xs) long = absurd (omega arith)

-- a place is told as one that was told already
pub told_told : (a n : ℕ) → told (told a + n) ≡ told (a + n)
unfolding told
told_told a n = elim (cases_lt a 18446744073709551615) [
  | inl below ↦ ap (λ (k : ℕ). min (k + n) 18446744073709551615) (min-eq_left (let le : a ≤ 18446744073709551615 = omega arith in le))
  | inr above ↦ (
      let first : min a 18446744073709551615 ≡ 18446744073709551615 = min-eq_right (let le : 18446744073709551615 ≤ a = omega arith in le) in
      let left : min (18446744073709551615 + n) 18446744073709551615 ≡ 18446744073709551615 = min-eq_right (let le : 18446744073709551615 ≤ 18446744073709551615 + n = omega arith in le) in
      let right : min (a + n) 18446744073709551615 ≡ 18446744073709551615 = min-eq_right (let le : 18446744073709551615 ≤ a + n = omega arith in le) in
      ap (λ (k : ℕ). min (k + n) 18446744073709551615) first ∙ left ∙ sym right)
]

-- what stands at the front doesn't depend on how often the place was told
pub front_told : (place : ℕ) (bytes : List ℕ) → front_of (told place) bytes ≡ front_of place bytes
unfolding front_of
front_told place bytes = by_number (number_in 4 bytes)
  where
    once : told (told place) ≡ told place
    once = ap told (sym (add-zero (told place))) ∙ told_told place 0 ∙ ap told (add-zero place)

    by_message : (size : ℕ) (found : Option Message) → judged (told place) size found ≡ judged place size found
    by_message size None = ap (λ (p : ℕ). refuses (fault.Bad p)) once
    by_message size (Some m) = refl

    by_number : (found : Option (ℕ × List ℕ)) → behind_length (told place) found ≡ behind_length place found
    by_number None = refl
    by_number (Some found) =
        ap (λ (f : Front). cond (ltb 131072 found.0) (refuses (fault.TooLong found.0)) (cond (ltb (length found.1) found.0) waits f)) (by_message (4 + found.0) (message_in (take found.0 found.1)))
