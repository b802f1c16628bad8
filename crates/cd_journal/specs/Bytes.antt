-- What a journal's bytes stand for: a header, then gates. Behind an open gate stand a length, a body of that
-- length and the next gate; a closed gate ends the list, and bytes behind it mean nothing.
use Rattle.std.specs.Prelude.{◌≡◌, ℕ, zero, suc, ◌+◌, List, [], ◌∷◌, ◌++◌, length, take, drop, Bool, ◌&&◌, ◌==◌, nat_le, if◌then◌else◌, Result, Ok, Err}
use Rattle.byteorder.specs.Endian.{big_number}

-- a list of bodies, or the first place at which the bytes aren't a journal's
abbrev pub Listing : Type 0
Listing = Result (List (List ℕ)) ℕ

-- the text CDNODE01
abbrev pub header : List ℕ
header = 67 ∷ 68 ∷ 78 ∷ 79 ∷ 68 ∷ 69 ∷ 48 ∷ 49 ∷ []

-- the length that the first four bytes tell
unfoldable pub told_length : List ℕ → ℕ
told_length bytes = big_number 4 bytes

-- a length in its range stands in front, and so many bytes behind it
abbrev pub has_body : List ℕ → Bool
has_body bytes = nat_le 1 (told_length bytes) && nat_le (told_length bytes) 262144 && nat_le (4 + told_length bytes) (length bytes)

-- the body behind the length in front
abbrev pub first_body : List ℕ → List ℕ
first_body bytes = take (told_length bytes) (drop 4 bytes)

-- a body, and then these
abbrev pub with_first : List ℕ → Listing → Listing
with_first body (Ok bodies) = Ok (body ∷ bodies)
with_first body (Err at) = Err at

-- what the gates from a place on give, where so many bytes of an entry still come before the next gate
unfoldable pub gates : ℕ → ℕ → List ℕ → Listing
gates still at [] = Err at
gates (suc still) at (byte ∷ bytes) = gates still (at + 1) bytes
gates zero at (gate ∷ bytes) =
    if gate == 1 then (if has_body bytes then with_first (first_body bytes) (gates (4 + told_length bytes) (at + 1) bytes) else Err (at + 1)) else Ok []

-- the same where this part of the header has to stand before the gates
unfoldable pub after_header : List ℕ → ℕ → List ℕ → Listing
after_header [] at bytes = gates 0 at bytes
after_header (wanted ∷ more) at [] = Err at
after_header (wanted ∷ more) at (byte ∷ bytes) = if byte == wanted then after_header more (at + 1) bytes else Err at

-- the bodies of a journal's bytes, in order, or the first place that isn't as it has to be; no bytes are no entries
unfoldable pub list_of : List ℕ → Listing
list_of [] = Ok []
list_of (byte ∷ bytes) = after_header header 0 (byte ∷ bytes)

-- these bodies, and then those
abbrev pub after_bodies : List (List ℕ) → Listing → Listing
after_bodies bodies (Ok more) = Ok (bodies ++ more)
after_bodies bodies (Err at) = Err at

-- the header and whole entries of these bodies: whatever follows, reading gives them and goes on behind
pub record IsFront (front : List ℕ) (bodies : List (List ℕ)) : Type 0 where
  pub goes_on : (rest : List ℕ) → list_of (front ++ rest) ≡ after_bodies bodies (gates 0 (length front) rest)
