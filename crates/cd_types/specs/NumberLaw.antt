-- A number of a fixed width is a field: its bytes are read back, and no other bytes are read so.
use Rattle.std.proofs.Common.{◌≡◌, ℕ, zero, suc, ◌+◌, ◌*◌, ◌/◌, ◌^◌, ◌<◌, ◌≤◌, Bool, true, false, cond, ltb, List, [], ◌∷◌, ◌++◌, length, take, drop, Some, None, refl, sym, ap, ◌∙◌, inl, inr, arith, length-append, length-take, take-append-drop}
use Rattle.std.proofs.lemmas.Bool.{cases_lt, ltb-false, le-ltb}
use Rattle.std.proofs.Math.Nat.{mod-lt}
use Rattle.std.specs.Int.{byte_at}
use Rattle.std.proofs.lemmas.List.{append-nil, drop_at, get_or-take, get_or_past}
use Rattle.std.proofs.lemmas.Nat.{div-mul-add}
use Rattle.byteorder.specs.Endian.{big_bytes, big_number}
use Rattle.byteorder.specs.Numbers.{big_from-cons, big_from-lt, big_from-take, big_number-reads_back, length-bytes_high_first}
use Rattle.cd_types.specs.Format.{IsBytes, IsFormat}
use Rattle.cd_types.specs.Number.{IsNumber, number_bytes, number_in}

IsBytes-rest : (b : ℕ) (bytes : List ℕ) → IsBytes (b ∷ bytes) → IsBytes bytes
IsBytes-rest b bytes h i = h (suc i)

pub IsBytes-take : (n : ℕ) (bytes : List ℕ) → IsBytes bytes → IsBytes (take n bytes)
IsBytes-take n bytes h i = elim (cases_lt i n) [
  | inl lt ↦ rw (get_or-take n bytes i 0 lt) (h i)
  | inr le ↦ rw (get_or_past (take n bytes) i 0 (omega (arith, length-take n bytes))) (omega arith)
]

-- the highest digit, and the rest
digits : (m x y r s : ℕ) → r < m → s < m → x * m + r ≡ y * m + s → (x ≡ y) × (r ≡ s)
digits m x y r s r_fits s_fits e =
    let high : x ≡ y = sym (div-mul-add x m r r_fits) ∙ ap (λ (n : ℕ). n / m) e ∙ div-mul-add y m s s_fits in
    let product : x * m ≡ y * m = ap (λ (n : ℕ). n * m) high in
    (high, omega arith)

-- bytes of one length that stand for one number are the same
one_spelling : (n : ℕ) (xs ys : List ℕ) → length xs ≡ n → length ys ≡ n → IsBytes xs → IsBytes ys → big_number n xs ≡ big_number n ys → xs ≡ ys
one_spelling zero [] [] xs_long ys_long xs_fit ys_fit e = refl
one_spelling zero (x ∷ xs) ys xs_long ys_long xs_fit ys_fit e = absurd (omega arith)
one_spelling zero [] (y ∷ ys) xs_long ys_long xs_fit ys_fit e = absurd (omega arith)
one_spelling (suc n) [] ys xs_long ys_long xs_fit ys_fit e = absurd (omega arith)
one_spelling (suc n) (x ∷ xs) [] xs_long ys_long xs_fit ys_fit e = absurd (omega arith)
one_spelling (suc n) (x ∷ xs) (y ∷ ys) xs_long ys_long xs_fit ys_fit e =
    let xs_rest = IsBytes-rest x xs xs_fit in
    let ys_rest = IsBytes-rest y ys ys_fit in
    let moved : x * 256 ^ n + big_number n xs ≡ y * 256 ^ n + big_number n ys =
    ap (λ (r : ℕ). x * 256 ^ n + r) (sym (big_from-cons 0 n x xs)) ∙ e ∙ ap (λ (r : ℕ). y * 256 ^ n + r) (big_from-cons 0 n y ys) in
    let parts = digits (256 ^ n) x y (big_number n xs) (big_number n ys) (big_from-lt 0 n xs xs_rest) (big_from-lt 0 n ys ys_rest) moved in
    let rest = one_spelling n xs ys (omega arith) (omega arith) xs_rest ys_rest parts.1 in
    λ i. parts.0 i ∷ rest i

pub IsBytes-cons : (b : ℕ) (bytes : List ℕ) → b < 256 → IsBytes bytes → IsBytes (b ∷ bytes)
IsBytes-cons b bytes first rest zero = first
IsBytes-cons b bytes first rest (suc i) = rest i

a_byte : (k x : ℕ) → byte_at k x < 256
a_byte zero x = mod-lt x (omega arith)
a_byte (suc k) x = mod-lt (x / 256 ^ suc k) (omega arith)

-- the bytes of a number are bytes
bytes_fit : (n x : ℕ) → IsBytes (big_bytes n x)
bytes_fit zero x = λ i. omega arith
bytes_fit (suc n) x = IsBytes-cons (byte_at n x) (big_bytes n x) (a_byte n x) (bytes_fit n x)

-- a test that did not fail
found_is : {A : Type 0} (b : Bool) (x y : A) → cond b None (Some x) ≡ Some y → (b ≡ false) × (x ≡ y)
found_is true x y e = absurd cc
found_is false x y e = (refl, cc)

pub number_has_length : (n x : ℕ) → length (number_bytes n x) ≡ n
unfolding number_bytes
number_has_length n x = length-bytes_high_first n x

pub number_law : (n : ℕ) → IsFormat (IsNumber n) (number_bytes n) (number_in n)
unfolding number_bytes number_in
number_law n = record {
  again = λ x rest fits.
      let long : ltb (length (big_bytes n x ++ rest)) n ≡ false = le-ltb _ _ (omega (arith, length-append (big_bytes n x) rest, length-bytes_high_first n x)) in
      rw (long, big_number-reads_back n x rest fits, drop_at (big_bytes n x) rest n (length-bytes_high_first n x)) refl;
  only = λ bytes x rest fit e.
      let found = found_is (ltb (length bytes) n) (big_number n bytes, drop n bytes) (x, rest) e in
      let long : n ≤ length bytes = ltb-false _ _ found.0 in
      let number : big_number n bytes ≡ x = ap (λ (p : ℕ × List ℕ). p.0) found.1 in
      let after : drop n bytes ≡ rest = ap (λ (p : ℕ × List ℕ). p.1) found.1 in
      let below : x < 256 ^ n = rw (← number) (big_from-lt 0 n bytes fit) in
      let back : big_number n (big_bytes n x) ≡ x = ap (big_number n) (sym (append-nil (big_bytes n x))) ∙ big_number-reads_back n x [] below in
      let front : big_bytes n x ≡ take n bytes =
      one_spelling n (big_bytes n x) (take n bytes) (length-bytes_high_first n x) (omega (arith, length-take n bytes)) (bytes_fit n x) (IsBytes-take n bytes fit)
      (back ∙ sym number ∙ sym (big_from-take 0 n n bytes (omega arith))) in
      (sym (take-append-drop n bytes) ∙ (λ i. sym front i ++ after i), below);
}
