-- Bytes that are the front of a source, and pieces of it that are written behind.
use Rattle.std.proofs.Common.{◌≡◌, ℕ, ◌+◌, ◌-◌, ◌≤◌, List, ◌++◌, length, take, drop, replicate, sym, ◌∙◌, ap, inl, inr, arith, min, length-append, length-take, length-drop, append_assoc}
use Rattle.std.proofs.lemmas.Bool.{cases_lt}
use Rattle.std.proofs.lemmas.List.{drop-drop, take-take, drop-take, take_all, drop_all, append-nil, take-append-drop, length-take-le}
use Rattle.cd_outside.specs.Content.{resized, overwritten}
use Rattle.cd_outside.proofs.Contents.{length-resized}

-- the front of a source
abbrev pub IsFront : List ℕ → List ℕ → Type 0
IsFront bytes source = bytes ≡ take (length bytes) source

take_more : (a b : ℕ) (xs : List ℕ) → take (a + b) xs ≡ take a xs ++ take b (drop a xs)
take_more a b xs =
    sym (take-append-drop a (take (a + b) xs))
    ∙ ap (λ (front : List ℕ). front ++ drop a (take (a + b) xs)) (take-take a (a + b) xs (omega arith))
    ∙ ap (λ (rest : List ℕ). take a xs ++ rest) (drop-take a b xs)

pub front_short : (bytes source : List ℕ) → IsFront bytes source → length bytes ≤ length source
front_short bytes source front =
    let same : length bytes ≡ min (length bytes) (length source) = ap (λ (l : List ℕ). length l) front ∙ length-take (length bytes) source in
    omega (arith, same)

-- a front, cut
pub front_take : (k : ℕ) (bytes source : List ℕ) → IsFront bytes source → IsFront (take k bytes) source
front_take k bytes source front =
    elim (cases_lt k (length bytes)) [
      | inl less ↦
          let len : length (take k bytes) ≡ k = length-take-le k bytes (omega (arith, less)) in
          ap (λ (l : List ℕ). take k l) front ∙ take-take k (length bytes) source (omega (arith, less)) ∙ ap (λ (n : ℕ). take n source) (sym len)
      | inr all ↦
          let same : take k bytes ≡ bytes = take_all k bytes all in
          same ∙ front ∙ ap (λ (l : List ℕ). take (length l) source) (sym same)
    ]

-- all of it
pub front_whole : (bytes source : List ℕ) → IsFront bytes source → length source ≤ length bytes → bytes ≡ source
front_whole bytes source front whole = front ∙ take_all (length bytes) source whole

pub length_over : (at : ℕ) (bytes old : List ℕ) → length (overwritten at bytes old) ≡ at + (length bytes + (length old - (at + length bytes)))
length_over at bytes old =
    let n : ℕ = at + length bytes in
    let outer : length (overwritten at bytes old) ≡ length (resized at old ++ bytes) + length (drop n old) = length-append (resized at old ++ bytes) (drop n old) in
    let inner : length (resized at old ++ bytes) ≡ length (resized at old) + length bytes = length-append (resized at old) bytes in
    let head : length (resized at old) ≡ at = length-resized at old in
    let rest : length (drop n old) ≡ length old - n = length-drop n old in
    omega (arith, outer, inner, head, rest)

module _ (at : ℕ) (bytes old source : List ℕ) (front : IsFront old source) (found : bytes ≡ take (length bytes) (drop at source)) (enough : at ≤ length old) (within : at + length bytes ≤ length source) where
  head_is : resized at old ≡ take at source
  head_is =
      let none : at - length old ≡ 0 = omega (arith, enough) in
      ap (λ (n : ℕ). take at old ++ replicate n 0) none ∙ append-nil (take at old)
      ∙ ap (λ (l : List ℕ). take at l) front ∙ take-take at (length old) source enough

  rest_is : drop (at + length bytes) old ≡ take (length old - (at + length bytes)) (drop (at + length bytes) source)
  rest_is =
      elim (cases_lt (length old) (at + length bytes)) [
        | inl short ↦
            let none : length old - (at + length bytes) ≡ 0 = omega (arith, short) in
            drop_all (at + length bytes) old (omega (arith, short)) ∙ sym (ap (λ (n : ℕ). take n (drop (at + length bytes) source)) none)
        | inr long ↦
            let n : ℕ = at + length bytes in
            let m : ℕ = length old - n in
            let whole : length old ≡ n + m = omega (arith, long) in
            ap (λ (l : List ℕ). drop n l) (front ∙ ap (λ (k : ℕ). take k source) whole) ∙ drop-take n m source
      ]

  pub over_front : IsFront (overwritten at bytes old) source
  over_front =
      let n : ℕ = at + length bytes in
      let m : ℕ = length old - n in
      let b : ℕ = length bytes in
      let bytes_are : bytes ++ drop n old ≡ take (b + m) (drop at source) =
      ap (λ (l : List ℕ). l ++ drop n old) found ∙ ap (λ (l : List ℕ). take b (drop at source) ++ l) (rest_is ∙ ap (λ (l : List ℕ). take m l) (sym (drop-drop b at source))) ∙ sym (take_more b m (drop at source)) in
      let all : overwritten at bytes old ≡ take (at + (b + m)) source =
      append_assoc (resized at old) bytes (drop n old) ∙ ap (λ (l : List ℕ). l ++ (bytes ++ drop n old)) head_is ∙ ap (λ (l : List ℕ). take at source ++ l) bytes_are ∙ sym (take_more at (b + m) source) in
      all ∙ ap (λ (k : ℕ). take k source) (sym (length_over at bytes old))
