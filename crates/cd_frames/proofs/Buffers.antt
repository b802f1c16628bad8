-- A part of a buffer that grows, or is cut at its front, and a buffer that is written behind it.
use Rattle.std.proofs.Common.{◌≡◌, ℕ, ◌+◌, ◌-◌, ◌≤◌, List, length, take, drop, ◌++◌, ap, ◌∙◌, arith, sym, length-append, length-drop, length-take}
use Rattle.std.proofs.lemmas.List.{drop-take, drop-drop, take-take, take-append-le, drop_at, take_at}
use Rattle.std.proofs.lemmas.Slice.{between_is}
use Rattle.std.proofs.Math.Seq.{take-add}
use Rattle.cd_frames.specs.Reading.{overwritten}

-- the part from start to end, n bytes longer
pub grown : (xs : List ℕ) (start end n : ℕ) → start ≤ end → take (end + n - start) (drop start xs) ≡ take (end - start) (drop start xs) ++ take n (drop end xs)
grown xs start end n order =
    let size : end + n - start ≡ (end - start) + n = omega arith in
    let place : start + (end - start) ≡ end = omega arith in
    ap (λ m. take m (drop start xs)) size ∙ take-add (end - start) n (drop start xs)
    ∙ ap (λ ys. take (end - start) (drop start xs) ++ take n ys) (drop-drop (end - start) start xs ∙ ap (λ m. drop m xs) place)

-- the part without its first n bytes
pub cut : (xs : List ℕ) (start end n : ℕ) → start + n ≤ end → take (end - (start + n)) (drop (start + n) xs) ≡ drop n (take (end - start) (drop start xs))
cut xs start end n order =
    let size : end - start ≡ n + (end - (start + n)) = omega arith in
    sym (ap (λ m. drop n (take m (drop start xs))) size ∙ drop-take n (end - (start + n)) (drop start xs) ∙ ap (take (end - (start + n))) (drop-drop n start xs))

module _ (xs over : List ℕ) (end : ℕ) (within : end ≤ length xs) where
  -- all of xs, with bytes written from end on
  abbrev pub laid : List ℕ
  laid = take end xs ++ (over ++ drop (length over) (drop end xs))

  abbrev pub behind : List ℕ
  behind = take (length xs) (laid ++ drop (length laid) xs)

  long : length xs ≤ length laid
  long =
      omega (arith, length-append (take end xs) (over ++ drop (length over) (drop end xs)), length-append over (drop (length over) (drop end xs)), length-drop (length over) (drop end xs), length-drop end xs, length-take end xs)

  front_long : length (take end xs) ≡ end
  front_long = omega (arith, length-take end xs)

  behind_is : behind ≡ take (length xs) laid
  behind_is = take-append-le (length xs) laid (drop (length laid) xs) long

  -- what stands before stays
  pub kept : (start upto : ℕ) → upto ≤ end → take (upto - start) (drop start behind) ≡ take (upto - start) (drop start xs)
  kept start upto before =
      between_is behind start upto
      ∙ ap (λ ys. drop start (take upto ys)) behind_is
      ∙ ap (drop start) (take-take upto (length xs) laid (omega arith) ∙ sym (take-take upto end laid before) ∙ ap (take upto) (take_at (take end xs) (over ++ drop (length over) (drop end xs)) end front_long) ∙ take-take upto end xs before)
      ∙ sym (between_is xs start upto)

  -- what stands there is written over
  pub laid_over : drop end behind ≡ overwritten (drop end xs) over
  laid_over =
      let size : length xs ≡ end + length (drop end xs) = omega (arith, length-drop end xs) in
      ap (drop end) (behind_is ∙ ap (λ n. take n laid) size)
      ∙ drop-take end (length (drop end xs)) laid
      ∙ ap (take (length (drop end xs))) (drop_at (take end xs) (over ++ drop (length over) (drop end xs)) end front_long)
