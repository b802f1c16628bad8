-- What comes to a session: the frame at the front of what is on the way to it, or nothing.
use Rattle.std.proofs.Common.{◌≡◌, ℕ, zero, suc, ◌+◌, ◌^◌, ◌<◌, ◌≤◌, List, [], ◌∷◌, ◌++◌, length, take, drop, min, refl, sym, ◌∙◌, ap, arith, length-append}
use Rattle.std.specs.Int.{from_be_bytes, to_be_bytes, w32}
use Rattle.std.proofs.Math.Nat.{min-eq_left, min-le_right}
use Rattle.std.proofs.lemmas.List.{drop_at, take_at, length-take}
use Rattle.std.proofs.lemmas.Nat.{from_be_bytes-to_be_bytes_4}
use Rattle.cd_types.specs.Number.{number_bytes}
use Rattle.cd_frames.specs.Frame.{body_bytes, frame_bytes, IsFrame}
use Rattle.cd_frames.specs.Message.{Message}
use Rattle.cd_frames.proofs.StreamLaw.{frame_long}
use Rattle.cd_drill.specs.Pairs.{frame_len}

-- These bytes were on the way to a session, behind what was taken of it before, and the frame at their front was taken too.
pub record Brought (way : List ℕ) (passed now_passed : ℕ) (before taken given : List ℕ) : Type 0 where
  pub on_way : way ≡ drop passed given
  pub so_far : passed ≡ length before
  pub came : now_passed ≡ passed + frame_len way
  pub all_taken : taken ≡ take now_passed given

len_within : (bytes : List ℕ) → frame_len bytes ≤ length bytes
len_within [] = omega arith
len_within (a ∷ []) = omega arith
len_within (a ∷ b ∷ []) = omega arith
len_within (a ∷ b ∷ c ∷ []) = omega arith
len_within (a ∷ b ∷ c ∷ d ∷ rest) =
    let low : min (from_be_bytes w32 (a ∷ b ∷ c ∷ d ∷ []) + 4) (length rest + 4) ≤ length rest + 4 = min-le_right (from_be_bytes w32 (a ∷ b ∷ c ∷ d ∷ []) + 4) (length rest + 4) in
    omega (arith, low)

-- the length that stands in the first four bytes
len_told : (len : ℕ) (body more : List ℕ) → len < 2 ^ 32 → len ≤ length body → frame_len ((number_bytes 4 len ++ body) ++ more) ≡ len + 4
unfolding number_bytes
len_told len body more short whole =
    let number : from_be_bytes w32 (to_be_bytes w32 len) ≡ len = from_be_bytes-to_be_bytes_4 len short in
    let all : len + 4 ≤ length (body ++ more) + 4 = omega (arith, whole, length-append body more) in
    ap (λ (n : ℕ). min (n + 4) (length (body ++ more) + 4)) number ∙ min-eq_left all

-- a frame that stands at the front is all that comes
pub frame_len_is : (m : Message) (more : List ℕ) → IsFrame m → frame_len (frame_bytes m ++ more) ≡ length (frame_bytes m)
unfolding frame_bytes
frame_len_is m more frame =
    let long : length (frame_bytes m) ≡ 4 + length (body_bytes m) = frame_long m in
    len_told (length (body_bytes m)) (body_bytes m) more (omega (arith, frame.short)) (omega arith) ∙ omega (arith, long)

take_past : (xs ys : List ℕ) (k n : ℕ) → n ≡ length xs + k → take n (xs ++ ys) ≡ xs ++ take k ys
take_past [] ys k n is = ap (λ (i : ℕ). take i ys) (let same : n ≡ k = omega (arith, is) in same)
take_past (x ∷ xs) ys k zero is = absurd (omega (arith, is))
take_past (x ∷ xs) ys k (suc n) is = ap (λ (l : List ℕ). x ∷ l) (take_past xs ys k n (omega (arith, is)))

module _ (way : List ℕ) (passed now_passed : ℕ) (before taken given : List ℕ) (b : Brought way passed now_passed before taken given) where
  module _ (rest : List ℕ) (begins : given ≡ before ++ rest) where
    -- what was on the way is all that is left of what was given
    pub way_is : way ≡ rest
    way_is = b.on_way ∙ ap (drop passed) begins ∙ drop_at before rest passed (sym b.so_far)

    taken_is : taken ≡ before ++ take (frame_len way) way
    taken_is =
        b.all_taken ∙ ap (take now_passed) begins ∙ take_past before rest (frame_len way) now_passed (b.came ∙ ap (λ (n : ℕ). n + frame_len way) b.so_far)
        ∙ ap (λ (l : List ℕ). before ++ take (frame_len way) l) (sym way_is)

    -- a frame that stood at the front was taken, and nothing behind it
    pub taken_front : (m : Message) (more : List ℕ) → IsFrame m → way ≡ frame_bytes m ++ more → taken ≡ before ++ frame_bytes m
    taken_front m more frame front =
        taken_is ∙ ap (λ (l : List ℕ). before ++ take (frame_len l) l) front ∙ ap (λ (n : ℕ). before ++ take n (frame_bytes m ++ more)) (frame_len_is m more frame)
        ∙ ap (λ (l : List ℕ). before ++ l) (take_at (frame_bytes m) more (length (frame_bytes m)) refl)

    -- so many bytes were taken as came
    pub all_counted : now_passed ≡ length taken
    all_counted =
        let within : frame_len way ≤ length way = len_within way in
        omega (arith, b.came, b.so_far, within, ap length taken_is, length-append before (take (frame_len way) way), length-take (frame_len way) way)

  -- where nothing was on the way, nothing was taken
  pub none_counted : way ≡ [] → taken ≡ before → now_passed ≡ length taken
  none_counted none same =
      let nothing : frame_len way ≡ 0 = ap frame_len none in
      omega (arith, b.came, b.so_far, nothing, ap length same)
