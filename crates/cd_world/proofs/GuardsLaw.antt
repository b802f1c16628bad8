-- A guarded front stays in every file that a crash may leave, and behind every change that keeps it.
use Rattle.std.proofs.Common.{◌≡◌, ℕ, ◌+◌, ◌<◌, ◌≤◌, Bool, true, false, List, [], ◌∷◌, ◌++◌, length, take, Option, Some, None, inl, refl, sym, ◌∙◌, ap, subst, min, arith, length-take, length-append, drop, append_assoc}
use Rattle.std.specs.Prelude.{◌||◌, not, IsTrue, is_none}
use Rattle.std.proofs.Math.Seq.{take-append_seam}
use Rattle.std.proofs.lemmas.Bool.{false≢true}
use Rattle.std.proofs.lemmas.List.{get_or-take, take-take, take-append-le, length-take-le}
use Rattle.std.proofs.lemmas.Grind.{same_number_lists}
use Rattle.cd_outside.specs.Content.{resized, overwritten}
use Rattle.cd_outside.specs.Doubt.{IsOutside, IsImage}
use Rattle.cd_outside.specs.Shelf.{FileDoubt, FileChange, WriteFile, CutFile, SyncFile, RemoveFile, IsFileImage, settled_file, file_after, file_doubt_within}
use Rattle.cd_outside.proofs.Contents.{length-resized, resized_within}
use Rattle.cd_world.specs.Fronts.{BeginsWith, AreBehind, IsGuarded, KeepsFront}

pub begins_short : (front bytes : List ℕ) → take (length front) bytes ≡ front → length front ≤ length bytes
begins_short front bytes begins =
    let len : length front ≡ min (length front) (length bytes) = ap (λ (l : List ℕ). length l) (sym begins) ∙ length-take (length front) bytes in
    omega (arith, len)

-- what a crash leaves

outside_front : (n : ℕ) (ranges : List (ℕ × ℕ)) (place : ℕ) → place < n → AreBehind n ranges → IsOutside ranges place
outside_front n [] place below behind = tt
outside_front n (range ∷ ranges) place below behind = let first : n ≤ range.0 = behind.0 in (inl (omega (arith, below, first)), outside_front n ranges place below behind.1)

image_bytes : (front : List ℕ) (doubt : FileDoubt) (image : List ℕ) → IsGuarded front doubt → IsImage doubt.bytes image → take (length front) image ≡ front
image_bytes front doubt image guarded is =
    let n : ℕ = length front in
    let long : n ≤ doubt.bytes.least = guarded.long in
    let in_image : n ≤ length image = omega (arith, long, is.no_shorter) in
    let in_base : n ≤ length doubt.bytes.base = begins_short front doubt.bytes.base guarded.base in
    let one : length (take n image) ≡ n = length-take-le n image in_image in
    let two : length (take n doubt.bytes.base) ≡ n = length-take-le n doubt.bytes.base in_base in
    same_number_lists (take n image) (take n doubt.bytes.base) (one ∙ sym two) (λ k lt.
    let below : k < n = omega (arith, lt, one) in
    get_or-take n image k 0 below ∙ is.kept k (omega (arith, below, long)) (outside_front n doubt.bytes.ranges k below guarded.behind) ∙ sym (get_or-take n doubt.bytes.base k 0 below))
    ∙ guarded.base

no_file : (moved there : Bool) → moved ≡ false → there ≡ true → IsTrue (moved || not there) → ⊥
no_file moved there is_moved is_there left =
    let gone : IsTrue (false || not true) = subst (λ (b : Bool). IsTrue (false || not b)) is_there (subst (λ (m : Bool). IsTrue (m || not there)) is_moved left) in false≢true gone

pub front_image : (front : List ℕ) (doubt : FileDoubt) (image : Option (List ℕ)) → IsGuarded front doubt → IsFileImage doubt image → BeginsWith front image
front_image front doubt None guarded is = absurd (no_file doubt.moved doubt.there guarded.stays guarded.there is)
front_image front doubt (Some bytes) guarded is = record { bytes = bytes; is = refl; begins = image_bytes front doubt bytes guarded is.1 }

-- a synced file

pub front_settled : (front : List ℕ) (file : Option (List ℕ)) → BeginsWith front file → IsGuarded front (settled_file file)
front_settled front file begins =
    subst (λ (f : Option (List ℕ)). IsGuarded front (settled_file f)) (sym begins.is)
    (record { there = refl; stays = refl; long = begins_short front begins.bytes begins.begins; base = begins.begins; behind = tt })

-- changes

cut_front : (n len : ℕ) (old : List ℕ) → n ≤ len → n ≤ length old → take n (resized len old) ≡ take n old
cut_front n len old kept long =
    let head : length (take len old) ≡ min len (length old) = length-take len old in
    take-append-le n (take len old) _ (omega (arith, head, kept, long)) ∙ take-take n len old kept

pub over_start : (n at : ℕ) (bytes old : List ℕ) → n ≤ at → n ≤ length old → take n (overwritten at bytes old) ≡ take n old
over_start n at bytes old kept long =
    let head : length (resized at old) ≡ at = length-resized at old in
    let both : length (resized at old ++ bytes) ≡ length (resized at old) + length bytes = length-append (resized at old) bytes in
    take-append-le n (resized at old ++ bytes) _ (omega (arith, head, both, kept)) ∙ take-append-le n (resized at old) bytes (omega (arith, head, kept)) ∙ cut_front n at old kept long

module _ (front : List ℕ) (file : Option (List ℕ)) (begins : BeginsWith front file) where
  not_none : is_none file ≡ false
  not_none = ap (λ (f : Option (List ℕ)). is_none f) begins.is

  stays_put : (moved : Bool) → moved ≡ false → (moved || is_none file) ≡ false
  stays_put moved is = ap (λ (m : Bool). m || is_none file) is ∙ not_none

  long : length front ≤ length begins.bytes
  long = begins_short front begins.bytes begins.begins

  pub front_after : (change : FileChange) → KeepsFront (length front) change → BeginsWith front (file_after change file)
  front_after (WriteFile name at bytes) kept =
      subst (λ (f : Option (List ℕ)). BeginsWith front (file_after (WriteFile name at bytes) f)) (sym begins.is)
      (record { bytes = overwritten at bytes begins.bytes; is = refl; begins = over_start (length front) at bytes begins.bytes kept long ∙ begins.begins })
  front_after (CutFile name len) kept =
      subst (λ (f : Option (List ℕ)). BeginsWith front (file_after (CutFile name len) f)) (sym begins.is)
      (record { bytes = resized len begins.bytes; is = refl; begins = cut_front (length front) len begins.bytes kept long ∙ begins.begins })
  front_after (SyncFile name) kept = begins
  front_after (RemoveFile name) kept = absurd kept

  pub front_within : (change : FileChange) (doubt : FileDoubt) → KeepsFront (length front) change → IsGuarded front doubt → IsGuarded front (file_doubt_within change file doubt)
  front_within (WriteFile name at bytes) doubt kept guarded =
      record { there = guarded.there; stays = stays_put doubt.moved guarded.stays; long = guarded.long; base = guarded.base; behind = (kept, guarded.behind) }
  front_within (CutFile name len) doubt kept guarded =
      let least : length front ≤ doubt.bytes.least = guarded.long in
      record { there = guarded.there; stays = stays_put doubt.moved guarded.stays; long = omega (arith, least, kept); base = guarded.base; behind = guarded.behind }
  front_within (SyncFile name) doubt kept guarded = guarded
  front_within (RemoveFile name) doubt kept guarded = absurd kept

-- Pieces behind a front, and the whole.

seam : (xs ys : List ℕ) (n : ℕ) → n ≡ length xs → take n (xs ++ ys) ≡ xs
seam xs ys n is = ap (λ (m : ℕ). take m (xs ++ ys)) is ∙ take-append_seam xs ys

-- a piece that is written behind the front and what came is there, and what came is longer by it
pub front_written : (kept got piece bytes : List ℕ) (came : ℕ) → came ≤ length got → take (length (kept ++ take came got)) bytes ≡ kept ++ take came got
    → take (length (kept ++ take (came + length piece) (overwritten came piece got))) (overwritten (length kept + came) piece bytes) ≡ kept ++ take (came + length piece) (overwritten came piece got)
front_written kept got piece bytes came enough begins =
    let q : List ℕ = kept ++ take came got in
    let at : ℕ = length kept + came in
    let reaction : length (take came got) ≡ came = length-take-le came got enough in
    let len_q : length q ≡ at = length-append kept (take came got) ∙ ap (λ (n : ℕ). length kept + n) reaction in
    let fits : at ≤ length bytes = subst (λ (n : ℕ). n ≤ length bytes) len_q (begins_short q bytes begins) in
    let head : resized at bytes ≡ q = resized_within at bytes fits ∙ ap (λ (n : ℕ). take n bytes) (sym len_q) ∙ begins in
    let head_got : resized came got ≡ take came got = resized_within came got enough in
    let len_piece : came + length piece ≡ length (take came got ++ piece) = sym (length-append (take came got) piece ∙ ap (λ (n : ℕ). n + length piece) reaction) in
    let got_is : take (came + length piece) (overwritten came piece got) ≡ take came got ++ piece =
    ap (λ (l : List ℕ). take (came + length piece) (l ++ piece ++ drop (came + length piece) got)) head_got ∙ seam (take came got ++ piece) (drop (came + length piece) got) (came + length piece) len_piece in
    let whole : kept ++ take (came + length piece) (overwritten came piece got) ≡ q ++ piece = ap (λ (l : List ℕ). kept ++ l) got_is ∙ sym (append_assoc kept (take came got) piece) in
    let written : overwritten at piece bytes ≡ (q ++ piece) ++ drop (at + length piece) bytes = ap (λ (l : List ℕ). l ++ piece ++ drop (at + length piece) bytes) head in
    ap (λ (l : List ℕ). take (length l) (overwritten at piece bytes)) whole ∙ ap (λ (l : List ℕ). take (length (q ++ piece)) l) written
    ∙ seam (q ++ piece) (drop (at + length piece) bytes) (length (q ++ piece)) refl ∙ sym whole

-- cut to its length, the file is the front and all that came
pub front_landed : (kept got bytes : List ℕ) → take (length (kept ++ got)) bytes ≡ kept ++ got → resized (length kept + length got) bytes ≡ kept ++ got
front_landed kept got bytes begins =
    let len : length (kept ++ got) ≡ length kept + length got = length-append kept got in
    let fits : length kept + length got ≤ length bytes = subst (λ (n : ℕ). n ≤ length bytes) len (begins_short (kept ++ got) bytes begins) in
    resized_within (length kept + length got) bytes fits ∙ ap (λ (n : ℕ). take n bytes) (sym len) ∙ begins
