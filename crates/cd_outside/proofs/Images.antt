-- The images of settled bytes, and of settled bytes that a write put in doubt.
use Rattle.std.proofs.Common.{◌≡◌, ℕ, ◌+◌, ◌<◌, ◌≤◌, List, length, take, drop, refl, sym, ◌∙◌, inl, inr, arith, length-take, length-drop}
use Rattle.std.proofs.lemmas.List.{get_or-take, get_or-drop}
use Rattle.std.proofs.lemmas.Grind.{same_number_lists}
use Rattle.cd_outside.specs.Doubt.{settled, IsImage}
use Rattle.cd_outside.specs.Disk.{Write, doubt_within}
use Rattle.cd_outside.specs.Through.{IsTorn}

-- settled bytes have one image
pub settled_image : (bytes image : List ℕ) → IsImage (settled bytes) image → image ≡ bytes
settled_image bytes image is =
    let same : length image ≡ length bytes = omega (arith, is.no_shorter, is.no_longer) in
    same_number_lists image bytes same (λ k lt. is.kept k (omega arith) tt)

pub settled_is_image : (bytes : List ℕ) → IsImage (settled bytes) bytes
settled_is_image bytes = record { no_shorter = omega arith; no_longer = omega arith; kept = λ place lt outside. refl }

-- a write over settled bytes
pub torn_image : (at : ℕ) (bytes old image : List ℕ) → at ≤ length old → IsImage (doubt_within (Write at bytes) (settled old)) image → IsTorn at (length bytes) old image
torn_image at bytes old image le is = record {
  front = same_number_lists (take at image) (take at old) (omega (arith, length-take at image, length-take at old, is.no_shorter)) (λ k lt.
      let below : k < at = omega (arith, length-take at image) in
      get_or-take at image k 0 below ∙ is.kept k (omega arith) (inl below, tt) ∙ sym (get_or-take at old k 0 below));
  back = same_number_lists (drop (at + length bytes) image) (drop (at + length bytes) old) (omega (arith, length-drop (at + length bytes) image, length-drop (at + length bytes) old, is.no_shorter, is.no_longer)) (λ k lt.
      get_or-drop (at + length bytes) image k 0
      ∙ is.kept (at + length bytes + k) (omega (arith, length-drop (at + length bytes) image, is.no_shorter, is.no_longer)) (inr (omega arith), tt)
      ∙ sym (get_or-drop (at + length bytes) old k 0));
  no_shorter = is.no_shorter;
  no_longer = is.no_longer;
}

-- nothing torn
pub torn_none : (at n : ℕ) (old : List ℕ) → IsTorn at n old old
torn_none at n old = record { front = refl; back = refl; no_shorter = omega arith; no_longer = omega arith }
