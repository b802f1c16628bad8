-- The images that a crash leaves of a file are images of what is in doubt of it.
use Rattle.std.proofs.Common.{◌≡◌, ℕ, ◌≤◌, Bool, true, false, ◌||◌, List, [], zero, suc, length, Option, refl, sym, ◌∙◌, ap, subst, arith}
use Rattle.std.specs.Prelude.{IsTrue, not, reverse}
use Rattle.cd_outside.specs.Doubt.{IsImage}
use Rattle.cd_outside.specs.Shelf.{FileDoubt, IsFileImage}
use Rattle.cd_memory_state.specs.FileImage.{given_file, is_left_of, after_is_left_of, file_left_by}
use Rattle.cd_memory_state.specs.Slot.{doubt_in, seen_in, IsTidy}
use Rattle.cd_memory_state.specs.declared.slot.Slot.TheInside.{Inside}
use Rattle.cd_memory_state.proofs.Doubtful.{image_from_is}

given_is : (doubt : FileDoubt) (left : Bool) (bytes : List ℕ) → (left ≡ true → IsTrue (doubt.moved || doubt.there)) → (left ≡ false → IsTrue (doubt.moved || not doubt.there)) → IsImage doubt.bytes bytes → IsFileImage doubt (given_file left bytes)
given_is doubt true bytes there gone is = (there refl, is)
given_is doubt false bytes there gone is = gone refl

or_there : (moved there : Bool) → there ≡ true → IsTrue (moved || there)
or_there true there is = refl
or_there false true is = refl
or_there false false is = is

or_gone : (moved there : Bool) → there ≡ false → IsTrue (moved || not there)
or_gone true there is = refl
or_gone false true is = sym is
or_gone false false is = refl

left_there : (there moved : Bool) (x : ℕ) → is_left_of there moved x ≡ true → IsTrue (moved || there)
left_there there true x is = refl
left_there there false x is = or_there false there is

left_gone : (there moved : Bool) (x : ℕ) → is_left_of there moved x ≡ false → IsTrue (moved || not there)
left_gone there true x is = refl
left_gone there false x is = or_gone false there is

-- each image that may be asked for is an image
pub file_left_by_is : (image : ℕ) (doubt : FileDoubt) (seen : Option (List ℕ)) → IsFileImage doubt seen → doubt.bytes.least ≤ length doubt.bytes.base → length doubt.bytes.base ≤ doubt.bytes.greatest → IsFileImage doubt (file_left_by image doubt seen)
file_left_by_is zero doubt seen now from to =
    given_is doubt doubt.there doubt.bytes.base (or_there doubt.moved doubt.there) (or_gone doubt.moved doubt.there) (record { no_shorter = from; no_longer = to; kept = λ place lt outside. refl })
file_left_by_is (suc zero) doubt seen now from to = now
file_left_by_is (suc (suc n)) doubt seen now from to =
    let x = suc (suc n) in
    given_is doubt (is_left_of doubt.there doubt.moved x) _ (left_there doubt.there doubt.moved x) (left_gone doubt.there doubt.moved x) (image_from_is (after_is_left_of doubt.moved x) doubt.bytes (omega arith))

-- and no longer than the greatest length
pub given_length : (doubt : FileDoubt) (left : Bool) (bytes : List ℕ) → (left ≡ false → bytes ≡ []) → IsFileImage doubt (given_file left bytes) → length bytes ≤ doubt.bytes.greatest
given_length doubt true bytes missing is = is.1.no_longer
given_length doubt false bytes missing is = let none = ap length (missing refl) in omega (arith, none)

-- what a read gives of a slot may be left by a crash
pub tidy_there : (moved there exists : Bool) → (moved ≡ false → there ≡ exists) → exists ≡ true → IsTrue (moved || there)
tidy_there true there exists still is = refl
tidy_there false there exists still is = still refl ∙ is

pub tidy_gone : (moved there exists : Bool) → (moved ≡ false → there ≡ exists) → exists ≡ false → IsTrue (moved || not there)
tidy_gone true there exists still is = refl
tidy_gone false there exists still is = ap not (still refl ∙ is)

pub tidy_image : (a : Inside) → IsTidy a → IsFileImage (doubt_in a) (seen_in a)
tidy_image a t = given_is (doubt_in a) a.exists a.seen.items (tidy_there a.moved a.there a.exists t.still) (tidy_gone a.moved a.there a.exists t.still) t.image

-- the image that a crash leaves of a slot
pub left_is : (a : Inside) → IsTidy a → (image : ℕ) (base : List ℕ) (ranges : List (ℕ × ℕ)) → base ≡ a.base.items → ranges ≡ a.ranges.items → (left : Bool) (bytes : List ℕ)
    → given_file left bytes ≡ file_left_by image (record { there = a.there; moved = a.moved; bytes = record { base = base; ranges = reverse ranges; least = a.least; greatest = a.greatest } }) (seen_in a) → IsFileImage (doubt_in a) (given_file left bytes)
left_is a t image base ranges base_is ranges_is left bytes made =
    let doubt : ◌≡◌ {A = FileDoubt} (record { there = a.there; moved = a.moved; bytes = record { base = base; ranges = reverse ranges; least = a.least; greatest = a.greatest } }) (doubt_in a) =
    λ i. record { there = a.there; moved = a.moved; bytes = record { base = base_is i; ranges = reverse (ranges_is i); least = a.least; greatest = a.greatest } } in
    subst (IsFileImage (doubt_in a)) (sym (made ∙ ap (λ (d : FileDoubt). file_left_by image d (seen_in a)) doubt))
    (file_left_by_is image (doubt_in a) (seen_in a) (tidy_image a t) t.base_from t.base_to)
