-- What a read gives after a write stays an image of what is in doubt, also where the write leaves a gap.
use Rattle.std.proofs.Common.{◌≡◌, ℕ, ◌+◌, ◌-◌, ◌<◌, ◌≤◌, Bool, true, false, ◌||◌, List, ◌++◌, length, get_or, take, drop, replicate, sym, ◌∙◌, ap, subst, ⊎_elim, arith, length-append, length-take}
use Rattle.std.specs.Prelude.{IsTrue, not}
use Rattle.std.proofs.Math.Bool.{or_comm}
use Rattle.std.proofs.lemmas.List.{get_or_append_left, get_or-append_right, get_or-take, get_or-drop}
use Rattle.cd_outside.specs.Content.{resized, overwritten}
use Rattle.cd_outside.specs.Doubt.{Doubt, IsImage}
use Rattle.cd_outside.specs.Disk.{Write, doubt_within}
use Rattle.cd_outside.proofs.Contents.{length-overwritten, length-resized}

pub resized_at : (len : ℕ) (old : List ℕ) (place : ℕ) → place < len → place < length old → get_or (resized len old) place 0 ≡ get_or old place 0
resized_at len old place lt within =
    get_or_append_left (take len old) (replicate (len - length old) 0) 0 place (omega (arith, length-take len old))
    ∙ get_or-take len old place 0 lt

before : (at : ℕ) (bytes seen : List ℕ) (place : ℕ) → place < at → place < length seen → get_or (overwritten at bytes seen) place 0 ≡ get_or seen place 0
before at bytes seen place lt within =
    let front = resized at seen in
    let long = length-resized at seen in
    get_or_append_left (front ++ bytes) (drop (at + length bytes) seen) 0 place (omega (arith, long, length-append front bytes))
    ∙ get_or_append_left front bytes 0 place (omega (arith, long))
    ∙ resized_at at seen place lt within

behind : (at : ℕ) (bytes seen : List ℕ) (place : ℕ) → at + length bytes ≤ place → get_or (overwritten at bytes seen) place 0 ≡ get_or seen place 0
behind at bytes seen place from =
    let front = resized at seen in
    let end = at + length bytes in
    let same : end + (place - end) ≡ place = omega arith in
    get_or-append_right (front ++ bytes) (drop end seen) end place 0 (omega (arith, length-resized at seen, length-append front bytes)) from
    ∙ get_or-drop end seen (place - end) 0
    ∙ ap (λ (k : ℕ). get_or seen k 0) same

pub write_image : (at : ℕ) (bytes : List ℕ) (doubt : Doubt) (seen : List ℕ) → IsImage doubt seen → IsImage (doubt_within (Write at bytes) doubt) (overwritten at bytes seen)
write_image at bytes doubt seen now = record {
  no_shorter = omega (arith, length-overwritten at bytes seen, now.no_shorter);
  no_longer = omega (arith, length-overwritten at bytes seen, now.no_longer);
  kept = λ place lt outside. ⊎_elim (λ lt_at. before at bytes seen place lt_at (omega (arith, now.no_shorter))) (λ from. behind at bytes seen place from) outside.0 ∙ now.kept place lt outside.1;
}

-- the same image of the same doubt
pub same_image : (a b : Doubt) (s t : List ℕ) → b.base ≡ a.base → b.ranges ≡ a.ranges → b.least ≡ a.least → b.greatest ≡ a.greatest → t ≡ s → IsImage a s → IsImage b t
same_image a b s t base ranges least greatest seen is =
    subst (λ (p : Doubt × List ℕ). IsImage p.0 p.1) (λ i. (record { base = sym base i; ranges = sym ranges i; least = sym least i; greatest = sym greatest i }, sym seen i)) is

-- what a write leaves of the marks of a file that was there at the last sync, and of one that was made or removed
pub made_is : (moved there exists : Bool) → moved ≡ not exists → there ≡ exists → IsTrue (moved || there)
made_is moved there true moved_is still = ap (λ (b : Bool). moved || b) still ∙ or_comm moved true
made_is moved there false moved_is still = ap (λ (b : Bool). b || there) moved_is

pub made_still : (moved there exists : Bool) → moved ≡ not exists → there ≡ exists → moved ≡ false → there ≡ true
made_still moved there true moved_is still unmoved = still
made_still moved there false moved_is still unmoved = cc
