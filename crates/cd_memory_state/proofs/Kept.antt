-- What a read gives is an image of what is in doubt, and stays one.
use Rattle.std.proofs.Common.{◌≡◌, ℕ, ◌+◌, ◌-◌, ◌<◌, ◌≤◌, List, ◌++◌, length, get_or, take, drop, replicate, sym, ◌∙◌, ap, subst, ⊎_elim, arith, length-append, length-take}
use Rattle.std.proofs.lemmas.List.{get_or_append_left, get_or-append_right, get_or-take, get_or-drop}
use Rattle.cd_outside.specs.Content.{overwritten}
use Rattle.cd_outside.specs.Doubt.{IsImage}
use Rattle.cd_outside.specs.Disk.{DiskState, Write, Cut, Sync, did}
use Rattle.cd_outside.proofs.Contents.{length-overwritten, length-resized, overwritten_within}
use Rattle.cd_outside.proofs.Images.{settled_is_image}

before : (at : ℕ) (bytes seen : List ℕ) (place : ℕ) → at ≤ length seen → place < at → get_or (overwritten at bytes seen) place 0 ≡ get_or seen place 0
before at bytes seen place le lt =
    let front = take at seen in
    let long = length-take at seen in
    ap (λ (l : List ℕ). get_or l place 0) (overwritten_within at bytes seen le)
    ∙ get_or_append_left (front ++ bytes) (drop (at + length bytes) seen) 0 place (omega (arith, long, length-append front bytes))
    ∙ get_or_append_left front bytes 0 place (omega (arith, long))
    ∙ get_or-take at seen place 0 lt

behind : (at : ℕ) (bytes seen : List ℕ) (place : ℕ) → at ≤ length seen → at + length bytes ≤ place → get_or (overwritten at bytes seen) place 0 ≡ get_or seen place 0
behind at bytes seen place le from =
    let front = take at seen in
    let end = at + length bytes in
    let same : end + (place - end) ≡ place = omega arith in
    ap (λ (l : List ℕ). get_or l place 0) (overwritten_within at bytes seen le)
    ∙ get_or-append_right (front ++ bytes) (drop end seen) end place 0 (omega (arith, length-take at seen, length-append front bytes)) from
    ∙ get_or-drop end seen (place - end) 0
    ∙ ap (λ (k : ℕ). get_or seen k 0) same

pub written_is_image : (at : ℕ) (bytes : List ℕ) (beat : ℕ) (old new : DiskState) → new ≡ did (Write at bytes) beat old → at ≤ length old.seen → IsImage old.doubt old.seen → IsImage new.doubt new.seen
written_is_image at bytes beat old new is le now = subst (λ (s : DiskState). IsImage s.doubt s.seen) (sym is) (record {
  no_shorter = omega (arith, length-overwritten at bytes old.seen, now.no_shorter);
  no_longer = omega (arith, length-overwritten at bytes old.seen, now.no_longer);
  kept = λ place lt outside. ⊎_elim (λ lt_at. before at bytes old.seen place le lt_at) (λ from. behind at bytes old.seen place le from) outside.0 ∙ now.kept place lt outside.1;
})

pub cut_is_image : (len beat : ℕ) (old new : DiskState) → new ≡ did (Cut len) beat old → IsImage old.doubt old.seen → IsImage new.doubt new.seen
cut_is_image len beat old new is now = subst (λ (s : DiskState). IsImage s.doubt s.seen) (sym is) (record {
  no_shorter = omega (arith, length-resized len old.seen, now.no_shorter);
  no_longer = omega (arith, length-resized len old.seen, now.no_longer);
  kept = λ place lt outside.
      get_or_append_left (take len old.seen) (replicate (len - length old.seen) 0) 0 place (omega (arith, length-take len old.seen, now.no_shorter))
      ∙ get_or-take len old.seen place 0 (omega arith)
      ∙ now.kept place (omega arith) outside;
})

pub synced_is_image : (beat : ℕ) (old new : DiskState) → new ≡ did Sync beat old → IsImage new.doubt new.seen
synced_is_image beat old new is = subst (λ (s : DiskState). IsImage s.doubt s.seen) (sym is) (settled_is_image old.seen)
