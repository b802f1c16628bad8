-- A write over a settled disk, and the sync behind it.
use Rattle.std.proofs.Common.{◌≡◌, ⊎_elim, ℕ, ◌<◌, ◌≤◌, List, length, sym, subst, arith}
use Rattle.cd_outside.specs.Counts.{next}
use Rattle.cd_outside.specs.Doubt.{Doubt, settled, IsImage}
use Rattle.cd_outside.specs.Disk.{Write, Sync, DiskState, last_of, doubt_within, LeftAt, did, WasCutOff}
use Rattle.cd_outside.specs.Moments.{Moments}
use Rattle.cd_outside.specs.Through.{IsTorn}
use Rattle.cd_outside.proofs.Images.{settled_image, torn_image, torn_none}
use Rattle.cd_outside.proofs.Runs.{moments_then, moments_none, moments_did, moments_begun}

module _ (at : ℕ) (bytes : List ℕ) (from to : ℕ) (before : DiskState) (within : at ≤ length before.seen) (order : last_of before.calls ≤ from) (rest : before.doubt ≡ settled before.seen) (raised : to ≡ next from) where
  abbrev torn : List ℕ → Type 0
  torn = IsTorn at (length bytes) before.seen

  image_old : (image : List ℕ) → IsImage before.doubt image → torn image
  image_old image is = subst torn (sym (settled_image before.seen image (subst (λ (d : Doubt). IsImage d image) rest is))) (torn_none at (length bytes) before.seen)

  image_written : (image : List ℕ) → IsImage (doubt_within (Write at bytes) before.doubt) image → torn image
  image_written image is = torn_image at bytes before.seen image within (subst (λ (d : Doubt). IsImage (doubt_within (Write at bytes) d) image) rest is)

  -- the write failed
  pub write_failed : (after : DiskState) → WasCutOff (Write at bytes) from to before after → Moments (LeftAt before) (LeftAt after) from torn
  write_failed after cut_off = ⊎_elim (λ same. moments_none before after from torn same order image_old) (λ begun. moments_begun (Write at bytes) from to before after torn begun.1 begun.0 raised image_written) cut_off

  module _ (middle : DiskState) (done : middle ≡ did (Write at bytes) to before) (lt : from < to) where
    image_middle : (image : List ℕ) → IsImage middle.doubt image → torn image
    image_middle image is = image_written image (subst (λ (state : DiskState). IsImage state.doubt image) done is)

    wrote : Moments (LeftAt before) (LeftAt middle) from torn
    wrote = moments_did (Write at bytes) from to before middle torn done lt raised image_written image_middle

    order_middle : last_of middle.calls ≤ to
    order_middle = subst (λ (state : DiskState). last_of state.calls ≤ to) (sym done) (omega arith)

    -- the sync behind it failed
    pub sync_failed : (after : DiskState) → after ≡ middle → Moments (LeftAt before) (LeftAt after) from torn
    sync_failed after same = moments_then (LeftAt before) (LeftAt middle) (LeftAt after) from to torn (omega arith) wrote (moments_none middle after to torn same order_middle image_middle)

    -- both were done
    pub went_through : (end : ℕ) (after : DiskState) → IsImage middle.doubt middle.seen → after ≡ did Sync end middle → to < end → end ≡ next to → Moments (LeftAt before) (LeftAt after) from torn
    went_through end after seen synced later next_beat =
        moments_then (LeftAt before) (LeftAt middle) (LeftAt after) from to torn (omega arith) wrote
        (moments_did Sync to end middle after torn synced later next_beat image_middle
        (λ image is. subst torn (sym (settled_image middle.seen image (subst (λ (state : DiskState). IsImage state.doubt image) synced is))) (image_middle middle.seen seen)))
