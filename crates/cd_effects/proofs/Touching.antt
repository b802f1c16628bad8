-- What a crash leaves of the files while an effect is done.
use Rattle.std.proofs.Common.{◌≡◌, inl, inr, ⊎_elim, ℕ, ◌<◌, ◌≤◌, subst}
use Rattle.cd_outside.specs.Counts.{next}
use Rattle.cd_outside.specs.Shelf.{FileMap, FileChange, WriteFile, CutFile, SyncFile, RemoveFile, Shelf, within, IsShelfImage}
use Rattle.cd_outside.specs.Files.{FilesState, files_last_of, FilesLeftAt, files_did, FilesWereCutOff}
use Rattle.cd_outside.specs.Moments.{Moments}
use Rattle.cd_outside.proofs.FilesRuns.{files_moments_none, files_moments_did, files_moments_begun}
use Rattle.cd_protocol.specs.Node.{Effect, Touch}
use Rattle.cd_effects.specs.Calls.{IsBeforeOrAfter}

-- what is in doubt while a change is under way was before it, or is after it
pub within_image : (change : FileChange) (shelf : Shelf) (image : FileMap) → IsShelfImage (within change shelf) image → IsBeforeOrAfter (Touch change) shelf image
within_image (WriteFile name at bytes) shelf image left = inr left
within_image (CutFile name len) shelf image left = inr left
within_image (SyncFile name) shelf image left = inl left
within_image (RemoveFile name) shelf image left = inr left

-- nothing was done
pub touched_none : (effect : Effect) (before after : FilesState) (from : ℕ) → after ≡ before → files_last_of before.calls ≤ from → Moments (FilesLeftAt before) (FilesLeftAt after) from (IsBeforeOrAfter effect before.shelf)
touched_none effect before after from same order = files_moments_none before after from (IsBeforeOrAfter effect before.shelf) same order (λ image left. inl left)

-- a change was done
pub touched_done : (change : FileChange) (before after : FilesState) (from to : ℕ) → after ≡ files_did change to before → from < to → to ≡ next from → Moments (FilesLeftAt before) (FilesLeftAt after) from (IsBeforeOrAfter (Touch change) before.shelf)
touched_done change before after from to is lt raised =
    files_moments_did change from to before after (IsBeforeOrAfter (Touch change) before.shelf) is lt raised (within_image change before.shelf)
    (λ image left. inr (subst (λ (s : FilesState). IsShelfImage s.shelf.doubt image) is left))

-- a change was cut off
pub touched_torn : (change : FileChange) (before after : FilesState) (from to : ℕ) → FilesWereCutOff change from to before after → to ≡ next from → files_last_of before.calls ≤ from → Moments (FilesLeftAt before) (FilesLeftAt after) from (IsBeforeOrAfter (Touch change) before.shelf)
touched_torn change before after from to cut raised order = ⊎_elim
    (λ same. touched_none (Touch change) before after from same order)
    (λ begun. files_moments_begun change from to before after (IsBeforeOrAfter (Touch change) before.shelf) begun.1 begun.0 raised (within_image change before.shelf))
    cut
