-- How the images of a node follow from those of its devices.
use Rattle.std.proofs.Common.{ℕ, ◌≤◌, List, subst, arith}
use Rattle.cd_outside.specs.Doubt.{Doubt, IsImage}
use Rattle.cd_outside.specs.Disk.{DiskState, last_of, LeftAt}
use Rattle.cd_outside.specs.Files.{FilesState, files_last_of, FilesLeftAt}
use Rattle.cd_outside.specs.Shelf.{FileMap, FileDoubt, IsShelfImage}
use Rattle.cd_outside.specs.Moments.{Moments}
use Rattle.cd_outside.proofs.Runs.{doubt_now}
use Rattle.cd_outside.proofs.FilesRuns.{files_doubt_now}
use Rattle.cd_effects.specs.Joint.{NodeImage, JointAt}

-- what each device leaves has a part of its own
pub record Both (journal_has : List ℕ → Type 0) (files_have : FileMap → Type 0) (image : NodeImage) : Type 0 where
  pub journal : journal_has image.journal
  pub files : files_have image.files

module _ (P : List ℕ → Type 0) (Q : FileMap → Type 0) where
  -- a run of the journal's disk, with the files as they were
  pub joint_disk : (before after : DiskState) (shelf : FilesState) (from : ℕ) → files_last_of shelf.calls ≤ from → ((image : FileMap) → IsShelfImage shelf.shelf.doubt image → Q image)
      → Moments (LeftAt before) (LeftAt after) from P → Moments (JointAt before shelf) (JointAt after shelf) from (Both P Q)
  joint_disk before after shelf from order has run = record {
    earlier = λ beat image le left. record { journal = run.earlier beat image.journal le left.journal; files = left.files };
    still = λ beat image le left. record { journal = run.still beat image.journal le left.journal; files = left.files };
    later = λ beat image lt left. record {
      journal = run.later beat image.journal lt left.journal;
      files = has image.files (subst (λ (doubt : List ℕ → FileDoubt). IsShelfImage doubt image.files) (files_doubt_now shelf.shelf.doubt shelf.calls beat (omega arith)) left.files);
    };
  }

  -- a run of the files, with the journal's disk as it was
  pub joint_files : (disk : DiskState) (before after : FilesState) (from : ℕ) → last_of disk.calls ≤ from → ((image : List ℕ) → IsImage disk.doubt image → P image)
      → Moments (FilesLeftAt before) (FilesLeftAt after) from Q → Moments (JointAt disk before) (JointAt disk after) from (Both P Q)
  joint_files disk before after from order has run = record {
    earlier = λ beat image le left. record { journal = left.journal; files = run.earlier beat image.files le left.files };
    still = λ beat image le left. record { journal = left.journal; files = run.still beat image.files le left.files };
    later = λ beat image lt left. record {
      journal = has image.journal (subst (λ (doubt : Doubt). IsImage doubt image.journal) (doubt_now disk.doubt disk.calls beat (omega arith)) left.journal);
      files = run.later beat image.files lt left.files;
    };
  }

  -- nothing was done, whatever the beat is now
  pub joint_none : (disk : DiskState) (shelf : FilesState) (from : ℕ) → last_of disk.calls ≤ from → files_last_of shelf.calls ≤ from → ((image : List ℕ) → IsImage disk.doubt image → P image) → ((image : FileMap) → IsShelfImage shelf.shelf.doubt image → Q image)
      → Moments (JointAt disk shelf) (JointAt disk shelf) from (Both P Q)
  joint_none disk shelf from disk_order files_order has have = record {
    earlier = λ beat image le left. left;
    still = λ beat image le left. left;
    later = λ beat image lt left. record {
      journal = has image.journal (subst (λ (doubt : Doubt). IsImage doubt image.journal) (doubt_now disk.doubt disk.calls beat (omega arith)) left.journal);
      files = have image.files (subst (λ (doubt : List ℕ → FileDoubt). IsShelfImage doubt image.files) (files_doubt_now shelf.shelf.doubt shelf.calls beat (omega arith)) left.files);
    };
  }
