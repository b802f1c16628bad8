-- What a crash leaves in the midst of a command.
use Rattle.std.proofs.Common.{◌≡◌, inl, ℕ, ◌≤◌, Bool, true, false, List, Option, Some, ap, subst, ◌∙◌}
use Rattle.std.proofs.lemmas.Bool.{false≢true}
use Rattle.cd_outside.specs.Doubt.{Doubt, IsImage}
use Rattle.cd_outside.specs.Disk.{DiskState, LeftAt, last_of}
use Rattle.cd_outside.specs.Moments.{Moments}
use Rattle.cd_outside.proofs.Images.{settled_image}
use Rattle.cd_outside.proofs.Runs.{moments_none, moments_weaker}
use Rattle.cd_journal.specs.Bytes.{list_of}
use Rattle.cd_entries.specs.declared.entry.Entry.{Entry}
use Rattle.cd_effects.specs.Registry.{RegistryState, IsRegistry, IsWithOrWithout}
use Rattle.cd_operator.specs.Doing.{added_by, if_allowed, MayLeave}
use Rattle.cd_operator.specs.declared.wanted.Recording.{Recording}

-- without a call of the disk: the entries as they are
pub still : (registry : RegistryState) (disk after : DiskState) (from : ℕ) (added : Option Entry) → IsRegistry registry disk → last_of disk.calls ≤ from → after ≡ disk
    → Moments (LeftAt disk) (LeftAt after) from (MayLeave added registry.entries)
still registry disk after from added is order same = moments_none disk after from (MayLeave added registry.entries) same order
    (λ image left. inl (ap list_of (settled_image disk.seen image (subst (λ (d : Doubt). IsImage d image) is.rests left)) ∙ is.list))

-- where the rules let the entry be recorded: with it or without it
pub kept_moments : (b : Bool) (r : Recording) (entries : List Entry) (first last : ℕ → List ℕ → Type 0) (from : ℕ) → b ≡ true
    → Moments first last from (IsWithOrWithout r.adds entries) → Moments first last from (MayLeave (added_by (if_allowed b r)) entries)
kept_moments true r entries first last from is run = moments_weaker first last from (IsWithOrWithout r.adds entries) (MayLeave (Some r.adds) entries) (λ image left. left) run
kept_moments false r entries first last from is run = absurd (false≢true is)
