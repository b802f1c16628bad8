-- What files tell over time: their shelf, and the changing calls so far.
use Rattle.std.specs.Prelude.{ℕ, ◌<◌, ◌≡◌, ◌⊎◌, List, [], ◌∷◌, false, if◌then◌else◌, nat_lt, ◌==◌}
use Rattle.std.specs.Str.{bytes_eq}
use Rattle.cd_outside.specs.Shelf.{FileMap, FileDoubt, FileChange, name_of, Shelf, within, changed, settled_shelf, IsShelfImage}

-- a changing call of the past: the beat to which it raised, what was in doubt before it, and what was while it was
-- under way
pub record FilesCall : Type 0 where
  pub beat : ℕ
  pub before : List ℕ → FileDoubt
  pub within : List ℕ → FileDoubt

-- the shelf, and the changing calls so far, the newest first
pub record FilesState : Type 0 where
  pub shelf : Shelf
  pub calls : List FilesCall

-- these files, all of them settled, and no call so far
abbrev pub files_at_first : FileMap → FilesState
files_at_first files = record { shelf = settled_shelf files; calls = [] }

-- the beat of the newest call
abbrev pub files_last_of : List FilesCall → ℕ
files_last_of [] = 0
files_last_of (call ∷ calls) = call.beat

-- what was in doubt at a beat: what the call under way at it put in doubt, else what the last call before it left
abbrev pub files_doubt_of : (List ℕ → FileDoubt) → List FilesCall → ℕ → List ℕ → FileDoubt
files_doubt_of now [] beat = now
files_doubt_of now (call ∷ calls) beat =
    if nat_lt call.beat beat then now else if call.beat == beat then call.within else files_doubt_of call.before calls beat

-- a crash at that beat may have left these files
abbrev pub FilesLeftAt : FilesState → ℕ → FileMap → Type 0
FilesLeftAt state beat image = IsShelfImage (files_doubt_of state.shelf.doubt state.calls beat) image

-- the call of a change that raised to that beat
abbrev pub call_of : FileChange → ℕ → Shelf → FilesCall
call_of change beat shelf = record { beat = beat; before = shelf.doubt; within = within change shelf }

-- the state after a change that was done
abbrev pub files_did : FileChange → ℕ → FilesState → FilesState
files_did change beat state = record { shelf = changed change state.shelf; calls = call_of change beat state.shelf ∷ state.calls }

-- a change was begun and not finished: of its name a read gives something that is in doubt, and the same of the others
pub record FilesWereBegun (change : FileChange) (beat : ℕ) (before after : FilesState) : Type 0 where
  pub others : (other : List ℕ) → bytes_eq (name_of change) other ≡ false → after.shelf.seen other ≡ before.shelf.seen other
  pub doubt : after.shelf.doubt ≡ within change before.shelf
  pub calls : after.calls ≡ call_of change beat before.shelf ∷ before.calls

-- a changing call failed: nothing was changed, or the beat was raised and the change was begun
abbrev pub FilesWereCutOff : FileChange → ℕ → ℕ → FilesState → FilesState → Type 0
FilesWereCutOff change from to before after = (after ≡ before) ⊎ ((from < to) × FilesWereBegun change to before after)
