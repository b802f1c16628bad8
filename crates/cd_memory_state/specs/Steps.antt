-- The record of the calls of files, and the state that it leads to.
use Rattle.std.specs.Prelude.{ℕ, List, [], ◌∷◌, None}
use Rattle.cd_outside.specs.Shelf.{WriteFile, CutFile, SyncFile, RemoveFile}
use Rattle.cd_outside.specs.Files.{FilesState, files_at_first, files_did}
use Rattle.cd_memory_state.specs.Put.{files_put}
use Rattle.cd_memory_state.specs.declared.step.Change.{Change}
use Rattle.cd_memory_state.specs.declared.step.Change.TheVariants.{Written, Resized, Synced, Removed, Filled}
use Rattle.cd_memory_state.specs.declared.step.Step.{Step}

-- the state after a call on a name, which had these bytes
abbrev pub applied : Change → ℕ → List ℕ → List ℕ → FilesState → FilesState
applied (Written at) beat name bytes state = files_did (WriteFile name at bytes) beat state
applied (Resized len) beat name bytes state = files_did (CutFile name len) beat state
applied Synced beat name bytes state = files_did (SyncFile name) beat state
applied Removed beat name bytes state = files_did (RemoveFile name) beat state
applied Filled beat name bytes state = files_put name bytes state

-- the state after these calls, the oldest first, each of which has the next name and the next bytes
abbrev pub stepped : List Step → List (List ℕ) → List (List ℕ) → FilesState → FilesState
stepped [] names bytes state = state
stepped (step ∷ steps) [] bytes state = state
stepped (step ∷ steps) (name ∷ names) [] state = state
stepped (step ∷ steps) (name ∷ names) (own ∷ bytes) state = stepped steps names bytes (applied step.change step.beat name own state)

-- no files, and no call so far
abbrev pub no_files : FilesState
no_files = files_at_first (λ name. None)
