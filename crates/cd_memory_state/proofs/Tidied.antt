-- What a read gives of each name of a log may be left by a crash.
use Rattle.std.proofs.Common.{◌≡◌, ℕ, Bool, true, false, ◌||◌, List, [], ◌∷◌, Some, None, length, refl, sym, ◌∙◌, ap, subst, arith}
use Rattle.std.specs.Prelude.{Option, is_some, is_none, not, IsTrue, if◌then◌else◌}
use Rattle.std.specs.Str.{bytes_eq}
use Rattle.std.proofs.lemmas.Bool.{false≢true}
use Rattle.std.proofs.lemmas.List.{nil_from_length}
use Rattle.std.proofs.lemmas.Slice.Eq.{bytes_eq-Decides}
use Rattle.cd_outside.specs.Content.{resized}
use Rattle.cd_outside.specs.Doubt.{Doubt, IsImage}
use Rattle.cd_outside.specs.Disk.{DiskState, Cut, did, doubt_within}
use Rattle.cd_outside.specs.Files.{FilesState}
use Rattle.cd_outside.specs.Shelf.{FileDoubt, Shelf, WriteFile, CutFile, RemoveFile, FileChange, content_of, file_after, file_doubt_within, settled_file, IsFileImage}
use Rattle.cd_outside.proofs.Contents.{length-resized}
use Rattle.cd_outside.proofs.Images.{settled_is_image}
use Rattle.cd_memory_state.specs.Log.{log_state}
use Rattle.cd_memory_state.specs.Steps.{applied, stepped, no_files}
use Rattle.cd_memory_state.specs.declared.log.Log.{Log}
use Rattle.cd_memory_state.specs.declared.step.Change.{Change}
use Rattle.cd_memory_state.specs.declared.step.Change.TheVariants.{Written, Resized, Synced, Removed, Filled}
use Rattle.cd_memory_state.specs.declared.step.Step.{Step}
use Rattle.cd_memory_state.proofs.Kept.{cut_is_image}
use Rattle.cd_memory_state.proofs.Written.{write_image}

-- a missing file counts as one without bytes
record IsClear (doubt : FileDoubt) (file : Option (List ℕ)) : Type 0 where
  image : IsImage doubt.bytes (content_of file)
  still : doubt.moved ≡ false → doubt.there ≡ is_some file

clear_image : (doubt : FileDoubt) (file : Option (List ℕ)) → IsClear doubt file → IsFileImage doubt file
clear_image doubt None clear = cases doubt.moved doubt.there clear.still
  where
    cases : (m t : Bool) → (m ≡ false → t ≡ false) → IsTrue (m || not t)
    cases true t still = refl
    cases false t still = ap not (still refl)
clear_image doubt (Some bytes) clear = (cases doubt.moved doubt.there clear.still, clear.image)
  where
    cases : (m t : Bool) → (m ≡ false → t ≡ true) → IsTrue (m || t)
    cases true t still = refl
    cases false t still = still refl

made : (m t : Bool) (file : Option (List ℕ)) → (m ≡ false → t ≡ is_some file) → (m || is_none file) ≡ false → t ≡ true
made true t file still is = absurd (false≢true (sym is))
made false t None still is = absurd (false≢true (sym is))
made false t (Some bytes) still is = still refl

cut_image : (len : ℕ) (doubt : Doubt) (bytes : List ℕ) → IsImage doubt bytes → IsImage (doubt_within (Cut len) doubt) (resized len bytes)
cut_image len doubt bytes image =
    let state : DiskState = record { seen = bytes; doubt = doubt; calls = [] } in
    cut_is_image len 0 state (did (Cut len) 0 state) refl image

settled_clear : (file : Option (List ℕ)) → IsClear (settled_file file) file
settled_clear None = record { image = settled_is_image []; still = λ _. refl }
settled_clear (Some bytes) = record { image = settled_is_image bytes; still = λ _. refl }

write_clear : (name : List ℕ) (at : ℕ) (bytes : List ℕ) (doubt : FileDoubt) (file : Option (List ℕ)) → IsClear doubt file → IsClear (file_doubt_within (WriteFile name at bytes) file doubt) (file_after (WriteFile name at bytes) file)
write_clear name at bytes doubt file clear = record { image = write_image at bytes doubt.bytes (content_of file) clear.image; still = made doubt.moved doubt.there file clear.still }

cut_clear : (name : List ℕ) (len : ℕ) (doubt : FileDoubt) (file : Option (List ℕ)) → IsClear doubt file → IsClear (file_doubt_within (CutFile name len) file doubt) (file_after (CutFile name len) file)
cut_clear name len doubt file clear = record { image = cut_image len doubt.bytes (content_of file) clear.image; still = made doubt.moved doubt.there file clear.still }

remove_clear : (name : List ℕ) (doubt : FileDoubt) (file : Option (List ℕ)) → IsClear doubt file → IsClear (file_doubt_within (RemoveFile name) file doubt) (file_after (RemoveFile name) file)
remove_clear name doubt None clear = clear
remove_clear name doubt (Some bytes) clear =
    let none : resized 0 bytes ≡ [] = nil_from_length (resized 0 bytes) (length-resized 0 bytes) in
    record { image = subst (IsImage (doubt_within (Cut 0) doubt.bytes)) none (cut_image 0 doubt.bytes bytes clear.image); still = λ is. absurd (false≢true (sym is)) }

abbrev AreClear : FilesState → Type 0
AreClear state = (name : List ℕ) → IsClear (state.shelf.doubt name) (state.shelf.seen name)

either : (t : Bool) (d1 d2 : FileDoubt) (f1 f2 : Option (List ℕ)) → IsClear d1 f1 → IsClear d2 f2 → IsClear (if t then d1 else d2) (if t then f1 else f2)
either true d1 d2 f1 f2 one two = one
either false d1 d2 f1 f2 one two = two

same_file : (state : FilesState) (name other : List ℕ) (t : Bool) → bytes_eq name other ≡ t → AreClear state → IsClear (if t then settled_file (state.shelf.seen name) else state.shelf.doubt other) (state.shelf.seen other)
same_file state name other true is clear = subst (λ (n : List ℕ). IsClear (settled_file (state.shelf.seen name)) (state.shelf.seen n)) ((bytes_eq-Decides name other).0 is) (settled_clear (state.shelf.seen name))
same_file state name other false is clear = clear other

applied_clear : (change : Change) (beat : ℕ) (name bytes : List ℕ) (state : FilesState) → AreClear state → AreClear (applied change beat name bytes state)
applied_clear (Written at) beat name bytes state clear other = either (bytes_eq name other) _ _ _ _ (write_clear name at bytes (state.shelf.doubt name) (state.shelf.seen name) (clear name)) (clear other)
applied_clear (Resized len) beat name bytes state clear other = either (bytes_eq name other) _ _ _ _ (cut_clear name len (state.shelf.doubt name) (state.shelf.seen name) (clear name)) (clear other)
applied_clear Synced beat name bytes state clear other = same_file state name other (bytes_eq name other) refl clear
applied_clear Removed beat name bytes state clear other = either (bytes_eq name other) _ _ _ _ (remove_clear name (state.shelf.doubt name) (state.shelf.seen name) (clear name)) (clear other)
applied_clear Filled beat name bytes state clear other = either (bytes_eq name other) _ _ _ _ (settled_clear (Some bytes)) (clear other)

stepped_clear : (steps : List Step) (names bytes : List (List ℕ)) (state : FilesState) → AreClear state → AreClear (stepped steps names bytes state)
stepped_clear [] names bytes state clear = clear
stepped_clear (step ∷ steps) [] bytes state clear = clear
stepped_clear (step ∷ steps) (name ∷ names) [] state clear = clear
stepped_clear (step ∷ steps) (name ∷ names) (own ∷ bytes) state clear = stepped_clear steps names bytes (applied step.change step.beat name own state) (applied_clear step.change step.beat name own state clear)

pub log_image : (log : Log) (name : List ℕ) → IsFileImage ((log_state log).shelf.doubt name) ((log_state log).shelf.seen name)
log_image log name = clear_image _ _ (stepped_clear log.steps.items log.names.items log.bytes.items no_files (λ name. settled_clear None) name)
