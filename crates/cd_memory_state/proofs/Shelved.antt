-- The state of slots with a record, after a call.
use Rattle.std.proofs.Common.{◌≡◌, ℕ, Bool, true, false, List, [], ◌∷◌, ◌++◌, drop, get_or, refl, sym, ◌∙◌, ap, subst, arith}
use Rattle.std.proofs.Math.ListN.{set}
use Rattle.std.specs.Prelude.{Option, Some, None, map, reverse, if◌then◌else◌}
use Rattle.std.specs.Str.{bytes_eq}
use Rattle.std.proofs.lemmas.List.{reverse-append}
use Rattle.std.proofs.lemmas.Slice.Eq.{bytes_eq-Decides}
use Rattle.cd_outside.specs.Shelf.{FileDoubt, Shelf, WriteFile, CutFile, SyncFile, RemoveFile, put, settled_file, file_doubt_within, IsFileImage, IsShelfImage}
use Rattle.cd_outside.proofs.Images.{settled_is_image}
use Rattle.cd_outside.specs.Files.{FilesState, files_at_first, files_did}
use Rattle.cd_memory_state.specs.FileImage.{file_left_by, shelf_left_by}
use Rattle.cd_memory_state.specs.Put.{files_put}
use Rattle.cd_memory_state.specs.Held.{FileHeld, SlotHeld, held_under, held_settled, held_after, shelf_of}
use Rattle.cd_memory_state.specs.Past.{base_before, ranges_before, doubt_before, doubts_before, doubts_within, calls_of, state_of, IsEntry}
use Rattle.cd_memory_state.specs.Left.{left_slot}
use Rattle.cd_memory_state.specs.Marks.{AreMarks}
use Rattle.cd_memory_state.specs.Place.{IsPlace}
use Rattle.cd_memory_state.specs.Sound.{IsSound, AreSound}
use Rattle.cd_memory_state.specs.declared.marks.Marks.{Marks}
use Rattle.cd_memory_state.specs.declared.past.Past.{Past}
use Rattle.cd_memory_state.specs.declared.past.Undo.{Undo}
use Rattle.cd_memory_state.specs.declared.past.Undo.TheVariants.{Wrote, Resized}
use Rattle.cd_memory_state.proofs.FileImages.{file_left_by_is}
use Rattle.cd_memory_state.proofs.Slots.{bytes_eq_self, held_at, name_at, held_set, held_same, sound_set, held_left}

-- the slots hold the same under each name
pub same_state : (slots slots2 : List SlotHeld) (record_of : List Past) → ((name : List ℕ) → held_under slots2 name ≡ held_under slots name) → state_of slots2 record_of ≡ state_of slots record_of
same_state slots slots2 record_of same =
    let shelf : shelf_of slots2 ≡ shelf_of slots = λ i. record { seen = λ name. (same name i).seen; doubt = λ name. (same name i).doubt } in
    ap (λ (s : Shelf). let state : FilesState = record { shelf = s; calls = calls_of (reverse record_of) s.doubt } in state) shelf

module _ (slots slots2 : List SlotHeld) (name : List ℕ) (file : FileHeld) (only : (other : List ℕ) → held_under slots2 other ≡ (if bytes_eq name other then file else held_under slots other)) where
  seen_if : (b : Bool) (x y : FileHeld) → (if b then x else y).seen ≡ (if b then x.seen else y.seen)
  seen_if true x y = refl
  seen_if false x y = refl

  doubt_if : (b : Bool) (x y : FileHeld) → (if b then x else y).doubt ≡ (if b then x.doubt else y.doubt)
  doubt_if true x y = refl
  doubt_if false x y = refl

  -- the name alone was changed
  pub seen_put : (shelf_of slots2).seen ≡ put name file.seen (shelf_of slots).seen
  seen_put = λ i other. (ap (λ (f : FileHeld). f.seen) (only other) ∙ seen_if (bytes_eq name other) file (held_under slots other)) i

  pub doubt_put : (shelf_of slots2).doubt ≡ put name file.doubt (shelf_of slots).doubt
  doubt_put = λ i other. (ap (λ (f : FileHeld). f.doubt) (only other) ∙ doubt_if (bytes_eq name other) file (held_under slots other)) i

-- what was put under a name is undone
put_back : (name : List ℕ) (new old : FileDoubt) (doubts : List ℕ → FileDoubt) → old ≡ doubts name → put name old (put name new doubts) ≡ doubts
put_back name new old doubts is = λ i other. back (bytes_eq name other) other refl i
  where
    back : (b : Bool) (other : List ℕ) → bytes_eq name other ≡ b → (if b then old else (if b then new else doubts other)) ≡ doubts other
    back true other e = is ∙ ap doubts ((bytes_eq-Decides name other).0 e)
    back false other e = refl

-- an entry of the record leads back to what was in doubt before its call
pub undone : (entry : Past) (name : List ℕ) (new : FileDoubt) (doubts after : List ℕ → FileDoubt) → entry.name.items ≡ name → after ≡ put name new doubts → doubt_before entry new ≡ doubts name → doubts_before entry after ≡ doubts
undone entry name new doubts after name_is after_is back =
    (λ i. put (name_is i) (doubt_before entry (after_is i (name_is i))) (after_is i))
    ∙ ap (λ (d : FileDoubt). put name (doubt_before entry d) (put name new doubts)) own
    ∙ put_back name new (doubt_before entry new) doubts back
  where
    own : put name new doubts name ≡ new
    own = rw (bytes_eq_self name) refl

-- the calls of a record with one entry more
pub calls_push : (record_of record2 : List Past) (entry : Past) (now before : List ℕ → FileDoubt) → record2 ≡ record_of ++ entry ∷ [] → doubts_before entry now ≡ before
    → calls_of (reverse record2) now ≡ (record { beat = entry.beat; before = before; within = doubts_within entry.undo before now }) ∷ calls_of (reverse record_of) before
calls_push record_of record2 entry now before pushed back =
    ap (λ (r : List Past). calls_of (reverse r) now) pushed
    ∙ ap (λ (r : List Past). calls_of r now) (reverse-append record_of (entry ∷ []))
    ∙ ap (λ (d : List ℕ → FileDoubt). (record { beat = entry.beat; before = d; within = doubts_within entry.undo d now }) ∷ calls_of (reverse record_of) d) back

-- the state once a file was put under a name, with a call
abbrev pub put_state : List SlotHeld → List Past → List ℕ → ℕ → Undo → FileHeld → FilesState
put_state slots record_of name beat undo file = record {
  shelf = record { seen = put name file.seen (shelf_of slots).seen; doubt = put name file.doubt (shelf_of slots).doubt };
  calls = (record { beat = beat; before = (shelf_of slots).doubt; within = doubts_within undo (shelf_of slots).doubt (put name file.doubt (shelf_of slots).doubt) }) ∷ calls_of (reverse record_of) (shelf_of slots).doubt;
}

module _ (slots slots2 : List SlotHeld) (record_of record2 : List Past) (name : List ℕ) (entry : Past) (file : FileHeld) where
  pub did_put : ((other : List ℕ) → held_under slots2 other ≡ (if bytes_eq name other then file else held_under slots other)) → record2 ≡ record_of ++ entry ∷ [] → entry.name.items ≡ name → doubt_before entry file.doubt ≡ (held_under slots name).doubt
      → state_of slots2 record2 ≡ put_state slots record_of name entry.beat entry.undo file
  did_put only pushed name_is back =
      let doubts = (shelf_of slots).doubt in
      let now = (shelf_of slots2).doubt in
      let now_is = doubt_put slots slots2 name file only in
      let calls = calls_push record_of record2 entry now doubts pushed (undone entry name file.doubt doubts now name_is now_is back) in
      λ i. record {
        shelf = record { seen = seen_put slots slots2 name file only i; doubt = now_is i };
        calls = (calls ∙ ap (λ (d : List ℕ → FileDoubt). (record { beat = entry.beat; before = doubts; within = doubts_within entry.undo doubts d }) ∷ calls_of (reverse record_of) doubts) now_is) i;
      }

-- a file put under its own name changes nothing
put_own : (name : List ℕ) (files : List ℕ → Option (List ℕ)) → put name (files name) files ≡ files
put_own name files = λ i other. own (bytes_eq name other) other refl i
  where
    own : (b : Bool) (other : List ℕ) → bytes_eq name other ≡ b → (if b then files name else files other) ≡ files other
    own true other e = ap files ((bytes_eq-Decides name other).0 e)
    own false other e = refl

-- A slot was changed at the place of its name, and an entry for the call was added to the record.
module _ (slots : List SlotHeld) (name : List ℕ) (i : ℕ) (old new : SlotHeld) (at : IsPlace slots name i) (was : old ≡ get_or slots i old) (name_is : new.name ≡ old.name) where
  new_name : new.name ≡ name
  new_name = name_is ∙ ap (λ (s : SlotHeld). s.name) was ∙ name_at slots name i old at

  old_file : old.file ≡ held_under slots name
  old_file = ap (λ (s : SlotHeld). s.file) was ∙ held_at slots name i old at

  pub sound_after : IsSound new.file → AreSound slots → AreSound (set slots i new)
  sound_after is_sound sound = sound_set slots name i new at new_name is_sound sound

  -- its file was left as it was
  pub state_kept : (record_of : List Past) (before : FilesState) → new.file ≡ old.file → state_of slots record_of ≡ before → state_of (set slots i new) record_of ≡ before
  state_kept record_of before same state = same_state slots (set slots i new) record_of (held_same slots name i new at new_name (same ∙ old_file)) ∙ state

  module _ (record_of record2 : List Past) (before : FilesState) (state : state_of slots record_of ≡ before) (beat : ℕ) (kept : List ℕ) (kept_is : kept ≡ name) (marks : Marks) (undo : Undo) (entry : Past) (is_entry : IsEntry beat kept marks undo entry) (are_marks : AreMarks marks old.file.doubt) (pushed : record2 ≡ record_of ++ entry ∷ []) where
    -- the entry leads back to what was in doubt
    led_back : base_before undo new.file.doubt.bytes ≡ old.file.doubt.bytes.base → ranges_before undo new.file.doubt.bytes ≡ old.file.doubt.bytes.ranges → doubt_before entry new.file.doubt ≡ (held_under slots name).doubt
    led_back base ranges =
        (λ j. record {
          there = (is_entry.there ∙ are_marks.there) j;
          moved = (is_entry.moved ∙ are_marks.moved) j;
          bytes = record {
            base = (ap (λ (u : Undo). base_before u new.file.doubt.bytes) is_entry.undo_is ∙ base) j;
            ranges = (ap (λ (u : Undo). ranges_before u new.file.doubt.bytes) is_entry.undo_is ∙ ranges) j;
            least = (is_entry.least ∙ are_marks.least) j;
            greatest = (is_entry.greatest ∙ are_marks.greatest) j;
          };
        }) ∙ ap (λ (f : FileHeld). f.doubt) old_file

    pub state_after : base_before undo new.file.doubt.bytes ≡ old.file.doubt.bytes.base → ranges_before undo new.file.doubt.bytes ≡ old.file.doubt.bytes.ranges → state_of (set slots i new) record2 ≡ put_state slots record_of name beat undo new.file
    state_after base ranges =
        did_put slots (set slots i new) record_of record2 name entry new.file (held_set slots name i new at new_name) pushed (is_entry.name_is ∙ kept_is) (led_back base ranges)
        ∙ (λ j. put_state slots record_of name (is_entry.beat_is j) (is_entry.undo_is j) new.file)

    pub wrote : (place : ℕ) (bytes : List ℕ) → undo ≡ Wrote → new.file ≡ held_after (WriteFile old.name place bytes) old.file → state_of (set slots i new) record2 ≡ files_did (WriteFile name place bytes) beat before
    wrote place bytes kind file =
        state_after (ap (λ (u : Undo). base_before u new.file.doubt.bytes) kind ∙ ap (λ (f : FileHeld). f.doubt.bytes.base) file) (ap (λ (u : Undo). ranges_before u new.file.doubt.bytes) kind ∙ ap (λ (f : FileHeld). drop 1 f.doubt.bytes.ranges) file)
        ∙ (λ j. put_state slots record_of name beat (kind j) ((file ∙ ap (held_after (WriteFile name place bytes)) old_file) j))
        ∙ ap (files_did (WriteFile name place bytes) beat) state

    pub was_cut : (len : ℕ) → undo ≡ Resized → new.file ≡ held_after (CutFile old.name len) old.file → state_of (set slots i new) record2 ≡ files_did (CutFile name len) beat before
    was_cut len kind file =
        state_after (ap (λ (u : Undo). base_before u new.file.doubt.bytes) kind ∙ ap (λ (f : FileHeld). f.doubt.bytes.base) file) (ap (λ (u : Undo). ranges_before u new.file.doubt.bytes) kind ∙ ap (λ (f : FileHeld). f.doubt.bytes.ranges) file)
        ∙ (λ j. put_state slots record_of name beat (kind j) ((file ∙ ap (held_after (CutFile name len)) old_file) j))
        ∙ ap (files_did (CutFile name len) beat) state

    pub removed : undo ≡ Resized → new.file ≡ held_after (RemoveFile old.name) old.file → state_of (set slots i new) record2 ≡ files_did (RemoveFile name) beat before
    removed kind file =
        state_after (ap (λ (u : Undo). base_before u new.file.doubt.bytes) kind ∙ ap (λ (f : FileHeld). f.doubt.bytes.base) file ∙ removed_base old.file.seen) (ap (λ (u : Undo). ranges_before u new.file.doubt.bytes) kind ∙ ap (λ (f : FileHeld). f.doubt.bytes.ranges) file ∙ removed_ranges old.file.seen)
        ∙ (λ j. put_state slots record_of name beat (kind j) ((file ∙ ap (held_after (RemoveFile name)) old_file) j))
        ∙ ap (files_did (RemoveFile name) beat) state
      where
        removed_base : (seen : Option (List ℕ)) → (file_doubt_within (RemoveFile name) seen old.file.doubt).bytes.base ≡ old.file.doubt.bytes.base
        removed_base None = refl
        removed_base (Some bytes) = refl

        removed_ranges : (seen : Option (List ℕ)) → (file_doubt_within (RemoveFile name) seen old.file.doubt).bytes.ranges ≡ old.file.doubt.bytes.ranges
        removed_ranges None = refl
        removed_ranges (Some bytes) = refl

    pub synced : ((a b : List ℕ → FileDoubt) → doubts_within undo a b ≡ a) → base_before undo new.file.doubt.bytes ≡ old.file.doubt.bytes.base → ranges_before undo new.file.doubt.bytes ≡ old.file.doubt.bytes.ranges → new.file ≡ held_settled old.file.seen → state_of (set slots i new) record2 ≡ files_did (SyncFile name) beat before
    synced kind base ranges file =
        state_after base ranges
        ∙ ap (put_state slots record_of name beat undo) (file ∙ ap (λ (f : FileHeld). held_settled f.seen) old_file)
        ∙ (λ j. record {
          shelf = record { seen = put_own name (shelf_of slots).seen j; doubt = put name (settled_file ((held_under slots name).seen)) (shelf_of slots).doubt };
          calls = (record { beat = beat; before = (shelf_of slots).doubt; within = kind (shelf_of slots).doubt (put name (settled_file ((held_under slots name).seen)) (shelf_of slots).doubt) j }) ∷ calls_of (reverse record_of) (shelf_of slots).doubt;
        })
        ∙ ap (files_did (SyncFile name) beat) state

  -- bytes were put under the name, and the record was forgotten
  pub put_there : (bytes : List ℕ) (before : FilesState) (record_of : List Past) (none : List Past) → none ≡ [] → new.file ≡ held_settled (Some bytes) → state_of slots record_of ≡ before → state_of (set slots i new) none ≡ files_put name bytes before
  put_there bytes before record_of none forgotten file state =
      let only = held_set slots name i new at new_name in
      (λ j. record {
        shelf = record { seen = seen_put slots (set slots i new) name new.file only j; doubt = doubt_put slots (set slots i new) name new.file only j };
        calls = ap (λ (r : List Past). calls_of (reverse r) (shelf_of (set slots i new)).doubt) forgotten j;
      })
      ∙ ap (λ (f : FileHeld). put_of f) file
      ∙ ap (files_put name bytes) state
    where
      put_of : FileHeld → FilesState
      put_of f = record { shelf = record { seen = put name f.seen (shelf_of slots).seen; doubt = put name f.doubt (shelf_of slots).doubt }; calls = [] }

-- a settled file is sound
settled_sound : (file : Option (List ℕ)) → IsSound (held_settled file)
settled_sound None = record { image = refl; base_from = omega arith; base_to = omega arith }
settled_sound (Some bytes) = record { image = (refl, settled_is_image bytes); base_from = omega arith; base_to = omega arith }

-- a crash left an image of all slots, and the record was forgotten
module _ (image : ℕ) (slots slots2 : List SlotHeld) (left : slots2 ≡ map (left_slot image) slots) where
  pub sound_left : AreSound slots2
  sound_left name = subst IsSound (sym (ap (λ (l : List SlotHeld). held_under l name) left ∙ held_left image slots name)) (settled_sound (file_left_by image (held_under slots name).doubt (held_under slots name).seen))

  pub state_left : (none : List Past) → none ≡ [] → state_of slots2 none ≡ files_at_first (shelf_left_by image (shelf_of slots))
  state_left none forgotten =
      let held : (name : List ℕ) → held_under slots2 name ≡ held_settled (file_left_by image (held_under slots name).doubt (held_under slots name).seen) = λ name. ap (λ (l : List SlotHeld). held_under l name) left ∙ held_left image slots name in
      λ j. record {
        shelf = record { seen = λ name. (held name j).seen; doubt = λ name. (held name j).doubt };
        calls = ap (λ (r : List Past). calls_of (reverse r) (shelf_of slots2).doubt) forgotten j;
      }

  pub image_left : AreSound slots → IsShelfImage (shelf_of slots).doubt (shelf_of slots2).seen
  image_left sound name =
      let s = sound name in
      subst (λ (f : FileHeld). IsFileImage (held_under slots name).doubt f.seen) (sym (ap (λ (l : List SlotHeld). held_under l name) left ∙ held_left image slots name))
      (file_left_by_is image (held_under slots name).doubt (held_under slots name).seen s.image s.base_from s.base_to)
