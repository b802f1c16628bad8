-- The record of the changing calls of files: each entry undoes one call, so that the record leads back from what is in
-- doubt now to what was before.
use Rattle.std.specs.Prelude.{ℕ, ◌≡◌, List, [], ◌∷◌, drop, reverse}
use Rattle.cd_outside.specs.Doubt.{Doubt}
use Rattle.cd_outside.specs.Shelf.{FileDoubt, put}
use Rattle.cd_outside.specs.Files.{FilesCall, FilesState}
use Rattle.cd_memory_state.specs.Held.{SlotHeld, shelf_of}
use Rattle.cd_memory_state.specs.declared.marks.Marks.{Marks}
use Rattle.cd_memory_state.specs.declared.past.Past.{Past}
use Rattle.cd_memory_state.specs.declared.past.Undo.{Undo}
use Rattle.cd_memory_state.specs.declared.past.Undo.TheVariants.{Wrote, Resized, Synced}

-- the bytes of the sync before, and the ranges since then, before a call
abbrev pub base_before : Undo → Doubt → List ℕ
base_before Wrote after = after.base
base_before Resized after = after.base
base_before (Synced base ranges) after = base.items

abbrev pub ranges_before : Undo → Doubt → List (ℕ × ℕ)
ranges_before Wrote after = drop 1 after.ranges
ranges_before Resized after = after.ranges
ranges_before (Synced base ranges) after = reverse ranges.items

-- what was in doubt of its name before a call
abbrev pub doubt_before : Past → FileDoubt → FileDoubt
doubt_before past after = record {
  there = past.there;
  moved = past.moved;
  bytes = record { base = base_before past.undo after.bytes; ranges = ranges_before past.undo after.bytes; least = past.least; greatest = past.greatest };
}

-- what was in doubt of all names before a call
abbrev pub doubts_before : Past → (List ℕ → FileDoubt) → List ℕ → FileDoubt
doubts_before past after = put past.name.items (doubt_before past (after past.name.items)) after

-- and while it was under way: what is after it, but before a sync
abbrev pub doubts_within : Undo → (List ℕ → FileDoubt) → (List ℕ → FileDoubt) → List ℕ → FileDoubt
doubts_within Wrote before after = after
doubts_within Resized before after = after
doubts_within (Synced base ranges) before after = before

-- the calls of a record, the newest first, and what is in doubt now
abbrev pub calls_of : List Past → (List ℕ → FileDoubt) → List FilesCall
calls_of [] now = []
calls_of (past ∷ rest) now =
    (record { beat = past.beat; before = doubts_before past now; within = doubts_within past.undo (doubts_before past now) now }) ∷ calls_of rest (doubts_before past now)

-- the state of the slots with a record, the oldest call first
abbrev pub state_of : List SlotHeld → List Past → FilesState
state_of slots record_of = record { shelf = shelf_of slots; calls = calls_of (reverse record_of) (shelf_of slots).doubt }

-- an entry for a call on a name that had these marks
pub record IsEntry (beat : ℕ) (name : List ℕ) (marks : Marks) (undo : Undo) (past : Past) : Type 0 where
  pub beat_is : past.beat ≡ beat
  pub name_is : past.name.items ≡ name
  pub there : past.there ≡ marks.there
  pub moved : past.moved ≡ marks.moved
  pub least : past.least ≡ marks.least
  pub greatest : past.greatest ≡ marks.greatest
  pub undo_is : past.undo ≡ undo
