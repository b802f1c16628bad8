-- Slots in the order of their names.
use Rattle.std.proofs.Common.{◌≡◌, ℕ, ◌+◌, ◌<◌, ◌≤◌, zero, suc, Bool, true, false, ◌&&◌, ◌||◌, List, [], ◌∷◌, ◌++◌, length, get_or, Some, None, refl, sym, ◌∙◌, ap, subst, arith}
use Rattle.std.proofs.Math.ListN.{set}
use Rattle.std.specs.Prelude.{Option, is_some, if◌then◌else◌, map}
use Rattle.std.specs.Str.{bytes_eq}
use Rattle.std.specs.List.{insert}
use Rattle.std.proofs.lemmas.Bool.{and_parts, and_from, false≢true}
use Rattle.std.proofs.lemmas.Slice.Eq.{bytes_eq-Decides}
use Rattle.cd_outside.specs.Shelf.{FileMap}
use Rattle.cd_memory_state.specs.Held.{FileHeld, SlotHeld, held_under, shelf_of}
use Rattle.cd_memory_state.specs.Left.{left_slot}
use Rattle.cd_memory_state.specs.Names.{is_before, is_before_all, are_ascending, has_name, gap_from, AreNames}
use Rattle.cd_memory_state.specs.Place.{IsPlace}
use Rattle.cd_memory_state.specs.There.{names_of, names_there}
use Rattle.cd_memory_state.proofs.Named.{apart_all, ascending-insert}
use Rattle.cd_memory_state.proofs.Slots.{IsAbsent}

-- a slot was changed, but for its name
pub names-set : (slots : List SlotHeld) (i : ℕ) (old new : SlotHeld) → old ≡ get_or slots i old → new.name ≡ old.name → names_of (set slots i new) ≡ names_of slots
names-set [] i old new was is = refl
names-set (slot ∷ slots) zero old new was is = ap (λ (n : List ℕ). n ∷ names_of slots) (is ∙ ap (λ (s : SlotHeld). s.name) was)
names-set (slot ∷ slots) (suc i) old new was is = ap (λ (l : List (List ℕ)). slot.name ∷ l) (names-set slots i old new was is)

pub sorted-set : (slots : List SlotHeld) (i : ℕ) (old new : SlotHeld) → old ≡ get_or slots i old → new.name ≡ old.name → are_ascending (names_of slots) ≡ true → are_ascending (names_of (set slots i new)) ≡ true
sorted-set slots i old new was is up = ap are_ascending (names-set slots i old new was is) ∙ up

names-insert : (slots : List SlotHeld) (i : ℕ) (new : SlotHeld) → names_of (insert slots i new) ≡ insert (names_of slots) i new.name
names-insert slots zero new = refl
names-insert [] (suc i) new = refl
names-insert (slot ∷ slots) (suc i) new = ap (λ (l : List (List ℕ)). slot.name ∷ l) (names-insert slots i new)

absent_name : (slots : List SlotHeld) (name : List ℕ) → IsAbsent slots name → has_name (names_of slots) name ≡ false
absent_name [] name absent = refl
absent_name (slot ∷ slots) name absent = (λ j. absent.0 j || absent_name slots name absent.1 j)

pub sorted-inserted : (slots items : List SlotHeld) (name : List ℕ) (done : Bool) (i : ℕ) (new : SlotHeld) → items ≡ (if done then insert slots i new else slots) → new.name ≡ name → IsAbsent slots name → i ≡ gap_from name 0 (names_of slots) → are_ascending (names_of slots) ≡ true → are_ascending (names_of items) ≡ true
sorted-inserted slots items name true i new is named absent gap up =
    ap (λ (l : List SlotHeld). are_ascending (names_of l)) is ∙ ap are_ascending (names-insert slots i new) ∙ ap (λ (n : List ℕ). are_ascending (insert (names_of slots) i n)) named
    ∙ ascending-insert name (names_of slots) i gap (absent_name slots name absent) up
sorted-inserted slots items name false i new is named absent gap up = ap (λ (l : List SlotHeld). are_ascending (names_of l)) is ∙ up

names-left : (image : ℕ) (slots : List SlotHeld) → names_of (map (left_slot image) slots) ≡ names_of slots
names-left image [] = refl
names-left image (slot ∷ slots) = ap (λ (l : List (List ℕ)). slot.name ∷ l) (names-left image slots)

pub sorted-left : (image : ℕ) (slots slots2 : List SlotHeld) → slots2 ≡ map (left_slot image) slots → are_ascending (names_of slots) ≡ true → are_ascending (names_of slots2) ≡ true
sorted-left image slots slots2 is up = ap (λ (l : List SlotHeld). are_ascending (names_of l)) is ∙ ap are_ascending (names-left image slots) ∙ up

-- the names that have a file
there_all : (name : List ℕ) (slots : List SlotHeld) → is_before_all name (names_of slots) ≡ true → is_before_all name (names_there slots) ≡ true
there_all name [] all = refl
there_all name (slot ∷ slots) all = cases (is_some slot.file.seen) (there_all name slots parts.1)
  where
    parts : (is_before name slot.name ≡ true) × (is_before_all name (names_of slots) ≡ true)
    parts = and_parts (is_before name slot.name) (is_before_all name (names_of slots)) all

    cases : (t : Bool) → is_before_all name (names_there slots) ≡ true → is_before_all name (if t then slot.name ∷ names_there slots else names_there slots) ≡ true
    cases true rest = and_from (is_before name slot.name) (is_before_all name (names_there slots)) parts.0 rest
    cases false rest = rest

there_up : (slots : List SlotHeld) → are_ascending (names_of slots) ≡ true → are_ascending (names_there slots) ≡ true
there_up [] up = refl
there_up (slot ∷ slots) up = cases (is_some slot.file.seen) (there_up slots parts.1)
  where
    parts : (is_before_all slot.name (names_of slots) ≡ true) × (are_ascending (names_of slots) ≡ true)
    parts = and_parts (is_before_all slot.name (names_of slots)) (are_ascending (names_of slots)) up

    cases : (t : Bool) → are_ascending (names_there slots) ≡ true → are_ascending (if t then slot.name ∷ names_there slots else names_there slots) ≡ true
    cases true rest = and_from (is_before_all slot.name (names_there slots)) (are_ascending (names_there slots)) (there_all slot.name slots parts.0) rest
    cases false rest = rest

there_none : (slots : List SlotHeld) (name : List ℕ) → has_name (names_of slots) name ≡ false → has_name (names_there slots) name ≡ false
there_none [] name none = refl
there_none (slot ∷ slots) name none = cases (bytes_eq slot.name name) refl none (there_none slots name)
  where
    cases : (b : Bool) → bytes_eq slot.name name ≡ b → (b || has_name (names_of slots) name) ≡ false → (has_name (names_of slots) name ≡ false → has_name (names_there slots) name ≡ false) → has_name (if is_some slot.file.seen then slot.name ∷ names_there slots else names_there slots) name ≡ false
    cases true is gone rest = absurd (false≢true (sym gone))
    cases false is gone rest = one (is_some slot.file.seen)
      where
        one : (t : Bool) → has_name (if t then slot.name ∷ names_there slots else names_there slots) name ≡ false
        one true = λ j. is j || rest gone j
        one false = rest gone

there_each : (slots : List SlotHeld) (name : List ℕ) → are_ascending (names_of slots) ≡ true → has_name (names_there slots) name ≡ is_some (held_under slots name).seen
there_each [] name up = refl
there_each (slot ∷ slots) name up = cases (bytes_eq slot.name name) refl (is_some slot.file.seen) refl (there_each slots name parts.1)
  where
    parts : (is_before_all slot.name (names_of slots) ≡ true) × (are_ascending (names_of slots) ≡ true)
    parts = and_parts (is_before_all slot.name (names_of slots)) (are_ascending (names_of slots)) up

    cases : (b : Bool) → bytes_eq slot.name name ≡ b → (t : Bool) → is_some slot.file.seen ≡ t → has_name (names_there slots) name ≡ is_some (held_under slots name).seen
        → has_name (if t then slot.name ∷ names_there slots else names_there slots) name ≡ is_some (if bytes_eq slot.name name then slot.file else held_under slots name).seen
    cases true is true there rest =
        (λ j. is j || has_name (names_there slots) name) ∙ sym (ap (λ (u : Bool). is_some (if u then slot.file else held_under slots name).seen) is ∙ there)
    cases true is false there rest =
        there_none slots name (subst (λ (n : List ℕ). has_name (names_of slots) n ≡ false) ((bytes_eq-Decides slot.name name).0 is) (apart_all slot.name (names_of slots) parts.0))
        ∙ sym (ap (λ (u : Bool). is_some (if u then slot.file else held_under slots name).seen) is ∙ there)
    cases false is true there rest =
        (λ j. is j || rest j) ∙ sym (ap (λ (u : Bool). is_some (if u then slot.file else held_under slots name).seen) is)
    cases false is false there rest = rest ∙ sym (ap (λ (u : Bool). is_some (if u then slot.file else held_under slots name).seen) is)

pub there_names : (slots : List SlotHeld) → are_ascending (names_of slots) ≡ true → AreNames (names_there slots) (shelf_of slots).seen
there_names slots up = record { ascending = there_up slots up; each = λ name. there_each slots name up }

pub name-at : (slots : List SlotHeld) (i : ℕ) (d : SlotHeld) → i < length slots → get_or (names_of slots) i [] ≡ (get_or slots i d).name
name-at [] i d lt = absurd (omega arith)
name-at (slot ∷ slots) zero d lt = refl
name-at (slot ∷ slots) (suc i) d lt = name-at slots i d (omega arith)
