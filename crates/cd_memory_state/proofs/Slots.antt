-- What is held under each name of a list of slots, after a slot was changed or a new one was put in.
use Rattle.std.proofs.Common.{length-drop, ◌≡◌, ℕ, ◌+◌, ◌≤◌, Bool, true, false, cond, List, [], ◌∷◌, ◌++◌, zero, suc, Some, None, length, get_or, take, drop, refl, sym, ◌∙◌, ap, subst, arith}
use Rattle.std.specs.Prelude.{if◌then◌else◌, map, ◌<◌}
use Rattle.std.specs.Str.{bytes_eq}
use Rattle.std.specs.List.{insert, position_from}
use Rattle.std.proofs.Math.ListN.{set}
use Rattle.std.proofs.lemmas.List.{append-nil, nil_from_length, take_all}
use Rattle.std.proofs.lemmas.Slice.Eq.{bytes_eq-Decides}
use Rattle.cd_memory_state.specs.FileImage.{file_left_by}
use Rattle.cd_memory_state.specs.Held.{FileHeld, SlotHeld, held_settled, held_under}
use Rattle.cd_memory_state.specs.Left.{left_slot}
use Rattle.cd_memory_state.specs.Place.{IsPlace}
use Rattle.cd_memory_state.specs.Sound.{IsSound, AreSound}

abbrev pub named : List ℕ → SlotHeld → Bool
named name slot = bytes_eq slot.name name

-- no slot has the name
abbrev pub IsAbsent : List SlotHeld → List ℕ → Type 0
IsAbsent [] name = Unit {0}
IsAbsent (slot ∷ slots) name = (bytes_eq slot.name name ≡ false) × IsAbsent slots name

found_cases : (slot : SlotHeld) (slots : List SlotHeld) (name : List ℕ) (n i : ℕ) (b : Bool) → bytes_eq slot.name name ≡ b → cond b (Some n) (position_from (named name) (n + 1) slots) ≡ Some i
    → (position_from (named name) (n + 1) slots ≡ Some i → (k : ℕ) × (i ≡ n + 1 + k) × IsPlace slots name k) → (k : ℕ) × (i ≡ n + k) × IsPlace (slot ∷ slots) name k
found_cases slot slots name n i true e is rest = let same : n ≡ i = cc in (zero, omega arith, e)
found_cases slot slots name n i false e is rest = let r = rest is in (suc r.0, omega (arith, r.1), (e, r.2))

found : (slots : List SlotHeld) (name : List ℕ) (n i : ℕ) → position_from (named name) n slots ≡ Some i → (k : ℕ) × (i ≡ n + k) × IsPlace slots name k
found [] name n i is = absurd cc
found (slot ∷ slots) name n i is = found_cases slot slots name n i (bytes_eq slot.name name) refl is (found slots name (n + 1) i)

pub place_is : (slots : List SlotHeld) (name : List ℕ) (i : ℕ) → position_from (named name) 0 slots ≡ Some i → IsPlace slots name i
place_is slots name i is = let r = found slots name 0 i is in let same : r.0 ≡ i = omega (arith, r.1) in subst (IsPlace slots name) same r.2

absent_cases : (slot : SlotHeld) (slots : List SlotHeld) (name : List ℕ) (n : ℕ) (b : Bool) → bytes_eq slot.name name ≡ b → cond b (Some n) (position_from (named name) (n + 1) slots) ≡ None
    → (position_from (named name) (n + 1) slots ≡ None → IsAbsent slots name) → IsAbsent (slot ∷ slots) name
absent_cases slot slots name n true e is rest = absurd cc
absent_cases slot slots name n false e is rest = (e, rest is)

pub absent_is : (slots : List SlotHeld) (name : List ℕ) (n : ℕ) → position_from (named name) n slots ≡ None → IsAbsent slots name
absent_is [] name n is = tt
absent_is (slot ∷ slots) name n is = absent_cases slot slots name n (bytes_eq slot.name name) refl is (absent_is slots name (n + 1))

same_name : (a b : List ℕ) → bytes_eq a b ≡ true → a ≡ b
same_name a b is = (bytes_eq-Decides a b).0 is

pub bytes_eq_self : (a : List ℕ) → bytes_eq a a ≡ true
bytes_eq_self a = (bytes_eq-Decides a a).1 refl

-- the slot at the place holds what is held under the name
pub held_at : (slots : List SlotHeld) (name : List ℕ) (i : ℕ) (d : SlotHeld) → IsPlace slots name i → (get_or slots i d).file ≡ held_under slots name
held_at [] name i d at = absurd at
held_at (slot ∷ slots) name zero d at = rw at refl
held_at (slot ∷ slots) name (suc i) d at = held_at slots name i d at.1 ∙ sym (rw at.0 refl)

pub name_at : (slots : List SlotHeld) (name : List ℕ) (i : ℕ) (d : SlotHeld) → IsPlace slots name i → (get_or slots i d).name ≡ name
name_at [] name i d at = absurd at
name_at (slot ∷ slots) name zero d at = same_name slot.name name at
name_at (slot ∷ slots) name (suc i) d at = name_at slots name i d at.1

pub held_absent : (slots : List SlotHeld) (name : List ℕ) → IsAbsent slots name → held_under slots name ≡ held_settled None
held_absent [] name absent = refl
held_absent (slot ∷ slots) name absent = rw absent.0 (held_absent slots name absent.1)

-- a slot was changed at the place of its name
pub held_set : (slots : List SlotHeld) (name : List ℕ) (i : ℕ) (new : SlotHeld) → IsPlace slots name i → new.name ≡ name → (other : List ℕ) → held_under (set slots i new) other ≡ (if bytes_eq name other then new.file else held_under slots other)
held_set [] name i new at is other = absurd at
held_set (slot ∷ slots) name zero new at is other =
    let was : slot.name ≡ name = same_name slot.name name at in
    (λ j. if bytes_eq (is j) other then new.file else held_under slots other)
    ∙ skipped (bytes_eq name other) new.file (held_under slots other) slot.file
    ∙ (λ j. if bytes_eq name other then new.file else (if bytes_eq (sym was j) other then slot.file else held_under slots other))
  where
    skipped : (b : Bool) (x y z : FileHeld) → (if b then x else y) ≡ (if b then x else (if b then z else y))
    skipped true x y z = refl
    skipped false x y z = refl
held_set (slot ∷ slots) name (suc i) new at is other =
    ap (λ (f : FileHeld). if bytes_eq slot.name other then slot.file else f) (held_set slots name i new at.1 is other)
    ∙ swapped (bytes_eq slot.name other) (bytes_eq name other) slot.file new.file (held_under slots other) (λ one two. apart (same_name slot.name other one ∙ sym (same_name name other two)))
  where
    apart : slot.name ≡ name → ⊥
    apart same = let t = (bytes_eq-Decides slot.name name).1 same in let f = at.0 in cc

    swapped : (a b : Bool) (x y z : FileHeld) → (a ≡ true → b ≡ true → ⊥) → (if a then x else (if b then y else z)) ≡ (if b then y else (if a then x else z))
    swapped true true x y z never = absurd (never refl refl)
    swapped true false x y z never = refl
    swapped false true x y z never = refl
    swapped false false x y z never = refl

front_cases : (slots : List SlotHeld) (new : SlotHeld) (other : List ℕ) (b : Bool) → bytes_eq new.name other ≡ b → IsAbsent slots new.name → new.file ≡ held_settled None → (if b then new.file else held_under slots other) ≡ held_under slots other
front_cases slots new other true e absent empty = empty ∙ sym (ap (held_under slots) (sym (same_name new.name other e)) ∙ held_absent slots new.name absent)
front_cases slots new other false e absent empty = refl

front : (slots : List SlotHeld) (new : SlotHeld) → IsAbsent slots new.name → new.file ≡ held_settled None → (other : List ℕ) → held_under (new ∷ slots) other ≡ held_under slots other
front slots new absent empty other = front_cases slots new other (bytes_eq new.name other) refl absent empty

-- a slot without a file was put in, whose name was absent
pub held_insert : (slots : List SlotHeld) (i : ℕ) (new : SlotHeld) → IsAbsent slots new.name → new.file ≡ held_settled None → (other : List ℕ) → held_under (insert slots i new) other ≡ held_under slots other
held_insert slots zero new absent empty other = front slots new absent empty other
held_insert [] (suc i) new absent empty other = front [] new absent empty other
held_insert (slot ∷ slots) (suc i) new absent empty other =
    ap (λ (f : FileHeld). if bytes_eq slot.name other then slot.file else f) (held_insert slots i new absent.1 empty other)

pub place_insert : (slots : List SlotHeld) (name : List ℕ) (i : ℕ) (new : SlotHeld) → IsAbsent slots name → new.name ≡ name → i ≤ length slots → IsPlace (insert slots i new) name i
place_insert slots name zero new absent is within = ap (λ (n : List ℕ). bytes_eq n name) is ∙ bytes_eq_self name
place_insert [] name (suc i) new absent is within = absurd (omega arith)
place_insert (slot ∷ slots) name (suc i) new absent is within = (absent.0, place_insert slots name i new absent.1 is (omega arith))

-- what is held stays sound
pub sound_set : (slots : List SlotHeld) (name : List ℕ) (i : ℕ) (new : SlotHeld) → IsPlace slots name i → new.name ≡ name → IsSound new.file → AreSound slots → AreSound (set slots i new)
sound_set slots name i new at is is_sound sound other =
    subst IsSound (sym (held_set slots name i new at is other)) (one (bytes_eq name other))
  where
    one : (b : Bool) → IsSound (if b then new.file else held_under slots other)
    one true = is_sound
    one false = sound other

pub sound_insert : (slots : List SlotHeld) (i : ℕ) (new : SlotHeld) → IsAbsent slots new.name → new.file ≡ held_settled None → AreSound slots → AreSound (insert slots i new)
sound_insert slots i new absent empty sound other = subst IsSound (sym (held_insert slots i new absent empty other)) (sound other)

pub sound_inserted : (slots items : List SlotHeld) (name : List ℕ) (done : Bool) (i : ℕ) (new : SlotHeld) → items ≡ (if done then insert slots i new else slots) → new.name ≡ name → IsAbsent slots name → new.file ≡ held_settled None → AreSound slots → AreSound items
sound_inserted slots items name true i new is name_is absent empty sound = subst AreSound (sym is) (sound_insert slots i new (subst (IsAbsent slots) (sym name_is) absent) empty sound)
sound_inserted slots items name false i new is name_is absent empty sound = subst AreSound (sym is) sound

-- the file of a name was left as it was
pub held_same : (slots : List SlotHeld) (name : List ℕ) (i : ℕ) (new : SlotHeld) → IsPlace slots name i → new.name ≡ name → new.file ≡ held_under slots name → (other : List ℕ) → held_under (set slots i new) other ≡ held_under slots other
held_same slots name i new at is file other = held_set slots name i new at is other ∙ same (bytes_eq name other) refl
  where
    same : (b : Bool) → bytes_eq name other ≡ b → (if b then new.file else held_under slots other) ≡ held_under slots other
    same true e = file ∙ ap (held_under slots) (same_name name other e)
    same false e = refl

none_left : (image : ℕ) → file_left_by image (held_settled None).doubt None ≡ None
none_left zero = refl
none_left (suc zero) = refl
none_left (suc (suc n)) = refl

pub held_left : (image : ℕ) (slots : List SlotHeld) (name : List ℕ) → held_under (map (left_slot image) slots) name ≡ held_settled (file_left_by image (held_under slots name).doubt (held_under slots name).seen)
held_left image [] name = sym (ap held_settled (none_left image))
held_left image (slot ∷ slots) name =
    ap (λ (f : FileHeld). if bytes_eq slot.name name then (left_slot image slot).file else f) (held_left image slots name) ∙ both (bytes_eq slot.name name)
  where
    both : (b : Bool) → (if b then held_settled (file_left_by image slot.file.doubt slot.file.seen) else held_settled (file_left_by image (held_under slots name).doubt (held_under slots name).seen)) ≡ held_settled (file_left_by image (if b then slot.file else held_under slots name).doubt (if b then slot.file else held_under slots name).seen)
    both true = refl
    both false = refl

-- one slot more
step : (image : ℕ) (slots : List SlotHeld) (i : ℕ) (d new : SlotHeld) → i < length slots → new ≡ left_slot image (get_or (map (left_slot image) (take i slots) ++ drop i slots) i d)
    → set (map (left_slot image) (take i slots) ++ drop i slots) i new ≡ map (left_slot image) (take (suc i) slots) ++ drop (suc i) slots
step image [] i d new lt is = absurd (omega arith)
step image (slot ∷ slots) zero d new lt is = ap (λ (s : SlotHeld). s ∷ slots) is
step image (slot ∷ slots) (suc i) d new lt is = ap (λ (l : List SlotHeld). left_slot image slot ∷ l) (step image slots i d new (omega arith) is)

pub left_more : (image : ℕ) (slots now : List SlotHeld) (i : ℕ) (d new : SlotHeld) → i < length slots → now ≡ map (left_slot image) (take i slots) ++ drop i slots → new ≡ left_slot image (get_or now i d)
    → set now i new ≡ map (left_slot image) (take (i + 1) slots) ++ drop (i + 1) slots
left_more image slots now i d new lt now_is is =
    let count : suc i ≡ i + 1 = omega arith in
    (λ j. set (now_is j) i new) ∙ step image slots i d new lt (is ∙ ap (λ (l : List SlotHeld). left_slot image (get_or l i d)) now_is)
    ∙ (λ j. map (left_slot image) (take (count j) slots) ++ drop (count j) slots)

-- the whole of a vector was written over
pub whole : (new old : List SlotHeld) (n : ℕ) → n ≡ length old → length new ≡ length old → take n (new ++ drop (length new) old) ≡ new
whole new old n count same =
    let rest : drop (length new) old ≡ [] = nil_from_length (drop (length new) old) (omega (arith, length-drop (length new) old)) in
    ap (λ (l : List SlotHeld). take n (new ++ l)) rest ∙ ap (take n) (append-nil new) ∙ take_all n new (omega arith)
