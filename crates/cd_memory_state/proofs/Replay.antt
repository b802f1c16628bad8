-- How the record of a disk grows by a call.
use Rattle.std.proofs.Common.{◌≡◌, ℕ, ◌+◌, ◌-◌, ◌≤◌, List, [], ◌∷◌, ◌++◌, length, take, drop, sym, ◌∙◌, ap, arith, length-drop}
use Rattle.std.proofs.lemmas.List.{take_all, take-append-le, drop-append-le, nil_from_length, reverse-append}
use Rattle.std.specs.Prelude.{reverse}
use Rattle.cd_outside.specs.Disk.{DiskState, did}
use Rattle.cd_memory_state.specs.Record.{at_first, change_of, replayed, used_by}
use Rattle.cd_memory_state.specs.declared.entry.Entry.{Entry}

pub used_by_push : (entries : List Entry) (entry : Entry) → used_by (entries ++ entry ∷ []) ≡ used_by entries + entry.used
used_by_push [] entry = omega arith
used_by_push (e ∷ entries) entry = omega (arith, used_by_push entries entry)

replayed_push : (entries : List Entry) (entry : Entry) (bytes more : List ℕ) (state : DiskState) → used_by entries ≡ length bytes → entry.used ≡ length more → replayed (entries ++ entry ∷ []) (bytes ++ more) state ≡ did (change_of entry.kind more) entry.beat (replayed entries bytes state)
replayed_push [] entry bytes more state all own =
    let none : bytes ≡ [] = nil_from_length bytes (sym all) in
    let front : take entry.used (bytes ++ more) ≡ more = ap (λ (l : List ℕ). take entry.used (l ++ more)) none ∙ take_all entry.used more (omega arith) in
    ap (λ (l : List ℕ). did (change_of entry.kind l) entry.beat state) front
replayed_push (e ∷ entries) entry bytes more state all own =
    let within : e.used ≤ length bytes = omega arith in
    let rest = replayed_push entries entry (drop e.used bytes) more (did (change_of e.kind (take e.used bytes)) e.beat state) (omega (arith, length-drop e.used bytes)) own in
    ap (λ (l : List ℕ). replayed (entries ++ entry ∷ []) l (did (change_of e.kind (take e.used (bytes ++ more))) e.beat state)) (drop-append-le e.used bytes more within)
    ∙ ap (λ (l : List ℕ). replayed (entries ++ entry ∷ []) (drop e.used bytes ++ more) (did (change_of e.kind l) e.beat state)) (take-append-le e.used bytes more within)
    ∙ rest

-- the state of a record
abbrev pub state_of : ℕ → List ℕ → List Entry → DiskState
state_of first kept entries = replayed entries (drop first kept) (at_first (take first kept))

-- one entry more
pub state_push : (first : ℕ) (kept more kept2 : List ℕ) (entries entries2 : List Entry) (entry : Entry) → first ≤ length kept → used_by entries ≡ length kept - first → entry.used ≡ length more → kept2 ≡ kept ++ more → entries2 ≡ entries ++ entry ∷ [] → state_of first kept2 entries2 ≡ did (change_of entry.kind more) entry.beat (state_of first kept entries)
state_push first kept more kept2 entries entries2 entry within all own kept_is entries_is =
    (λ i. state_of first (kept_is i) (entries_is i))
    ∙ ap (λ (l : List ℕ). replayed (entries ++ entry ∷ []) l (at_first (take first (kept ++ more)))) (drop-append-le first kept more within)
    ∙ ap (λ (l : List ℕ). replayed (entries ++ entry ∷ []) (drop first kept ++ more) (at_first l)) (take-append-le first kept more within)
    ∙ replayed_push entries entry (drop first kept) more (at_first (take first kept)) (omega (arith, length-drop first kept)) own

-- no entry, and the whole of the kept bytes is the first content
pub state_none : (first : ℕ) (kept seen : List ℕ) (entries : List Entry) → first ≡ length seen → kept ≡ seen → entries ≡ [] → state_of first kept entries ≡ at_first seen
state_none first kept seen entries all kept_is none =
    (λ i. state_of first (kept_is i) (none i)) ∙ ap at_first (take_all first seen (omega arith))

-- the ranges with one more, the newest first
pub reverse_push : (old new : List (ℕ × ℕ)) (range : ℕ × ℕ) (before : List (ℕ × ℕ)) → before ≡ reverse old → new ≡ old ++ range ∷ [] → range ∷ before ≡ reverse new
reverse_push old new range before is pushed = ap (λ (l : List (ℕ × ℕ)). range ∷ l) is ∙ sym (ap reverse pushed ∙ reverse-append old (range ∷ []))
