-- What a registry comes to when an entry is recorded.
use Rattle.std.proofs.Common.{◌≡◌, inl, inr, ⊎_elim, ℕ, ◌≤◌, List, [], ◌∷◌, ◌++◌, length, map, reverse, max, Result, Ok, Err, refl, sym, ap, subst, ◌∙◌, arith}
use Rattle.std.proofs.lemmas.List.{map_push, length-append, reverse-append}
use Rattle.cd_types.specs.Number.{number_bytes}
use Rattle.cd_types.specs.NumberLaw.{number_has_length}
use Rattle.cd_outside.specs.Doubt.{Doubt, settled, IsImage}
use Rattle.cd_outside.specs.Disk.{DiskState, last_of, LeftAt}
use Rattle.cd_outside.specs.Moments.{Moments}
use Rattle.cd_outside.proofs.Images.{settled_image}
use Rattle.cd_outside.specs.Through.{IsSettledAs}
use Rattle.cd_outside.proofs.Runs.{moments_none, moments_then, moments_weaker}
use Rattle.cd_journal.specs.Bytes.{Listing, header, list_of}
use Rattle.cd_journal.specs.Fault.{IfFull, IfUnfit, OnNoMemory}
use Rattle.cd_journal.specs.Index.{IsClosed, bodies_in}
use Rattle.cd_journal.proofs.Fronts.{list_of-closed, front_header}
use Rattle.cd_journal.specs.Journal.{Held, Opens, IsAt, KeepsList, with_last, IsBeforeOrAfter}
use Rattle.cd_journal.specs.declared.fault.JournalFault.{JournalFault}
use Rattle.cd_journal.specs.declared.fault.JournalFault.TheVariants as of_journal
use Rattle.cd_journal.specs.declared.place.Place.{Place}
use Rattle.cd_entries.specs.declared.entry.Entry.{Entry}
use Rattle.cd_entries.specs.declared.entry.Entry.TheVariants as entry
use Rattle.cd_entries.specs.Entry.{entry_bytes}
use Rattle.cd_effects.specs.Joint.{StandsFor}
use Rattle.cd_effects.specs.Registry.{RegistryState, IsRegistry, IsWithOrWithout}
use Rattle.cd_protocol.specs.Node.{Effect}
use Rattle.cd_effects.specs.Stands.{fault_of, IsKeptOrNot}
use Rattle.cd_effects.specs.declared.fault.Fault.{Fault}
use Rattle.cd_effects.specs.declared.fault.Fault.TheVariants as fault

code_some : (k : ℕ) (rest : List ℕ) → 1 ≤ length (number_bytes 1 k ++ rest)
code_some k rest = omega (arith, length-append (number_bytes 1 k) rest, number_has_length 1 k)

-- an entry has bytes
pub entry_some : (e : Entry) → 1 ≤ length (entry_bytes e)
entry_some (entry.Home name home) = code_some 1 _
entry_some (entry.Submitted number moment origin card text) = code_some 2 _
entry_some (entry.Placed number placing moment) = code_some 3 _
entry_some (entry.Started key kind attempt moment) = code_some 4 _
entry_some (entry.Receiving receiving) = code_some 5 _
entry_some (entry.Mark key offset) = code_some 6 _
entry_some (entry.Result key outcomes moment) = code_some 7 _
entry_some (entry.Ended number place rc cause bytes moment) = code_some 8 _
entry_some (entry.Closed number how moment) = code_some 9 _
entry_some (entry.Forgot name home number) = code_some 10 _
entry_some (entry.Dropped key rc cause moment) = code_some 11 _

abbrev listed : List (List ℕ) → Listing
listed bodies = Ok bodies

oldest_first : (entries : List Entry) (e : Entry) → map entry_bytes (reverse (e ∷ entries)) ≡ map entry_bytes (reverse entries) ++ entry_bytes e ∷ []
oldest_first entries e = ap (map entry_bytes) (reverse-append (e ∷ []) entries) ∙ map_push entry_bytes (reverse entries) e

-- the list with the entry's body
pub with_entry : (entries : List Entry) (e : Entry) (old new body : List ℕ) → StandsFor old entries → body ≡ entry_bytes e → list_of new ≡ with_last (list_of old) body → StandsFor new (e ∷ entries)
with_entry entries e old new body stands is grown =
    grown ∙ ap (λ (l : Listing). with_last l body) stands ∙ ap (λ (b : List ℕ). listed (map entry_bytes (reverse entries) ++ b ∷ [])) is ∙ ap listed (sym (oldest_first entries e))

pub with_or_without : (entries : List Entry) (e : Entry) (old image body : List ℕ) → StandsFor old entries → body ≡ entry_bytes e → IsBeforeOrAfter old body image → IsWithOrWithout e entries image
with_or_without entries e old image body stands is left = ⊎_elim (λ same. inl (same ∙ stands)) (λ more. inr (with_entry entries e old image body stands is more)) left

-- what an append left
pub appended : (registry : RegistryState) (before after : DiskState) (from : ℕ) (e : Entry) (body : List ℕ) → IsRegistry registry before → body ≡ entry_bytes e → Moments (LeftAt before) (LeftAt after) from (IsBeforeOrAfter before.seen body)
    → Moments (LeftAt before) (LeftAt after) from (IsWithOrWithout e registry.entries)
appended registry before after from e body is spelled run =
    moments_weaker (LeftAt before) (LeftAt after) from (IsBeforeOrAfter before.seen body) (IsWithOrWithout e registry.entries)
    (λ image left. with_or_without registry.entries e before.seen image body is.list spelled left) run

-- what a crash leaves of a disk that rests
pub rests_image : (registry : RegistryState) (disk : DiskState) (image : List ℕ) → IsRegistry registry disk → IsImage disk.doubt image → StandsFor image registry.entries
rests_image registry disk image is left = ap list_of (settled_image disk.seen image (subst (λ (d : Doubt). IsImage d image) is.rests left)) ∙ is.list

-- nothing was done
pub unchanged : (registry : RegistryState) (disk : DiskState) (from : ℕ) (e : Entry) → IsRegistry registry disk → last_of disk.calls ≤ from → Moments (LeftAt disk) (LeftAt disk) from (IsWithOrWithout e registry.entries)
unchanged registry disk from e is order = moments_none disk disk from (IsWithOrWithout e registry.entries) refl order (λ image left. inl (rests_image registry disk image is left))

abbrev refused : Fault → Result (Unit {0}) Fault
refused f = Err f

-- a fault but Disk came before any call of the disk
pub before_disk : (told : JournalFault) (Q : Type 0) (answered : Fault) → IfFull {T = Unit {0}} (Err told) (λ _. Q) → OnNoMemory {T = Unit {0}} (Err told) Q → IfUnfit {T = Unit {0}} (Err told) (λ _. ⊥) → answered ≡ fault_of told
    → (refused answered ≡ refused fault.Disk → ⊥) → Q
before_disk of_journal.Disk Q answered full memory unfit is isnt = absurd (isnt (ap refused is))
before_disk (of_journal.Full len) Q answered full memory unfit is isnt = full
before_disk (of_journal.Unfit at) Q answered full memory unfit is isnt = absurd unfit
before_disk of_journal.NoMemory Q answered full memory unfit is isnt = memory

at_stays : (old new : Held) (disk : DiskState) → KeepsList old new → IsAt old disk → IsAt new disk
at_stays old new disk keeps at = record {
  closed = subst (λ (end : ℕ). IsClosed disk.seen new.places end) (sym keeps.end) (subst (λ (places : List Place). IsClosed disk.seen places old.end) (sym keeps.places) at.closed);
  list = at.list ∙ ap (λ (places : List Place). listed (bodies_in disk.seen places)) (sym keeps.places);
  rests = at.rests;
}

-- the same entries on the same disk
pub registry_stays : (old new : RegistryState) (before after : DiskState) → IsRegistry old before → KeepsList old.journal new.journal → new.entries ≡ old.entries → after ≡ before → IsRegistry new after
registry_stays old new before after is keeps same untouched = subst (λ (disk : DiskState). IsRegistry new disk) (sym untouched) (record {
  list = subst (λ (entries : List Entry). StandsFor before.seen entries) (sym same) is.list;
  at = λ has. at_stays old.journal new.journal before keeps (is.at (sym keeps.has_header ∙ has));
  header = (λ has. is.header.0 (sym keeps.has_header ∙ has), λ some. keeps.has_header ∙ is.header.1 some);
  rests = is.rests;
})

-- the same of a journal that was moved
pub keeps_through : (old was now new : Held) → KeepsList was now → was ≡ old → new ≡ now → KeepsList old new
keeps_through old was now new keeps before after = subst (λ (held : Held). KeepsList old held) (sym after) (subst (λ (held : Held). KeepsList held now) before keeps)

-- an effect that records nothing
pub unchanged_by : (effect : Effect) (registry : RegistryState) (disk : DiskState) (from : ℕ) → IsRegistry registry disk → last_of disk.calls ≤ from → Moments (LeftAt disk) (LeftAt disk) from (IsKeptOrNot effect registry.entries)
unchanged_by effect registry disk from is order = moments_none disk disk from (IsKeptOrNot effect registry.entries) refl order (λ image left. inl (rests_image registry disk image is left))

-- The journal was just made.

pub made_list : (seen : List ℕ) → seen ≡ header ++ 0 ∷ [] → list_of seen ≡ Ok []
made_list seen made = ap list_of made ∙ list_of-closed header 0 [] [] front_header (omega arith)

pub made_registry : (journal : Held) (entries : List Entry) (disk : DiskState) → Opens journal disk → disk.seen ≡ header ++ 0 ∷ [] → entries ≡ [] → IsRegistry (record { journal = journal; entries = entries }) disk
made_registry journal entries disk opens seen none = record {
  list = made_list disk.seen seen ∙ ap (λ (es : List Entry). listed (map entry_bytes (reverse es))) (sym none);
  at = opens.at;
  header = opens.header;
  rests = opens.rests;
}

-- no place of it is unfit
pub made_fits : (T U : Type 0) (told : JournalFault) (seen : List ℕ) → seen ≡ header ++ 0 ∷ [] → IfUnfit {T = T} (Err told) (λ at. list_of seen ≡ Err at) → IfUnfit {T = U} (Err told) (λ at. ⊥)
made_fits T U of_journal.Disk seen made bad = tt
made_fits T U (of_journal.Full len) seen made bad = tt
made_fits T U (of_journal.Unfit at) seen made bad = let h : listed [] ≡ Err at = sym (made_list seen made) ∙ bad in absurd cc
made_fits T U of_journal.NoMemory seen made bad = tt

-- a crash leaves at most nine bytes
pub made_moments : (before middle after : DiskState) (from now : ℕ) → before.doubt ≡ settled [] → IsSettledAs (header ++ 0 ∷ []) middle → from ≤ now → Moments (LeftAt before) (LeftAt middle) from (λ image. length image ≤ max before.doubt.greatest 9)
    → Moments (LeftAt middle) (LeftAt after) now (IsImage middle.doubt) → Moments (LeftAt before) (LeftAt after) from (λ image. length image ≤ 9)
made_moments before middle after from now rests made order one two =
    moments_then (LeftAt before) (LeftAt middle) (LeftAt after) from now (λ image. length image ≤ 9) order
    (moments_weaker (LeftAt before) (LeftAt middle) from (λ image. length image ≤ max before.doubt.greatest 9) (λ image. length image ≤ 9) (λ image le. nine image le) one)
    (moments_weaker (LeftAt middle) (LeftAt after) now (IsImage middle.doubt) (λ image. length image ≤ 9)
    (λ image left. let is : image ≡ header ++ 0 ∷ [] = settled_image (header ++ 0 ∷ []) image (subst (λ (d : Doubt). IsImage d image) made.doubt left) in subst (λ (bytes : List ℕ). length bytes ≤ 9) (sym is) (omega arith)) two)
  where
    nine : (image : List ℕ) → length image ≤ max before.doubt.greatest 9 → length image ≤ 9
    nine image le = let none : before.doubt.greatest ≡ 0 = ap (λ (d : Doubt). d.greatest) rests in omega arith
