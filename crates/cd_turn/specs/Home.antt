-- A home: its journal, and the entries that the journal's bytes stand for.
use Rattle.std.specs.Prelude.{◌≡◌, ◌⊎◌, ℕ, ◌+◌, ◌<◌, List, [], ◌∷◌, ◌++◌, length, map, sum_by, Bool, true, Option, Some, None, Result, Ok, Err, MatchResult, slice_get, ◌↔◌}
use Rattle.cd_outside.specs.Doubt.{settled}
use Rattle.cd_outside.specs.Disk.{DiskState}
use Rattle.cd_journal.specs.Bytes.{list_of}
use Rattle.cd_journal.specs.Journal.{Held, IsAt}
use Rattle.cd_entries.specs.declared.entry.Entry.{Entry}
use Rattle.cd_entries.specs.Entry.{entry_bytes, entry_of}
use Rattle.cd_turn.specs.Legal.{IsNext, IsLegal}

-- what contracts see of a home
pub record HomeState : Type 0 where
  pub journal : Held
  pub entries : List Entry

-- these bytes are a journal of these entries
abbrev pub StandsFor : List ℕ → List Entry → Type 0
StandsFor bytes entries = list_of bytes ≡ Ok (map entry_bytes entries)

-- The home is that of this disk: the disk's bytes stand for its entries, and a crash leaves just those bytes. Without a
-- header there are no bytes.
pub record IsHome (home : HomeState) (disk : DiskState) : Type 0 where
  pub list : StandsFor disk.seen home.entries
  pub at : home.journal.has_header ≡ true → IsAt home.journal disk
  pub header : (home.journal.has_header ≡ true) ↔ (0 < length disk.seen)
  pub rests : disk.doubt ≡ settled disk.seen

-- the bytes are a journal of these entries, and the list is legal
pub record IsJournal (entries : List Entry) (bytes : List ℕ) : Type 0 where
  pub stands : StandsFor bytes entries
  pub legal : IsLegal entries

-- the disk has a journal of these entries, and from now on a crash leaves just that
pub record HasKept (entries : List Entry) (disk : DiskState) : Type 0 where
  pub journal : IsJournal entries disk.seen
  pub rests : disk.doubt ≡ settled disk.seen

-- the bytes are a journal of a legal list; where there are none, it is the list without entries
abbrev pub IsFit : List ℕ → Type 0
IsFit bytes = (entries : List Entry) × StandsFor bytes entries × IsLegal entries

-- the place of the body behind these: each body has its length and a gate before it
abbrev pub place_behind : List (List ℕ) → ℕ
place_behind bodies = 13 + sum_by (λ body. 5 + length body) bodies

-- a body that is no entry, or none that may follow these
abbrev pub IsBad : List Entry → List ℕ → Type 0
IsBad entries body = (entry_of body ≡ None) ⊎ ((e : Entry) × (entry_of body ≡ Some e) × (IsNext entries e → ⊥))

-- the first bad body of these stands at this place
pub record IsFirstBad (bodies : List (List ℕ)) (at : ℕ) : Type 0 where
  pub good : List Entry
  pub bad : List ℕ
  pub more : List (List ℕ)
  pub parts : bodies ≡ map entry_bytes good ++ bad ∷ more
  pub legal : IsLegal good
  pub is_bad : IsBad good bad
  pub place : at ≡ place_behind (map entry_bytes good)

-- the first place at which the bytes aren't what a journal asks: a byte of the header, a gate or a length; and where there
-- is none, the first byte of the first bad body
abbrev pub IsUnfit : List ℕ → ℕ → Type 0
IsUnfit bytes at = MatchResult (list_of bytes) (λ bodies. IsFirstBad bodies at) (λ place. place ≡ at)

-- the body at this index may not follow these entries
abbrev pub HasBad : List Entry → List (List ℕ) → ℕ → Type 0
HasBad entries bodies i = (body : List ℕ) × (slice_get bodies i ≡ Some body) × IsBad entries body
