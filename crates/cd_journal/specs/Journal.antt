-- A journal, and the disk on which it stands.
use Rattle.std.specs.Prelude.{◌≡◌, ◌⊎◌, ℕ, ◌+◌, ◌≤◌, List, [], ◌∷◌, ◌++◌, length, Bool, true, Ok, Err, ◌↔◌, ◌<◌}
use Rattle.byteorder.specs.Endian.{big_bytes}
use Rattle.cd_outside.specs.Doubt.{settled}
use Rattle.cd_outside.specs.Disk.{DiskState}
use Rattle.cd_journal.specs.Bytes.{Listing, list_of}
use Rattle.cd_journal.specs.Index.{bodies_in, IsClosed}
use Rattle.cd_journal.specs.declared.place.Place.{Place}

-- What contracts see of a journal: where each body stands, in order; the place of the closed gate behind them; whether
-- its disk has a header; whether the disk never failed it; how many more places, and how long a body, take no memory.
pub record Held : Type 0 where
  pub places : List Place
  pub end : ℕ
  pub has_header : Bool
  pub sound : Bool
  pub spare : ℕ
  pub room : ℕ

-- the journal's length: the place behind the closed gate
abbrev pub length_of : Held → ℕ
length_of journal = journal.end + 1

-- The journal stands on this disk: the disk's bytes are a header, entries with their bodies at the journal's places, and
-- a closed gate. A crash leaves just these bytes.
pub record IsAt (journal : Held) (disk : DiskState) : Type 0 where
  pub closed : IsClosed disk.seen journal.places journal.end
  pub list : list_of disk.seen ≡ Ok (bodies_in disk.seen journal.places)
  pub rests : disk.doubt ≡ settled disk.seen

-- The journal was opened on this disk, which rests: it has the disk's list, and stands on it where there is a header; there
-- is none exactly where there are no bytes.
pub record Opens (journal : Held) (disk : DiskState) : Type 0 where
  pub list : list_of disk.seen ≡ Ok (bodies_in disk.seen journal.places)
  pub at : journal.has_header ≡ true → IsAt journal disk
  pub header : (journal.has_header ≡ true) ↔ (0 < length disk.seen)
  pub rests : disk.doubt ≡ settled disk.seen

-- the same entries, with no less room
pub record KeepsList (old new : Held) : Type 0 where
  pub places : new.places ≡ old.places
  pub end : new.end ≡ old.end
  pub has_header : new.has_header ≡ old.has_header
  pub spare : old.spare ≤ new.spare
  pub room : old.room ≤ new.room

-- an entry more, of this many bytes, for which one more place was used
pub record GrowsBy (len : ℕ) (old new : Held) : Type 0 where
  pub count : length new.places ≡ length old.places + 1
  pub end : new.end ≡ old.end + 5 + len
  pub has_header : new.has_header ≡ old.has_header
  pub spare : old.spare ≤ new.spare + 1
  pub room : old.room ≤ new.room

-- a list with one body more
abbrev pub with_last : Listing → List ℕ → Listing
with_last (Ok bodies) body = Ok (bodies ++ body ∷ [])
with_last (Err at) body = Err at

-- bytes of the old list, or of the old list with the body
abbrev pub IsBeforeOrAfter : List ℕ → List ℕ → List ℕ → Type 0
IsBeforeOrAfter old body bytes = (list_of bytes ≡ list_of old) ⊎ (list_of bytes ≡ with_last (list_of old) body)

-- what is written behind a closed gate: the length, the body and the next gate, closed
unfoldable pub entry_block : List ℕ → List ℕ
entry_block body = (big_bytes 4 (length body) ++ body) ++ 0 ∷ []
