-- What a home comes to when its journal is made, opened and added to.
use Rattle.std.proofs.Common.{◌≡◌, ◌⊎◌, inl, inr, ⊎_elim, ℕ, ◌+◌, ◌≤◌, ◌<◌, Bool, true, false, List, [], ◌∷◌, ◌++◌, length, map, Option, Some, None, Result, Ok, Err, refl, sym, ap, subst, ◌∙◌, arith}
use Rattle.std.proofs.lemmas.List.{map_push, append-nil}
use Rattle.cd_outside.specs.Doubt.{Doubt, settled, IsImage}
use Rattle.cd_outside.specs.Disk.{DiskState, last_of, LeftAt}
use Rattle.cd_outside.specs.Moments.{Moments}
use Rattle.cd_outside.proofs.Images.{settled_image}
use Rattle.cd_outside.proofs.Runs.{moments_none}
use Rattle.cd_journal.specs.Bytes.{Listing, header, list_of}
use Rattle.cd_journal.specs.Journal.{Held, Opens, IsAt, with_last, IsBeforeOrAfter}
use Rattle.cd_journal.proofs.Fronts.{list_of-closed, front_header}
use Rattle.cd_entries.specs.declared.entry.Entry.{Entry}
use Rattle.cd_entries.specs.Entry.{entry_bytes, IsEntry}
use Rattle.cd_turn.specs.Home.{HomeState, StandsFor, IsHome, IsJournal, HasKept}
use Rattle.cd_turn.specs.Legal.{IsNext, IsLegal}
use Rattle.cd_turn.specs.Ends.{MayLeave}
use Rattle.cd_turn.proofs.Legality.{legal_push}

none_listed : list_of [] ≡ Ok []
unfolding list_of
none_listed = refl

abbrev listed : List (List ℕ) → Listing
listed bodies = Ok bodies

-- no bytes stand for no entries
pub no_entries : (entries : List Entry) → StandsFor [] entries → entries ≡ []
no_entries [] stands = refl
no_entries (e ∷ entries) stands = let h : listed [] ≡ listed (entry_bytes e ∷ map entry_bytes entries) = sym none_listed ∙ stands in absurd cc

no_bytes : (seen : List ℕ) (b : Bool) → (0 < length seen → b ≡ true) → b ≡ false → seen ≡ []
no_bytes [] b has is = refl
no_bytes (x ∷ seen) b has is = let h : b ≡ true = has (omega arith) in absurd cc

-- a disk without a header has no bytes
pub no_header : (home : HomeState) (disk : DiskState) → IsHome home disk → home.journal.has_header ≡ false → disk.seen ≡ []
no_header home disk is h = no_bytes disk.seen home.journal.has_header is.header.1 h

pub no_header_entries : (home : HomeState) (disk : DiskState) → IsHome home disk → home.journal.has_header ≡ false → home.entries ≡ []
no_header_entries home disk is h = no_entries home.entries (subst (λ (seen : List ℕ). StandsFor seen home.entries) (no_header home disk is h) is.list)

-- the journal was just made
pub made_home : (journal : Held) (entries : List Entry) (disk : DiskState) → Opens journal disk → disk.seen ≡ header ++ 0 ∷ [] → entries ≡ [] → IsHome (record { journal = journal; entries = entries }) disk
made_home journal entries disk opens seen none = record {
  list = ap list_of seen ∙ list_of-closed header 0 [] [] front_header (omega arith) ∙ ap (λ (es : List Entry). listed (map entry_bytes es)) (sym none);
  at = opens.at;
  header = opens.header;
  rests = opens.rests;
}

-- and has no place that isn't as it has to be
pub made_fits : (seen : List ℕ) → seen ≡ header ++ 0 ∷ [] → (at : ℕ) → list_of seen ≡ Err at → ⊥
made_fits seen made at bad = let h : listed [] ≡ Err at = sym (ap list_of made ∙ list_of-closed header 0 [] [] front_header (omega arith)) ∙ bad in absurd cc

-- a disk without bytes was opened
pub blank_home : (journal : Held) (entries : List Entry) (disk : DiskState) → Opens journal disk → journal.has_header ≡ false → entries ≡ [] → IsHome (record { journal = journal; entries = entries }) disk
blank_home journal entries disk opens h none = record {
  list = ap list_of (no_bytes disk.seen journal.has_header opens.header.1 h) ∙ none_listed ∙ ap (λ (es : List Entry). listed (map entry_bytes es)) (sym none);
  at = opens.at;
  header = opens.header;
  rests = opens.rests;
}

-- the list with the entry's body
pub with_entry : (entries : List Entry) (e : Entry) (old new body : List ℕ) → StandsFor old entries → body ≡ entry_bytes e → list_of new ≡ with_last (list_of old) body → StandsFor new (entries ++ e ∷ [])
with_entry entries e old new body stands is grown =
    grown ∙ ap (λ (l : Listing). with_last l body) stands ∙ ap (λ (b : List ℕ). listed (map entry_bytes entries ++ b ∷ [])) is ∙ ap listed (sym (map_push entry_bytes entries e))

pub before_or_after : (entries : List Entry) (e : Entry) (old image body : List ℕ) → StandsFor old entries → body ≡ entry_bytes e → IsBeforeOrAfter old body image → StandsFor image entries ⊎ StandsFor image (entries ++ e ∷ [])
before_or_after entries e old image body stands is left = ⊎_elim (λ same. inl (same ∙ stands)) (λ more. inr (with_entry entries e old image body stands is more)) left

-- nothing was done
pub unchanged : (home : HomeState) (disk : DiskState) (from : ℕ) (e : Entry) → IsHome home disk → last_of disk.calls ≤ from
    → Moments (LeftAt disk) (LeftAt disk) from (λ image. StandsFor image home.entries ⊎ StandsFor image (home.entries ++ e ∷ []))
unchanged home disk from e is order =
    moments_none disk disk from (λ image. StandsFor image home.entries ⊎ StandsFor image (home.entries ++ e ∷ [])) refl order
    (λ image left. inl (ap list_of (settled_image disk.seen image (subst (λ (d : Doubt). IsImage d image) is.rests left)) ∙ is.list))

-- a list that the entry may follow, without it or with it
pub left_image : (fresh : Type 0) (entries : List Entry) (e : Entry) (image : List ℕ) → IsLegal entries → IsEntry e → IsNext entries e → StandsFor image entries ⊎ StandsFor image (entries ++ e ∷ []) → MayLeave fresh entries (Some e) image
left_image fresh entries e image legal form next left = ⊎_elim
    (λ same. inl (record { stands = same; legal = legal }))
    (λ more. inr (inl (record { stands = more; legal = legal_push entries e legal form next })))
    left

-- a home keeps its entries
pub rests_kept : (home : HomeState) (disk : DiskState) → IsLegal home.entries → IsHome home disk → HasKept home.entries disk
rests_kept home disk legal is = record { journal = record { stands = is.list; legal = legal }; rests = is.rests }

-- and a crash leaves them
pub kept_image : (entries : List Entry) (disk : DiskState) (image : List ℕ) → HasKept entries disk → IsImage disk.doubt image → IsJournal entries image
kept_image entries disk image kept left = record {
  stands = ap list_of (settled_image disk.seen image (subst (λ (d : Doubt). IsImage d image) kept.rests left)) ∙ kept.journal.stands;
  legal = kept.journal.legal;
}

pub rests_image : (home : HomeState) (disk : DiskState) (image : List ℕ) → IsLegal home.entries → IsHome home disk → IsImage disk.doubt image → IsJournal home.entries image
rests_image home disk image legal is left = kept_image home.entries disk image (rests_kept home disk legal is) left

-- what a crash leaves that leaves the entries
pub leaves_none : (fresh : Type 0) (entries : List Entry) (entry : Option Entry) (image : List ℕ) → IsJournal entries image → MayLeave fresh entries entry image
leaves_none fresh entries None image is = is
leaves_none fresh entries (Some e) image is = inl is

-- nothing was done in a turn
pub rests_moments : (home : HomeState) (disk : DiskState) (from : ℕ) (entry : Option Entry) → IsLegal home.entries → IsHome home disk → last_of disk.calls ≤ from → Moments (LeftAt disk) (LeftAt disk) from (MayLeave (disk.seen ≡ []) home.entries entry)
rests_moments home disk from entry legal is order =
    moments_none disk disk from (MayLeave (disk.seen ≡ []) home.entries entry) refl order
    (λ image left. leaves_none (disk.seen ≡ []) home.entries entry image (rests_image home disk image legal is left))

-- the home has what an order adds, and a crash leaves just that
pub rests_after : (home : HomeState) (disk : DiskState) (entries : List Entry) → home.entries ≡ entries → IsLegal home.entries → IsHome home disk → HasKept entries disk
rests_after home disk entries same legal is = subst (λ (es : List Entry). HasKept es disk) same (rests_kept home disk legal is)

-- with an entry there are bytes
pub entry_seen : (home : HomeState) (disk : DiskState) (entries : List Entry) (e : Entry) → IsHome home disk → home.entries ≡ entries ++ e ∷ [] → disk.seen ≡ [] → ⊥
entry_seen home disk entries e is more none =
    let empty : home.entries ≡ [] = no_entries home.entries (ap list_of (sym none) ∙ is.list) in
    one_more entries (sym more ∙ empty)
  where
    one_more : (l : List Entry) → l ++ e ∷ [] ≡ [] → ⊥
    one_more [] h = absurd cc
    one_more (first ∷ l) h = absurd cc
