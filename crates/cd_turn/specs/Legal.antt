-- Which entries may follow which. Today a journal has the entries of a home and of its submissions; an entry of another
-- kind is none yet.
use Rattle.std.specs.Prelude.{◌≡◌, ◌≢◌, ℕ, ◌+◌, ◌<◌, ◌≤◌, List, [], ◌∷◌, ◌++◌, length, Option, Some, None, All, IfSome}
use Rattle.cd_types.specs.declared.key.Key.{Key}
use Rattle.cd_types.specs.declared.card.Filed.{Filed}
use Rattle.cd_entries.specs.declared.entry.Entry.{Entry}
use Rattle.cd_entries.specs.declared.entry.Entry.TheVariants as entry
use Rattle.cd_entries.specs.Entry.{IsEntry}
use Rattle.cd_turn.specs.Texts.{IsText}
use Rattle.cd_turn.specs.Entries.{submitted_in, live_in, latest_in, origin_of}

-- a submission may follow these entries
pub record IsSubmission (entries : List Entry) (number moment : ℕ) (origin : Option Key) (card : Filed) (text : List ℕ) : Type 0 where
  -- the home has a name
  pub begun : entries ≢ []
  -- numbers count up, to the last one
  pub next : number ≡ submitted_in entries + 1
  pub last : number ≤ 99999
  -- there is room in the queue
  pub room : live_in entries < 4096
  -- moments don't fall
  pub later : latest_in entries ≤ moment
  -- no step submits twice
  pub once : IfSome origin (λ key. All (λ e. origin_of e ≢ Some key) entries)
  pub short : length text ≤ 200000
  pub canonical : IsText card text

-- this entry may follow these
abbrev pub IsNext : List Entry → Entry → Type 0
IsNext entries (entry.Home name home) = entries ≡ []
IsNext entries (entry.Submitted number moment origin card text) = IsSubmission entries number moment origin card text
IsNext entries _ = ⊥

-- each of these entries is in its form, and may follow those before it
abbrev pub FollowLegally : List Entry → List Entry → Type 0
FollowLegally before [] = Unit {0}
FollowLegally before (e ∷ entries) = IsEntry e × IsNext before e × FollowLegally (before ++ e ∷ []) entries

-- each entry of the journal is in its form, and may follow those before it
abbrev pub IsLegal : List Entry → Type 0
IsLegal entries = FollowLegally [] entries

-- the later list has the earlier one at its front
abbrev pub Extends : List Entry → List Entry → Type 0
Extends earlier later = (more : List Entry) × (later ≡ earlier ++ more)
