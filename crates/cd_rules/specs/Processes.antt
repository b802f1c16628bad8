-- What a journal says of a Process of its own node, by its number. A journal is the list of its entries, the newest first.
use Rattle.std.specs.Prelude.{ℕ, ◌+◌, List, [], ◌∷◌, ◌++◌, filter, max, Bool, false, not, ◌&&◌, ◌||◌, ◌==◌, Option, Some, None, if◌then◌else◌}
use Rattle.std.specs.Str.{bytes_eq}
use Rattle.cd_types.specs.declared.card.Filed.{Filed}
use Rattle.cd_types.specs.declared.key.Key.{Key}
use Rattle.cd_entries.specs.declared.entry.Entry.{Entry}
use Rattle.cd_entries.specs.declared.entry.Entry.TheVariants as entry
use Rattle.cd_rules.specs.Keys.{same_key}

-- The home.

-- the node's name and its home identity
unfoldable pub own_home : List Entry → Option (List ℕ × ℕ)
own_home [] = None
own_home (entry.Home name home ∷ journal) = Some (name, home)
own_home (e ∷ journal) = own_home journal

abbrev pub is_home_of : List ℕ → ℕ → Option (List ℕ × ℕ) → Bool
is_home_of name home None = false
is_home_of name home (Some own) = bytes_eq name own.0 && home == own.1

-- a step of a Process of this node
abbrev pub is_own : List Entry → Key → Bool
is_own journal key = is_home_of key.pnode key.home (own_home journal)

-- Submissions.

-- what was submitted: when, for which SUBMIT step where one did it, the card and the text
pub record Submission : Type 0 where
  pub moment : ℕ
  pub origin : Option Key
  pub card : Filed
  pub text : List ℕ

unfoldable pub submission : List Entry → ℕ → Option Submission
submission [] n = None
submission (entry.Submitted number moment origin card text ∷ journal) n =
    if number == n then Some (record { moment = moment; origin = origin; card = card; text = text }) else submission journal n
submission (e ∷ journal) n = submission journal n

-- how many there were
unfoldable pub submitted : List Entry → ℕ
submitted [] = 0
submitted (entry.Submitted number moment origin card text ∷ journal) = submitted journal + 1
submitted (e ∷ journal) = submitted journal

-- the number of the Process that a SUBMIT step made
abbrev pub is_origin : Key → Option Key → Bool
is_origin key None = false
is_origin key (Some step) = same_key key step

unfoldable pub made_for : List Entry → Key → Option ℕ
made_for [] key = None
made_for (entry.Submitted number moment origin card text ∷ journal) key = if is_origin key origin then Some number else made_for journal key
made_for (e ∷ journal) key = made_for journal key

-- Live Processes.

-- the Process was submitted, and isn't closed
unfoldable pub is_live : List Entry → ℕ → Bool
is_live [] n = false
is_live (entry.Submitted number moment origin card text ∷ journal) n = number == n || is_live journal n
is_live (entry.Closed number how moment ∷ journal) n = not (number == n) && is_live journal n
is_live (e ∷ journal) n = is_live journal n

-- their numbers, in the order of their submission
unfoldable pub live_numbers : List Entry → List ℕ
live_numbers [] = []
live_numbers (entry.Submitted number moment origin card text ∷ journal) = live_numbers journal ++ number ∷ []
live_numbers (entry.Closed number how moment ∷ journal) = filter (λ n. not (number == n)) (live_numbers journal)
live_numbers (e ∷ journal) = live_numbers journal

-- Steps that ended.

-- the places and the codes of the steps of a Process that ended, in their order
unfoldable pub ended : List Entry → ℕ → List (ℕ × ℕ)
ended [] n = []
ended (entry.Ended number place rc cause bytes moment ∷ journal) n = if number == n then ended journal n ++ (place, rc) ∷ [] else ended journal n
ended (e ∷ journal) n = ended journal n

-- Moments.

-- the moment of an entry
abbrev pub moment_of : Entry → Option ℕ
moment_of (entry.Submitted number moment origin card text) = Some moment
moment_of (entry.Placed number placing moment) = Some moment
moment_of (entry.Started step kind attempt moment) = Some moment
moment_of (entry.Result step outcomes moment) = Some moment
moment_of (entry.Ended number place rc cause bytes moment) = Some moment
moment_of (entry.Closed number how moment) = Some moment
moment_of (entry.Dropped step rc cause moment) = Some moment
moment_of _ = None

abbrev pub later_of : Option ℕ → ℕ → ℕ
later_of None before = before
later_of (Some moment) before = max before moment

-- the greatest moment of an entry, and the first of all moments where none has one
unfoldable pub latest : List Entry → ℕ
latest [] = 0
latest (e ∷ journal) = later_of (moment_of e) (latest journal)

-- Processes of other nodes that are over.

-- nothing more is asked of the steps of this Process of another node
unfoldable pub is_forgotten : List Entry → List ℕ → ℕ → ℕ → Bool
is_forgotten [] name home n = false
is_forgotten (entry.Forgot pnode identity number ∷ journal) name home n =
    (bytes_eq name pnode && home == identity && n == number) || is_forgotten journal name home n
is_forgotten (e ∷ journal) name home n = is_forgotten journal name home n

-- a step of such a Process
abbrev pub is_over : List Entry → Key → Bool
is_over journal key = is_forgotten journal key.pnode key.home key.number
