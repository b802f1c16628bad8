-- Questions to the list of a journal's entries.
use Rattle.std.specs.Prelude.{ℕ, List, [], ◌∷◌, count_by, fold, max, Bool, true, false, not, ◌==◌, ◌&&◌, Option, Some, None}
use Rattle.std.specs.List.{list_any}
use Rattle.cd_types.specs.declared.key.Key.{Key}
use Rattle.cd_entries.specs.declared.entry.Entry.{Entry}
use Rattle.cd_entries.specs.declared.entry.Entry.TheVariants as entry

abbrev pub is_submission : Entry → Bool
is_submission (entry.Submitted number moment origin card text) = true
is_submission _ = false

-- how many Processes were submitted
abbrev pub submitted_in : List Entry → ℕ
submitted_in entries = count_by is_submission entries

abbrev pub closes : ℕ → Entry → Bool
closes n (entry.Closed number how moment) = number == n
closes n _ = false

-- a submission of a Process that no entry of the list closes
abbrev pub is_live : List Entry → Entry → Bool
is_live entries (entry.Submitted number moment origin card text) = not (list_any (closes number) entries)
is_live entries _ = false

-- how many Processes are live: submitted, and not closed
abbrev pub live_in : List Entry → ℕ
live_in entries = count_by (is_live entries) entries

-- the moment of an entry, or the first one where it has none
abbrev pub moment_of : Entry → ℕ
moment_of (entry.Submitted number moment origin card text) = moment
moment_of (entry.Placed number placing moment) = moment
moment_of (entry.Started key kind attempt moment) = moment
moment_of (entry.Result key outcomes moment) = moment
moment_of (entry.Ended number place rc cause bytes moment) = moment
moment_of (entry.Closed number how moment) = moment
moment_of (entry.Dropped key rc cause moment) = moment
moment_of _ = 0

-- the latest moment of an entry
abbrev pub latest_in : List Entry → ℕ
latest_in entries = fold (λ latest e. max latest (moment_of e)) 0 entries

-- the step for which a Process was submitted, where a step did it
abbrev pub origin_of : Entry → Option Key
origin_of (entry.Submitted number moment origin card text) = origin
origin_of _ = None
