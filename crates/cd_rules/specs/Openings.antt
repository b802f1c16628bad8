-- The files that are being received. A journal is the list of its entries, the newest first.
use Rattle.std.specs.Prelude.{ℕ, List, [], ◌∷◌, filter, Bool, not, ◌&&◌, ◌==◌, Option, Some, None, if◌then◌else◌}
use Rattle.std.specs.List.{list_any}
use Rattle.std.specs.Str.{bytes_eq}
use Rattle.cd_types.specs.declared.key.Key.{Key}
use Rattle.cd_types.specs.declared.rows.Receiving.{Receiving}
use Rattle.cd_entries.specs.declared.entry.Entry.{Entry}
use Rattle.cd_entries.specs.declared.entry.Entry.TheVariants as entry
use Rattle.cd_rules.specs.Keys.{same_key}

-- all but those of a step
abbrev pub without : Key → List Receiving → List Receiving
without key openings = filter (λ r. not (same_key key r.key)) openings

-- the receivings whose step has no outcome yet, the newest first: of each step the last
unfoldable pub openings : List Entry → List Receiving
openings [] = []
openings (entry.Receiving r ∷ journal) = r ∷ without r.key (openings journal)
openings (entry.Result step outcomes moment ∷ journal) = without step (openings journal)
openings (entry.Dropped step rc cause moment ∷ journal) = without step (openings journal)
openings (e ∷ journal) = openings journal

-- the first of them that is on a file
abbrev pub on_file : List Receiving → List ℕ → Option Receiving
on_file [] name = None
on_file (r ∷ more) name = if bytes_eq name r.name then Some r else on_file more name

-- the receiving that is open on a file
abbrev pub open_on : List Entry → List ℕ → Option Receiving
open_on journal name = on_file (openings journal) name

-- a step other than this one receives the file
abbrev pub is_in_use : List Entry → Key → List ℕ → Bool
is_in_use journal key name = list_any (λ r. bytes_eq name r.name && not (same_key key r.key)) (openings journal)

-- a step of this Process of another node receives a file
abbrev pub is_receiving_for : List Entry → List ℕ → ℕ → ℕ → Bool
is_receiving_for journal name home n = list_any (λ r. bytes_eq name r.key.pnode && home == r.key.home && n == r.key.number) (openings journal)
