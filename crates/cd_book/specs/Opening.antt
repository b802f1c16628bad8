-- Single receivings.
use Rattle.std.specs.Prelude.{Bool, false, Option, Some, None, List, [], ◌∷◌}
use Rattle.std.specs.List.{list_any}
use Rattle.cd_types.specs.declared.key.Key.{Key}
use Rattle.cd_types.specs.declared.rows.Receiving.{Receiving}
use Rattle.cd_entries.specs.declared.entry.Entry.{Entry}
use Rattle.cd_entries.specs.declared.entry.Entry.TheVariants as entry
use Rattle.cd_rules.specs.Keys.{same_key}

-- an entry behind which nothing before it is being received for the step
abbrev pub closes : Key → Entry → Bool
closes key (entry.Receiving r) = same_key r.key key
closes key (entry.Result step outcomes moment) = same_key step key
closes key (entry.Dropped step rc cause moment) = same_key step key
closes key _ = false

-- one of these is such an entry
unfoldable pub closed_by : List Entry → Key → Bool
closed_by later key = list_any (λ e. closes key e) later

abbrev pub listed : Option Receiving → List Receiving
listed None = []
listed (Some r) = r ∷ []
