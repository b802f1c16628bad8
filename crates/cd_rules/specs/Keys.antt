-- Keys of steps, compared, and the keys that entries are of.
use Rattle.std.specs.Prelude.{Bool, false, ◌&&◌, ◌==◌}
use Rattle.std.specs.Str.{bytes_eq}
use Rattle.cd_types.specs.declared.key.Key.{Key}
use Rattle.cd_entries.specs.declared.entry.Entry.{Entry}
use Rattle.cd_entries.specs.declared.entry.Entry.TheVariants as entry

-- the same step: of the same node, home and Process, at the same place
unfoldable pub same_key : Key → Key → Bool
same_key a b = bytes_eq a.pnode b.pnode && a.home == b.home && a.number == b.number && a.place == b.place

-- an entry of this step's key
abbrev pub is_of : Key → Entry → Bool
is_of key (entry.Started step kind attempt moment) = same_key key step
is_of key (entry.Receiving r) = same_key key r.key
is_of key (entry.Mark step offset) = same_key key step
is_of key (entry.Result step outcomes moment) = same_key key step
is_of key (entry.Dropped step rc cause moment) = same_key key step
is_of key _ = false
