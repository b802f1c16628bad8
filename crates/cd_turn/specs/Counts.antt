-- What a home counts of its entries.
use Rattle.std.specs.Prelude.{◌≡◌, ◌<◌, ℕ, List}
use Rattle.cd_entries.specs.declared.entry.Entry.{Entry}
use Rattle.cd_turn.specs.Entries.{submitted_in, latest_in}

pub record AreCounts (entries : List Entry) (submitted latest : ℕ) : Type 0 where
  pub numbers : submitted ≡ submitted_in entries
  pub moments : latest ≡ latest_in entries
  -- it is a moment
  pub limit : latest < 250000000000
