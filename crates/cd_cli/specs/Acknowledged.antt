-- The numbers that a run has told.
use Rattle.std.specs.Prelude.{◌≡◌, ℕ, List, Bool, true, false, ◌==◌}
use Rattle.std.specs.List.{list_any}
use Rattle.cd_entries.specs.declared.entry.Entry.{Entry}
use Rattle.cd_entries.specs.declared.entry.Entry.TheVariants as entry
use Rattle.cd_turn.specs.Home.{StandsFor}
use Rattle.cd_turn.specs.declared.reply.Reply.{Reply}
use Rattle.cd_turn.specs.declared.reply.Reply.TheVariants as reply

-- the reply tells this number
abbrev pub tells : ℕ → Reply → Bool
tells n (reply.Submitted number) = number == n
tells n _ = false

-- the entry of a submission with this number
abbrev pub submits : ℕ → Entry → Bool
submits n (entry.Submitted number moment origin card text) = number == n
submits n _ = false

-- the journal's bytes have the entry of a submission with this number
pub record KeepsNumber (n : ℕ) (image : List ℕ) : Type 0 where
  pub list : List Entry
  pub stands : StandsFor image list
  pub has : list_any (submits n) list ≡ true
