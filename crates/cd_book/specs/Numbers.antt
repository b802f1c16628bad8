-- The numbers of Processes.
use Rattle.std.specs.Prelude.{◌≡◌, ℕ, zero, suc, ◌≤◌, List, [], ◌∷◌, ◌++◌, filter}
use Rattle.cd_entries.specs.declared.entry.Entry.{Entry}
use Rattle.cd_rules.specs.Processes.{submitted, is_live, live_numbers}

-- 1, 2, 3 and so on
unfoldable pub upto : ℕ → List ℕ
upto zero = []
upto (suc n) = upto n ++ suc n ∷ []

-- each submission had the number after those that were given before
pub record AreNumbered (journal : List Entry) : Type 0 where
  pub few : submitted journal ≤ 99999
  pub live_are : live_numbers journal ≡ filter (is_live journal) (upto (submitted journal))
