use Rattle.std.proofs.Common.{◌≡◌, reverse, drop, false, ◌&&◌, not}
use Rattle.std.specs.List.{list_any}
use Rattle.std.specs.Str.{bytes_eq}
use Rattle.cd_types.specs.declared.rows.Receiving.{Receiving}
use Rattle.cd_rules.specs.Keys.{same_key}
use Rattle.cd_rules.specs.Openings.{openings}
use Rattle.cd_book.proofs.openings.is_in_use.Given as goal

abbrev pub invariant-loop-at : goal.invariant-loop-at
invariant-loop-at l = list_any (λ (r : Receiving). bytes_eq l.name r.name && not (same_key l.key r.key)) (openings (reverse (drop l.at l.entries))) ≡ false
