use Rattle.std.proofs.Common.{◌≡◌, reverse, drop, false, ◌&&◌, eqb}
use Rattle.std.specs.List.{list_any}
use Rattle.std.specs.Str.{bytes_eq}
use Rattle.cd_types.specs.declared.rows.Receiving.{Receiving}
use Rattle.cd_rules.specs.Openings.{openings}
use Rattle.cd_book.proofs.openings.is_receiving_for.Given as goal

abbrev pub invariant-loop-at : goal.invariant-loop-at
invariant-loop-at l = list_any (λ (r : Receiving). bytes_eq l.name r.key.pnode && eqb l.home r.key.home && eqb l.number r.key.number) (openings (reverse (drop l.at l.entries))) ≡ false
