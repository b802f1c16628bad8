use Rattle.std.proofs.Common.{◌≡◌, reverse, take}
use Rattle.std.specs.Prelude.{option_map}
use Rattle.std.specs.Borrow.{Bor}
use Rattle.cd_types.specs.declared.rows.Receiving.{Receiving}
use Rattle.cd_rules.specs.Status.{last_receiving}
use Rattle.cd_book.proofs.step.last_receiving.Given as goal

abbrev pub invariant-loop-entry : goal.invariant-loop-entry
invariant-loop-entry l = option_map (λ (r : Bor Receiving). r.now) l.found ≡ last_receiving (reverse (take l.entry-index l.entries)) l.key
