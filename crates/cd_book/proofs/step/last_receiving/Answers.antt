use Rattle.std.proofs.Common.{refl, List}
use Rattle.std.specs.Prelude.{option_map}
use Rattle.std.specs.Borrow.{Bor}
use Rattle.cd_types.specs.declared.rows.Receiving.{Receiving}
use Rattle.cd_rules.specs.Status.{last_receiving}
use Rattle.cd_entries.specs.declared.entry.Entry.{Entry}
use Rattle.cd_book.proofs.Newest.{one_more, all_of}
use Rattle.cd_book.proofs.step.last_receiving.Goals as goal

pub loop-entry-init : goal.loop-entry-init
unfolding last_receiving
loop-entry-init c = refl

pub loop-entry-preserved : goal.loop-entry-preserved
loop-entry-preserved c =
    one_more (λ (journal : List Entry). last_receiving journal c.args.key.now) c.args.entries.now c.loop-entry.entry-index c.entry-item.result (option_map (λ (r : Bor Receiving). r.now) c.receiving_after-found.result) c.loop-entry-test.true c.entry-item.is
    (c.receiving_after-found.ensures _ c.loop-entry.invariant)

pub returns : goal.returns
returns c = all_of (λ (journal : List Entry). last_receiving journal c.args.key.now) c.args.entries.now c.loop-entry.entry-index (option_map (λ (r : Bor Receiving). r.now) c.loop-entry.found) c.loop-entry-test.false c.loop-entry.invariant
