use Rattle.std.proofs.Common.{refl}
use Rattle.cd_rules.specs.Processes.{latest}
use Rattle.cd_book.proofs.Newest.{one_more, all_of}
use Rattle.cd_book.proofs.process.latest.Goals as goal

pub loop-entry-init : goal.loop-entry-init
unfolding latest
loop-entry-init c = refl

pub loop-entry-preserved : goal.loop-entry-preserved
loop-entry-preserved c =
    one_more latest c.args.entries.now c.loop-entry.entry-index c.entry-item.result c.latest_after-found.result c.loop-entry-test.true c.entry-item.is
    (c.latest_after-found.ensures _ c.loop-entry.invariant)

pub returns : goal.returns
returns c = all_of latest c.args.entries.now c.loop-entry.entry-index c.loop-entry.found c.loop-entry-test.false c.loop-entry.invariant
