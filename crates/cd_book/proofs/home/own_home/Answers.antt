use Rattle.std.proofs.Common.{refl}
use Rattle.cd_rules.specs.Processes.{own_home}
use Rattle.cd_book.proofs.Newest.{one_more, all_of}
use Rattle.cd_book.proofs.home.own_home.Goals as goal

pub loop-entry-init : goal.loop-entry-init
unfolding own_home
loop-entry-init c = refl

pub loop-entry-preserved : goal.loop-entry-preserved
loop-entry-preserved c =
    one_more own_home c.args.entries.now c.loop-entry.entry-index c.entry-item.result c.home_after-found.result c.loop-entry-test.true c.entry-item.is
    (c.home_after-found.ensures _ c.loop-entry.invariant)

pub returns : goal.returns
returns c = all_of own_home c.args.entries.now c.loop-entry.entry-index c.loop-entry.found c.loop-entry-test.false c.loop-entry.invariant
