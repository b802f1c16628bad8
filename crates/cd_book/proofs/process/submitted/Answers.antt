use Rattle.std.proofs.Common.{refl, arith}
use Rattle.cd_rules.specs.Processes.{submitted}
use Rattle.cd_book.proofs.Newest.{one_more, all_of}
use Rattle.cd_book.proofs.process.submitted.Goals as goal

pub loop-entry-init : goal.loop-entry-init
unfolding submitted
loop-entry-init c = record { is = refl; few = omega arith }

pub loop-entry-preserved : goal.loop-entry-preserved
loop-entry-preserved c = record {
  is = one_more submitted c.args.entries.now c.loop-entry.entry-index c.entry-item.result c.submitted_after-found.result c.loop-entry-test.true c.entry-item.is
      (c.submitted_after-found.ensures.submitted _ c.loop-entry.invariant.is);
  few = let old = c.loop-entry.invariant.few in let step = c.submitted_after-found.ensures.few in omega arith;
}

pub returns : goal.returns
returns c = all_of submitted c.args.entries.now c.loop-entry.entry-index c.loop-entry.found c.loop-entry-test.false c.loop-entry.invariant.is
