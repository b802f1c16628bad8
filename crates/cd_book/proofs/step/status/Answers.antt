use Rattle.std.proofs.Common.{refl, List, arith}
use Rattle.cd_rules.specs.Status.{status}
use Rattle.cd_book.specs.Seen.{seen_status}
use Rattle.cd_entries.specs.declared.entry.Entry.{Entry}
use Rattle.cd_book.proofs.Newest.{one_more, all_of}
use Rattle.cd_book.proofs.step.status.Goals as goal

pub loop-entry-init : goal.loop-entry-init
unfolding status
loop-entry-init c = record { is = refl; few = omega arith }

pub loop-entry-preserved : goal.loop-entry-preserved
loop-entry-preserved c = record {
  is = one_more (λ (journal : List Entry). status journal c.args.key.now) c.args.entries.now c.loop-entry.entry-index c.entry-item.result (seen_status c.status_after-found.result) c.loop-entry-test.true c.entry-item.is
      (c.status_after-found.ensures.status _ c.loop-entry.invariant.is);
  few = let old = c.loop-entry.invariant.few in let step = c.status_after-found.ensures.times in omega arith;
}

pub returns : goal.returns
returns c = all_of (λ (journal : List Entry). status journal c.args.key.now) c.args.entries.now c.loop-entry.entry-index (seen_status c.loop-entry.found) c.loop-entry-test.false c.loop-entry.invariant.is
