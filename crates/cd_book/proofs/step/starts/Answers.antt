use Rattle.std.proofs.Common.{refl, List, arith}
use Rattle.cd_rules.specs.Status.{starts}
use Rattle.cd_entries.specs.declared.entry.Entry.{Entry}
use Rattle.cd_book.proofs.Newest.{one_more, all_of}
use Rattle.cd_book.proofs.step.starts.Goals as goal

pub loop-entry-init : goal.loop-entry-init
unfolding starts
loop-entry-init c = record { is = refl; few = omega arith }

pub loop-entry-preserved : goal.loop-entry-preserved
loop-entry-preserved c = record {
  is = one_more (λ (journal : List Entry). starts journal c.args.key.now) c.args.entries.now c.loop-entry.entry-index c.entry-item.result c.starts_after-found.result c.loop-entry-test.true c.entry-item.is
      (c.starts_after-found.ensures.starts _ c.loop-entry.invariant.is);
  few = let old = c.loop-entry.invariant.few in let step = c.starts_after-found.ensures.few in omega arith;
}

pub returns : goal.returns
returns c = all_of (λ (journal : List Entry). starts journal c.args.key.now) c.args.entries.now c.loop-entry.entry-index c.loop-entry.found c.loop-entry-test.false c.loop-entry.invariant.is
