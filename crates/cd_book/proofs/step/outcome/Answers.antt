use Rattle.std.proofs.Common.{refl, List}
use Rattle.cd_rules.specs.Status.{outcome}
use Rattle.cd_entries.specs.declared.entry.Entry.{Entry}
use Rattle.cd_book.proofs.Newest.{one_more, all_of}
use Rattle.cd_book.proofs.step.outcome.Goals as goal

pub loop-entry-init : goal.loop-entry-init
unfolding outcome
loop-entry-init c = refl

pub loop-entry-preserved : goal.loop-entry-preserved
loop-entry-preserved c =
    one_more (λ (journal : List Entry). outcome journal c.args.key.now) c.args.entries.now c.loop-entry.entry-index c.entry-item.result c.outcome_after-found.result c.loop-entry-test.true c.entry-item.is
    (c.outcome_after-found.ensures _ c.loop-entry.invariant)

pub returns : goal.returns
returns c = all_of (λ (journal : List Entry). outcome journal c.args.key.now) c.args.entries.now c.loop-entry.entry-index c.loop-entry.found c.loop-entry-test.false c.loop-entry.invariant
