use Rattle.std.proofs.Common.{◌≡◌, ◌∙◌, [], sym, subst, Some, None, Option, option_map, Err}
use Rattle.std.specs.Prelude.{OnOk, IfErr}
use Rattle.cd_outside.specs.Counts.{Rose}
use Rattle.cd_entries.specs.declared.entry.Entry.{Entry}
use Rattle.cd_outside.specs.Disk.{LeftAt}
use Rattle.cd_outside.specs.Moments.{Moments}
use Rattle.cd_turn.specs.Ends.{MayLeave, FitsBehind, HasReason}
use Rattle.cd_turn.specs.Turn.{added}
use Rattle.cd_turn.proofs.Adding.{added_may}
use Rattle.cd_turn.proofs.Homes.{rests_moments}
use Rattle.cd_turn.proofs.turn.keep_added.Goals as goal

-- src/turn.rt:234:28
pub keep_entry-requires-clause-may : goal.keep_entry-requires-clause-may
keep_entry-requires-clause-may g c =
    let wanted = c.args.wanted.now in
    let adds : added c.args.home.now.entries c.args.now wanted ≡ Some c.in-Ok-Some.entry = sym c.in-Ok-Some.ensures ∙ c.in-Ok-Some.field-0-is in
    added_may c.args.home.now.entries c.args.now wanted c.in-Ok-Some.entry c.requires.legal c.requires.formed adds

-- what a crash may leave of it
pub returns-in-Ok-Some-clause-moments : goal.returns-in-Ok-Some-clause-moments
returns-in-Ok-Some-clause-moments g c = λ told.
    let old = g.P.Disk.state c.args.journal.now in
    let entries = c.args.home.now.entries in
    let wanted = c.args.wanted.now in
    let adds : added entries c.args.now wanted ≡ Some c.in-Ok-Some.entry = sym c.in-Ok-Some.ensures ∙ c.in-Ok-Some.field-0-is in
    subst (λ (entry : Option Entry). Moments (LeftAt old) (LeftAt (g.P.Disk.state c.keep_entry.new.journal)) c.args.beat.now (MayLeave (old.seen ≡ []) entries entry)) (sym adds) (c.keep_entry.ensures.moments told)

pub returns-in-Ok-None-clause-moments : goal.returns-in-Ok-None-clause-moments
returns-in-Ok-None-clause-moments g c = λ told.
    rests_moments c.args.home.now (g.P.Disk.state c.args.journal.now) c.args.beat.now (added c.args.home.now.entries c.args.now c.args.wanted.now) c.requires.legal (c.requires.home told) (c.requires.order told)

pub returns-in-Err-clause-moments : goal.returns-in-Err-clause-moments
returns-in-Err-clause-moments g c = λ told.
    rests_moments c.args.home.now (g.P.Disk.state c.args.journal.now) c.args.beat.now (added c.args.home.now.entries c.args.now c.args.wanted.now) c.requires.legal (c.requires.home told) (c.requires.order told)
