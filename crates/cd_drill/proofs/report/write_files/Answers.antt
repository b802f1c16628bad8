use Rattle.cd_drill.specs.AtRest.{seen_of, names_in}
use Rattle.cd_drill.proofs.Filed.{more_written, all_told}
use Rattle.cd_drill.proofs.report.write_files.Goals as goal

pub returns-then-not-there : goal.returns-then-not-there
returns-then-not-there c =
    all_told (seen_of c.args.half.now) (names_in c.args.half.now) c.loop-at.at c.in_ok-there.there _ _ _ c.in_ok-there.ensures c.if-not-there.true c.loop-at.invariant

pub loop-at-preserved : goal.loop-at-preserved
loop-at-preserved c =
    more_written (seen_of c.args.half.now) (names_in c.args.half.now) c.loop-at.at c.in_ok-there.there _ _ _ c.in_ok-there.ensures c.if-not-there.false c.loop-at.invariant
