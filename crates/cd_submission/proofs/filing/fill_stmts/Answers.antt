use Rattle.std.proofs.Common.{◌≡◌, ◌+◌, ◌<◌, ◌++◌, length, map, take, drop, set, arith}
use Rattle.std.proofs.lemmas.List.Edits.{map_over_more}
use Rattle.cd_submission.specs.Filing.{filled_stmt}
use Rattle.cd_submission.proofs.filing.fill_stmts.Goals as goal

pub loop-i-preserved : goal.loop-i-preserved
loop-i-preserved c =
    let xs = c.args.stmts.now.items in
    let ys = c.loop-i.stmts.items in
    let i = c.loop-i.i in
    let x = c.index_mut.result.now in
    let within : i < length xs = omega arith in
    let more : set ys i (filled_stmt x) ≡ map filled_stmt (take (i + 1) xs) ++ drop (i + 1) xs = map_over_more filled_stmt xs ys i x within c.loop-i.invariant c.index_mut.ensures.value in
    rw c.fill_stmt.ensures more
