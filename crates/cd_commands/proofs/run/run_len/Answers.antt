use Rattle.std.proofs.Common.{◌≡◌, ◌+◌, drop, arith, true, false, get_or}
use Rattle.cd_commands.proofs.Runs.{run_len-drop_stop, run_len-drop_on, run_len-past}
use Rattle.cd_commands.proofs.run.run_len.Goals as goal

pub returns-then-stops-clause-exact : goal.returns-then-stops-clause-exact
returns-then-stops-clause-exact g c =
    let stops = g.E.End.stops c.args.end.now in
    let e : stops (get_or c.args.bytes.now c.loop-place.place 0) (drop (c.loop-place.place + 1) c.args.bytes.now) ≡ true = cc in
    omega (arith, run_len-drop_stop stops c.args.bytes.now c.loop-place.place c.loop-place-test.true e, c.loop-place.invariant)

pub loop-place-preserved : goal.loop-place-preserved
loop-place-preserved g c =
    let stops = g.E.End.stops c.args.end.now in
    let e : stops (get_or c.args.bytes.now c.loop-place.place 0) (drop (c.loop-place.place + 1) c.args.bytes.now) ≡ false = cc in
    omega (arith, run_len-drop_on stops c.args.bytes.now c.loop-place.place c.loop-place-test.true e, c.loop-place.invariant)

pub returns-clause-exact : goal.returns-clause-exact
returns-clause-exact g c =
    let stops = g.E.End.stops c.args.end.now in
    omega (arith, run_len-past stops c.args.bytes.now c.loop-place.place c.loop-place-test.false, c.loop-place.invariant)
