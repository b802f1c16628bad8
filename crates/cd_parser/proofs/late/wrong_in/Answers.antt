use Rattle.std.proofs.Common.{◌≡◌, ◌+◌, ◌-◌, ◌<◌, length, drop, refl, arith}
use Rattle.cd_parser.proofs.Marks.{step_at}
use Rattle.cd_parser.proofs.late.wrong_in.Goals as goal

pub loop-place-preserved : goal.loop-place-preserved
loop-place-preserved c =
    let back : (c.loop-place.place - 1) + 1 ≡ c.loop-place.place = omega arith in
    let within : c.loop-place.place - 1 < length c.args.marks.now = omega (arith, c.loop-place.invariant.within) in
    record {
      within = omega (arith, c.loop-place.invariant.within);
      best = step_at c.args.marks.now (c.loop-place.place - 1) (drop (c.loop-place.place - 1) c.args.marks.now) c.wrong_at.result c.loop-place.best c.sooner-best.result
          within refl c.wrong_at.ensures c.sooner-best.ensures (rw back c.loop-place.invariant.best);
    }
