use Rattle.std.proofs.Common.{arith}
use Rattle.cd_memory_state.proofs.CutUp.{extent-more, extent-take-le}
use Rattle.cd_memory_state.proofs.parts.begin.Goals as goal

pub overflow_add-at : goal.overflow_add-at
overflow_add-at c = omega (arith, c.loop-place.invariant, c.requires.fits, extent-take-le c.args.sizes.now c.loop-place.place)

pub loop-place-preserved : goal.loop-place-preserved
loop-place-preserved c = omega (arith, c.loop-place.invariant, extent-more c.args.sizes.now c.loop-place.place)
