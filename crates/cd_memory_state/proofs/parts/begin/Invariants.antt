use Rattle.std.proofs.Common.{◌≡◌, take}
use Rattle.cd_memory_state.specs.Parts.{extent}
use Rattle.cd_memory_state.proofs.parts.begin.Given as goal

abbrev pub invariant-loop-place : goal.invariant-loop-place
invariant-loop-place l = l.at ≡ extent (take l.place l.sizes)
