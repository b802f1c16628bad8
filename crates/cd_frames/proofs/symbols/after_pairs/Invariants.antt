use Rattle.std.proofs.Common.{◌≡◌, ◌-◌}
use Rattle.cd_frames.specs.Symbols.{after_pairs}
use Rattle.cd_frames.proofs.symbols.after_pairs.Given as goal

abbrev pub invariant-loop-place : goal.invariant-loop-place
invariant-loop-place l = after_pairs (l.count - l._place) l.rest ≡ after_pairs l.count l.bytes
