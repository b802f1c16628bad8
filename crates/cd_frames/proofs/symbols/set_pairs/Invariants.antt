use Rattle.std.proofs.Common.{◌≡◌, ◌-◌}
use Rattle.cd_frames.specs.Symbols.{given, pairs_in}
use Rattle.cd_frames.proofs.symbols.set_pairs.Given as goal

abbrev pub invariant-loop-place : goal.invariant-loop-place
invariant-loop-place l = given l.symbols (pairs_in (l.count - l._place) l.rest) ≡ given l.initial.symbols (pairs_in l.count l.bytes)
