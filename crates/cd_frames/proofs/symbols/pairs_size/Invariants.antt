use Rattle.std.proofs.Common.{◌≡◌, ◌+◌, ◌*◌, ◌≤◌, length, drop}
use Rattle.cd_frames.specs.Symbols.{pairs_bytes}
use Rattle.cd_frames.proofs.symbols.pairs_size.Given as goal

abbrev pub invariant-loop-place : goal.invariant-loop-place
invariant-loop-place l = (l.size + length (pairs_bytes (drop l.place l.symbols)) ≡ length (pairs_bytes l.symbols)) × (l.size ≤ l.place * 4294967317)
