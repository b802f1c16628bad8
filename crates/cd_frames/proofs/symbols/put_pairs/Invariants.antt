use Rattle.std.proofs.Common.{◌≡◌, ◌+◌, ◌≤◌, ◌++◌, length, drop, vec_len, vec_capacity}
use Rattle.cd_frames.specs.Symbols.{pairs_bytes}
use Rattle.cd_frames.proofs.symbols.put_pairs.Given as goal

abbrev pub invariant-loop-place : goal.invariant-loop-place
invariant-loop-place l =
    (l.into.items ++ pairs_bytes (drop l.place l.symbols) ≡ l.initial.into.items ++ pairs_bytes l.symbols) × (vec_len l.into + length (pairs_bytes (drop l.place l.symbols)) ≤ vec_capacity l.into)
