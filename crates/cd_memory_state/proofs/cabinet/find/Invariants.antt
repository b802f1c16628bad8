use Rattle.std.proofs.Common.{◌≡◌, drop}
use Rattle.std.specs.List.{position_from}
use Rattle.std.specs.Str.{bytes_eq}
use Rattle.cd_memory_state.proofs.cabinet.find.Given as goal

abbrev pub invariant-loop-i : goal.invariant-loop-i
invariant-loop-i l = position_from (λ one. bytes_eq one l.name) l.i (drop l.i l.names.items) ≡ position_from (λ one. bytes_eq one l.name) 0 l.names.items
