use Rattle.std.proofs.Common.{◌≡◌, drop}
use Rattle.cd_memory_state.specs.Names.{gap_from}
use Rattle.cd_memory_state.proofs.cabinet.gap.Given as goal

abbrev pub invariant-loop-i : goal.invariant-loop-i
invariant-loop-i l = gap_from l.name l.i (drop l.i l.names.items) ≡ gap_from l.name 0 l.names.items
