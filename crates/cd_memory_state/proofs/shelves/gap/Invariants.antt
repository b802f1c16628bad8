use Rattle.std.proofs.Common.{◌≡◌, drop}
use Rattle.cd_memory_state.specs.Names.{gap_from}
use Rattle.cd_memory_state.specs.There.{names_of}
use Rattle.cd_memory_state.proofs.shelves.gap.Given as goal

abbrev pub invariant-loop-i : goal.invariant-loop-i
invariant-loop-i l = gap_from l.name l.i (drop l.i (names_of l.slots)) ≡ gap_from l.name 0 (names_of l.slots)
