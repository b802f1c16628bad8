use Rattle.std.proofs.Common.{◌≡◌, take}
use Rattle.cd_journal.specs.Bytes.{header}
use Rattle.cd_journal.proofs.reading.header_fault.Given as goal

abbrev pub invariant-loop-i : goal.invariant-loop-i
invariant-loop-i l = take l.i l.bytes ≡ take l.i header
