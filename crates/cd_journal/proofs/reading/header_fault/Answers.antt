use Rattle.std.proofs.Common.{inl, inr, arith}
use Rattle.cd_journal.proofs.Header.{list_of-header}
use Rattle.cd_journal.proofs.reading.header_fault.Goals as goal
use Rattle.cd_journal.proofs.reading.header_fault.Goals.{then-i-bytes-via-then-i-bytes, then-i-bytes-via-else-i-bytes+then-bytes-i}

pub returns-then-i-bytes-clause-fault : goal.returns-then-i-bytes-clause-fault
returns-then-i-bytes-clause-fault c = elim c.then-i-bytes.branch [
  | then-i-bytes-via-then-i-bytes w ↦ list_of-header _ _ (omega arith) c.loop-i.invariant (inl (omega arith))
  | then-i-bytes-via-else-i-bytes+then-bytes-i w ↦ list_of-header _ _ (omega arith) c.loop-i.invariant (inr w.if-bytes-i.true)
]
