use Rattle.std.proofs.Common.{arith}
use Rattle.cd_entries.proofs.EntryLaw.{entry_only, entry_writable}
use Rattle.cd_entries.proofs.reading.read_entry.Goals as goal

pub returns-in-Ok-clause-writable : goal.returns-in-Ok-clause-writable
returns-in-Ok-clause-writable c =
    entry_writable c.in-Ok.entry (entry_only c.args.bytes.now c.in-Ok.entry (λ i. omega (arith, c.type_inv.bytes i)) c.in-Ok.ensures).1
