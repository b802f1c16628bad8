use Rattle.std.proofs.Common.{arith}
use Rattle.cd_frames.proofs.SymbolsLaw.{made_form}
use Rattle.cd_frames.proofs.symbols.symbols_of.Goals as goal

pub returns-in-Ok-clause-writable : goal.returns-in-Ok-clause-writable
returns-in-Ok-clause-writable c =
    made_form c.in-Ok.symbols c.args.bytes.now (λ i. omega (arith, c.type_inv.bytes i)) c.requires c.in-Ok.ensures
