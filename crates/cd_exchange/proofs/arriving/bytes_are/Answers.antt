use Rattle.std.proofs.Common.{arith}
use Rattle.cd_exchange.proofs.arriving.bytes_are.Goals as goal

pub returns : goal.returns
returns c = λ i. omega (arith, c.type_inv.bytes i)
