use Rattle.std.proofs.Common.{sym}
use Rattle.cd_frames.proofs.SymbolsLaw.{pairs_of_front, pairs_of_none}
use Rattle.cd_frames.proofs.symbols.pairs_of.Goals as goal

pub returns-in_default : goal.returns-in_default
returns-in_default c =
    let none = pairs_of_none c.args.bytes.now (sym c.in_default.ensures) in
    rw none tt

pub returns : goal.returns
returns c =
    pairs_of_front c.set_pairs.new.symbols c.args.bytes.now c.in-Some.count c.in-Some.rest.now (sym c.in-Some.ensures) (rw c.new-symbols.ensures at c.in_ok-set_pairs.ensures)
