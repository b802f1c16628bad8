use Rattle.std.proofs.Common.{◌+◌, ℕ, List, length, drop, ap, sym, arith, length-append}
use Rattle.cd_frames.specs.Symbols.{pairs_bytes, symbol}
use Rattle.cd_frames.proofs.SymbolsLaw.{pair_form, rest_pair, there_is}
use Rattle.cd_frames.proofs.symbols.pairs_size.Goals as goal

pub symbol_size-size-requires-clause-name : goal.symbol_size-size-requires-clause-name
symbol_size-size-requires-clause-name c = (pair_form c.args.symbols.now c.loop-place.place (c.in-Some.name.now, c.in-Some.value.now) c.requires.pairs (sym c.in-Some.ensures)).0

pub symbol_size-size-requires-clause-value : goal.symbol_size-size-requires-clause-value
symbol_size-size-requires-clause-value c = (pair_form c.args.symbols.now c.loop-place.place (c.in-Some.name.now, c.in-Some.value.now) c.requires.pairs (sym c.in-Some.ensures)).1

pub unreachable-requires : goal.unreachable-requires
unreachable-requires c = there_is c.args.symbols.now c.loop-place.place (omega (arith, c.loop-place-test.true, c.len-place-end.ensures)) (sym c.in-None.ensures)

pub loop-place-preserved : goal.loop-place-preserved
loop-place-preserved c =
    let rest = rest_pair c.args.symbols.now c.loop-place.place (c.in-Some.name.now, c.in-Some.value.now) (sym c.in-Some.ensures) in
    let parts = ap (λ (ps : List (List ℕ × List ℕ)). length (pairs_bytes ps)) rest in
    let long = length-append (symbol.spelled (c.in-Some.name.now, c.in-Some.value.now)) (pairs_bytes (drop (c.loop-place.place + 1) c.args.symbols.now)) in
    (omega (arith, c.loop-place.invariant.0, parts, long, c.symbol_size-size.ensures.size), omega (arith, c.loop-place.invariant.1, c.symbol_size-size.ensures.short))
