use Rattle.std.proofs.Common.{◌+◌, ◌++◌, ℕ, List, length, drop, ap, sym, ◌∙◌, arith, append_assoc, length-append}
use Rattle.cd_frames.specs.Symbols.{pairs_bytes, symbol}
use Rattle.cd_frames.proofs.SymbolsLaw.{pair_form, rest_pair, there_is}
use Rattle.cd_frames.proofs.symbols.put_pairs.Goals as goal

pub put_symbol-requires-clause-name : goal.put_symbol-requires-clause-name
put_symbol-requires-clause-name c = (pair_form c.args.symbols.now c.loop-place.place (c.in-Some.name.now, c.in-Some.value.now) c.requires.pairs (sym c.in-Some.ensures)).0

pub put_symbol-requires-clause-value : goal.put_symbol-requires-clause-value
put_symbol-requires-clause-value c = (pair_form c.args.symbols.now c.loop-place.place (c.in-Some.name.now, c.in-Some.value.now) c.requires.pairs (sym c.in-Some.ensures)).1

pub put_symbol-requires-clause-room : goal.put_symbol-requires-clause-room
put_symbol-requires-clause-room c =
    let rest = rest_pair c.args.symbols.now c.loop-place.place (c.in-Some.name.now, c.in-Some.value.now) (sym c.in-Some.ensures) in
    let parts = ap (λ (ps : List (List ℕ × List ℕ)). length (pairs_bytes ps)) rest in
    omega (arith, c.loop-place.invariant.1, parts, length-append (symbol.spelled (c.in-Some.name.now, c.in-Some.value.now)) (pairs_bytes (drop (c.loop-place.place + 1) c.args.symbols.now)))

pub unreachable-requires : goal.unreachable-requires
unreachable-requires c = there_is c.args.symbols.now c.loop-place.place (omega (arith, c.loop-place-test.true, c.len-place-end.ensures)) (sym c.in-None.ensures)

pub loop-place-preserved : goal.loop-place-preserved
loop-place-preserved c =
    let spelled = symbol.spelled (c.in-Some.name.now, c.in-Some.value.now) in
    let behind = pairs_bytes (drop (c.loop-place.place + 1) c.args.symbols.now) in
    let rest = rest_pair c.args.symbols.now c.loop-place.place (c.in-Some.name.now, c.in-Some.value.now) (sym c.in-Some.ensures) in
    let parts = ap (λ (ps : List (List ℕ × List ℕ)). length (pairs_bytes ps)) rest in
    let written = c.put_symbol.ensures.bytes in (
      ap (λ (ys : List ℕ). ys ++ behind) written ∙ append_assoc c.loop-place.into.items spelled behind
          ∙ ap (λ (ps : List (List ℕ × List ℕ)). c.loop-place.into.items ++ pairs_bytes ps) (sym rest) ∙ c.loop-place.invariant.0,
      omega (arith, c.loop-place.invariant.1, parts, length-append spelled behind, length-append c.loop-place.into.items spelled, ap length written, c.put_symbol.ensures.capacity, c.put_symbol.new.into.ok.0, c.loop-place.into.ok.0),
    )
