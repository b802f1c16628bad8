use Rattle.std.proofs.Common.{◌≡◌, ◌-◌, ◌∙◌, sym, arith}
use Rattle.cd_frames.proofs.SymbolsLaw.{after_none, after_one}
use Rattle.cd_frames.proofs.symbols.after_pairs.Goals as goal

pub returns-in_err-more : goal.returns-in_err-more
returns-in_err-more c =
    rw c.from_residual.ensures (sym (after_none c.args.count c.loop-place._place _ c.loop-place-test.true (sym c.in_err-more.ensures)) ∙ c.loop-place.invariant)

pub loop-place-preserved : goal.loop-place-preserved
loop-place-preserved c =
    sym (after_one c.args.count c.loop-place._place _ _ c.loop-place-test.true (sym c.in_ok-more.ensures)) ∙ c.loop-place.invariant

pub returns : goal.returns
returns c =
    let none : c.args.count - c.loop-place._place ≡ 0 = omega (arith, c.loop-place-test.false) in
    rw none at c.loop-place.invariant
