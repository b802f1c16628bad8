use Rattle.std.proofs.Common.{◌-◌, ◌+◌, ap, sym, ◌∙◌}
use Rattle.cd_frames.specs.Symbols.{given, pairs_in}
use Rattle.cd_frames.proofs.SymbolsLaw.{given_one}
use Rattle.cd_frames.proofs.symbols.set_pairs.Goals as goal

pub loop-place-preserved : goal.loop-place-preserved
loop-place-preserved c =
    ap (λ symbols. given symbols (pairs_in (c.args.count - (c.loop-place._place + 1)) c.in-Some.more.now)) (c.in_ok-set.ensures.ok)
    ∙ sym (given_one c.loop-place.symbols c.args.count c.loop-place._place c.loop-place.rest.now ((c.in-Some.name.now, c.in-Some.value.now), c.in-Some.more.now) c.loop-place-test.true (sym c.in-Some.ensures))
    ∙ c.loop-place.invariant
