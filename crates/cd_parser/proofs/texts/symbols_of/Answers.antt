use Rattle.std.proofs.Common.{◌≡◌, ◌+◌, drop, sym, ◌∙◌}
use Rattle.cd_ast.specs.Defaults.{defaults, with_definitions}
use Rattle.cd_parser.proofs.Pairs.{defined_at}
use Rattle.cd_parser.proofs.texts.symbols_of.Goals as goal

pub loop-place-preserved : goal.loop-place-preserved
loop-place-preserved c =
    rw c.in_ok-set.ensures.ok
    (sym (defined_at c.loop-place.symbols c.args.overrides.now c.loop-place.place c.in-Some.name.now c.in-Some.value.now (sym c.in-Some.ensures)) ∙ c.loop-place.invariant)
