use Rattle.std.proofs.Common.{◌∙◌, sym, ap}
use Rattle.cd_ast.specs.Defaults.{with_definitions}
use Rattle.cd_lexer.proofs.Definitions.{with_definitions-made, defined-both}
use Rattle.cd_lexer.proofs.given.define.Goals as goal

pub returns : goal.returns
returns c = λ others.
    with_definitions-made c.args.symbols.now c.set.new.self others _ _ c.in_ok-set.ensures.ok
    ∙ ap (with_definitions c.args.symbols.now) (sym (defined-both _ _ _ _ others c.in-Some.ensures c.in-Some-given_value.ensures))
