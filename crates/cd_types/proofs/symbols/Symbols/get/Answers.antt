use Rattle.std.proofs.Common.{Some, map, ap, ◌∙◌}
use Rattle.std.specs.Char.{to_ascii_uppercase}
use Rattle.cd_types.proofs.Pairs.{symbol_value-found}
use Rattle.cd_types.proofs.symbols.Symbols.get.Goals as goal

pub returns-in-Some : goal.returns-in-Some
returns-in-Some c =
    ap Some c.as_slice.ensures.value ∙ symbol_value-found _ _ _ _ _ c.in-Some.ensures.value c.self.view_is (c.make_upper_case.ensures ∙ ap (map to_ascii_uppercase) c.copy_from_slice.ensures.after)

pub returns-in-None : goal.returns-in-None
returns-in-None c =
    symbol_value-found _ _ _ _ _ c.in-None.ensures.value c.self.view_is (c.make_upper_case.ensures ∙ ap (map to_ascii_uppercase) c.copy_from_slice.ensures.after)
