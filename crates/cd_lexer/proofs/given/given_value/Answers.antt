use Rattle.std.proofs.Common.{◌∙◌, sym}
use Rattle.cd_lexer.proofs.Definitions.{given_value-end, given_value-sign, given_value-other}
use Rattle.cd_lexer.proofs.given.given_value.Goals as goal

pub returns-in_default : goal.returns-in_default
returns-in_default c = sym (given_value-end c.args.before c.args.text.now c.in_default.ensures.none)

pub returns-then-is_sign : goal.returns-then-is_sign
returns-then-is_sign c =
    c.first_value.ensures ∙ sym (given_value-sign c.args.before _ c.args.text.now _ _ c.in-Some.ensures.some (sym c.is_sign.ensures ∙ c.if-is_sign.true))

pub returns-else-is_sign : goal.returns-else-is_sign
returns-else-is_sign c = sym (given_value-other c.args.before _ c.args.text.now _ _ c.in-Some.ensures.some (sym c.is_sign.ensures ∙ c.if-is_sign.false))
