use Rattle.std.proofs.Common.{◌∙◌, sym}
use Rattle.cd_lexer.proofs.Definitions.{first_value-end, first_value-gap, first_value-here}
use Rattle.cd_lexer.proofs.given.first_value.Goals as goal

pub returns-then-not-is_passed : goal.returns-then-not-is_passed
returns-then-not-is_passed c =
    c.piece_value.ensures ∙ sym (first_value-here c.loop-piece.before _ c.loop-piece.rest.now _ _ c.in-Some.ensures.some (sym c.is_passed.ensures ∙ c.if-not-is_passed.true)) ∙ c.loop-piece.invariant

pub loop-piece-preserved : goal.loop-piece-preserved
loop-piece-preserved c =
    sym (first_value-gap c.loop-piece.before _ c.loop-piece.rest.now _ _ c.in-Some.ensures.some (sym c.is_passed.ensures ∙ c.if-not-is_passed.false)) ∙ c.loop-piece.invariant

pub returns : goal.returns
returns c = sym (first_value-end c.loop-piece.before c.loop-piece.rest.now c.in_default.ensures.none) ∙ c.loop-piece.invariant
