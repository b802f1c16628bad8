use Rattle.std.proofs.Common.{◌∙◌, sym}
use Rattle.std.proofs.lemmas.List.{nil_from_length}
use Rattle.cd_lexer.proofs.Definitions.{last_name-end, last_name-here, last_name-later}
use Rattle.cd_lexer.proofs.given.last_name.Goals as goal

pub returns-then-is_before_name : goal.returns-then-is_before_name
returns-then-is_before_name c =
    sym (last_name-here c.loop-byte.rest.now _ _ c.in-Some.ensures.cases.0 (sym c.is_before_name.ensures ∙ c.if-is_before_name.true)) ∙ c.loop-byte.invariant

pub loop-byte-preserved : goal.loop-byte-preserved
loop-byte-preserved c =
    sym (last_name-later c.loop-byte.rest.now _ _ c.in-Some.ensures.cases.0 (sym c.is_before_name.ensures ∙ c.if-is_before_name.false)) ∙ c.loop-byte.invariant

pub returns : goal.returns
returns c = sym (last_name-end c.loop-byte.rest.now (nil_from_length c.loop-byte.rest.now c.in_default.ensures.cases)) ∙ c.loop-byte.invariant
