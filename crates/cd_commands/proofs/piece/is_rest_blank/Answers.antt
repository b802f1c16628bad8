use Rattle.std.proofs.Common.{◌∙◌, sym}
use Rattle.std.proofs.lemmas.List.{nil_from_length}
use Rattle.cd_commands.proofs.Runs.{is_rest_blank-end, is_rest_blank-line, is_rest_blank-blank, is_rest_blank-comment, is_rest_blank-other}
use Rattle.cd_commands.proofs.piece.is_rest_blank.Goals as goal

pub returns-then-byte-eq10 : goal.returns-then-byte-eq10
returns-then-byte-eq10 c = cc (is_rest_blank-line _ c.in-Some.after.now c.if-byte-eq10.true, c.in-Some.ensures.cases.0)

pub loop-byte-preserved-then-is_blank : goal.loop-byte-preserved-then-is_blank
loop-byte-preserved-then-is_blank c = cc (is_rest_blank-blank _ c.in-Some.after.now c.if-byte-eq10.false (sym c.is_blank.ensures ∙ c.if-is_blank.true), c.in-Some.ensures.cases.0)

pub loop-byte-preserved : goal.loop-byte-preserved
loop-byte-preserved c = cc (is_rest_blank-comment _ c.in-Some.after.now c.if-byte-eq10.false (sym c.is_blank.ensures ∙ c.if-is_blank.false) c.in-Some-behind_comment.ensures.some.0 c.in-Some-behind_comment.ensures.some.1, c.in-Some.ensures.cases.0, c.in-Some-behind_comment.ensures.some.2)

pub returns-in_default-behind_comment : goal.returns-in_default-behind_comment
returns-in_default-behind_comment c = cc (is_rest_blank-other _ c.in-Some.after.now c.if-byte-eq10.false (sym c.is_blank.ensures ∙ c.if-is_blank.false) c.in_default-behind_comment.ensures.none, c.in-Some.ensures.cases.0)

pub returns : goal.returns
returns c = cc (is_rest_blank-end, nil_from_length c.loop-byte.rest.now c.in_default.ensures.cases)
