use Rattle.std.proofs.Common.{length, ap, arith, length-append}
use Rattle.cd_lexer.proofs.Put.{put-part, put-stop, put-end}
use Rattle.cd_lexer.proofs.subst.put_parts.Goals as goal

pub returns-in_default-given_for-clause-err : goal.returns-in_default-given_for-clause-err
returns-in_default-given_for-clause-err c = put-stop _ _ _ _ _ _ _ _ _ _ c.in-Some.ensures.some c.in_default-given_for.ensures c.loop-part.invariant.put

pub loop-part-preserved : goal.loop-part-preserved
loop-part-preserved c = record {
  put = put-part _ _ _ _ _ _ _ _ _ _ _ _ c.in-Some.ensures.some c.in-Some-given_for.ensures c.loop-part.invariant.put c.in_ok-put.ensures.ok;
  place = omega (arith, c.loop-part.invariant.place, simp length-append at (ap length c.in-Some.ensures.whole));
}

pub returns-clause-ok : goal.returns-clause-ok
returns-clause-ok c = put-end _ _ _ _ _ _ _ c.in_default.ensures.none c.loop-part.invariant.put
