use Rattle.std.proofs.Common.{length, ◌∙◌, ap, arith, length-append}
use Rattle.cd_lexer.proofs.Scan.{told-token, told-gap, told-end, open_from-next, same_span, fault_found, flaw_of-bad, flaw_of-none}
use Rattle.cd_lexer.proofs.token.tokens.Goals as goal
use Rattle.cd_lexer.proofs.token.tokens.Goals.{in-Some-token_kind+in_ok-push, in_default-token_kind}

pub returns-in-Some-flaw_at-clause-fault : goal.returns-in-Some-flaw_at-clause-fault
returns-in-Some-flaw_at-clause-fault c =
    fault_found c.args.text.now c.bad_place-bad.result c.loop-piece.at c.loop-piece.before c.loop-piece.rest.now _ _ _ _ (omega arith)
    c.bad_place-bad.ensures.exact c.loop-piece.invariant.flaws c.in-Some.ensures.some c.in-Some-flaw_at.ensures.some

pub loop-piece-preserved : goal.loop-piece-preserved
loop-piece-preserved c = record {
  told = elim c.match-token_kind.branch [
    | in-Some-token_kind+in_ok-push w ↦ rw w.tokens-is (
        told-token c.loop-piece.tokens.items _ _ w.in_ok-push.ensures.items c.loop-piece.at c.loop-piece.before c.loop-piece.rest.now _ _ _ _ c.in-Some.ensures.some w.in-Some-token_kind.ensures.some.0
        (same_span _ _ _ _ w.in-Some-token_kind.ensures.some.1) c.loop-piece.invariant.told)
    | in_default-token_kind w ↦ rw w.tokens-is (told-gap _ _ _ _ _ _ _ _ c.in-Some.ensures.some w.in_default-token_kind.ensures.none c.loop-piece.invariant.told)
  ];
  flaws = open_from-next c.loop-piece.at c.loop-piece.before c.loop-piece.rest.now _ _ _ c.in-Some.ensures.some c.in_default-flaw_at.ensures.none ∙ c.loop-piece.invariant.flaws;
  place = omega (arith, c.loop-piece.invariant.place, simp length-append at (ap length c.in-Some.ensures.whole));
}

pub returns-then-bad-text-clause-fault : goal.returns-then-bad-text-clause-fault
returns-then-bad-text-clause-fault c =
    (omega arith, flaw_of-bad _ _ _ c.loop-piece.at c.loop-piece.before c.bad_place-bad.ensures.exact c.in_default.ensures.none c.loop-piece.invariant.flaws c.if-bad-text.true)

pub returns-clause-tokens : goal.returns-clause-tokens
returns-clause-tokens c = told-end _ c.loop-piece.at c.loop-piece.before c.loop-piece.rest.now _ c.in_default.ensures.none c.loop-piece.invariant.told

pub returns-clause-good : goal.returns-clause-good
returns-clause-good c =
    (omega arith, flaw_of-none _ _ _ c.loop-piece.at c.loop-piece.before c.bad_place-bad.ensures.exact c.in_default.ensures.none c.loop-piece.invariant.flaws c.if-bad-text.false)
