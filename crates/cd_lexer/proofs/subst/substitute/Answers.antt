use Rattle.std.proofs.Common.{length, ap, arith, length-append}
use Rattle.cd_lexer.proofs.Put.{reached-piece, piece_fault, too_long, stands_all}
use Rattle.cd_lexer.proofs.subst.substitute.Goals as goal

pub returns-in-Err-clause-fault : goal.returns-in-Err-clause-fault
returns-in-Err-clause-fault c =
    piece_fault c.in-Err.fault c.args.text.now c.args.symbols.now c.loop-piece.out c.loop-piece.at c.loop-piece.before _ c.loop-piece.rest.now _ _ (omega arith) c.in-Some.ensures.some c.loop-piece.invariant.reached c.in-Err.ensures.err

pub loop-piece-preserved : goal.loop-piece-preserved
loop-piece-preserved c = record {
  reached = reached-piece _ _ _ _ _ _ _ _ _ _ c.in-Some.ensures.some c.in_default-put_piece.ensures.ok c.loop-piece.invariant.reached;
  place = omega (arith, c.loop-piece.invariant.place, simp length-append at (ap length c.in-Some.ensures.whole));
}

pub returns-then-out-clause-fault : goal.returns-then-out-clause-fault
returns-then-out-clause-fault c = too_long _ _ _ _ _ _ (omega arith) c.in_default.ensures.none c.loop-piece.invariant.reached c.if-out.true

pub returns-clause-substituted : goal.returns-clause-substituted
returns-clause-substituted c = stands_all _ _ _ _ _ _ c.in_default.ensures.none c.loop-piece.invariant.reached c.if-out.false
