use Rattle.std.proofs.Common.{◌∙◌, sym}
use Rattle.cd_lexer.proofs.Put.{piece_parts-read, kept-ok, on_ok}
use Rattle.cd_lexer.proofs.subst.put_piece.Goals as goal

pub returns-then-is_read-clause-ok : goal.returns-then-is_read-clause-ok
returns-then-is_read-clause-ok c =
    rw (piece_parts-read c.args.piece.kind c.args.piece.bytes.now c.args.piece.rest.now c.defines-defines.result (sym c.is_read.ensures ∙ c.if-is_read.true) c.defines-defines.ensures) c.put_parts.ensures.ok

pub returns-then-is_read-clause-err : goal.returns-then-is_read-clause-err
returns-then-is_read-clause-err c =
    rw (piece_parts-read c.args.piece.kind c.args.piece.bytes.now c.args.piece.rest.now c.defines-defines.result (sym c.is_read.ensures ∙ c.if-is_read.true) c.defines-defines.ensures) c.put_parts.ensures.err

pub returns-else-is_read-clause-ok : goal.returns-else-is_read-clause-ok
returns-else-is_read-clause-ok c =
    on_ok c.put.result _ _ c.put.ensures.ok (kept-ok c.args.out.now c.put.new.self c.args.symbols.now c.args.at c.args.piece.kind c.args.piece.bytes.now c.args.piece.rest.now (sym c.is_read.ensures ∙ c.if-is_read.false))
