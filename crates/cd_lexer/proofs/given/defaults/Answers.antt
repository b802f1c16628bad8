use Rattle.std.proofs.Common.{◌∙◌, sym, ap}
use Rattle.cd_ast.specs.Pieces.{pieces_after}
use Rattle.cd_ast.specs.Defaults.{with_definitions, definitions}
use Rattle.cd_lexer.proofs.Definitions.{definitions-end, definitions-statement, definitions-first, all-defined}
use Rattle.cd_lexer.proofs.given.defaults.Goals as goal

pub returns-then-is_statement : goal.returns-then-is_statement
returns-then-is_statement c =
    all-defined _ _ _ (definitions-statement c.loop-piece.before _ c.loop-piece.rest.now _ _ c.in-Some.ensures.some (sym c.is_statement.ensures ∙ c.if-is_statement.true)) c.loop-piece.invariant

pub loop-piece-preserved : goal.loop-piece-preserved
loop-piece-preserved c =
    c.in_ok-define.ensures (definitions (pieces_after 0 c.in-Some.piece.kind c.in-Some.piece.rest.now))
    ∙ ap (with_definitions c.loop-piece.symbols) (sym (definitions-first c.loop-piece.before _ c.loop-piece.rest.now _ _ c.in-Some.ensures.some (sym c.is_statement.ensures ∙ c.if-is_statement.false)))
    ∙ c.loop-piece.invariant

pub returns : goal.returns
returns c = all-defined _ _ _ (definitions-end c.loop-piece.before c.loop-piece.rest.now c.in_default.ensures.none) c.loop-piece.invariant
