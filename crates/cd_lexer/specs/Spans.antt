-- What a token is among the pieces of its text.
use Rattle.cd_ast.specs.declared.piece.PieceKind.{PieceKind}
use Rattle.cd_ast.specs.declared.piece.PieceKind.TheVariants as pieces
use Rattle.cd_ast.specs.Tokens.{Span}
use Rattle.cd_lexer.specs.declared.token.Token.{Token}
use Rattle.cd_lexer.specs.declared.token.TokenKind.{TokenKind}
use Rattle.cd_lexer.specs.declared.token.TokenKind.TheVariants.{Word, Quoted, Sign}

abbrev pub piece_kind : TokenKind → PieceKind
piece_kind Word = pieces.Word
piece_kind Quoted = pieces.Quoted
piece_kind Sign = pieces.Sign

abbrev pub span_of : Token → Span
span_of token = record { kind = piece_kind token.kind; from = token.from; to = token.to }
