-- What the lexer's faults are here.
use Rattle.cd_ast.specs.declared.fault.FaultName.TheVariants as name
use Rattle.cd_lexer.specs.declared.fault.LexFault.{LexFault}
use Rattle.cd_lexer.specs.declared.fault.LexFault.TheVariants as lex
use Rattle.cd_lexer.specs.declared.fault.SymFault.{SymFault}
use Rattle.cd_lexer.specs.declared.fault.SymFault.TheVariants as sym
use Rattle.cd_parser.specs.declared.fault.ParseFault.{ParseFault}
use Rattle.cd_parser.specs.declared.fault.ParseFault.TheVariants.{Text, NoMemory}

abbrev pub lexed : LexFault → ParseFault
lexed (lex.BadByte at) = Text name.BadByte at
lexed (lex.OpenQuote at) = Text name.OpenQuote at
lexed (lex.OpenComment at) = Text name.OpenComment at
lexed (lex.TooLong len) = Text name.TooLong len
lexed lex.NoMemory = NoMemory

abbrev pub unresolved : SymFault → ParseFault
unresolved (sym.Unresolved at) = Text name.Unresolved at
unresolved (sym.TooLong len) = Text name.TooLong len
unresolved sym.NoMemory = NoMemory
