-- What the next token is.
use Rattle.std.specs.Prelude.{Bool, true, false}
use Rattle.cd_grammar.specs.declared.token.Sign.{Sign}
use Rattle.cd_grammar.specs.declared.token.Sign.TheVariants as sign
use Rattle.cd_grammar.specs.declared.token.Token.{Token}
use Rattle.cd_grammar.specs.declared.token.Token.TheVariants.{Word, Quoted, Mark}

abbrev pub are_equal : Sign → Bool
are_equal sign.Equals = true
are_equal _ = false

-- a token is =
abbrev pub equals : Token → Bool
equals (Word at key word) = false
equals (Quoted at text) = false
equals (Mark at s) = are_equal s
