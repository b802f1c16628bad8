-- What the next token is, if there is one.
use Rattle.std.specs.Prelude.{◌≡◌, Bool, true, false, Option, Some, None}
use Rattle.cd_grammar.specs.declared.token.Key.{Key}
use Rattle.cd_grammar.specs.declared.token.Key.TheVariants as key
use Rattle.cd_grammar.specs.declared.token.Sign.TheVariants as sign
use Rattle.cd_grammar.specs.declared.token.Token.{Token}
use Rattle.cd_grammar.specs.declared.token.Token.TheVariants.{Word, Quoted, Mark}
use Rattle.cd_automaton.specs.Machine.{is_equals}
use Rattle.cd_parser.specs.declared.value.Extra as extras
use Rattle.cd_parser.specs.declared.value.Extra.TheVariants as extra

abbrev pub IsQuoted : Option Token → Bool → Type 0
IsQuoted None b = b ≡ false
IsQuoted (Some (Word at k word)) b = b ≡ false
IsQuoted (Some (Quoted at text)) b = b ≡ true
IsQuoted (Some (Mark at s)) b = b ≡ false

abbrev pub IsEquals : Option Token → Bool → Type 0
IsEquals None b = b ≡ false
IsEquals (Some (Word at k word)) b = b ≡ false
IsEquals (Some (Quoted at text)) b = b ≡ false
IsEquals (Some (Mark at s)) b = b ≡ is_equals s

-- what a word begins behind COMPRESS
abbrev pub extra_of : Key → extras.Extra
extra_of key.Primechar = extra.Prime
extra_of key.Extended = extra.Extended
extra_of _ = extra.None

abbrev pub IsExtra : Option Token → extras.Extra → Type 0
IsExtra None x = x ≡ extra.None
IsExtra (Some (Word at k word)) x = x ≡ extra_of k
IsExtra (Some (Quoted at text)) x = x ≡ extra.None
IsExtra (Some (Mark at s)) x = x ≡ extra.None
