-- Tokens as they stand in a text.
use Rattle.std.specs.Prelude.{◌≡◌, ℕ, suc, ◌≤◌, List, [], ◌∷◌}
use Rattle.cd_grammar.specs.declared.token.Token.{Token}
use Rattle.cd_grammar.specs.declared.token.Token.TheVariants.{Word, Quoted, Mark}
use Rattle.cd_grammar.specs.Tokens.{place_of}
use Rattle.cd_grammar.specs.Words.{key_of}

-- a word has the key of its bytes
abbrev pub IsKeyed : Token → Type 0
IsKeyed (Word at k word) = k ≡ key_of word
IsKeyed (Quoted at text) = Unit {0}
IsKeyed (Mark at g) = Unit {0}

-- words have their keys, and each token stands behind the one before it, the first at a place or behind it
abbrev pub Placed : ℕ → List Token → Type 0
Placed from [] = Unit {0}
Placed from (t ∷ ts) = (from ≤ place_of t) × IsKeyed t × Placed (suc (place_of t)) ts

-- words have their keys
abbrev pub AreKeyed : List Token → Type 0
AreKeyed [] = Unit {0}
AreKeyed (t ∷ ts) = IsKeyed t × AreKeyed ts
