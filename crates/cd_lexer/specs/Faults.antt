-- When each fault comes.
use Rattle.std.specs.Prelude.{◌≡◌, ℕ, ◌<◌, ◌≤◌, List, length, Option, Some, Err, IsOkAnd, ◌⊎◌}
use Rattle.cd_ast.specs.declared.fault.FaultName.{FaultName}
use Rattle.cd_ast.specs.declared.fault.FaultName.TheVariants as names
use Rattle.cd_ast.specs.Subst.{subst}
use Rattle.cd_ast.specs.Tokens.{flaw_of}
use Rattle.cd_lexer.specs.Output.{longest_text}
use Rattle.cd_lexer.specs.declared.fault.SymFault.{SymFault}
use Rattle.cd_lexer.specs.declared.fault.SymFault.TheVariants as syms
use Rattle.cd_lexer.specs.declared.fault.LexFault.{LexFault}
use Rattle.cd_lexer.specs.declared.fault.LexFault.TheVariants.{BadByte, OpenQuote, OpenComment, TooLong, NoMemory}

-- the greatest length of a text that is cut into tokens
abbrev pub longest_plain : ℕ
longest_plain = 262143

-- the fault of the text's bytes and pieces that a fault tells
abbrev pub IsNamed : LexFault → Option (FaultName × ℕ) → Type 0
IsNamed (TooLong len) flaw = ⊥
IsNamed (BadByte at) flaw = flaw ≡ Some (names.BadByte, at)
IsNamed (OpenQuote at) flaw = flaw ≡ Some (names.OpenQuote, at)
IsNamed (OpenComment at) flaw = flaw ≡ Some (names.OpenComment, at)
IsNamed NoMemory flaw = ⊥

-- when each fault comes: the text's length is judged first, and then the first fault of its bytes and pieces
abbrev pub IsLexFault : List ℕ → LexFault → Type 0
IsLexFault text (TooLong len) = (longest_plain < length text) × (len ≡ length text)
IsLexFault text (BadByte at) = (length text ≤ longest_plain) × IsNamed (BadByte at) (flaw_of text)
IsLexFault text (OpenQuote at) = (length text ≤ longest_plain) × IsNamed (OpenQuote at) (flaw_of text)
IsLexFault text (OpenComment at) = (length text ≤ longest_plain) × IsNamed (OpenComment at) (flaw_of text)
IsLexFault text NoMemory = Unit {0}

-- when each fault of substitution comes: the length of the text as given goes first, and that of what it becomes last
abbrev pub IsSymFault : List ℕ → List (List ℕ × List ℕ) → SymFault → Type 0
IsSymFault text symbols (syms.Unresolved at) = (length text ≤ longest_text) × (subst text symbols ≡ Err at)
IsSymFault text symbols (syms.TooLong len) =
    ((longest_text < length text) × (len ≡ length text))
    ⊎ ((length text ≤ longest_text) × IsOkAnd (subst text symbols) (λ out. (longest_text < length out) × (len ≡ length out)))
IsSymFault text symbols syms.NoMemory = Unit {0}
