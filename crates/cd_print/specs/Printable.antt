-- Which Processes are read back from their print.
use Rattle.std.specs.Prelude.{◌≡◌, ℕ, ◌≤◌, List, [], ◌∷◌, length, Bool, true, false, not, ◌&&◌, ◌==◌, nat_le, nat_lt, Option, Some, None, if◌then◌else◌}
use Rattle.std.specs.Char.{is_ascii_alphanumeric}
use Rattle.std.specs.List.{list_all, list_any}
use Rattle.std.specs.Str.{IsUtf8}
use Rattle.cd_ast.specs.Bytes.{is_refused}
use Rattle.cd_types.specs.Symbols.{upper_case, with_symbol}
use Rattle.cd_ast.specs.declared.process.Stmt.{Stmt}
use Rattle.cd_ast.specs.declared.process.What.{What}
use Rattle.cd_ast.specs.declared.process.What.TheVariants as what
use Rattle.cd_types.specs.declared.start.Day.{Day}
use Rattle.cd_types.specs.declared.start.Day.TheVariants as day
use Rattle.cd_ast.specs.declared.process.Process.{Process}
use Rattle.cd_automaton.specs.Ranges.{passes, is_card, are_stmts}

-- a text that hasn't both quotes
abbrev pub is_quotable : List ℕ → Bool
is_quotable body = not (list_any (λ b. b == 34) body && list_any (λ b. b == 39) body)

-- a symbolic name: 1 to 17 letters and digits
abbrev pub is_symbol_name : List ℕ → Bool
is_symbol_name name = nat_le 1 (length name) && nat_le (length name) 17 && list_all is_ascii_alphanumeric name

abbrev pub are_symbols : List (List ℕ × List ℕ) → Bool
are_symbols pairs = list_all (λ pair. is_symbol_name pair.0 && is_quotable pair.1) pairs

-- symbols that are given one after the other
abbrev pub with_all : List (List ℕ × List ℕ) → List (List ℕ × List ℕ) → List (List ℕ × List ℕ)
with_all symbols [] = symbols
with_all symbols (pair ∷ pairs) = with_all (with_symbol symbols (upper_case pair.0) pair.1) pairs

-- the texts of a statement can be quoted, and its symbols have names of their own, in upper case
abbrev pub IsQuotable : What → Type 0
IsQuotable (what.Copy copy) = (is_quotable copy.from ≡ true) × (is_quotable copy.to ≡ true)
IsQuotable (what.Task task) = is_quotable task.command ≡ true
IsQuotable (what.Submit submit) = (is_quotable submit.file ≡ true) × (are_symbols submit.symbols ≡ true) × (with_all [] submit.symbols ≡ submit.symbols)
IsQuotable _ = Unit {0}

abbrev pub AreQuotable : List Stmt → Type 0
AreQuotable [] = Unit {0}
AreQuotable (s ∷ stmts) = IsQuotable s.what × AreQuotable stmts

-- the IFs that are open behind a statement, from the innermost, where it may stand there: for each whether its ELSE was read.
-- An IF may stand in up to 15 others, and an ELSE and an EIF have no label.
abbrev pub behind_else : Option (List ℕ) → List Bool → Option (List Bool)
behind_else (Some label) ifs = None
behind_else None [] = None
behind_else None (true ∷ ifs) = None
behind_else None (false ∷ ifs) = Some (true ∷ ifs)

abbrev pub behind_eif : Option (List ℕ) → List Bool → Option (List Bool)
behind_eif (Some label) ifs = None
behind_eif None [] = None
behind_eif None (b ∷ ifs) = Some ifs

abbrev pub behind : What → Option (List ℕ) → List Bool → Option (List Bool)
behind (what.If name rel n) label ifs = if nat_lt (length ifs) 16 then Some (false ∷ ifs) else None
behind what.Else label ifs = behind_else label ifs
behind what.Eif label ifs = behind_eif label ifs
behind (what.Copy copy) label ifs = Some ifs
behind (what.Task task) label ifs = Some ifs
behind (what.Submit submit) label ifs = Some ifs
behind (what.Goto name) label ifs = Some ifs
behind what.Exit label ifs = Some ifs

-- statements that may stand one behind the other where these IFs are open
abbrev pub AreNested : List Bool → List Stmt → Type 0
AreNested ifs [] = Unit {0}
AreNested ifs (s ∷ stmts) = (more : List Bool) × (behind s.what s.label ifs ≡ Some more) × AreNested more stmts

-- a day that can be written
abbrev pub is_day : Day → Bool
is_day day.Today = true
is_day day.Tomorrow = true
is_day (day.Weekday n) = nat_lt n 7
is_day (day.Date y m d) = nat_lt y 10000 && nat_lt m 100 && nat_lt d 100

-- a Process with values in range, texts that can be quoted, and statements that may stand one behind the other
pub record IsPrintable (process : Process) : Type 0 where
  pub card : is_card process.card ≡ true
  pub name : process.card.name ≡ process.name
  pub start : passes (λ start. is_day start.day) process.card.start ≡ true
  pub stmts : are_stmts process.stmts ≡ true
  pub count : length process.stmts ≤ 1024
  pub quoted : AreQuotable process.stmts
  pub nested : AreNested [] process.stmts

-- UTF-8 without a byte that no text may have
abbrev pub IsGoodText : List ℕ → Type 0
IsGoodText body = (list_all (λ b. not (is_refused b)) body ≡ true) × IsUtf8 body

abbrev pub HaveGoodValues : List (List ℕ × List ℕ) → Type 0
HaveGoodValues [] = Unit {0}
HaveGoodValues (pair ∷ pairs) = IsGoodText pair.1 × HaveGoodValues pairs

-- the files, the commands and the values of statements are such texts
abbrev pub HasGoodTexts : What → Type 0
HasGoodTexts (what.Copy copy) = IsGoodText copy.from × IsGoodText copy.to
HasGoodTexts (what.Task task) = IsGoodText task.command
HasGoodTexts (what.Submit submit) = IsGoodText submit.file × HaveGoodValues submit.symbols
HasGoodTexts _ = Unit {0}

abbrev pub HaveGoodTexts : List Stmt → Type 0
HaveGoodTexts [] = Unit {0}
HaveGoodTexts (s ∷ stmts) = HasGoodTexts s.what × HaveGoodTexts stmts
