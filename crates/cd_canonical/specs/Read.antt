-- How the texts of submitted Processes are read: each is the canonical text of its Process.
use Rattle.std.specs.Prelude.{ℕ, List, [], ◌∷◌, length, Bool, true, false, ◌&&◌, nat_le, is_none, Option, Some, None, Result, Ok, Err, if◌then◌else◌}
use Rattle.std.specs.Str.{bytes_eq}
use Rattle.cd_ast.specs.Canonical.{canonical}
use Rattle.cd_ast.specs.Tokens.{flaw_of}
use Rattle.cd_ast.specs.declared.process.Process.{Process}
use Rattle.cd_grammar.specs.Answers.{strict}
use Rattle.cd_grammar.specs.Faults.{longest_plain, process_of}
use Rattle.cd_grammar.specs.Later.{Found, late_faults}
use Rattle.cd_grammar.specs.Reading as grammar
use Rattle.cd_grammar.specs.Tokens.{tokens_of}
use Rattle.cd_automaton.specs.Machine.{whole}
use Rattle.cd_rules.specs.Steps.{Reading}

-- there is no fault
abbrev pub are_none : List Found → Bool
are_none [] = true
are_none (f ∷ faults) = false

-- what tokens read as, where nothing is wrong with what they say
abbrev pub meant : Result grammar.Reading Found → Option Process
meant (Ok all) = if are_none (late_faults all) then Some (process_of all) else None
meant (Err f) = None

-- the Process that a text says, read as it stands
unfoldable pub process_in : List ℕ → Option Process
process_in text = if nat_le (length text) longest_plain && is_none (flaw_of text) then meant (whole strict (length text) (tokens_of text)) else None

-- the Process whose canonical text this is
abbrev pub if_printed : List ℕ → Option Process → Option Process
if_printed text None = None
if_printed text (Some process) = if bytes_eq (canonical process) text then Some process else None

-- how a node reads the texts that it keeps
abbrev pub canonical_reading : Reading
canonical_reading text = if_printed text (process_in text)
