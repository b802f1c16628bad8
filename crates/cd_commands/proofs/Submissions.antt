-- The faults of a submission, as they are told.
use Rattle.std.proofs.Common.{◌≡◌, ℕ, ◌-◌, List, length, take, drop, true, Option, Some, None, sym, ap, subst, ◌∙◌}
use Rattle.cd_ast.specs.declared.fault.FaultName.TheVariants.{RetainStart}
use Rattle.cd_ast.specs.declared.process.Process as processes
use Rattle.cd_grammar.specs.declared.token.Token.{Token}
use Rattle.cd_grammar.specs.Faults.{Says, IsFaultOf}
use Rattle.cd_commands.specs.declared.fault.CommandFault.{CommandFault}
use Rattle.cd_commands.specs.declared.fault.CommandFault.TheVariants.{Word, Process, NoMemory}
use Rattle.cd_commands.specs.declared.given.Given.{Given}
use Rattle.cd_commands.specs.Commands.{Fault, Left, Wrong, text_end, left_behind, process_text, is_doubly_started, IsTextFault, in_process, behind_process, doubly_started}
use Rattle.cd_commands.specs.Seen.{lead}
use Rattle.cd_commands.specs.Told.{IsTold, OnProcess}

-- a fault of the submission whose text stands between two places, and behind which the command is left, if it is
abbrev pub IsHere : List ℕ → Given → ℕ → ℕ → Option ℕ → Fault → Type 0
IsHere text given at end behind f = (rest : List Token) → end ≡ text_end (length text) rest → behind ≡ left_behind (length text) rest → IsTextFault text given at rest f

same_text : (text part : List ℕ) (at end : ℕ) (rest : List Token) → part ≡ take (end - at) (drop at text) → end ≡ text_end (length text) rest → part ≡ process_text text at rest
same_text text part at end rest is e = is ∙ ap (λ (n : ℕ). take (n - at) (drop at text)) e

says_here : (text part : List ℕ) (given : Given) (at end : ℕ) (rest : List Token) (p : processes.Process) → part ≡ take (end - at) (drop at text) → end ≡ text_end (length text) rest
    → Says part given.symbols p → Says (process_text text at rest) given.symbols p
says_here text part given at end rest p is e says = subst (λ (t : List ℕ). Says t given.symbols p) (same_text text part at end rest is e) says

pub process_told : (text part : List ℕ) (given : Given) (at end : ℕ) (behind : Option ℕ) (fault : CommandFault) → part ≡ take (end - at) (drop at text)
    → IsTold (OnProcess (IsFaultOf part given.symbols)) fault → IsTold (IsHere text given at end behind) fault
process_told text part given at end behind (Word n) is told = absurd told
process_told text part given at end behind (Process name n) is told =
    λ rest e e2. in_process (subst (λ (t : List ℕ). IsFaultOf t given.symbols (name, n)) (same_text text part at end rest is e) told)
process_told text part given at end behind NoMemory is told = tt

pub behind_told : (text part : List ℕ) (given : Given) (at end : ℕ) (behind : Option ℕ) (fault : CommandFault) (p : processes.Process) (at2 : ℕ) → part ≡ take (end - at) (drop at text)
    → Says part given.symbols p → behind ≡ Some at2 → IsTold (λ f. f ≡ Left (at2 - lead text)) fault → IsTold (IsHere text given at end behind) fault
behind_told text part given at end behind (Word n) p at2 is says some told =
    λ rest e e2. subst (λ (f : Fault). IsTextFault text given at rest f) (sym told) (behind_process (says_here text part given at end rest p is e says) (sym e2 ∙ some))
behind_told text part given at end behind (Process name n) p at2 is says some told = absurd (cc)
behind_told text part given at end behind NoMemory p at2 is says some told = tt

pub doubly_told : (text part : List ℕ) (given : Given) (at end : ℕ) (behind : Option ℕ) (p : processes.Process) → part ≡ take (end - at) (drop at text)
    → Says part given.symbols p → behind ≡ None → is_doubly_started given p ≡ true → IsHere text given at end behind (Wrong (RetainStart, 0))
doubly_told text part given at end behind p is says none twice = λ rest e e2. doubly_started (says_here text part given at end rest p is e says) (sym e2 ∙ none) twice
