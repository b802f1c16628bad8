-- All that is said of a text after substitution is read.
use Rattle.std.proofs.Common.{◌≡◌, ℕ, ◌<◌, ◌≤◌, length, true, false, List, Ok, Err, refl}
use Rattle.std.specs.Prelude.{nat_lt}
use Rattle.std.proofs.lemmas.Bool.{lt-ltb, le-ltb}
use Rattle.cd_ast.specs.declared.process.Process.{Process}
use Rattle.cd_grammar.specs.Faults.{longest_text, resolved, InGrammar, IsFault, Says, IsFaultOf, too_long, unresolved, too_long_after, in_plain}
use Rattle.cd_grammar.specs.Faults as faults
use Rattle.cd_grammar.specs.Later.{Found}
use Rattle.cd_commands.specs.Texts.{read_plain, read_as}

within : (text : List ℕ) → length text ≤ longest_text → nat_lt longest_text (length text) ≡ false
within text short = le-ltb longest_text (length text) short

beyond : (text : List ℕ) → longest_text < length text → nat_lt longest_text (length text) ≡ true
beyond text long = lt-ltb longest_text (length text) long

module _ (text : List ℕ) (overrides : List (List ℕ × List ℕ)) where
  pub process_read : ((plain : List ℕ) (process : Process) → InGrammar plain process → read_plain plain ≡ Ok process) → (process : Process) → Says text overrides process → read_as text overrides ≡ Ok process
  unfolding read_as
  process_read reads process said = rw (within text said.short) (rw said.becomes (rw (within said.plain said.fits) (reads said.plain process said.says)))

  pub fault_read : ((plain : List ℕ) (f : Found) → IsFault plain f → read_plain plain ≡ Err f) → (f : Found) → IsFaultOf text overrides f → read_as text overrides ≡ Err f
  unfolding read_as
  fault_read reads f (faults.too_long long) = rw (beyond text long) refl
  fault_read reads f (faults.unresolved short lost) = rw (within text short) (rw lost refl)
  fault_read reads f (faults.too_long_after {plain = plain} short becomes long) = rw (within text short) (rw becomes (rw (beyond plain long) refl))
  fault_read reads f (faults.in_plain {plain = plain} short becomes fits wrong) = rw (within text short) (rw becomes (rw (within plain fits) (reads plain f wrong)))
