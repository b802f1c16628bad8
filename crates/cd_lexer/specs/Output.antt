-- What is put out by substitution.
use Rattle.std.specs.Prelude.{◌≡◌, ℕ, ◌≤◌, List, ◌++◌, length, Some, Result, Err}
use Rattle.cd_ast.specs.Subst.{before_all}
use Rattle.cd_lexer.specs.declared.output.Output.{Output}
use Rattle.cd_lexer.specs.declared.fault.SymFault.{SymFault}
use Rattle.cd_lexer.specs.declared.fault.SymFault.TheVariants.{Unresolved, TooLong, NoMemory}

-- the greatest length of a text whose references are replaced, and of what it becomes
abbrev pub longest_text : ℕ
longest_text = 65536

-- the output stands for these bytes: it has their number, and where they aren't too many the bytes
pub record StandsFor (out : Output) (all : List ℕ) : Type 0 where
  pub len : out.len ≡ length all
  pub bytes : length all ≤ longest_text → out.bytes.items ≡ all

-- between old and new that was put out, by which reading has come from a whole to a rest
pub record PutsOut (old new : Output) (whole rest : Result (List ℕ) ℕ) : Type 0 where
  pub done : List ℕ
  pub whole_is : whole ≡ before_all (Some done) 0 rest
  pub stands : (all : List ℕ) → StandsFor old all → StandsFor new (all ++ done)

-- reading stopped at a name without a value, or memory ran out
abbrev pub IsStopped : Result (List ℕ) ℕ → SymFault → Type 0
IsStopped read (Unresolved at) = read ≡ Err at
IsStopped read (TooLong len) = ⊥
IsStopped read NoMemory = Unit {0}

-- the output has come so far in a reading
pub record Reached (out : Output) (whole rest : Result (List ℕ) ℕ) : Type 0 where
  pub done : List ℕ
  pub whole_is : whole ≡ before_all (Some done) 0 rest
  pub stands : StandsFor out done
