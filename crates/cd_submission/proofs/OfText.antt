-- What a file says is what is read of its text.
use Rattle.std.proofs.Common.{◌≡◌, ℕ, cond, ltb, Bool, true, false, List, length, Option, Some, None, Result, Ok, Err, refl, sym, ap, ◌∙◌}
use Rattle.cd_ast.specs.declared.fault.FaultName.TheVariants.{TooLong}
use Rattle.cd_ast.specs.declared.process.Process.{Process}
use Rattle.cd_grammar.specs.Faults.{longest_text, resolved}
use Rattle.cd_grammar.specs.Later.{Found}
use Rattle.cd_commands.specs.Texts.{read_resolved, read_as}
use Rattle.cd_submission.specs.Reading.{of_text, process_in}
use Rattle.cd_submission.specs.Shown.{show}
use Rattle.cd_submission.specs.declared.file.Shown.TheVariants.{Long, Text}

by_length : (t : Bool) (n : ℕ) (name text : List ℕ) (symbols : List (List ℕ × List ℕ)) (rest : Result Process Found) → read_as text symbols ≡ cond t (Err (TooLong, n)) rest
    → process_in name symbols (cond t (Long n) (Text text)) ≡ of_text (read_as text symbols)
by_length true n name text symbols rest h = ap of_text (sym h)
by_length false n name text symbols rest h = refl

-- a text that is too long is told with its length, whatever else is in it
pub reads : (name text : List ℕ) (symbols : List (List ℕ × List ℕ)) → process_in name symbols (show (Some text)) ≡ of_text (read_as text symbols)
unfolding read_as
reads name text symbols = by_length (ltb longest_text (length text)) (length text) name text symbols (read_resolved (resolved text symbols)) refl

pub read_ok : (read : Result Process Found) (process : Process) → of_text read ≡ Ok process → read ≡ Ok process
read_ok (Ok p) process h = let same : p ≡ process = cc in ap (λ (q : Process). Ok q) same
read_ok (Err f) process h = absurd cc
