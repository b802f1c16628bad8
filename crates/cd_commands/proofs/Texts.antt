-- What is told of a text, by what was read of its tokens.
use Rattle.std.proofs.Common.{◌≡◌, ℕ, ◌-◌, List, length, Option, Result, Ok, Err, IfOk, IfErr, refl}
use Rattle.cd_grammar.specs.declared.token.Token.{Token}
use Rattle.cd_commands.specs.declared.command.Command.{Command}
use Rattle.cd_commands.specs.declared.fault.CommandFault.{CommandFault}
use Rattle.cd_commands.specs.declared.fault.CommandFault.TheVariants.{Word, Process, NoMemory}
use Rattle.cd_commands.specs.declared.given.Given.{Given}
use Rattle.cd_commands.specs.Commands.{text_end, left_behind, IsSubmission, IsCommand, Left, Wrong, IsCommandFault}
use Rattle.cd_commands.specs.Machine.{Text, Leaves, Begin, said}
use Rattle.cd_commands.specs.Seen.{seen, lead}
use Rattle.cd_commands.specs.declared.fault.Stopped.{Stopped}
use Rattle.cd_commands.specs.declared.fault.Stopped.TheVariants as stopped
use Rattle.cd_commands.specs.Told.{IsTold, Tells, IsStop}
use Rattle.cd_commands.proofs.Laws.{submission_is, text_fault_is, left_is}
use Rattle.cd_commands.proofs.Submissions.{IsHere}

module _ (text : List ℕ) (tokens : List Token) (et : tokens ≡ seen text) (given : Given) (at end : ℕ) (behind : Option ℕ) (rest : List Token)
    (e : said (length text) Begin tokens ≡ Text given at rest) (ends : end ≡ text_end (length text) rest) (lefts : behind ≡ left_behind (length text) rest) where
  pub text_command : (result : Result Command CommandFault)
      → IfOk result (λ c. (ts : List Token) → end ≡ text_end (length text) ts → behind ≡ left_behind (length text) ts → IsSubmission text given at ts c) → IfOk result (IsCommand text)
  text_command (Ok c) is = submission_is text (length text) tokens given at rest c refl et e (is rest ends lefts)
  text_command (Err f) is = tt

  fault_told : (fault : CommandFault) → IsTold (IsHere text given at end behind) fault → IsTold (IsCommandFault text) fault
  fault_told (Word n) is = text_fault_is text (length text) tokens given at rest (Left n) refl et e (is rest ends lefts)
  fault_told (Process name n) is = text_fault_is text (length text) tokens given at rest (Wrong (name, n)) refl et e (is rest ends lefts)
  fault_told NoMemory is = tt

  pub text_fault : (result : Result Command CommandFault) → IfErr result (IsTold (IsHere text given at end behind)) → IfErr result (IsTold (IsCommandFault text))
  text_fault (Ok c) is = tt
  text_fault (Err f) is = fault_told f is

left_told : (text : List ℕ) (tokens : List Token) (at : ℕ) (fault : CommandFault) → tokens ≡ seen text → said (length text) Begin tokens ≡ Leaves at
    → IsTold (λ f. f ≡ Left (at - lead text)) fault → IsTold (IsCommandFault text) fault
left_told text tokens at (Word n) et e is = left_is text (length text) tokens at (Left n) refl et e is
left_told text tokens at (Process name n) et e is = absurd (cc)
left_told text tokens at NoMemory et e is = tt

none_told : (text : List ℕ) (fault : CommandFault) → IsTold (λ f. ⊥) fault → IsTold (IsCommandFault text) fault
none_told text (Word n) is = absurd is
none_told text (Process name n) is = absurd is
none_told text NoMemory is = tt

pub stop_told : (text : List ℕ) (tokens : List Token) (stop : Stopped) (fault : CommandFault) → tokens ≡ seen text → Tells stop (said (length text) Begin tokens)
    → IsStop (lead text) stop fault → IsTold (IsCommandFault text) fault
stop_told text tokens (stopped.Left at) fault et e is = left_told text tokens at fault et e is
stop_told text tokens stopped.NoMemory fault et e is = none_told text fault is
