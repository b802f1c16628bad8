-- Which command a text is, and where it isn't one.
use Rattle.std.specs.Prelude.{◌≡◌, ℕ, ◌-◌, List, [], ◌∷◌, Bool, true, false, if◌then◌else◌, length, take, drop, Option, Some, None}
use Rattle.cd_types.specs.declared.choices.Retain.{Retain}
use Rattle.cd_types.specs.declared.choices.Retain.TheVariants as retain
use Rattle.cd_types.specs.declared.start.Start.{Start}
use Rattle.cd_ast.specs.declared.fault.FaultName.TheVariants.{RetainStart}
use Rattle.cd_ast.specs.declared.process.Process.{Process}
use Rattle.cd_grammar.specs.declared.token.Sign.{Sign}
use Rattle.cd_grammar.specs.declared.token.Sign.TheVariants as sign
use Rattle.cd_grammar.specs.declared.token.Token.{Token}
use Rattle.cd_grammar.specs.declared.token.Token.TheVariants.{Word, Quoted, Mark}
use Rattle.cd_grammar.specs.Tokens.{place_of}
use Rattle.cd_grammar.specs.Later.{Found}
use Rattle.cd_grammar.specs.Faults.{Says, IsFaultOf}
use Rattle.cd_grammar.specs.Words.{or_else}
use Rattle.cd_commands.specs.declared.command.Command.{Command}
use Rattle.cd_commands.specs.declared.command.Command.TheVariants as command
use Rattle.cd_commands.specs.declared.given.Given.{Given}
use Rattle.cd_commands.specs.Given.{options_of}
use Rattle.cd_commands.specs.Grammar.{First, Rest}
use Rattle.cd_commands.specs.Machine.{Said, Whole, Text, Leaves, Begin, said}
use Rattle.cd_commands.specs.Seen.{seen, lead}

-- what the tokens of a text say
abbrev pub told : List ℕ → Said
told text = said (length text) Begin (seen text)

abbrev pub is_end : Sign → Bool
is_end sign.Semicolon = true
is_end _ = false

abbrev pub ends : Token → Bool
ends (Word at key word) = false
ends (Quoted at text) = false
ends (Mark at s) = is_end s

-- where a Process text ends: at the first ; or else at the end of the command's text, which has this length
unfoldable pub text_end : ℕ → List Token → ℕ
text_end len [] = len
text_end len (t ∷ ts) = if ends t then place_of t else text_end len ts

abbrev pub first_of : List Token → Option ℕ
first_of [] = None
first_of (t ∷ ts) = Some (place_of t)

-- where the command is left behind a Process text: at its end, where no ; ends the text, or at the first token behind the ;
unfoldable pub left_behind : ℕ → List Token → Option ℕ
left_behind len [] = Some len
left_behind len (t ∷ ts) = if ends t then first_of ts else left_behind len ts

-- the Process text in a command's text, which begins at a place, before these tokens
abbrev pub process_text : List ℕ → ℕ → List Token → List ℕ
process_text text at rest = take (text_end (length text) rest - at) (drop at text)

abbrev pub is_kept : Option Retain → Bool
is_kept None = false
is_kept (Some retain.No) = false
is_kept (Some retain.Yes) = false
is_kept (Some retain.Initial) = true

abbrev pub both : Option Retain → Option Start → Bool
both keep None = false
both keep (Some start) = is_kept keep

-- whether a Process is kept for each start of its node and has a start of its own, once the options stand in place of what it
-- says itself
abbrev pub is_doubly_started : Given → Process → Bool
is_doubly_started given process = both (or_else given.retain (Some process.card.retain)) (or_else given.start process.card.start)

-- a submission of this Process with these options
pub record IsSubmission (text : List ℕ) (given : Given) (at : ℕ) (rest : List Token) (c : Command) : Type 0 where
  pub process : Process
  pub says : Says (process_text text at rest) given.symbols process
  pub ended : left_behind (length text) rest ≡ None
  pub once : is_doubly_started given process ≡ false
  pub is : c ≡ command.SubmitText process (options_of given)

-- a text is this command: its tokens say it, or they say the options before a Process text that stands in it
pub data IsCommand (text : List ℕ) (c : Command) : Type 0 where
  whole : Rest First (seen text) (Whole c) → IsCommand text c
  with_text : {given : Given} {at : ℕ} {rest : List Token} → Rest First (seen text) (Text given at rest) → IsSubmission text given at rest c → IsCommand text c

-- what is wrong with a text: a place where it is no command, or a fault of its Process text
pub data Fault : Type 0 where
  Left : ℕ → Fault
  Wrong : Found → Fault

-- What is wrong with a submission. The Process text's own fault goes first, then what stands behind it, and last a start that
-- the options brought to a Process that is kept for each start of its node.
pub data IsTextFault (text : List ℕ) (given : Given) (at : ℕ) (rest : List Token) : Fault → Type 0 where
  in_process : {f : Found} → IsFaultOf (process_text text at rest) given.symbols f → IsTextFault text given at rest (Wrong f)
  behind_process : {process : Process} {at2 : ℕ} → Says (process_text text at rest) given.symbols process
      → left_behind (length text) rest ≡ Some at2 → IsTextFault text given at rest (Left (at2 - lead text))
  doubly_started : {process : Process} → Says (process_text text at rest) given.symbols process
      → left_behind (length text) rest ≡ None → is_doubly_started given process ≡ true
      → IsTextFault text given at rest (Wrong (RetainStart, 0))

-- A text has this fault: its tokens leave the grammar at a place, or something is wrong with the Process text that stands in it.
-- A place counts from the command's first byte that is neither a blank nor in a comment.
pub data IsCommandFault (text : List ℕ) : Fault → Type 0 where
  leaves : {at : ℕ} → told text ≡ Leaves at → IsCommandFault text (Left (at - lead text))
  in_text : {given : Given} {at : ℕ} {rest : List Token} {f : Fault} → Rest First (seen text) (Text given at rest) → IsTextFault text given at rest f
      → IsCommandFault text f
