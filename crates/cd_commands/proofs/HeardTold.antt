-- All that a text is as a command is heard.
use Rattle.std.proofs.Common.{◌≡◌, ℕ, List, Ok, Err, refl, sym, ap, subst, ◌∙◌, ◌⊎◌, inl, inr}
use Rattle.cd_ast.specs.declared.fault.FaultName.{FaultName}
use Rattle.cd_ast.specs.declared.process.Process.{Process}
use Rattle.cd_grammar.specs.declared.token.Token.{Token}
use Rattle.cd_grammar.specs.Faults.{Says, IsFaultOf}
use Rattle.cd_grammar.specs.Later.{Found}
use Rattle.cd_commands.specs.declared.command.Command as spoken
use Rattle.cd_commands.specs.declared.given.Given.{Given}
use Rattle.cd_commands.specs.Grammar.{First, Rest}
use Rattle.cd_commands.specs.Machine.{Said, Whole, Text, Leaves}
use Rattle.cd_commands.specs.Seen.{seen}
use Rattle.cd_commands.specs.Commands.{told, left_behind, process_text, is_doubly_started, IsSubmission, IsCommand, whole, with_text, IsTextFault, in_process, behind_process, doubly_started, IsCommandFault, leaves, in_text}
use Rattle.cd_commands.specs.Commands as commands
use Rattle.cd_commands.specs.declared.heard.Heard.{Heard}
use Rattle.cd_commands.specs.declared.heard.Heard.TheVariants.{Command, Fault}
use Rattle.cd_commands.specs.Heard.{fault_of, faulty, heard_by, heard}
use Rattle.cd_commands.specs.Texts.{read_as}

-- what is said of the tokens is heard
by_tokens : (text : List ℕ) (x : Said) (h : Heard) → told text ≡ x → heard_by text x ≡ h → heard text ≡ h
unfolding heard
by_tokens text x h e is = rw e is

module _ (text : List ℕ) (found : (x : Said) → Rest First (seen text) x → told text ≡ x)
    (reads : (part : List ℕ) (overrides : List (List ℕ × List ℕ)) (process : Process) → Says part overrides process → read_as part overrides ≡ Ok process) where
  submission_heard : (given : Given) (at : ℕ) (rest : List Token) (c : spoken.Command) → IsSubmission text given at rest c → heard_by text (Text given at rest) ≡ Command c
  submission_heard given at rest c is =
      rw (reads (process_text text at rest) given.symbols is.process is.says) (rw is.ended (rw is.once (ap Command (sym is.is))))

  pub command_heard : (c : spoken.Command) → IsCommand text c → heard text ≡ Command c
  command_heard c (whole rest) = by_tokens text (Whole c) (Command c) (found (Whole c) rest) refl
  command_heard c (with_text {given = given} {at = at} {rest = ts} rest is) =
      by_tokens text (Text given at ts) (Command c) (found (Text given at ts) rest) (submission_heard given at ts c is)

  module _ (refuses : (part : List ℕ) (overrides : List (List ℕ × List ℕ)) (f : Found) → IsFaultOf part overrides f → read_as part overrides ≡ Err f) where
    text_fault_heard : (given : Given) (at : ℕ) (rest : List Token) (f : commands.Fault) → IsTextFault text given at rest f → heard_by text (Text given at rest) ≡ faulty (fault_of f)
    text_fault_heard given at rest f (in_process {f = g} wrong) = rw (refuses (process_text text at rest) given.symbols g wrong) refl
    text_fault_heard given at rest f (behind_process {process = p} says left) = rw (reads (process_text text at rest) given.symbols p says) (rw left refl)
    text_fault_heard given at rest f (doubly_started {process = p} says left twice) = rw (reads (process_text text at rest) given.symbols p says) (rw left (rw twice refl))

    pub fault_heard : (f : commands.Fault) → IsCommandFault text f → heard text ≡ faulty (fault_of f)
    fault_heard f (leaves {at = at} left) = by_tokens text (Leaves at) (faulty (fault_of f)) left refl
    fault_heard f (in_text {given = given} {at = at} {rest = ts} rest wrong) =
        by_tokens text (Text given at ts) (faulty (fault_of f)) (found (Text given at ts) rest) (text_fault_heard given at ts f wrong)

-- and nothing else is
not_both : (h : Heard) (c : spoken.Command) (f : Found) → h ≡ Command c → h ≡ faulty f → ⊥
not_both h c f e e2 = cc

same_command : (h : Heard) (c d : spoken.Command) → h ≡ Command c → h ≡ Command d → c ≡ d
same_command h c d e e2 = cc

abbrev found : FaultName → ℕ → Found
found name at = (name, at)

same_fault : (h : Heard) (f : Found) (name : FaultName) (at : ℕ) → h ≡ faulty f → h ≡ Fault name at → f ≡ (name, at)
same_fault h f name at e e2 =
    let names : f.0 ≡ name = cc in
    let places : f.1 ≡ at = cc in
    ap (λ (n : FaultName). found n f.1) names ∙ ap (λ (place : ℕ). found name place) places

module _ (text : List ℕ) (says : (c : spoken.Command) → IsCommand text c → heard text ≡ Command c) (wrongs : (f : commands.Fault) → IsCommandFault text f → heard text ≡ faulty (fault_of f)) where
  pub command_is : ((c : spoken.Command) × IsCommand text c) ⊎ ((f : commands.Fault) × IsCommandFault text f) → (c : spoken.Command) → heard text ≡ Command c → IsCommand text c
  command_is (inl d) c e = subst (λ (x : spoken.Command). IsCommand text x) (same_command (heard text) d.0 c (says d.0 d.1) e) d.1
  command_is (inr f) c e = absurd (not_both (heard text) c (fault_of f.0) e (wrongs f.0 f.1))

  pub fault_is : ((c : spoken.Command) × IsCommand text c) ⊎ ((f : commands.Fault) × IsCommandFault text f) → (name : FaultName) (at : ℕ) → heard text ≡ Fault name at
      → (f : commands.Fault) × IsCommandFault text f × (fault_of f ≡ (name, at))
  fault_is (inl d) name at e = absurd (not_both (heard text) d.0 (name, at) (says d.0 d.1) e)
  fault_is (inr f) name at e = (f.0, f.1, same_fault (heard text) (fault_of f.0) name at (wrongs f.0 f.1) e)
