-- What a node keeps of a Process that is submitted to it, and which Processes it takes today.
use Rattle.std.specs.Prelude.{◌≡◌, ℕ, List, [], ◌∷◌, map, Bool, true, false, is_none, ◌&&◌, ◌==◌, nat_le, Option, Some, None}
use Rattle.cd_types.specs.NodeName.{is_node_name}
use Rattle.cd_types.specs.declared.choices.Disp.{Disp}
use Rattle.cd_types.specs.declared.choices.Disp.TheVariants as disp
use Rattle.cd_types.specs.declared.choices.Hold.{Hold}
use Rattle.cd_types.specs.declared.choices.Hold.TheVariants as hold
use Rattle.cd_types.specs.declared.choices.Retain.{Retain}
use Rattle.cd_types.specs.declared.choices.Retain.TheVariants as retain
use Rattle.cd_types.specs.declared.start.Card.{Card}
use Rattle.cd_ast.specs.declared.process.Process.{Process}
use Rattle.cd_ast.specs.declared.process.Stmt.{Stmt}
use Rattle.cd_ast.specs.declared.process.What.{What}
use Rattle.cd_ast.specs.declared.process.What.TheVariants.{Copy, Task, Submit, If, Else, Eif, Goto, Exit}
use Rattle.cd_grammar.specs.Reading.{or_default}
use Rattle.cd_grammar.specs.Words.{or_else}
use Rattle.cd_automaton.specs.Ranges.{passes}
use Rattle.cd_commands.specs.declared.command.Options.{Options}

-- what the types of options keep: a partner's name has the form of a node's, and a class is a byte
pub record AreFormed (options : Options) : Type 0 where
  pub snode : passes is_node_name options.snode ≡ true
  pub class : passes (λ n. nat_le n 255) options.class ≡ true

-- what the PROCESS statement says, with the options in place of what they name
abbrev pub card_with : Options → Card → Card
card_with options card = record {
  name = card.name;
  snode = or_else options.snode card.snode;
  prty = or_default options.prty card.prty;
  class = or_default options.class card.class;
  hold = or_default options.hold card.hold;
  retain = or_default options.retain card.retain;
  start = or_else options.start card.start;
}

abbrev pub with_options : Options → Process → Process
with_options options process = record { name = process.name; card = card_with options process.card; stmts = process.stmts }

-- the bytes between two checkpoints where neither a COPY nor the node's configuration says them
abbrev pub default_interval : ℕ
default_interval = 65536

-- each COPY says its interval
abbrev pub filled_what : What → What
filled_what (Copy copy) = Copy (record copy { ckpt = Some (or_default copy.ckpt default_interval) })
filled_what (Task task) = Task task
filled_what (Submit submit) = Submit submit
filled_what (If label rel n) = If label rel n
filled_what Else = Else
filled_what Eif = Eif
filled_what (Goto label) = Goto label
filled_what Exit = Exit

abbrev pub filled_stmt : Stmt → Stmt
filled_stmt stmt = record { label = stmt.label; what = filled_what stmt.what }

abbrev pub filled : Process → Process
filled process = record { name = process.name; card = process.card; stmts = map filled_stmt process.stmts }

-- the Process that a node keeps
abbrev pub filed : Options → Process → Process
filed options process = filled (with_options options process)

abbrev pub is_not_held : Hold → Bool
is_not_held hold.No = true
is_not_held hold.Yes = false
is_not_held hold.Call = false

abbrev pub is_not_kept : Retain → Bool
is_not_kept retain.No = true
is_not_kept retain.Yes = false
is_not_kept retain.Initial = false

abbrev pub replaces : Disp → Bool
replaces disp.New = false
replaces disp.Rpl = true
replaces disp.Mod = false

-- priority 10, a class, no hold, not kept behind its end, and no start of its own
abbrev pub is_plain_card : Card → Bool
is_plain_card card = card.prty == 10 && nat_le 1 card.class && is_not_held card.hold && is_not_kept card.retain && is_none card.start

abbrev pub says_interval : Option ℕ → Option ℕ → Bool
says_interval None None = true
says_interval None (Some n) = false
says_interval (Some interval) None = false
says_interval (Some interval) (Some n) = n == interval

-- a COPY from this node to the partner that replaces what stands there, and says this interval
abbrev pub is_push_step : Option ℕ → What → Bool
is_push_step interval (Copy copy) = copy.push && replaces copy.disp && says_interval interval copy.ckpt
is_push_step interval _ = false

abbrev pub is_one : (Stmt → Bool) → List Stmt → Bool
is_one test [] = false
is_one test (stmt ∷ []) = test stmt
is_one test (stmt ∷ other ∷ stmts) = false

-- The Processes that are built today: one such COPY.
unfoldable pub is_push : Option ℕ → Process → Bool
is_push interval process = is_plain_card process.card && is_one (λ stmt. is_push_step interval stmt.what) process.stmts
