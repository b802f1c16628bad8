-- What the values of a Process may be.
use Rattle.std.specs.Prelude.{ℕ, ◌%◌, List, Bool, true, ◌&&◌, ◌==◌, nat_le, nat_lt, Option, Some, None}
use Rattle.std.specs.List.{list_all}
use Rattle.cd_types.specs.FileName.{is_file_name}
use Rattle.cd_types.specs.Label.{is_label}
use Rattle.cd_types.specs.NodeName.{is_node_name}
use Rattle.cd_types.specs.declared.start.Card.{Card}
use Rattle.cd_types.specs.declared.start.Start.{Start}
use Rattle.cd_ast.specs.declared.process.Stmt.{Stmt}
use Rattle.cd_ast.specs.declared.process.What.{What}
use Rattle.cd_ast.specs.declared.process.What.TheVariants.{Copy, Task, Submit, If, Else, Eif, Goto, Exit}
use Rattle.cd_grammar.specs.Values.{is_command}

-- a value passes a test, where there is one
abbrev pub passes : {A : Type 0} → (A → Bool) → Option A → Bool
passes test None = true
passes test (Some x) = test x

abbrev pub within : ℕ → ℕ → ℕ → Bool
within low high n = nat_le low n && nat_le n high

-- a time of a day
abbrev pub is_timed : Start → Bool
is_timed start = nat_lt start.seconds 86400

-- the bytes between two checkpoints: at most 2^40, in units of 1,024
abbrev pub is_interval : ℕ → Bool
is_interval n = nat_le n 1099511627776 && n % 1024 == 0

-- what the PROCESS statement says
abbrev pub is_card : Card → Bool
is_card card = is_label card.name && passes is_node_name card.snode && within 1 15 card.prty && within 1 255 card.class && passes is_timed card.start

-- what a statement says
abbrev pub is_what : What → Bool
is_what (Copy copy) = is_file_name copy.from && is_file_name copy.to && passes is_interval copy.ckpt
is_what (Task task) = is_command task.command
is_what (Submit submit) = is_file_name submit.file && passes is_node_name submit.snode && passes (within 1 15) submit.prty
is_what (If label rel n) = is_label label && nat_le n 255
is_what Else = true
is_what Eif = true
is_what (Goto label) = is_label label
is_what Exit = true

abbrev pub is_stmt : Stmt → Bool
is_stmt stmt = passes is_label stmt.label && is_what stmt.what

abbrev pub are_stmts : List Stmt → Bool
are_stmts stmts = list_all is_stmt stmts
