-- What the Processes of a node say of their steps. `read` gives the Process whose canonical text this is, where there is
-- one. A journal is the list of its entries, the newest first.
use Rattle.std.specs.Prelude.{ℕ, List, [], Bool, true, false, not, ◌&&◌, ◌||◌, ◌==◌, slice_get, Option, Some, None}
use Rattle.std.specs.Str.{bytes_eq}
use Rattle.cd_types.specs.Choices.{disp_code, task_kind_code, retain_code}
use Rattle.cd_types.specs.Format.{◌>>=◌}
use Rattle.cd_types.specs.declared.choices.Side.{Side}
use Rattle.cd_types.specs.declared.choices.Side.TheVariants as side
use Rattle.cd_types.specs.declared.choices.TaskKind.{TaskKind}
use Rattle.cd_types.specs.declared.key.Key.{Key}
use Rattle.cd_types.specs.declared.rows.Receiving.{Receiving}
use Rattle.cd_entries.specs.declared.entry.Entry.{Entry}
use Rattle.cd_ast.specs.Walk.{pending}
use Rattle.cd_ast.specs.declared.process.Process.{Process}
use Rattle.cd_ast.specs.declared.process.Stmt.{Stmt}
use Rattle.cd_ast.specs.declared.process.What.{What}
use Rattle.cd_ast.specs.declared.process.What.TheVariants as what
use Rattle.cd_rules.specs.Processes.{Submission, submission, ended, is_live, is_own}

abbrev pub Reading : Type 0
Reading = List ℕ → Option Process

-- The Process of a number.

abbrev pub process_of : Reading → List Entry → ℕ → Option Process
process_of read journal n = do
  s ← submission journal n
  read s.text

abbrev pub stmts_in : Option Process → List Stmt
stmts_in None = []
stmts_in (Some process) = process.stmts

abbrev pub stmts_of : Reading → List Entry → ℕ → List Stmt
stmts_of read journal n = stmts_in (process_of read journal n)

-- the place of its next step, or the end of its statements
abbrev pub next_place : Reading → List Entry → ℕ → ℕ
next_place read journal n = pending (stmts_of read journal n) (ended journal n)

-- the statement at a place
abbrev pub what_of : Option Stmt → Option What
what_of None = None
what_of (Some s) = Some s.what

abbrev pub what_at : Reading → List Entry → ℕ → ℕ → Option What
what_at read journal n place = what_of (slice_get (stmts_of read journal n) place)

-- a Process that runs itself and not in copies: it has RETAIN=NO
abbrev pub is_unretained : Option Submission → Bool
is_unretained None = false
is_unretained (Some s) = retain_code s.card.retain == 0

abbrev pub runs_itself : List Entry → ℕ → Bool
runs_itself journal n = is_unretained (submission journal n)

-- The keeper of a step keeps its outcome: the receiver of a COPY, and the named side of a RUN or SUBMIT.

abbrev pub is_pnode : Side → Bool
is_pnode side.Pnode = true
is_pnode side.Snode = false

-- the node that submitted the Process is the keeper
abbrev pub pnode_keeps : What → Bool
pnode_keeps (what.Copy step) = not step.push
pnode_keeps (what.Task step) = is_pnode step.side
pnode_keeps (what.Submit step) = is_pnode step.side
pnode_keeps _ = false

-- what the entries of a step have to be like

abbrev pub is_such : (What → Bool) → Option What → Bool
is_such test None = false
is_such test (Some s) = test s

-- a RUN of this kind on the PNODE's side
abbrev pub is_run_of : TaskKind → What → Bool
is_run_of kind (what.Task step) = is_pnode step.side && task_kind_code step.kind == task_kind_code kind
is_run_of kind _ = false

abbrev pub is_interval : ℕ → Option ℕ → Bool
is_interval interval None = false
is_interval interval (Some own) = interval == own

-- a COPY to the PNODE, with this destination, disposition and interval
abbrev pub is_pull_of : Receiving → What → Bool
is_pull_of r (what.Copy step) = not step.push && bytes_eq r.name step.to && disp_code r.disp == disp_code step.disp && is_interval r.interval step.ckpt
is_pull_of r _ = false

-- an entry of a step of an own Process: the Process is live, the step is the next one, and its statement is such
abbrev pub fits_own : Reading → List Entry → Key → (What → Bool) → Bool
fits_own read journal key test =
    not (is_own journal key)
    || (is_live journal key.number && key.place == next_place read journal key.number && is_such test (what_at read journal key.number key.place))
