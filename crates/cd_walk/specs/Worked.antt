-- A Process with conditions and jumps.
use Rattle.std.specs.Prelude.{ℕ, List, [], ◌∷◌, codes, Some, None}
use Rattle.cd_types.specs.declared.choices.Relation.TheVariants as relation
use Rattle.cd_types.specs.declared.choices.Side.TheVariants as side
use Rattle.cd_types.specs.declared.choices.TaskKind.TheVariants as task_kind
use Rattle.cd_ast.specs.declared.process.Stmt.{Stmt}
use Rattle.cd_ast.specs.declared.process.What.{What}
use Rattle.cd_ast.specs.declared.process.What.TheVariants as what

abbrev task : List ℕ → Stmt
task label = record { label = Some label; what = what.Task (record { side = side.Pnode; command = codes "true"; kind = task_kind.Restart }) }

abbrev other : What → Stmt
other s = record { label = None; what = s }

-- the places 0 to 13:
--   S1 RUN TASK, IF (S1 > 4) THEN, S2 RUN TASK, GOTO S4, ELSE, S3 RUN TASK, EIF,
--   IF (S1 = 4) THEN, EXIT, EIF, IF (S2 <> 0) THEN, S5 RUN TASK, EIF, S4 RUN TASK
abbrev pub worked : List Stmt
worked =
    task (codes "S1") ∷ other (what.If (codes "S1") relation.Gt 4) ∷ task (codes "S2") ∷ other (what.Goto (codes "S4")) ∷ other what.Else ∷ task (codes "S3") ∷ other what.Eif
    ∷ other (what.If (codes "S1") relation.Eq 4) ∷ other what.Exit ∷ other what.Eif ∷ other (what.If (codes "S2") relation.Ne 0) ∷ task (codes "S5") ∷ other what.Eif ∷ task (codes "S4") ∷ []
