-- The one text that is kept of a Process: words in upper case with one blank between, and a line for each statement.
use Rattle.std.specs.Prelude.{ℕ, ◌+◌, ◌/◌, ◌%◌, ◌==◌, List, [], ◌∷◌, ◌++◌, Bool, true, false, codes, Option, Some, None, if◌then◌else◌}
use Rattle.std.specs.Fmt.{decimal}
use Rattle.std.specs.List.{list_any}
use Rattle.cd_types.specs.declared.choices.Disp.{Disp}
use Rattle.cd_types.specs.declared.choices.Disp.TheVariants as disp
use Rattle.cd_types.specs.declared.choices.Hold.{Hold}
use Rattle.cd_types.specs.declared.choices.Hold.TheVariants as hold
use Rattle.cd_types.specs.declared.choices.Relation.{Relation}
use Rattle.cd_types.specs.declared.choices.Relation.TheVariants as relation
use Rattle.cd_types.specs.declared.choices.Retain.{Retain}
use Rattle.cd_types.specs.declared.choices.Retain.TheVariants as retain
use Rattle.cd_types.specs.declared.choices.Side.{Side}
use Rattle.cd_types.specs.declared.choices.Side.TheVariants as side
use Rattle.cd_types.specs.declared.choices.TaskKind.{TaskKind}
use Rattle.cd_types.specs.declared.choices.TaskKind.TheVariants as kind
use Rattle.cd_types.specs.declared.start.Card.{Card}
use Rattle.cd_types.specs.declared.start.Day.{Day}
use Rattle.cd_types.specs.declared.start.Day.TheVariants as day
use Rattle.cd_types.specs.declared.start.Start.{Start}
use Rattle.cd_ast.specs.declared.process.Process.{Process}
use Rattle.cd_ast.specs.declared.process.Stmt.{Stmt}
use Rattle.cd_ast.specs.declared.process.CopyStep.{CopyStep}
use Rattle.cd_ast.specs.declared.process.TaskStep.{TaskStep}
use Rattle.cd_ast.specs.declared.process.SubmitStep.{SubmitStep}
use Rattle.cd_ast.specs.declared.process.What.{What}
use Rattle.cd_ast.specs.declared.process.What.TheVariants.{Copy, Task, Submit, If, Else, Eif, Goto, Exit}

-- the quote in which a text stands: " where the text has none, and else '
abbrev pub quote_of : List ℕ → List ℕ
quote_of text = if list_any (λ b. b == 34) text then 39 ∷ [] else 34 ∷ []

abbrev pub side_word : Side → List ℕ
side_word side.Pnode = codes "PNODE"
side_word side.Snode = codes "SNODE"

abbrev pub hold_word : Hold → List ℕ
hold_word hold.No = codes "NO"
hold_word hold.Yes = codes "YES"
hold_word hold.Call = codes "CALL"

abbrev pub retain_word : Retain → List ℕ
retain_word retain.No = codes "NO"
retain_word retain.Yes = codes "YES"
retain_word retain.Initial = codes "INITIAL"

abbrev pub disp_word : Disp → List ℕ
disp_word disp.New = codes "NEW"
disp_word disp.Rpl = codes "RPL"
disp_word disp.Mod = codes "MOD"

abbrev pub relation_sign : Relation → List ℕ
relation_sign relation.Eq = codes "="
relation_sign relation.Ne = codes "<>"
relation_sign relation.Ge = codes ">="
relation_sign relation.Gt = codes ">"
relation_sign relation.Le = codes "<="
relation_sign relation.Lt = codes "<"

-- the side of a copy's source and of its destination
abbrev pub source_word : Bool → List ℕ
source_word true = codes "PNODE"
source_word false = codes "SNODE"

abbrev pub target_word : Bool → List ℕ
target_word true = codes "SNODE"
target_word false = codes "PNODE"

-- the last digit of a number, and its last two and four
abbrev pub digit_of : ℕ → ℕ
digit_of n = 48 + n % 10

abbrev pub two_digits : ℕ → List ℕ
two_digits n = digit_of (n / 10) ∷ digit_of n ∷ []

abbrev pub four_digits : ℕ → List ℕ
four_digits n = digit_of (n / 1000) ∷ digit_of (n / 100) ∷ digit_of (n / 10) ∷ digit_of n ∷ []

-- a day of the week, of which 0 is Monday
unfoldable pub weekday : ℕ → List ℕ
weekday n =
    if n == 0 then codes "MONDAY"
    else (if n == 1 then codes "TUESDAY"
    else (if n == 2 then codes "WEDNESDAY"
    else (if n == 3 then codes "THURSDAY"
    else (if n == 4 then codes "FRIDAY"
    else (if n == 5 then codes "SATURDAY"
    else codes "SUNDAY")))))

-- Each definition below says what a text becomes when something is printed behind it.

-- a quoted text
abbrev pub quoted_onto : List ℕ → List ℕ → List ℕ
quoted_onto text body = text ++ quote_of body ++ body ++ quote_of body

abbrev pub day_onto : List ℕ → Day → List ℕ
day_onto text day.Today = text ++ codes "TODAY"
day_onto text day.Tomorrow = text ++ codes "TOMORROW"
day_onto text (day.Weekday n) = text ++ weekday n
day_onto text (day.Date y m d) = text ++ two_digits m ++ codes "/" ++ two_digits d ++ codes "/" ++ four_digits y

-- a start, where there is one
abbrev pub start_onto : List ℕ → Option Start → List ℕ
start_onto text None = text
start_onto text (Some start) =
    day_onto (text ++ codes " STARTT=(") start.day ++ codes "," ++ two_digits (start.seconds / 3600) ++ codes ":" ++ two_digits (start.seconds / 60 % 60) ++ codes ":" ++ two_digits (start.seconds % 60) ++ codes ")"

-- the interval between checkpoints, where the statement says one
unfoldable pub interval_onto : List ℕ → ℕ → List ℕ
interval_onto text n = if n == 0 then text ++ codes " CKPT=NO" else text ++ codes " CKPT=" ++ decimal (n / 1024) ++ codes "K"

abbrev pub ckpt_onto : List ℕ → Option ℕ → List ℕ
ckpt_onto text None = text
ckpt_onto text (Some n) = interval_onto text n

-- a partner, where there is one
abbrev pub snode_onto : List ℕ → Option (List ℕ) → List ℕ
snode_onto text None = text
snode_onto text (Some name) = text ++ codes " SNODE=" ++ name

-- a priority, where there is one
abbrev pub prty_onto : List ℕ → Option ℕ → List ℕ
prty_onto text None = text
prty_onto text (Some n) = text ++ codes " PRTY=" ++ decimal n

-- the line of the PROCESS statement
abbrev pub head_onto : List ℕ → List ℕ → Card → List ℕ
head_onto text name card =
    start_onto (snode_onto (text ++ name ++ codes " PROCESS") card.snode ++ codes " PRTY=" ++ decimal card.prty ++ codes " CLASS=" ++ decimal card.class ++ codes " HOLD=" ++ hold_word card.hold ++ codes " RETAIN=" ++ retain_word card.retain) card.start
    ++ 10 ∷ []

-- an end of a copy up to its side
abbrev pub end_onto : List ℕ → List ℕ → List ℕ → List ℕ → List ℕ
end_onto text front file word = quoted_onto (text ++ front) file ++ codes " " ++ word

abbrev pub copy_onto : List ℕ → CopyStep → List ℕ
copy_onto text copy =
    ckpt_onto (end_onto (end_onto text (codes "COPY FROM (FILE=") copy.from (source_word copy.push)) (codes ") TO (FILE=") copy.to (target_word copy.push) ++ codes " DISP=" ++ disp_word copy.disp ++ codes ")") copy.ckpt

-- what stands before the side of a RUN, and behind its command
abbrev pub run_word : TaskKind → List ℕ
run_word kind.Restart = codes "RUN TASK "
run_word kind.Once = codes "RUN TASK "
run_word kind.Job = codes "RUN JOB "

abbrev pub restart_text : TaskKind → List ℕ
restart_text kind.Restart = codes " RESTART=YES"
restart_text kind.Once = codes " RESTART=NO"
restart_text kind.Job = []

abbrev pub task_onto : List ℕ → TaskStep → List ℕ
task_onto text task = quoted_onto (text ++ run_word task.kind ++ side_word task.side ++ codes " SYSOPTS=") task.command ++ restart_text task.kind

-- symbols with their values
unfoldable pub symbols_onto : List ℕ → List (List ℕ × List ℕ) → List ℕ
symbols_onto text [] = text
symbols_onto text (pair ∷ pairs) = symbols_onto (quoted_onto (text ++ codes " &" ++ pair.0 ++ codes "=") pair.1) pairs

abbrev pub submit_onto : List ℕ → SubmitStep → List ℕ
submit_onto text submit =
    symbols_onto (prty_onto (snode_onto (quoted_onto (text ++ codes "SUBMIT FILE=") submit.file ++ codes " SUBNODE=" ++ side_word submit.side) submit.snode) submit.prty) submit.symbols

abbrev pub what_onto : List ℕ → What → List ℕ
what_onto text (Copy copy) = copy_onto text copy
what_onto text (Task task) = task_onto text task
what_onto text (Submit submit) = submit_onto text submit
what_onto text (If label rel n) = text ++ codes "IF (" ++ label ++ codes " " ++ relation_sign rel ++ codes " " ++ decimal n ++ codes ") THEN"
what_onto text Else = text ++ codes "ELSE"
what_onto text Eif = text ++ codes "EIF"
what_onto text (Goto label) = text ++ codes "GOTO " ++ label
what_onto text Exit = text ++ codes "EXIT"

-- a statement's label, where it has one
abbrev pub label_onto : List ℕ → Option (List ℕ) → List ℕ
label_onto text None = text
label_onto text (Some label) = text ++ label ++ codes " "

abbrev pub stmt_onto : List ℕ → Stmt → List ℕ
stmt_onto text stmt = what_onto (label_onto text stmt.label) stmt.what ++ 10 ∷ []

unfoldable pub stmts_onto : List ℕ → List Stmt → List ℕ
stmts_onto text [] = text
stmts_onto text (stmt ∷ stmts) = stmts_onto (stmt_onto text stmt) stmts

-- the canonical text of a Process
abbrev pub canonical : Process → List ℕ
canonical process = stmts_onto (head_onto [] process.name process.card) process.stmts ++ (codes "PEND" ++ 10 ∷ [])
