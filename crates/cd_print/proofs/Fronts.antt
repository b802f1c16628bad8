-- A print from its first byte on, in front of what follows.
use Rattle.std.proofs.Common.{◌≡◌, ℕ, ◌/◌, ◌%◌, Bool, true, false, List, [], ◌∷◌, ◌++◌, append_assoc, Option, Some, None, refl, ap, ◌∙◌, if◌then◌else◌}
use Rattle.std.specs.Prelude.{◌==◌, codes}
use Rattle.std.specs.Fmt.{decimal}
use Rattle.cd_types.specs.declared.choices.TaskKind.{TaskKind}
use Rattle.cd_types.specs.declared.choices.TaskKind.TheVariants as kind
use Rattle.cd_types.specs.declared.start.Card.{Card}
use Rattle.cd_types.specs.declared.start.Day.{Day}
use Rattle.cd_types.specs.declared.start.Day.TheVariants as day
use Rattle.cd_types.specs.declared.start.Start.{Start}
use Rattle.cd_ast.specs.declared.process.Process.{Process}
use Rattle.cd_ast.specs.declared.process.Stmt.{Stmt}
use Rattle.cd_ast.specs.declared.process.What.{What}
use Rattle.cd_ast.specs.declared.process.What.TheVariants as what
use Rattle.cd_ast.specs.Canonical.{quote_of, quoted_onto, side_word, hold_word, retain_word, disp_word, relation_sign, source_word, target_word, two_digits, four_digits, weekday, day_onto, start_onto, interval_onto, ckpt_onto, snode_onto, prty_onto, head_onto, run_word, restart_text, symbols_onto, what_onto, label_onto, stmt_onto, stmts_onto, canonical}

abbrev pub quoted : List ℕ → List ℕ → List ℕ
quoted body rest = quote_of body ++ (body ++ (quote_of body ++ rest))

abbrev pub interval_word : ℕ → List ℕ
interval_word n = if n == 0 then codes "NO" else decimal (n / 1024) ++ codes "K"

abbrev pub ckpt_front : Option ℕ → List ℕ → List ℕ
ckpt_front None rest = rest
ckpt_front (Some n) rest = 32 ∷ (codes "CKPT" ++ (61 ∷ (interval_word n ++ rest)))

abbrev pub snode_front : Option (List ℕ) → List ℕ → List ℕ
snode_front None rest = rest
snode_front (Some name) rest = 32 ∷ (codes "SNODE" ++ (61 ∷ (name ++ rest)))

abbrev pub prty_front : Option ℕ → List ℕ → List ℕ
prty_front None rest = rest
prty_front (Some n) rest = 32 ∷ (codes "PRTY" ++ (61 ∷ (decimal n ++ rest)))

abbrev pub symbols_front : List (List ℕ × List ℕ) → List ℕ → List ℕ
symbols_front [] rest = rest
symbols_front (pair ∷ pairs) rest = 32 ∷ ((38 ∷ pair.0) ++ (61 ∷ quoted pair.1 (symbols_front pairs rest)))

abbrev pub work_word : TaskKind → List ℕ
work_word kind.Restart = codes "TASK"
work_word kind.Once = codes "TASK"
work_word kind.Job = codes "JOB"

abbrev pub restart_front : TaskKind → List ℕ → List ℕ
restart_front kind.Restart rest = 32 ∷ (codes "RESTART" ++ (61 ∷ (codes "YES" ++ rest)))
restart_front kind.Once rest = 32 ∷ (codes "RESTART" ++ (61 ∷ (codes "NO" ++ rest)))
restart_front kind.Job rest = rest

abbrev pub what_front : What → List ℕ → List ℕ
what_front (what.Copy copy) rest =
    codes "COPY" ++ (32 ∷ (codes "FROM" ++ (32 ∷ 40 ∷ (codes "FILE" ++ (61 ∷ quoted copy.from (32 ∷ (source_word copy.push ++ (41 ∷ 32 ∷ (codes "TO" ++ (32 ∷ 40 ∷ (codes "FILE" ++ (61 ∷ quoted copy.to (32 ∷ (target_word copy.push ++ (32 ∷ (codes "DISP" ++ (61 ∷ (disp_word copy.disp ++ (41 ∷ ckpt_front copy.ckpt rest)))))))))))))))))))
what_front (what.Task task) rest = codes "RUN" ++ (32 ∷ (work_word task.kind ++ (32 ∷ (side_word task.side ++ (32 ∷ (codes "SYSOPTS" ++ (61 ∷ quoted task.command (restart_front task.kind rest))))))))
what_front (what.Submit submit) rest =
    codes "SUBMIT" ++ (32 ∷ (codes "FILE" ++ (61 ∷ quoted submit.file (32 ∷ (codes "SUBNODE" ++ (61 ∷ (side_word submit.side ++ snode_front submit.snode (prty_front submit.prty (symbols_front submit.symbols rest)))))))))
what_front (what.If label rel n) rest = codes "IF" ++ (32 ∷ 40 ∷ (label ++ (32 ∷ (relation_sign rel ++ (32 ∷ (decimal n ++ (41 ∷ 32 ∷ (codes "THEN" ++ rest))))))))
what_front what.Else rest = codes "ELSE" ++ rest
what_front what.Eif rest = codes "EIF" ++ rest
what_front (what.Goto label) rest = codes "GOTO" ++ (32 ∷ (label ++ rest))
what_front what.Exit rest = codes "EXIT" ++ rest

abbrev pub label_front : Option (List ℕ) → List ℕ → List ℕ
label_front None rest = rest
label_front (Some label) rest = label ++ (32 ∷ rest)

abbrev pub stmt_front : Stmt → List ℕ → List ℕ
stmt_front s rest = label_front s.label (what_front s.what (10 ∷ rest))

abbrev pub stmts_front : List Stmt → List ℕ → List ℕ
stmts_front [] rest = rest
stmts_front (s ∷ stmts) rest = stmt_front s (stmts_front stmts rest)

abbrev pub day_word : Day → List ℕ
day_word day.Today = codes "TODAY"
day_word day.Tomorrow = codes "TOMORROW"
day_word (day.Weekday n) = weekday n
day_word (day.Date y m d) = two_digits m ++ codes "/" ++ two_digits d ++ codes "/" ++ four_digits y

abbrev pub time_word : ℕ → List ℕ
time_word seconds = two_digits (seconds / 3600) ++ codes ":" ++ two_digits (seconds / 60 % 60) ++ codes ":" ++ two_digits (seconds % 60)

abbrev pub start_front : Option Start → List ℕ → List ℕ
start_front None rest = rest
start_front (Some start) rest = 32 ∷ (codes "STARTT" ++ (61 ∷ 40 ∷ (day_word start.day ++ (44 ∷ (time_word start.seconds ++ (41 ∷ rest))))))

abbrev pub head_front : List ℕ → Card → List ℕ → List ℕ
head_front name card rest =
    name ++ (32 ∷ (codes "PROCESS" ++ snode_front card.snode (32 ∷ (codes "PRTY" ++ (61 ∷ (decimal card.prty ++ (32 ∷ (codes "CLASS" ++ (61 ∷ (decimal card.class ++ (32 ∷ (codes "HOLD" ++ (61 ∷ (hold_word card.hold ++ (32 ∷ (codes "RETAIN" ++ (61 ∷ (retain_word card.retain ++ start_front card.start (10 ∷ rest)))))))))))))))))))

abbrev pub print_front : Process → List ℕ
print_front process = head_front process.name process.card (stmts_front process.stmts (codes "PEND" ++ (10 ∷ [])))

-- they are what is printed
interval_by : (t : Bool) (text digits rest : List ℕ) → (if t then text ++ codes " CKPT=NO" else text ++ codes " CKPT=" ++ digits ++ codes "K") ++ rest ≡ text ++ (32 ∷ (codes "CKPT" ++ (61 ∷ ((if t then codes "NO" else digits ++ codes "K") ++ rest))))
interval_by true text digits rest = simp append_assoc refl
interval_by false text digits rest = simp append_assoc refl

ckpt_is : (text : List ℕ) (o : Option ℕ) (rest : List ℕ) → ckpt_onto text o ++ rest ≡ text ++ ckpt_front o rest
unfolding interval_onto
ckpt_is text None rest = refl
ckpt_is text (Some n) rest = interval_by (n == 0) text (decimal (n / 1024)) rest

snode_is : (text : List ℕ) (o : Option (List ℕ)) (rest : List ℕ) → snode_onto text o ++ rest ≡ text ++ snode_front o rest
snode_is text None rest = refl
snode_is text (Some name) rest = simp append_assoc refl

prty_is : (text : List ℕ) (o : Option ℕ) (rest : List ℕ) → prty_onto text o ++ rest ≡ text ++ prty_front o rest
prty_is text None rest = refl
prty_is text (Some n) rest = simp append_assoc refl

symbols_is : (text : List ℕ) (pairs : List (List ℕ × List ℕ)) (rest : List ℕ) → symbols_onto text pairs ++ rest ≡ text ++ symbols_front pairs rest
unfolding symbols_onto
symbols_is text [] rest = refl
symbols_is text (pair ∷ pairs) rest = symbols_is (quoted_onto (text ++ codes " &" ++ pair.0 ++ codes "=") pair.1) pairs rest ∙ simp append_assoc refl

restart_is : (text : List ℕ) (k : TaskKind) (rest : List ℕ) → (text ++ restart_text k) ++ rest ≡ text ++ restart_front k rest
restart_is text kind.Restart rest = simp append_assoc refl
restart_is text kind.Once rest = simp append_assoc refl
restart_is text kind.Job rest = simp append_assoc refl

run_is : (k : TaskKind) (rest : List ℕ) → run_word k ++ rest ≡ codes "RUN" ++ (32 ∷ (work_word k ++ (32 ∷ rest)))
run_is kind.Restart rest = refl
run_is kind.Once rest = refl
run_is kind.Job rest = refl

what_is : (text : List ℕ) (said : What) (rest : List ℕ) → what_onto text said ++ rest ≡ text ++ what_front said rest
what_is text (what.Copy copy) rest = ckpt_is _ copy.ckpt rest ∙ simp append_assoc refl
what_is text (what.Task task) rest =
    restart_is (quoted_onto (text ++ run_word task.kind ++ side_word task.side ++ codes " SYSOPTS=") task.command) task.kind rest
    ∙ (simp append_assoc refl ∙ ap (λ (x : List ℕ). text ++ x) (run_is task.kind (side_word task.side ++ (codes " SYSOPTS=" ++ quoted task.command (restart_front task.kind rest)))))
what_is text (what.Submit submit) rest = symbols_is _ submit.symbols rest ∙ (prty_is _ submit.prty _ ∙ (snode_is _ submit.snode _ ∙ simp append_assoc refl))
what_is text (what.If label rel n) rest = simp append_assoc refl
what_is text what.Else rest = simp append_assoc refl
what_is text what.Eif rest = simp append_assoc refl
what_is text (what.Goto label) rest = simp append_assoc refl
what_is text what.Exit rest = simp append_assoc refl

label_is : (text : List ℕ) (o : Option (List ℕ)) (rest : List ℕ) → label_onto text o ++ rest ≡ text ++ label_front o rest
label_is text None rest = refl
label_is text (Some label) rest = simp append_assoc refl

stmt_is : (text : List ℕ) (s : Stmt) (rest : List ℕ) → stmt_onto text s ++ rest ≡ text ++ stmt_front s rest
stmt_is text s rest = append_assoc (what_onto (label_onto text s.label) s.what) (10 ∷ []) rest ∙ (what_is (label_onto text s.label) s.what (10 ∷ rest) ∙ label_is text s.label _)

stmts_is : (text : List ℕ) (stmts : List Stmt) (rest : List ℕ) → stmts_onto text stmts ++ rest ≡ text ++ stmts_front stmts rest
unfolding stmts_onto
stmts_is text [] rest = refl
stmts_is text (s ∷ stmts) rest = stmts_is (stmt_onto text s) stmts rest ∙ stmt_is text s (stmts_front stmts rest)

day_is : (text : List ℕ) (d : Day) (rest : List ℕ) → day_onto text d ++ rest ≡ text ++ (day_word d ++ rest)
day_is text day.Today rest = simp append_assoc refl
day_is text day.Tomorrow rest = simp append_assoc refl
day_is text (day.Weekday n) rest = append_assoc text (weekday n) rest
day_is text (day.Date y m d) rest = simp append_assoc refl

start_is : (text : List ℕ) (o : Option Start) (rest : List ℕ) → start_onto text o ++ rest ≡ text ++ start_front o rest
start_is text None rest = refl
start_is text (Some start) rest = simp append_assoc refl ∙ (day_is (text ++ codes " STARTT=(") start.day (codes "," ++ (time_word start.seconds ++ (codes ")" ++ rest))) ∙ append_assoc text (codes " STARTT=(") _)

head_is : (name : List ℕ) (card : Card) (rest : List ℕ) → head_onto [] name card ++ rest ≡ head_front name card rest
head_is name card rest =
    append_assoc (start_onto (snode_onto ([] ++ name ++ codes " PROCESS") card.snode ++ codes " PRTY=" ++ decimal card.prty ++ codes " CLASS=" ++ decimal card.class ++ codes " HOLD=" ++ hold_word card.hold ++ codes " RETAIN=" ++ retain_word card.retain) card.start) (10 ∷ []) rest
    ∙ (start_is _ card.start (10 ∷ rest) ∙ (simp append_assoc refl ∙ (snode_is _ card.snode _ ∙ append_assoc name (codes " PROCESS") _)))

pub print_is : (process : Process) → canonical process ≡ print_front process
print_is process = stmts_is (head_onto [] process.name process.card) process.stmts (codes "PEND" ++ 10 ∷ []) ∙ head_is process.name process.card (stmts_front process.stmts (codes "PEND" ++ (10 ∷ [])))
