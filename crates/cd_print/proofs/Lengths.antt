-- How long a print is.
use Rattle.std.proofs.Common.{◌≡◌, ℕ, ◌+◌, ◌*◌, ◌/◌, ◌≤◌, Bool, true, false, ◌&&◌, List, [], ◌∷◌, ◌++◌, length, length-append, Option, Some, None, refl, subst, arith, nat_le, if◌then◌else◌}
use Rattle.std.specs.Prelude.{◌==◌, codes}
use Rattle.std.specs.List.{list_all, list_any}
use Rattle.std.specs.Fmt.{decimal}
use Rattle.std.proofs.lemmas.Fmt.{length-decimal-le}
use Rattle.cd_types.specs.Label.{is_label, begins_with_letter, is_label_byte}
use Rattle.cd_types.specs.NodeName.{is_node_name, is_node_byte}
use Rattle.cd_types.specs.declared.choices.Disp.{Disp}
use Rattle.cd_types.specs.declared.choices.Disp.TheVariants as disp
use Rattle.cd_types.specs.declared.choices.Hold.{Hold}
use Rattle.cd_types.specs.declared.choices.Hold.TheVariants as hold
use Rattle.cd_types.specs.declared.choices.Relation.{Relation}
use Rattle.cd_types.specs.declared.choices.Relation.TheVariants as relation
use Rattle.cd_types.specs.declared.choices.Retain.{Retain}
use Rattle.cd_types.specs.declared.choices.Retain.TheVariants as retain
use Rattle.cd_types.specs.declared.choices.Side.{Side}
use Rattle.cd_types.specs.declared.choices.Side.TheVariants as side
use Rattle.cd_types.specs.declared.choices.TaskKind.{TaskKind}
use Rattle.cd_types.specs.declared.choices.TaskKind.TheVariants as kind
use Rattle.cd_types.specs.declared.start.Card.{Card}
use Rattle.cd_types.specs.declared.start.Day.{Day}
use Rattle.cd_types.specs.declared.start.Day.TheVariants as day
use Rattle.cd_types.specs.declared.start.Start.{Start}
use Rattle.cd_ast.specs.declared.process.Process.{Process}
use Rattle.cd_ast.specs.declared.process.Stmt.{Stmt}
use Rattle.cd_ast.specs.declared.process.CopyStep.{CopyStep}
use Rattle.cd_ast.specs.declared.process.TaskStep.{TaskStep}
use Rattle.cd_ast.specs.declared.process.SubmitStep.{SubmitStep}
use Rattle.cd_ast.specs.declared.process.What.{What}
use Rattle.cd_ast.specs.declared.process.What.TheVariants as what
use Rattle.cd_ast.specs.Canonical.{quote_of, quoted_onto, side_word, hold_word, retain_word, disp_word, relation_sign, source_word, target_word, weekday, day_onto, start_onto, interval_onto, ckpt_onto, snode_onto, prty_onto, head_onto, end_onto, copy_onto, run_word, restart_text, task_onto, symbols_onto, submit_onto, what_onto, label_onto, stmt_onto, stmts_onto, canonical}
use Rattle.cd_automaton.specs.Ranges.{passes, within, is_timed, is_interval, is_card, is_what, is_stmt, are_stmts}
use Rattle.cd_print.proofs.Grows.{pairs_size, said_size, stmts_size}

-- what a test of several parts says
first_of : (a b : Bool) → (a && b) ≡ true → a ≡ true
first_of true b e = refl
first_of false b e = absurd cc

second_of : (a b : Bool) → (a && b) ≡ true → b ≡ true
second_of true b e = e
second_of false b e = absurd cc

up_to : (a b : ℕ) → nat_le a b ≡ true → a ≤ b
up_to a b e = grind arith

label_length : (label : List ℕ) → is_label label ≡ true → length label ≤ 8
label_length label e =
    let front : (begins_with_letter label && nat_le (length label) 8) ≡ true = first_of _ (list_all is_label_byte label) (first_of (begins_with_letter label && nat_le (length label) 8 && list_all is_label_byte label) _ e) in
    up_to (length label) 8 (second_of (begins_with_letter label) (nat_le (length label) 8) front)

node_length : (name : List ℕ) → is_node_name name ≡ true → length name ≤ 16
node_length name e = up_to (length name) 16 (second_of (nat_le 1 (length name)) (nat_le (length name) 16) (first_of (nat_le 1 (length name) && nat_le (length name) 16) (list_all is_node_byte name) e))

-- choices
either_length : (n : ℕ) (b : Bool) (x y : List ℕ) → length x ≤ n → length y ≤ n → length (if b then x else y) ≤ n
either_length n true x y h h2 = h
either_length n false x y h h2 = h2

quote_length : (body : List ℕ) → length (quote_of body) ≤ 1
quote_length body = either_length 1 (list_any (λ b. b == 34) body) (39 ∷ []) (34 ∷ []) (omega arith) (omega arith)

side_length : (s : Side) → length (side_word s) ≤ 5
side_length side.Pnode = omega arith
side_length side.Snode = omega arith

source_length : (b : Bool) → length (source_word b) ≤ 5
source_length true = omega arith
source_length false = omega arith

target_length : (b : Bool) → length (target_word b) ≤ 5
target_length true = omega arith
target_length false = omega arith

disp_length : (d : Disp) → length (disp_word d) ≤ 3
disp_length disp.New = omega arith
disp_length disp.Rpl = omega arith
disp_length disp.Mod = omega arith

hold_length : (h : Hold) → length (hold_word h) ≤ 4
hold_length hold.No = omega arith
hold_length hold.Yes = omega arith
hold_length hold.Call = omega arith

retain_length : (r : Retain) → length (retain_word r) ≤ 7
retain_length retain.No = omega arith
retain_length retain.Yes = omega arith
retain_length retain.Initial = omega arith

sign_length : (r : Relation) → length (relation_sign r) ≤ 2
sign_length relation.Eq = omega arith
sign_length relation.Ne = omega arith
sign_length relation.Ge = omega arith
sign_length relation.Gt = omega arith
sign_length relation.Le = omega arith
sign_length relation.Lt = omega arith

run_length : (k : TaskKind) → length (run_word k) + length (restart_text k) ≤ 21
run_length kind.Restart = omega arith
run_length kind.Once = omega arith
run_length kind.Job = omega arith

weekday_length : (n : ℕ) → length (weekday n) ≤ 10
unfolding weekday
weekday_length n =
    let ten : (b : Bool) (x y : List ℕ) → length x ≤ 10 → length y ≤ 10 → length (if b then x else y) ≤ 10 = either_length 10 in
    ten (n == 0) _ _ (omega arith) (ten (n == 1) _ _ (omega arith) (ten (n == 2) _ _ (omega arith) (ten (n == 3) _ _ (omega arith) (ten (n == 4) _ _ (omega arith) (ten (n == 5) _ _ (omega arith) (omega arith))))))

-- what is longer behind a text
quoted_length : (text body : List ℕ) → length (quoted_onto text body) ≤ length text + length body + 2
quoted_length text body = let one : length (quote_of body) ≤ 1 = quote_length body in simp length-append (omega arith)

day_length : (text : List ℕ) (d : Day) → length (day_onto text d) ≤ length text + 10
day_length text day.Today = simp length-append (omega arith)
day_length text day.Tomorrow = simp length-append (omega arith)
day_length text (day.Weekday n) = let long : length (weekday n) ≤ 10 = weekday_length n in simp length-append (omega arith)
day_length text (day.Date y m d) = simp length-append (omega arith)

start_length : (text : List ℕ) (o : Option Start) → length (start_onto text o) ≤ length text + 29
start_length text None = omega arith
start_length text (Some start) =
    let dated : length (day_onto (text ++ codes " STARTT=(") start.day) ≤ length (text ++ codes " STARTT=(") + 10 = day_length (text ++ codes " STARTT=(") start.day in
    let front : length (text ++ codes " STARTT=(") ≡ length text + 9 = length-append text (codes " STARTT=(") in
    simp length-append (omega arith)

interval_by : (b : Bool) (text digits : List ℕ) → length digits ≤ 10 → length (if b then text ++ codes " CKPT=NO" else text ++ codes " CKPT=" ++ digits ++ codes "K") ≤ length text + 17
interval_by true text digits h = simp length-append (omega arith)
interval_by false text digits h = simp length-append (omega arith)

interval_length : (text : List ℕ) (n : ℕ) → n ≤ 1099511627776 → length (interval_onto text n) ≤ length text + 17
unfolding interval_onto
interval_length text n h = interval_by (n == 0) text (decimal (n / 1024)) (length-decimal-le 10 (n / 1024) (omega arith) (omega arith) (omega arith))

ckpt_length : (text : List ℕ) (o : Option ℕ) → passes is_interval o ≡ true → length (ckpt_onto text o) ≤ length text + 17
ckpt_length text None e = omega arith
ckpt_length text (Some n) e = interval_length text n (up_to n 1099511627776 (first_of _ _ e))

snode_length : (text : List ℕ) (o : Option (List ℕ)) → passes is_node_name o ≡ true → length (snode_onto text o) ≤ length text + 23
snode_length text None e = omega arith
snode_length text (Some name) e = let short : length name ≤ 16 = node_length name e in simp length-append (omega arith)

prty_length : (text : List ℕ) (o : Option ℕ) → passes (within 1 15) o ≡ true → length (prty_onto text o) ≤ length text + 8
prty_length text None e = omega arith
prty_length text (Some n) e =
    let low : n ≤ 15 = up_to n 15 (second_of (nat_le 1 n) (nat_le n 15) e) in
    let short : length (decimal n) ≤ 2 = length-decimal-le 2 n (omega arith) (omega arith) (omega arith) in
    simp length-append (omega arith)

end_length : (text front file word : List ℕ) → length word ≤ 5 → length (end_onto text front file word) ≤ length text + length front + length file + 8
end_length text front file word h = let one : length (quote_of file) ≤ 1 = quote_length file in simp length-append (omega arith)

copy_length : (text : List ℕ) (copy : CopyStep) → passes is_interval copy.ckpt ≡ true → length (copy_onto text copy) ≤ length text + (length copy.from + length copy.to) + 70
copy_length text copy e =
    let one : List ℕ = end_onto text (codes "COPY FROM (FILE=") copy.from (source_word copy.push) in
    let both : List ℕ = end_onto one (codes ") TO (FILE=") copy.to (target_word copy.push) in
    let whole : List ℕ = both ++ codes " DISP=" ++ disp_word copy.disp ++ codes ")" in
    let a : length one ≤ length text + 16 + length copy.from + 8 = end_length text (codes "COPY FROM (FILE=") copy.from (source_word copy.push) (source_length copy.push) in
    let b : length both ≤ length one + 11 + length copy.to + 8 = end_length one (codes ") TO (FILE=") copy.to (target_word copy.push) (target_length copy.push) in
    let c : length (disp_word copy.disp) ≤ 3 = disp_length copy.disp in
    let d : length whole ≤ length both + 10 = simp length-append (omega arith) in
    let f : length (ckpt_onto whole copy.ckpt) ≤ length whole + 17 = ckpt_length whole copy.ckpt e in
    omega arith

task_length : (text : List ℕ) (task : TaskStep) → length (task_onto text task) ≤ length text + length task.command + 70
task_length text task =
    let front : List ℕ = text ++ run_word task.kind ++ side_word task.side ++ codes " SYSOPTS=" in
    let a : length front ≤ length text + length (run_word task.kind) + length (side_word task.side) + 9 = simp length-append (omega arith) in
    let b : length (side_word task.side) ≤ 5 = side_length task.side in
    let c : length (run_word task.kind) + length (restart_text task.kind) ≤ 21 = run_length task.kind in
    let d : length (quoted_onto front task.command) ≤ length front + length task.command + 2 = quoted_length front task.command in
    let f : length (quoted_onto front task.command ++ restart_text task.kind) ≡ length (quoted_onto front task.command) + length (restart_text task.kind) = length-append (quoted_onto front task.command) (restart_text task.kind) in
    omega arith

symbols_length : (text : List ℕ) (pairs : List (List ℕ × List ℕ)) → length (symbols_onto text pairs) ≤ length text + pairs_size pairs
unfolding symbols_onto
symbols_length text [] = omega arith
symbols_length text (pair ∷ pairs) =
    let front : List ℕ = text ++ codes " &" ++ pair.0 ++ codes "=" in
    let a : length front ≤ length text + length pair.0 + 3 = simp length-append (omega arith) in
    let b : length (quoted_onto front pair.1) ≤ length front + length pair.1 + 2 = quoted_length front pair.1 in
    let c : length (symbols_onto (quoted_onto front pair.1) pairs) ≤ length (quoted_onto front pair.1) + pairs_size pairs = symbols_length (quoted_onto front pair.1) pairs in
    omega arith

submit_length : (text : List ℕ) (submit : SubmitStep) → passes is_node_name submit.snode ≡ true → passes (within 1 15) submit.prty ≡ true → length (submit_onto text submit) ≤ length text + (length submit.file + pairs_size submit.symbols) + 70
submit_length text submit e e2 =
    let front : List ℕ = text ++ codes "SUBMIT FILE=" in
    let a : length front ≡ length text + 12 = length-append text (codes "SUBMIT FILE=") in
    let b : length (quoted_onto front submit.file) ≤ length front + length submit.file + 2 = quoted_length front submit.file in
    let sided : List ℕ = quoted_onto front submit.file ++ codes " SUBNODE=" ++ side_word submit.side in
    let c : length (side_word submit.side) ≤ 5 = side_length submit.side in
    let d : length sided ≤ length (quoted_onto front submit.file) + 14 = simp length-append (omega arith) in
    let f : length (snode_onto sided submit.snode) ≤ length sided + 23 = snode_length sided submit.snode e in
    let g : length (prty_onto (snode_onto sided submit.snode) submit.prty) ≤ length (snode_onto sided submit.snode) + 8 = prty_length (snode_onto sided submit.snode) submit.prty e2 in
    let h : length (symbols_onto (prty_onto (snode_onto sided submit.snode) submit.prty) submit.symbols) ≤ length (prty_onto (snode_onto sided submit.snode) submit.prty) + pairs_size submit.symbols = symbols_length (prty_onto (snode_onto sided submit.snode) submit.prty) submit.symbols in
    omega arith

what_length : (text : List ℕ) (said : What) → is_what said ≡ true → length (what_onto text said) ≤ length text + said_size said + 70
what_length text (what.Copy copy) e = copy_length text copy (second_of _ _ e)
what_length text (what.Task task) e = task_length text task
what_length text (what.Submit submit) e = submit_length text submit (second_of _ _ (first_of _ _ e)) (second_of _ _ e)
what_length text (what.If label rel n) e =
    let short : length label ≤ 8 = label_length label (first_of (is_label label) (nat_le n 255) e) in
    let low : n ≤ 255 = up_to n 255 (second_of (is_label label) (nat_le n 255) e) in
    let digits : length (decimal n) ≤ 3 = length-decimal-le 3 n (omega arith) (omega arith) (omega arith) in
    let sign : length (relation_sign rel) ≤ 2 = sign_length rel in
    simp length-append (omega arith)
what_length text what.Else e = simp length-append (omega arith)
what_length text what.Eif e = simp length-append (omega arith)
what_length text (what.Goto label) e = let short : length label ≤ 8 = label_length label e in simp length-append (omega arith)
what_length text what.Exit e = simp length-append (omega arith)

labelled_length : (text : List ℕ) (o : Option (List ℕ)) → passes is_label o ≡ true → length (label_onto text o) ≤ length text + 9
labelled_length text None e = omega arith
labelled_length text (Some label) e = let short : length label ≤ 8 = label_length label e in simp length-append (omega arith)

stmt_length : (text : List ℕ) (s : Stmt) → is_stmt s ≡ true → length (stmt_onto text s) ≤ length text + said_size s.what + 80
stmt_length text s e =
    let front : List ℕ = label_onto text s.label in
    let a : length front ≤ length text + 9 = labelled_length text s.label (first_of (passes is_label s.label) (is_what s.what) e) in
    let b : length (what_onto front s.what) ≤ length front + said_size s.what + 70 = what_length front s.what (second_of (passes is_label s.label) (is_what s.what) e) in
    let c : length (what_onto front s.what ++ 10 ∷ []) ≡ length (what_onto front s.what) + 1 = length-append (what_onto front s.what) (10 ∷ []) in
    omega arith

stmts_length : (text : List ℕ) (stmts : List Stmt) → are_stmts stmts ≡ true → length (stmts_onto text stmts) ≤ length text + stmts_size stmts + 80 * length stmts
unfolding stmts_onto
stmts_length text [] e = omega arith
stmts_length text (s ∷ stmts) e =
    let a : length (stmt_onto text s) ≤ length text + said_size s.what + 80 = stmt_length text s (first_of _ _ e) in
    let b : length (stmts_onto (stmt_onto text s) stmts) ≤ length (stmt_onto text s) + stmts_size stmts + 80 * length stmts = stmts_length (stmt_onto text s) stmts (second_of (is_stmt s) _ e) in
    omega arith

head_length : (name : List ℕ) (card : Card) → length name ≤ 8 → is_card card ≡ true → length (head_onto [] name card) ≤ 112
head_length name card h e =
    let four : (is_label card.name && passes is_node_name card.snode && within 1 15 card.prty && within 1 255 card.class) ≡ true = first_of _ (passes is_timed card.start) e in
    let three : (is_label card.name && passes is_node_name card.snode && within 1 15 card.prty) ≡ true = first_of _ (within 1 255 card.class) four in
    let two : (is_label card.name && passes is_node_name card.snode) ≡ true = first_of _ (within 1 15 card.prty) three in
    let prty : card.prty ≤ 15 = up_to card.prty 15 (second_of (nat_le 1 card.prty) _ (second_of _ (within 1 15 card.prty) three)) in
    let class : card.class ≤ 255 = up_to card.class 255 (second_of (nat_le 1 card.class) _ (second_of _ (within 1 255 card.class) four)) in
    let front : List ℕ = name ++ codes " PROCESS" in
    let a : length front ≡ length name + 8 = length-append name (codes " PROCESS") in
    let b : length (snode_onto front card.snode) ≤ length front + 23 = snode_length front card.snode (second_of _ (passes is_node_name card.snode) two) in
    let p : length (decimal card.prty) ≤ 2 = length-decimal-le 2 card.prty (omega arith) (omega arith) (omega arith) in
    let q : length (decimal card.class) ≤ 3 = length-decimal-le 3 card.class (omega arith) (omega arith) (omega arith) in
    let r : length (hold_word card.hold) ≤ 4 = hold_length card.hold in
    let s : length (retain_word card.retain) ≤ 7 = retain_length card.retain in
    let whole : List ℕ = snode_onto front card.snode ++ codes " PRTY=" ++ decimal card.prty ++ codes " CLASS=" ++ decimal card.class ++ codes " HOLD=" ++ hold_word card.hold ++ codes " RETAIN=" ++ retain_word card.retain in
    let c : length whole ≤ length (snode_onto front card.snode) + 43 = simp length-append (omega arith) in
    let d : length (start_onto whole card.start) ≤ length whole + 29 = start_length whole card.start in
    let f : length (start_onto whole card.start ++ 10 ∷ []) ≡ length (start_onto whole card.start) + 1 = length-append (start_onto whole card.start) (10 ∷ []) in
    omega arith

pub print_length : (process : Process) → is_card process.card ≡ true → process.card.name ≡ process.name → are_stmts process.stmts ≡ true → length process.stmts ≤ 1024 → stmts_size process.stmts ≤ 114688 → length (canonical process) ≤ 200000
print_length process e named e2 few small =
    let label : is_label process.card.name ≡ true = first_of _ (passes is_node_name process.card.snode) (first_of _ (within 1 15 process.card.prty) (first_of _ (within 1 255 process.card.class) (first_of _ (passes is_timed process.card.start) e))) in
    let name : length process.name ≤ 8 = subst (λ (x : List ℕ). length x ≤ 8) named (label_length process.card.name label) in
    let front : List ℕ = head_onto [] process.name process.card in
    let a : length front ≤ 112 = head_length process.name process.card name e in
    let b : length (stmts_onto front process.stmts) ≤ length front + stmts_size process.stmts + 80 * length process.stmts = stmts_length front process.stmts e2 in
    let c : length (stmts_onto front process.stmts ++ (codes "PEND" ++ 10 ∷ [])) ≡ length (stmts_onto front process.stmts) + 5 = length-append (stmts_onto front process.stmts) (codes "PEND" ++ 10 ∷ []) in
    omega arith
