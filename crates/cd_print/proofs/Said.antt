-- What is printed of a statement is read as that statement.
use Rattle.std.proofs.Common.{◌≡◌, ℕ, ◌*◌, ◌/◌, ◌%◌, ◌<◌, ◌≤◌, Bool, true, false, ◌&&◌, List, [], ◌∷◌, ◌++◌, length, length-append, Option, Some, None, Ok, refl, ap, sym, ◌∙◌, arith, nat_le, nat_lt, if◌then◌else◌}
use Rattle.std.specs.Prelude.{◌==◌, codes}
use Rattle.std.specs.Option.{option_map}
use Rattle.std.specs.Char.{is_ascii_digit}
use Rattle.std.specs.Fmt.{decimal}
use Rattle.std.specs.List.{list_all}
use Rattle.std.proofs.lemmas.List.Folds.{list_all-append}
use Rattle.cd_types.specs.FileName.{is_file_name}
use Rattle.cd_types.specs.Label.{is_label}
use Rattle.cd_types.specs.NodeName.{is_node_name}
use Rattle.cd_types.specs.Symbols.{upper_case, with_symbol}
use Rattle.cd_types.specs.declared.choices.Disp.{Disp}
use Rattle.cd_types.specs.declared.choices.Disp.TheVariants as disp
use Rattle.cd_types.specs.declared.choices.Relation.{Relation}
use Rattle.cd_types.specs.declared.choices.Relation.TheVariants as relation
use Rattle.cd_types.specs.declared.choices.Side as sides
use Rattle.cd_types.specs.declared.choices.Side.TheVariants as side
use Rattle.cd_types.specs.declared.choices.TaskKind.{TaskKind}
use Rattle.cd_types.specs.declared.choices.TaskKind.TheVariants as kind
use Rattle.cd_ast.specs.Bytes.{is_blank, is_quote, is_sign_byte, is_word_byte}
use Rattle.cd_ast.specs.Canonical.{side_word, disp_word, relation_sign, source_word, target_word}
use Rattle.cd_ast.specs.declared.piece.PieceKind.{PieceKind}
use Rattle.cd_ast.specs.declared.piece.PieceKind.TheVariants as piece
use Rattle.cd_ast.specs.declared.process.What.{What}
use Rattle.cd_ast.specs.declared.process.What.TheVariants as what
use Rattle.cd_ast.specs.declared.process.CopyStep.{CopyStep}
use Rattle.cd_ast.specs.declared.process.TaskStep.{TaskStep}
use Rattle.cd_ast.specs.declared.process.SubmitStep.{SubmitStep}
use Rattle.cd_grammar.specs.declared.token.Key.{Key}
use Rattle.cd_grammar.specs.declared.token.Key.TheVariants as key
use Rattle.cd_grammar.specs.declared.token.Token.{Token}
use Rattle.cd_grammar.specs.declared.token.Token.TheVariants.{Word, Quoted, Mark}
use Rattle.cd_grammar.specs.declared.given.Given.{Given}
use Rattle.cd_grammar.specs.declared.given.Slot.TheVariants as slot
use Rattle.cd_grammar.specs.declared.mark.Mark as marks
use Rattle.cd_grammar.specs.declared.mark.Sketch.{Sketch}
use Rattle.cd_grammar.specs.declared.mark.Sketch.TheVariants as sketch
use Rattle.cd_grammar.specs.declared.step.Begun.{Begun}
use Rattle.cd_grammar.specs.declared.step.CopyGiven.{CopyGiven}
use Rattle.cd_grammar.specs.declared.step.Step.{Step}
use Rattle.cd_grammar.specs.declared.step.Step.TheVariants as step
use Rattle.cd_grammar.specs.declared.step.Work.TheVariants as work
use Rattle.cd_grammar.specs.Answers.{Answer, Fits, strict, taken}
use Rattle.cd_grammar.specs.Given.{nothing, has, side_of, with_word, with_quoted, with_value, from_slot, to_slot, copy_slot, task_slot, job_slot, submit_slot}
use Rattle.cd_grammar.specs.Grammar.{Place, Rest, opening, before_it, begun_at, end_in, work_of, relation_of}
use Rattle.cd_grammar.specs.Grammar as g
use Rattle.cd_grammar.specs.Reading.{Reading, stored, ended, slot_of, has_room, is_pnode, are_same}
use Rattle.cd_grammar.specs.Tokens.{Side, Out}
use Rattle.cd_grammar.specs.Values.{number_in, interval_in, symbol_in, file_in, node_in, is_command, disp_in, restart_in}
use Rattle.cd_grammar.specs.Words.{key_of, sign_of, said_in}
use Rattle.cd_automaton.specs.Ranges.{passes, within, is_interval}
use Rattle.cd_print.specs.Printable.{is_quotable, is_symbol_name, are_symbols, with_all, IsQuotable}
use Rattle.cd_print.proofs.Cuts.{is_plain, begins_well, stops, begins_equal}
use Rattle.cd_print.proofs.Tails.{Reads, onward, on_blank, on_word, is_outside}
use Rattle.cd_print.proofs.Words.{word_outside, label_read, fits_taken, labels_plain, label_begins, nodes_plain, node_begins, number_digits, digits_plain, digits_begin, alnums_plain}
use Rattle.cd_print.proofs.Fronts.{quoted, interval_word, ckpt_front, snode_front, prty_front, symbols_front, work_word, restart_front, what_front}
use Rattle.cd_print.proofs.Lines.{on_close, on_open, on_pair, on_text, on_relation, plain_other}

-- what is known of printed values
pub record PrintedValues : Type 0 where
  pub numbers : (low high n : ℕ) → low ≤ n → n ≤ high → high < 10000000000 → number_in low high (decimal n) ≡ Fits n
  pub intervals : (n : ℕ) → 1 ≤ n → n * 1024 ≤ 1099511627776 → interval_in (decimal n ++ codes "K") ≡ Fits (n * 1024)

key_copy : key_of (codes "COPY") ≡ key.Copy
unfolding key_of said_in
key_copy = refl

key_from : key_of (codes "FROM") ≡ key.From
unfolding key_of said_in
key_from = refl

key_file : key_of (codes "FILE") ≡ key.File
unfolding key_of said_in
key_file = refl

key_to : key_of (codes "TO") ≡ key.To
unfolding key_of said_in
key_to = refl

key_disp : key_of (codes "DISP") ≡ key.Disp
unfolding key_of said_in
key_disp = refl

key_ckpt : key_of (codes "CKPT") ≡ key.Ckpt
unfolding key_of said_in
key_ckpt = refl

key_run : key_of (codes "RUN") ≡ key.Run
unfolding key_of said_in
key_run = refl

key_task : key_of (codes "TASK") ≡ key.Task
unfolding key_of said_in
key_task = refl

key_job : key_of (codes "JOB") ≡ key.Job
unfolding key_of said_in
key_job = refl

key_sysopts : key_of (codes "SYSOPTS") ≡ key.Sysopts
unfolding key_of said_in
key_sysopts = refl

key_restart : key_of (codes "RESTART") ≡ key.Restart
unfolding key_of said_in
key_restart = refl

key_submit : key_of (codes "SUBMIT") ≡ key.Submit
unfolding key_of said_in
key_submit = refl

key_subnode : key_of (codes "SUBNODE") ≡ key.Subnode
unfolding key_of said_in
key_subnode = refl

pub key_snode : key_of (codes "SNODE") ≡ key.Snode
unfolding key_of said_in
key_snode = refl

pub key_prty : key_of (codes "PRTY") ≡ key.Prty
unfolding key_of said_in
key_prty = refl

key_if : key_of (codes "IF") ≡ key.If
unfolding key_of said_in
key_if = refl

key_then : key_of (codes "THEN") ≡ key.Then
unfolding key_of said_in
key_then = refl

key_else : key_of (codes "ELSE") ≡ key.Else
unfolding key_of said_in
key_else = refl

key_eif : key_of (codes "EIF") ≡ key.Eif
unfolding key_of said_in
key_eif = refl

key_goto : key_of (codes "GOTO") ≡ key.Goto
unfolding key_of said_in
key_goto = refl

key_exit : key_of (codes "EXIT") ≡ key.Exit
unfolding key_of said_in
key_exit = refl

pub key_pend : key_of (codes "PEND") ≡ key.Pend
unfolding key_of said_in
key_pend = refl

pub key_process : key_of (codes "PROCESS") ≡ key.Process
unfolding key_of said_in
key_process = refl

pub key_class : key_of (codes "CLASS") ≡ key.Class
unfolding key_of said_in
key_class = refl

pub key_hold : key_of (codes "HOLD") ≡ key.Hold
unfolding key_of said_in
key_hold = refl

pub key_retain : key_of (codes "RETAIN") ≡ key.Retain
unfolding key_of said_in
key_retain = refl

pub key_startt : key_of (codes "STARTT") ≡ key.Startt
unfolding key_of said_in
key_startt = refl

-- tokens with which a text ends, so that what was read is of a kind
abbrev pub Ends : (Reading → Type 0) → Place → List Token → Type 0
Ends Q p ts = (all : Reading) × Rest strict p ts all × Q all

-- the sketch of a statement without a fault of its own
abbrev pub IsSketch : Sketch → What → Type 0
IsSketch (sketch.Copy alike) (what.Copy copy) = alike ≡ false
IsSketch sketch.Action (what.Task task) = Unit {0}
IsSketch sketch.Action (what.Submit submit) = Unit {0}
IsSketch (sketch.If at name) (what.If label rel n) = name ≡ label
IsSketch sketch.Else what.Else = Unit {0}
IsSketch sketch.Eif what.Eif = Unit {0}
IsSketch (sketch.Goto at name) (what.Goto label) = name ≡ label
IsSketch sketch.Exit what.Exit = Unit {0}
IsSketch _ _ = ⊥

-- a reading with one statement more
pub record Follows (before : Reading) (label : Option (List ℕ)) (said : What) (opened : List Bool) (later : Reading) : Type 0 where
  pub name : later.name ≡ before.name
  pub head : later.head ≡ before.head
  pub stmts : later.stmts ≡ before.stmts ++ record { label = label; what = said } ∷ []
  pub symbols : later.symbols ≡ []
  pub ifs : later.ifs ≡ opened
  pub mark : marks.Mark
  pub marks : later.marks ≡ before.marks ++ mark ∷ []
  pub labelled : option_map (λ found. found.1) mark.label ≡ label
  pub sketched : IsSketch mark.what said

abbrev pub label_in_it : Option (ℕ × List ℕ) → Option (List ℕ)
label_in_it label = option_map (λ found. found.1) label

-- what follows a statement
abbrev pub Next : (Reading → Type 0) → Reading → Option (ℕ × List ℕ) → What → List Bool → List ℕ → Type 0
Next Q before label said ifs rest = (r : Reading) (s : Step) (later : Reading) (kind : PieceKind) (side : Side) → ended r s ≡ Some later → Follows before (label_in_it label) said ifs later → is_outside side ≡ true → Reads (Ends Q (g.At r s)) kind side (10 ∷ rest)

and_false : (a : Bool) → (a && false) ≡ false
and_false true = refl
and_false false = refl

sign_begins : (w : List ℕ) → 1 ≤ length w → begins_well piece.Sign w ≡ true
sign_begins [] h = absurd (omega arith)
sign_begins (b ∷ w) h = rw (and_false (b == 45)) refl

file_read : (name : List ℕ) → is_file_name name ≡ true → file_in name ≡ Fits name
unfolding file_in
file_read name e = rw e refl

pub node_read : (name : List ℕ) → is_node_name name ≡ true → node_in name ≡ Fits name
unfolding node_in
node_read name e = rw e refl

abbrev src : Bool → sides.Side
src true = side.Pnode
src false = side.Snode

abbrev tgt : Bool → sides.Side
tgt true = side.Snode
tgt false = side.Pnode

source_read : (b : Bool) → side_of (key_of (source_word b)) ≡ Some (src b)
unfolding side_of key_of said_in
source_read true = refl
source_read false = refl

target_read : (b : Bool) → side_of (key_of (target_word b)) ≡ Some (tgt b)
unfolding side_of key_of said_in
target_read true = refl
target_read false = refl

side_read : (s : sides.Side) → side_of (key_of (side_word s)) ≡ Some s
unfolding side_of key_of said_in
side_read side.Pnode = refl
side_read side.Snode = refl

disp_read : (d : Disp) → disp_in (disp_word d) ≡ Some d
unfolding disp_in said_in
disp_read disp.New = refl
disp_read disp.Rpl = refl
disp_read disp.Mod = refl

relation_read : (at : ℕ) (r : Relation) → relation_of (Mark at (sign_of (relation_sign r))) ≡ Some r
unfolding relation_of sign_of
relation_read at relation.Eq = refl
relation_read at relation.Ne = refl
relation_read at relation.Ge = refl
relation_read at relation.Gt = refl
relation_read at relation.Le = refl
relation_read at relation.Lt = refl

source_plain : (b : Bool) → list_all is_plain (source_word b) ≡ true
unfolding is_word_byte is_blank is_quote is_sign_byte
source_plain true = refl
source_plain false = refl

target_plain : (b : Bool) → list_all is_plain (target_word b) ≡ true
unfolding is_word_byte is_blank is_quote is_sign_byte
target_plain true = refl
target_plain false = refl

side_plain : (s : sides.Side) → list_all is_plain (side_word s) ≡ true
unfolding is_word_byte is_blank is_quote is_sign_byte
side_plain side.Pnode = refl
side_plain side.Snode = refl

disp_plain : (d : Disp) → list_all is_plain (disp_word d) ≡ true
unfolding is_word_byte is_blank is_quote is_sign_byte
disp_plain disp.New = refl
disp_plain disp.Rpl = refl
disp_plain disp.Mod = refl

source_begins : (before : PieceKind) (b : Bool) → begins_well before (source_word b) ≡ true
source_begins before true = refl
source_begins before false = refl

target_begins : (before : PieceKind) (b : Bool) → begins_well before (target_word b) ≡ true
target_begins before true = refl
target_begins before false = refl

side_begins : (before : PieceKind) (s : sides.Side) → begins_well before (side_word s) ≡ true
side_begins before side.Pnode = refl
side_begins before side.Snode = refl

disp_begins : (before : PieceKind) (d : Disp) → begins_well before (disp_word d) ≡ true
disp_begins before disp.New = refl
disp_begins before disp.Rpl = refl
disp_begins before disp.Mod = refl

pub first_is : (a b : Bool) → (a && b) ≡ true → a ≡ true
first_is true b e = refl
first_is false b e = absurd cc

pub second_is : (a b : Bool) → (a && b) ≡ true → b ≡ true
second_is true b e = e
second_is false b e = absurd cc

pub up_to : (a b : ℕ) → nat_le a b ≡ true → a ≤ b
up_to a b e = grind arith

file_given : (given : Given) (at at2 : ℕ) (text : List ℕ) → is_file_name text ≡ true → taken true (with_value given slot.File at (Quoted at2 text)) ≡ Ok (record given { file = Some text })
unfolding with_quoted
file_given given at at2 text e = rw (file_read text e) refl

command_given : (given : Given) (at at2 : ℕ) (text : List ℕ) → is_command text ≡ true → taken true (with_value given slot.Command at (Quoted at2 text)) ≡ Ok (record given { command = Some text })
unfolding with_quoted
command_given given at at2 text e = rw e refl

disp_given : (given : Given) (at at2 : ℕ) (k : Key) (d : Disp) → taken true (with_value given slot.Disp at (Word at2 k (disp_word d))) ≡ Ok (record given { disp = Some d })
unfolding with_word
disp_given given at at2 k d = rw (disp_read d) refl

restart_yes : (given : Given) (at at2 : ℕ) (k : Key) → taken true (with_value given slot.Restart at (Word at2 k (codes "YES"))) ≡ Ok (record given { restart = Some true })
unfolding with_word restart_in said_in
restart_yes given at at2 k = refl

restart_no : (given : Given) (at at2 : ℕ) (k : Key) → taken true (with_value given slot.Restart at (Word at2 k (codes "NO"))) ≡ Ok (record given { restart = Some false })
unfolding with_word restart_in said_in
restart_no given at at2 k = refl

side_given : (given : Given) (at at2 : ℕ) (s : sides.Side) → taken true (with_value given slot.Side at (Word at2 (key_of (side_word s)) (side_word s))) ≡ Ok (record given { side = Some s })
unfolding with_word
side_given given at at2 s = rw (side_read s) refl

snode_given : (given : Given) (at at2 : ℕ) (k : Key) (name : List ℕ) → is_node_name name ≡ true → taken true (with_value given slot.Snode at (Word at2 k name)) ≡ Ok (record given { snode = Some name })
unfolding with_word
snode_given given at at2 k name e = rw (node_read name e) refl

prty_given : (given : Given) (at at2 n : ℕ) (k : Key) (word : List ℕ) → number_in 1 15 word ≡ Fits n → taken true (with_value given slot.Prty at (Word at2 k word)) ≡ Ok (record given { prty = Some n })
unfolding with_word
prty_given given at at2 n k word e = rw e refl

push_is : (b : Bool) → is_pnode (src b) ≡ b
push_is true = refl
push_is false = refl

apart : (b : Bool) → are_same (src b) (tgt b) ≡ false
apart true = refl
apart false = refl

abbrev from_given : CopyStep → Given
from_given copy = record nothing { file = Some copy.from; side = Some (src copy.push) }

abbrev to_given : CopyStep → Given
to_given copy = record nothing { file = Some copy.to; side = Some (tgt copy.push); disp = Some copy.disp }

abbrev copy_given : CopyStep → Option ℕ → CopyGiven
copy_given copy ckpt = record { from = Some (from_given copy); to = Some (to_given copy); compress = false; others = record nothing { ckpt = ckpt } }

copy_follows : (before : Reading) (label : Option (ℕ × List ℕ)) (at : ℕ) (copy : CopyStep)
    → Follows before (label_in_it label) (what.Copy copy) before.ifs (stored before (begun_at label at) (sketch.Copy (are_same (src copy.push) (tgt copy.push))) (what.Copy (record copy { push = is_pnode (src copy.push) })))
copy_follows before label at copy = record {
  name = refl;
  head = refl;
  stmts = ap (λ (x : Bool). before.stmts ++ record { label = label_in_it label; what = what.Copy (record copy { push = x }) } ∷ []) (push_is copy.push);
  symbols = refl;
  ifs = refl;
  mark = record { label = label; at = at; what = sketch.Copy (are_same (src copy.push) (tgt copy.push)) };
  marks = refl;
  labelled = refl;
  sketched = apart copy.push;
}

module _ (values : PrintedValues) (Q : Reading → Type 0) where
  interval_by : (t : Bool) (n : ℕ) → (n == 0) ≡ t → is_interval n ≡ true → interval_in (if t then codes "NO" else decimal (n / 1024) ++ codes "K") ≡ Fits n
  unfolding interval_in
  interval_by true n e fits = let zero_is : 0 ≡ n = grind arith in ap (λ (m : ℕ). fit m) zero_is
    where
      fit : ℕ → Answer ℕ
      fit m = Fits m
  interval_by false n e fits =
      let low : n ≤ 1099511627776 = up_to n 1099511627776 (first_is _ _ fits) in
      let whole : (n % 1024 == 0) ≡ true = second_is (nat_le n 1099511627776) _ fits in
      let even : n % 1024 ≡ 0 = grind arith in
      let some : 1 ≤ n / 1024 = few n e even in
      let back : n / 1024 * 1024 ≡ n = omega arith in
      values.intervals (n / 1024) some (omega arith) ∙ ap (λ (m : ℕ). fit m) back
    where
      fit : ℕ → Answer ℕ
      fit m = Fits m

      few : (m : ℕ) → (m == 0) ≡ false → m % 1024 ≡ 0 → 1 ≤ m / 1024
      few m f g2 = let other : 0 < m = grind arith in omega arith

  interval_plain : (t : Bool) (n : ℕ) → n ≤ 1099511627776 → (list_all is_plain (if t then codes "NO" else decimal (n / 1024) ++ codes "K") ≡ true) × (1 ≤ length (if t then codes "NO" else decimal (n / 1024) ++ codes "K"))
  unfolding is_word_byte is_blank is_quote is_sign_byte
  interval_plain true n h = (refl, omega arith)
  interval_plain false n h =
      let read : number_in 0 9999999999 (decimal (n / 1024)) ≡ Fits (n / 1024) = values.numbers 0 9999999999 (n / 1024) (omega arith) (omega arith) (omega arith) in
      let digits : (list_all is_ascii_digit (decimal (n / 1024)) ≡ true) × (1 ≤ length (decimal (n / 1024))) = number_digits 0 9999999999 (n / 1024) (decimal (n / 1024)) read in
      let some : 1 ≤ length (decimal (n / 1024)) = digits.1 in
      (list_all-append is_plain (decimal (n / 1024)) (codes "K") ∙ rw (digits_plain (decimal (n / 1024)) digits.0) refl, simp length-append (omega arith))

  ckpt_line : (before : Reading) (begun : Begun) (copy : CopyStep) (o : Option ℕ) (kind : PieceKind) (side : Side) (rest : List ℕ) → passes is_interval o ≡ true → is_outside side ≡ true
      → ((kind2 : PieceKind) (side2 : Side) → is_outside side2 ≡ true → Reads (Ends Q (g.At before (step.Copy begun (copy_given copy o)))) kind2 side2 (10 ∷ rest))
      → Reads (Ends Q (g.At before (step.Copy begun (copy_given copy None)))) kind side (ckpt_front o (10 ∷ rest))
  unfolding is_word_byte is_blank is_quote is_sign_byte slot_of copy_slot has with_word
  ckpt_line before begun copy None kind side rest fits out next = next kind side out
  ckpt_line before begun copy (Some n) kind side rest fits out next =
      let shape : (list_all is_plain (interval_word n) ≡ true) × (1 ≤ length (interval_word n)) = interval_plain (n == 0) n (up_to n 1099511627776 (first_is _ _ fits)) in
      on_blank _ kind side
      (on_pair _ piece.Blank side (codes "CKPT") key.Ckpt (interval_word n) out key_ckpt refl refl refl shape.0 (sign_begins (interval_word n) shape.1) refl
      (λ at at2 at3. onward (λ ts found. (found.0, g.param refl refl (rw (interval_by (n == 0) n refl fits) refl) found.1, found.2)) (next piece.Word _ (word_outside (key_of (interval_word n))))))

  ckpt_other : (o : Option ℕ) (rest : List ℕ) → begins_equal (ckpt_front o (10 ∷ rest)) ≡ false
  ckpt_other None rest = refl
  ckpt_other (Some n) rest = refl

  pub copy_line : (p : Place) (label : Option (ℕ × List ℕ)) (before : Reading) (copy : CopyStep) (kind : PieceKind) (side : Side) (rest : List ℕ) → opening p ≡ Some (label, before) → has_room strict before ≡ true → is_outside side ≡ true
      → is_file_name copy.from ≡ true → is_file_name copy.to ≡ true → passes is_interval copy.ckpt ≡ true → is_quotable copy.from ≡ true → is_quotable copy.to ≡ true
      → Next Q before label (what.Copy copy) before.ifs rest → Reads (Ends Q p) kind side (what_front (what.Copy copy) (10 ∷ rest))
  unfolding is_word_byte is_blank is_quote is_sign_byte slot_of from_slot to_slot has with_word with_quoted end_in ended
  copy_line p label before copy kind side rest opens room out fits fits2 fits3 qa qb next =
      on_word _ kind side (codes "COPY") key.Copy out key_copy refl refl refl (λ a1. on_blank _ _ _ (
      on_word _ _ _ (codes "FROM") key.From refl key_from refl refl refl (λ a2. on_blank _ _ _ (
      on_open _ _ refl (λ a3.
      on_text _ _ _ (codes "FILE") key.File copy.from refl key_file refl refl refl qa (λ a4 a5 a6. on_blank _ _ _ (
      on_word _ _ _ (source_word copy.push) (key_of (source_word copy.push)) refl refl (source_plain copy.push) (source_begins piece.Blank copy.push) refl (λ a7.
      on_close _ _ _ refl (λ a8. on_blank _ _ _ (
      on_word _ _ _ (codes "TO") key.To refl key_to refl refl refl (λ a9. on_blank _ _ _ (
      on_open _ _ refl (λ a10.
      on_text _ _ _ (codes "FILE") key.File copy.to refl key_file refl refl refl qb (λ a11 a12 a13. on_blank _ _ _ (
      on_word _ _ _ (target_word copy.push) (key_of (target_word copy.push)) refl refl (target_plain copy.push) (target_begins piece.Blank copy.push) refl (λ a14. on_blank _ _ _ (
      on_pair _ _ _ (codes "DISP") key.Disp (disp_word copy.disp) (word_outside (key_of (target_word copy.push))) key_disp refl refl refl (disp_plain copy.disp) (disp_begins piece.Sign copy.disp) refl (λ a15 a16 a17.
      on_close _ _ _ (ckpt_other copy.ckpt rest) (λ a18.
      onward (λ ts found. (
        found.0,
        g.copy opens room (g.group refl refl (g.param refl refl (file_given nothing a4 a6 copy.from fits) (g.side refl (source_read copy.push) refl (g.group_end refl
            (g.group refl refl (g.param refl refl (file_given nothing a11 a13 copy.to fits2) (g.side refl (target_read copy.push) refl (g.param refl refl (disp_given (record nothing { file = Some copy.to; side = Some (tgt copy.push) }) a15 a17 (key_of (disp_word copy.disp)) copy.disp) (g.group_end refl found.1))))))))),
        found.2,
      ))
      (ckpt_line before (begun_at label a1) copy copy.ckpt piece.Sign Out rest fits3 refl
      (λ kind2 side2 out2. next before (step.Copy (begun_at label a1) (copy_given copy copy.ckpt)) _ kind2 side2 refl (copy_follows before label a1 copy) out2))
      )))))))))))))))))))

  abbrev task_given : TaskStep → Option Bool → Given
  task_given task restart = record nothing { command = Some task.command; side = Some task.side; restart = restart }

  task_follows : (before : Reading) (label : Option (ℕ × List ℕ)) (at : ℕ) (task : TaskStep) (k : TaskKind) → k ≡ task.kind
      → Follows before (label_in_it label) (what.Task task) before.ifs (stored before (begun_at label at) sketch.Action (what.Task (record { side = task.side; command = task.command; kind = k })))
  task_follows before label at task k e = record {
    name = refl;
    head = refl;
    stmts = ap (λ (x : TaskKind). before.stmts ++ record { label = label_in_it label; what = what.Task (record { side = task.side; command = task.command; kind = x }) } ∷ []) e;
    symbols = refl;
    ifs = refl;
    mark = record { label = label; at = at; what = sketch.Action };
    marks = refl;
    labelled = refl;
    sketched = tt;
  }

  pub task_line : (p : Place) (label : Option (ℕ × List ℕ)) (before : Reading) (task : TaskStep) (k : TaskKind) (kind : PieceKind) (side : Side) (rest : List ℕ) → task.kind ≡ k → opening p ≡ Some (label, before) → has_room strict before ≡ true → is_outside side ≡ true
      → is_command task.command ≡ true → is_quotable task.command ≡ true
      → Next Q before label (what.Task task) before.ifs rest → Reads (Ends Q p) kind side (codes "RUN" ++ (32 ∷ (work_word k ++ (32 ∷ (side_word task.side ++ (32 ∷ (codes "SYSOPTS" ++ (61 ∷ quoted task.command (restart_front k (10 ∷ rest))))))))))
  unfolding is_word_byte is_blank is_quote is_sign_byte slot_of task_slot job_slot has ended work_of
  task_line p label before task kind.Restart pk side rest is opens room out fits q next =
      on_word _ pk side (codes "RUN") key.Run out key_run refl refl refl (λ a1. on_blank _ _ _ (
      on_word _ _ _ (codes "TASK") key.Task refl key_task refl refl refl (λ a2. on_blank _ _ _ (
      on_word _ _ _ (side_word task.side) (key_of (side_word task.side)) refl refl (side_plain task.side) (side_begins piece.Blank task.side) refl (λ a3. on_blank _ _ _ (
      on_text _ _ _ (codes "SYSOPTS") key.Sysopts task.command (word_outside (key_of (side_word task.side))) key_sysopts refl refl refl q (λ a4 a5 a6. on_blank _ _ _ (
      on_pair _ _ _ (codes "RESTART") key.Restart (codes "YES") refl key_restart refl refl refl refl refl refl (λ a7 a8 a9.
      onward (λ ts found. (found.0, g.run opens room refl (g.side refl (side_read task.side) refl (g.param refl refl (command_given _ a4 a6 task.command fits) (g.param refl refl (restart_yes _ a7 a9 (key_of (codes "YES"))) found.1))), found.2))
      (next before (step.Run (begun_at label a1) work.Task (task_given task (Some true))) _ _ _ refl (task_follows before label a1 task kind.Restart (sym is)) (word_outside (key_of (codes "YES"))))
      )))))))))
  task_line p label before task kind.Once pk side rest is opens room out fits q next =
      on_word _ pk side (codes "RUN") key.Run out key_run refl refl refl (λ a1. on_blank _ _ _ (
      on_word _ _ _ (codes "TASK") key.Task refl key_task refl refl refl (λ a2. on_blank _ _ _ (
      on_word _ _ _ (side_word task.side) (key_of (side_word task.side)) refl refl (side_plain task.side) (side_begins piece.Blank task.side) refl (λ a3. on_blank _ _ _ (
      on_text _ _ _ (codes "SYSOPTS") key.Sysopts task.command (word_outside (key_of (side_word task.side))) key_sysopts refl refl refl q (λ a4 a5 a6. on_blank _ _ _ (
      on_pair _ _ _ (codes "RESTART") key.Restart (codes "NO") refl key_restart refl refl refl refl refl refl (λ a7 a8 a9.
      onward (λ ts found. (found.0, g.run opens room refl (g.side refl (side_read task.side) refl (g.param refl refl (command_given _ a4 a6 task.command fits) (g.param refl refl (restart_no _ a7 a9 (key_of (codes "NO"))) found.1))), found.2))
      (next before (step.Run (begun_at label a1) work.Task (task_given task (Some false))) _ _ _ refl (task_follows before label a1 task kind.Once (sym is)) (word_outside (key_of (codes "NO"))))
      )))))))))
  task_line p label before task kind.Job pk side rest is opens room out fits q next =
      on_word _ pk side (codes "RUN") key.Run out key_run refl refl refl (λ a1. on_blank _ _ _ (
      on_word _ _ _ (codes "JOB") key.Job refl key_job refl refl refl (λ a2. on_blank _ _ _ (
      on_word _ _ _ (side_word task.side) (key_of (side_word task.side)) refl refl (side_plain task.side) (side_begins piece.Blank task.side) refl (λ a3. on_blank _ _ _ (
      on_text _ _ _ (codes "SYSOPTS") key.Sysopts task.command (word_outside (key_of (side_word task.side))) key_sysopts refl refl refl q (λ a4 a5 a6.
      onward (λ ts found. (found.0, g.run opens room refl (g.side refl (side_read task.side) refl (g.param refl refl (command_given _ a4 a6 task.command fits) found.1)), found.2))
      (next before (step.Run (begun_at label a1) work.Job (task_given task None)) _ _ _ refl (task_follows before label a1 task kind.Job (sym is)) refl)
      )))))))

  empty_follows : (before : Reading) (label : Option (ℕ × List ℕ)) (at : ℕ) (sketched : Sketch) (said : What) (opened : List Bool) → IsSketch sketched said
      → Follows before (label_in_it label) said opened (record (stored before (begun_at label at) sketched said) { ifs = opened })
  empty_follows before label at sketched said opened like = record {
    name = refl;
    head = refl;
    stmts = refl;
    symbols = refl;
    ifs = refl;
    mark = record { label = label; at = at; what = sketched };
    marks = refl;
    labelled = refl;
    sketched = like;
  }

  pub if_line : (p : Place) (label : Option (ℕ × List ℕ)) (before : Reading) (name : List ℕ) (rel : Relation) (n : ℕ) (kind : PieceKind) (side : Side) (rest : List ℕ) → opening p ≡ Some (label, before) → has_room strict before ≡ true
      → nat_lt (length before.ifs) 16 ≡ true → is_outside side ≡ true → is_label name ≡ true → n ≤ 255
      → Next Q before label (what.If name rel n) (false ∷ before.ifs) rest → Reads (Ends Q p) kind side (what_front (what.If name rel n) (10 ∷ rest))
  unfolding is_word_byte is_blank is_quote is_sign_byte ended
  if_line p label before name rel n kind side rest opens room deep out fits small next =
      let read : number_in 0 255 (decimal n) ≡ Fits n = values.numbers 0 255 n (omega arith) small (omega arith) in
      let digits : (list_all is_ascii_digit (decimal n) ≡ true) × (1 ≤ length (decimal n)) = number_digits 0 255 n (decimal n) read in
      on_word _ kind side (codes "IF") key.If out key_if refl refl refl (λ a1. on_blank _ _ _ (
      on_open _ _ (label_other name _ fits) (λ a2.
      on_word _ _ _ name (key_of name) refl refl (labels_plain name fits) (label_begins piece.Sign name fits) refl (λ a3. on_blank _ _ _ (
      on_relation _ _ _ rel (word_outside (key_of name)) (λ a4 side2 out2. on_blank _ _ _ (
      on_word _ _ _ (decimal n) (key_of (decimal n)) out2 refl (digits_plain (decimal n) digits.0) (digits_begin piece.Blank (decimal n) digits.0 digits.1) refl (λ a5.
      on_close _ _ _ refl (λ a6. on_blank _ _ _ (
      on_word _ _ _ (codes "THEN") key.Then refl key_then refl refl refl (λ a7.
      onward (λ ts found. (found.0, g.if_then opens room deep (fits_taken _ name (label_read name fits)) (relation_read a4 rel) (fits_taken _ n read) found.1, found.2))
      (next _ step.Between _ _ _ refl (empty_follows before label a1 (sketch.If a3 name) (what.If name rel n) (false ∷ before.ifs) refl) refl)
      )))))))))))
    where
      label_other : (w rest2 : List ℕ) → is_label w ≡ true → begins_equal (w ++ rest2) ≡ false
      label_other w rest2 e = plain_other piece.Sign w rest2 (labels_plain w e) (label_begins piece.Sign w e)

  pub goto_line : (p : Place) (label : Option (ℕ × List ℕ)) (before : Reading) (name : List ℕ) (kind : PieceKind) (side : Side) (rest : List ℕ) → opening p ≡ Some (label, before) → has_room strict before ≡ true → is_outside side ≡ true → is_label name ≡ true
      → Next Q before label (what.Goto name) before.ifs rest → Reads (Ends Q p) kind side (what_front (what.Goto name) (10 ∷ rest))
  unfolding is_word_byte is_blank is_quote is_sign_byte ended
  goto_line p label before name kind side rest opens room out fits next =
      on_word _ kind side (codes "GOTO") key.Goto out key_goto refl refl refl (λ a1. on_blank _ _ _ (
      on_word _ _ _ name (key_of name) refl refl (labels_plain name fits) (label_begins piece.Blank name fits) refl (λ a2.
      onward (λ ts found. (found.0, g.goto opens room (fits_taken _ name (label_read name fits)) found.1, found.2))
      (next _ step.Between _ _ _ refl (empty_follows before label a1 (sketch.Goto a2 name) (what.Goto name) before.ifs refl) (word_outside (key_of name)))
      )))

  pub exit_line : (p : Place) (label : Option (ℕ × List ℕ)) (before : Reading) (kind : PieceKind) (side : Side) (rest : List ℕ) → opening p ≡ Some (label, before) → has_room strict before ≡ true → is_outside side ≡ true
      → Next Q before label what.Exit before.ifs rest → Reads (Ends Q p) kind side (what_front what.Exit (10 ∷ rest))
  unfolding is_word_byte is_blank is_quote is_sign_byte ended
  exit_line p label before kind side rest opens room out next =
      on_word _ kind side (codes "EXIT") key.Exit out key_exit refl refl refl (λ a1.
      onward (λ ts found. (found.0, g.exit opens room found.1, found.2))
      (next _ step.Between _ _ _ refl (empty_follows before label a1 sketch.Exit what.Exit before.ifs tt) refl)
      )

  pub else_line : (r before : Reading) (s : Step) (more : List Bool) (kind : PieceKind) (side : Side) (rest : List ℕ) → ended r s ≡ Some before → has_room strict before ≡ true → before.ifs ≡ false ∷ more → is_outside side ≡ true
      → Next Q before None what.Else (true ∷ more) rest → Reads (Ends Q (g.At r s)) kind side (what_front what.Else (10 ∷ rest))
  unfolding is_word_byte is_blank is_quote is_sign_byte ended
  else_line r before s more kind side rest ends2 room open2 out next =
      on_word _ kind side (codes "ELSE") key.Else out key_else refl refl refl (λ a1.
      onward (λ ts found. (found.0, g.else_part ends2 room open2 found.1, found.2))
      (next _ step.Between _ _ _ refl (empty_follows before None a1 sketch.Else what.Else (true ∷ more) tt) refl)
      )

  pub eif_line : (r before : Reading) (s : Step) (has_else : Bool) (more : List Bool) (kind : PieceKind) (side : Side) (rest : List ℕ) → ended r s ≡ Some before → has_room strict before ≡ true → before.ifs ≡ has_else ∷ more → is_outside side ≡ true
      → Next Q before None what.Eif more rest → Reads (Ends Q (g.At r s)) kind side (what_front what.Eif (10 ∷ rest))
  unfolding is_word_byte is_blank is_quote is_sign_byte ended
  eif_line r before s has_else more kind side rest ends2 room open2 out next =
      on_word _ kind side (codes "EIF") key.Eif out key_eif refl refl refl (λ a1.
      onward (λ ts found. (found.0, g.eif ends2 room open2 found.1, found.2))
      (next _ step.Between _ _ _ refl (empty_follows before None a1 sketch.Eif what.Eif more tt) refl)
      )

  symbol_read : (name : List ℕ) → is_symbol_name name ≡ true → symbol_in (38 ∷ name) ≡ Fits name
  unfolding symbol_in
  symbol_read name e = rw e refl

  symbol_plain : (name : List ℕ) → is_symbol_name name ≡ true → list_all is_plain (38 ∷ name) ≡ true
  unfolding is_word_byte is_blank is_quote is_sign_byte
  symbol_plain name e = alnums_plain name (second_is (nat_le 1 (length name) && nat_le (length name) 17) _ e)

  symbols_line : (r : Reading) (begun : Begun) (given : Given) (pairs : List (List ℕ × List ℕ)) (kind : PieceKind) (side : Side) (rest : List ℕ) → is_outside side ≡ true → are_symbols pairs ≡ true
      → ((kind2 : PieceKind) (side2 : Side) → is_outside side2 ≡ true → Reads (Ends Q (g.At (record r { symbols = with_all r.symbols pairs }) (step.Submit begun given))) kind2 side2 (10 ∷ rest))
      → Reads (Ends Q (g.At r (step.Submit begun given))) kind side (symbols_front pairs (10 ∷ rest))
  unfolding is_word_byte is_blank is_quote is_sign_byte
  symbols_line r begun given [] kind side rest out fits next = next kind side out
  symbols_line r begun given (pair ∷ pairs) kind side rest out fits next =
      let here : (is_symbol_name pair.0 && is_quotable pair.1) ≡ true = first_is _ (are_symbols pairs) fits in
      let name : is_symbol_name pair.0 ≡ true = first_is _ (is_quotable pair.1) here in
      on_blank _ kind side (
      on_text _ piece.Blank side (38 ∷ pair.0) (key_of (38 ∷ pair.0)) pair.1 out refl (symbol_plain pair.0 name) refl refl (second_is (is_symbol_name pair.0) _ here) (λ a1 a2 a3.
      onward (λ ts found. (found.0, g.symbol refl (fits_taken _ pair.0 (symbol_read pair.0 name)) refl found.1, found.2))
      (symbols_line (record r { symbols = with_symbol r.symbols (upper_case pair.0) pair.1 }) begun given pairs piece.Quoted Out rest refl (second_is (is_symbol_name pair.0 && is_quotable pair.1) _ fits) next)
      ))

  symbols_stop : (pairs : List (List ℕ × List ℕ)) (rest : List ℕ) → stops (symbols_front pairs (10 ∷ rest)) ≡ true
  unfolding is_word_byte is_blank is_quote is_sign_byte
  symbols_stop [] rest = refl
  symbols_stop (pair ∷ pairs) rest = refl

  prty_stop : (o : Option ℕ) (rest : List ℕ) → stops rest ≡ true → stops (prty_front o rest) ≡ true
  unfolding is_word_byte is_blank is_quote is_sign_byte
  prty_stop None rest e = e
  prty_stop (Some n) rest e = refl

  pub snode_stop : (o : Option (List ℕ)) (rest : List ℕ) → stops rest ≡ true → stops (snode_front o rest) ≡ true
  unfolding is_word_byte is_blank is_quote is_sign_byte
  snode_stop None rest e = e
  snode_stop (Some name) rest e = refl

  abbrev submit_given : SubmitStep → Option (List ℕ) → Option ℕ → Given
  submit_given submit snode prty = record nothing { file = Some submit.file; side = Some submit.side; snode = snode; prty = prty }

  prty_line : (r : Reading) (begun : Begun) (submit : SubmitStep) (snode : Option (List ℕ)) (o : Option ℕ) (kind : PieceKind) (side : Side) (rest : List ℕ) → is_outside side ≡ true → passes (within 1 15) o ≡ true → stops rest ≡ true
      → ((kind2 : PieceKind) (side2 : Side) → is_outside side2 ≡ true → Reads (Ends Q (g.At r (step.Submit begun (submit_given submit snode o)))) kind2 side2 rest)
      → Reads (Ends Q (g.At r (step.Submit begun (submit_given submit snode None)))) kind side (prty_front o rest)
  unfolding is_word_byte is_blank is_quote is_sign_byte slot_of submit_slot has
  prty_line r begun submit snode None kind side rest out fits e next = next kind side out
  prty_line r begun submit snode (Some n) kind side rest out fits e next =
      let read : number_in 1 15 (decimal n) ≡ Fits n = values.numbers 1 15 n (up_to 1 n (first_is _ (nat_le n 15) fits)) (up_to n 15 (second_is (nat_le 1 n) _ fits)) (omega arith) in
      let digits : (list_all is_ascii_digit (decimal n) ≡ true) × (1 ≤ length (decimal n)) = number_digits 1 15 n (decimal n) read in
      on_blank _ kind side (
      on_pair _ piece.Blank side (codes "PRTY") key.Prty (decimal n) out key_prty refl refl refl (digits_plain (decimal n) digits.0) (digits_begin piece.Sign (decimal n) digits.0 digits.1) e (λ a1 a2 a3.
      onward (λ ts found. (found.0, g.param refl refl (prty_given (submit_given submit snode None) a1 a3 n (key_of (decimal n)) (decimal n) read) found.1, found.2))
      (next piece.Word _ (word_outside (key_of (decimal n))))
      ))

  snode_line : (r : Reading) (begun : Begun) (submit : SubmitStep) (o : Option (List ℕ)) (kind : PieceKind) (side : Side) (rest : List ℕ) → is_outside side ≡ true → passes is_node_name o ≡ true → stops rest ≡ true
      → ((kind2 : PieceKind) (side2 : Side) → is_outside side2 ≡ true → Reads (Ends Q (g.At r (step.Submit begun (submit_given submit o None)))) kind2 side2 rest)
      → Reads (Ends Q (g.At r (step.Submit begun (submit_given submit None None)))) kind side (snode_front o rest)
  unfolding is_word_byte is_blank is_quote is_sign_byte slot_of submit_slot has
  snode_line r begun submit None kind side rest out fits e next = next kind side out
  snode_line r begun submit (Some name) kind side rest out fits e next =
      on_blank _ kind side (
      on_pair _ piece.Blank side (codes "SNODE") key.Snode name out key_snode refl refl refl (nodes_plain name fits) (node_begins name fits) e (λ a1 a2 a3.
      onward (λ ts found. (found.0, g.param refl refl (snode_given (submit_given submit None None) a1 a3 (key_of name) name fits) found.1, found.2))
      (next piece.Word _ (word_outside (key_of name)))
      ))

  submit_follows : (before : Reading) (label : Option (ℕ × List ℕ)) (at : ℕ) (submit : SubmitStep) (symbols : List (List ℕ × List ℕ)) → symbols ≡ submit.symbols
      → Follows before (label_in_it label) (what.Submit submit) before.ifs (stored (record before { symbols = symbols }) (begun_at label at) sketch.Action (what.Submit (record submit { symbols = symbols })))
  submit_follows before label at submit symbols e = record {
    name = refl;
    head = refl;
    stmts = ap (λ (x : List (List ℕ × List ℕ)). before.stmts ++ record { label = label_in_it label; what = what.Submit (record submit { symbols = x }) } ∷ []) e;
    symbols = refl;
    ifs = refl;
    mark = record { label = label; at = at; what = sketch.Action };
    marks = refl;
    labelled = refl;
    sketched = tt;
  }

  all_from : (symbols : List (List ℕ × List ℕ)) (submit : SubmitStep) → symbols ≡ [] → with_all [] submit.symbols ≡ submit.symbols → with_all symbols submit.symbols ≡ submit.symbols
  all_from symbols submit e e2 = ap (λ (x : List (List ℕ × List ℕ)). with_all x submit.symbols) e ∙ e2

  pub submit_line : (p : Place) (label : Option (ℕ × List ℕ)) (before : Reading) (submit : SubmitStep) (kind : PieceKind) (side : Side) (rest : List ℕ) → opening p ≡ Some (label, before) → has_room strict before ≡ true → before.symbols ≡ [] → is_outside side ≡ true
      → is_file_name submit.file ≡ true → passes is_node_name submit.snode ≡ true → passes (within 1 15) submit.prty ≡ true → IsQuotable (what.Submit submit)
      → Next Q before label (what.Submit submit) before.ifs rest → Reads (Ends Q p) kind side (what_front (what.Submit submit) (10 ∷ rest))
  unfolding is_word_byte is_blank is_quote is_sign_byte slot_of submit_slot has ended
  submit_line p label before submit kind side rest opens room none out fits fits2 fits3 q next =
      on_word _ kind side (codes "SUBMIT") key.Submit out key_submit refl refl refl (λ a1. on_blank _ _ _ (
      on_text _ _ _ (codes "FILE") key.File submit.file refl key_file refl refl refl q.0 (λ a2 a3 a4. on_blank _ _ _ (
      on_pair _ _ _ (codes "SUBNODE") key.Subnode (side_word submit.side) refl key_subnode refl refl refl (side_plain submit.side) (side_begins piece.Sign submit.side) (snode_stop submit.snode _ (prty_stop submit.prty _ (symbols_stop submit.symbols rest))) (λ a5 a6 a7.
      onward (λ ts found. (found.0, g.submit opens room (g.param refl refl (file_given nothing a2 a4 submit.file fits) (g.param refl refl (side_given (record nothing { file = Some submit.file }) a5 a7 submit.side) found.1)), found.2))
      (snode_line before (begun_at label a1) submit submit.snode piece.Word _ _ (word_outside (key_of (side_word submit.side))) fits2 (prty_stop submit.prty _ (symbols_stop submit.symbols rest)) (λ kind2 side2 out2.
      prty_line before (begun_at label a1) submit submit.snode submit.prty kind2 side2 _ out2 fits3 (symbols_stop submit.symbols rest) (λ kind3 side3 out3.
      symbols_line before (begun_at label a1) (submit_given submit submit.snode submit.prty) submit.symbols kind3 side3 rest out3 q.1 (λ kind4 side4 out4.
      next (record before { symbols = with_all before.symbols submit.symbols }) (step.Submit (begun_at label a1) (submit_given submit submit.snode submit.prty)) _ kind4 side4 refl (submit_follows before label a1 submit (with_all before.symbols submit.symbols) (all_from before.symbols submit none q.2)) out4
      )))
      ))))))
