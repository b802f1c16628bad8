-- A whole print has good bytes where the texts of its statements have.
use Rattle.std.proofs.Common.{◌≡◌, ℕ, ◌+◌, ◌/◌, ◌%◌, ◌<◌, ◌≤◌, Bool, true, false, ◌&&◌, ◌||◌, List, [], ◌∷◌, ◌++◌, length, zero, suc, Option, Some, None, refl, sym, subst, arith, if◌then◌else◌, nat_le, nat_lt}
use Rattle.std.specs.Prelude.{◌==◌, codes}
use Rattle.std.specs.Char.{is_ascii_alphanumeric}
use Rattle.std.specs.Fmt.{decimal}
use Rattle.std.specs.List.{list_all}
use Rattle.cd_types.specs.FileName.{is_file_name}
use Rattle.cd_types.specs.Label.{is_label, is_label_byte, begins_with_letter}
use Rattle.cd_types.specs.NodeName.{is_node_name, is_node_byte}
use Rattle.cd_types.specs.declared.choices.Disp.TheVariants as disp
use Rattle.cd_types.specs.declared.choices.Disp.{Disp}
use Rattle.cd_types.specs.declared.choices.Hold.{Hold}
use Rattle.cd_types.specs.declared.choices.Hold.TheVariants as hold
use Rattle.cd_types.specs.declared.choices.Retain.{Retain}
use Rattle.cd_types.specs.declared.choices.Retain.TheVariants as retain
use Rattle.cd_types.specs.declared.start.Card.{Card}
use Rattle.cd_types.specs.declared.start.Day.{Day}
use Rattle.cd_types.specs.declared.start.Day.TheVariants as day
use Rattle.cd_types.specs.declared.start.Start.{Start}
use Rattle.cd_ast.specs.declared.process.Process.{Process}
use Rattle.cd_types.specs.declared.choices.Relation.{Relation}
use Rattle.cd_types.specs.declared.choices.Relation.TheVariants as relation
use Rattle.cd_types.specs.declared.choices.Side.{Side}
use Rattle.cd_types.specs.declared.choices.Side.TheVariants as side
use Rattle.cd_types.specs.declared.choices.TaskKind.{TaskKind}
use Rattle.cd_types.specs.declared.choices.TaskKind.TheVariants as kind
use Rattle.cd_ast.specs.declared.process.Stmt.{Stmt}
use Rattle.cd_ast.specs.declared.process.What.{What}
use Rattle.cd_ast.specs.declared.process.What.TheVariants as what
use Rattle.cd_ast.specs.Bytes.{is_refused}
use Rattle.cd_ast.specs.Canonical.{side_word, disp_word, relation_sign, source_word, target_word, hold_word, retain_word, digit_of, weekday, canonical}
use Rattle.cd_automaton.specs.Ranges.{passes, within, is_interval, is_card, is_timed, is_what, is_stmt, are_stmts}
use Rattle.cd_print.specs.Printable.{is_symbol_name, is_quotable, are_symbols, IsQuotable, AreQuotable, is_day, IsPrintable, IsGoodText, HaveGoodValues, HasGoodTexts, HaveGoodTexts}
use Rattle.cd_print.proofs.Bytes.{IsGood}
use Rattle.cd_print.proofs.Texts.{good_append, good_word, in_front, quoted_good, digits_good, is_clear, range_clear, both_are, first_is, second_is}
use Rattle.cd_print.proofs.Words.{number_digits}
use Rattle.cd_print.proofs.Said.{PrintedValues}
use Rattle.cd_print.proofs.Fronts.{interval_word, ckpt_front, snode_front, prty_front, symbols_front, work_word, restart_front, what_front, label_front, stmts_front, day_word, time_word, start_front, head_front, print_is}

either_clear : (a c : Bool) (b : ℕ) → (a || c) ≡ true → (a ≡ true → is_clear b ≡ true) → (c ≡ true → is_clear b ≡ true) → is_clear b ≡ true
either_clear true c b e f g = f refl
either_clear false c b e f g = g e

one_clear : (b n : ℕ) → is_clear n ≡ true → (b == n) ≡ true → is_clear b ≡ true
one_clear b n e f = let same : n ≡ b = grind arith in subst (λ (m : ℕ). is_clear m ≡ true) same e

label_clear : (b : ℕ) → is_label_byte b ≡ true → is_clear b ≡ true
label_clear b e = either_clear _ _ b e (λ f. range_clear 65 90 b (omega arith) (omega arith) f) (λ f. range_clear 48 57 b (omega arith) (omega arith) f)

alnum_clear : (b : ℕ) → is_ascii_alphanumeric b ≡ true → is_clear b ≡ true
alnum_clear b e =
    either_clear _ _ b e (λ f. either_clear _ _ b f (λ g. range_clear 48 57 b (omega arith) (omega arith) g) (λ g. range_clear 65 90 b (omega arith) (omega arith) g)) (λ f. range_clear 97 122 b (omega arith) (omega arith) f)

node_clear : (b : ℕ) → is_node_byte b ≡ true → is_clear b ≡ true
unfolding is_refused
node_clear b e =
    either_clear _ _ b e (λ e1. either_clear _ _ b e1 (λ e2. either_clear _ _ b e2 (λ e3. either_clear _ _ b e3 (λ e4. either_clear _ _ b e4 (λ e5. either_clear _ _ b e5 (λ e6. alnum_clear b e6) (λ f. one_clear b 46 refl f)) (λ f. one_clear b 95 refl f)) (λ f. one_clear b 45 refl f)) (λ f. one_clear b 36 refl f)) (λ f. one_clear b 35 refl f)) (λ f. one_clear b 64 refl f)

all_clear : (test : ℕ → Bool) (w : List ℕ) → ((b : ℕ) → test b ≡ true → is_clear b ≡ true) → list_all test w ≡ true → list_all is_clear w ≡ true
all_clear test [] f e = refl
all_clear test (b ∷ w) f e = both_are _ _ (f b (first_is (test b) _ e)) (all_clear test w f (second_is (test b) _ e))

label_good : (label : List ℕ) → is_label label ≡ true → IsGood label
label_good label e = good_word label (all_clear is_label_byte label label_clear (second_is (begins_with_letter label && nat_le (length label) 8) _ (first_is (begins_with_letter label && nat_le (length label) 8 && list_all is_label_byte label) _ e)))

node_good : (name : List ℕ) → is_node_name name ≡ true → IsGood name
node_good name e = good_word name (all_clear is_node_byte name node_clear (second_is (nat_le 1 (length name) && nat_le (length name) 16) _ e))

-- the texts of a statement
abbrev pub GoodSymbols : List (List ℕ × List ℕ) → Type 0
GoodSymbols [] = Unit {0}
GoodSymbols (pair ∷ pairs) = (is_symbol_name pair.0 ≡ true) × IsGood pair.1 × GoodSymbols pairs

abbrev pub GoodTexts : What → Type 0
GoodTexts (what.Copy copy) = IsGood copy.from × IsGood copy.to
GoodTexts (what.Task task) = IsGood task.command
GoodTexts (what.Submit submit) = IsGood submit.file × GoodSymbols submit.symbols
GoodTexts _ = Unit {0}

abbrev pub AllGood : List Stmt → Type 0
AllGood [] = Unit {0}
AllGood (s ∷ stmts) = GoodTexts s.what × AllGood stmts

up_to : (a b : ℕ) → nat_le a b ≡ true → a ≤ b
up_to a b e = grind arith

side_good : (s : Side) → list_all is_clear (side_word s) ≡ true
unfolding is_refused
side_good side.Pnode = refl
side_good side.Snode = refl

source_good : (b : Bool) → list_all is_clear (source_word b) ≡ true
unfolding is_refused
source_good true = refl
source_good false = refl

target_good : (b : Bool) → list_all is_clear (target_word b) ≡ true
unfolding is_refused
target_good true = refl
target_good false = refl

disp_good : (d : Disp) → list_all is_clear (disp_word d) ≡ true
unfolding is_refused
disp_good disp.New = refl
disp_good disp.Rpl = refl
disp_good disp.Mod = refl

work_good : (k : TaskKind) → list_all is_clear (work_word k) ≡ true
unfolding is_refused
work_good kind.Restart = refl
work_good kind.Once = refl
work_good kind.Job = refl

sign_good : (r : Relation) → list_all is_clear (relation_sign r) ≡ true
unfolding is_refused
sign_good relation.Eq = refl
sign_good relation.Ne = refl
sign_good relation.Ge = refl
sign_good relation.Gt = refl
sign_good relation.Le = refl
sign_good relation.Lt = refl

module _ (values : PrintedValues) where
  decimal_good : (n : ℕ) → n ≤ 9999999999 → IsGood (decimal n)
  decimal_good n h = digits_good (decimal n) (number_digits 0 9999999999 n (decimal n) (values.numbers 0 9999999999 n (omega arith) h (omega arith))).0

  interval_good : (t : Bool) (n : ℕ) → n ≤ 1099511627776 → IsGood (if t then codes "NO" else decimal (n / 1024) ++ codes "K")
  unfolding is_refused
  interval_good true n h = good_word (codes "NO") refl
  interval_good false n h = good_append (decimal (n / 1024)) (codes "K") (decimal_good (n / 1024) (omega arith)) (good_word (codes "K") refl)

  ckpt_good : (o : Option ℕ) (rest : List ℕ) → passes is_interval o ≡ true → IsGood rest → IsGood (ckpt_front o rest)
  unfolding is_refused
  ckpt_good None rest e h = h
  ckpt_good (Some n) rest e h = in_front (codes " CKPT=") _ refl (good_append (interval_word n) rest (interval_good (n == 0) n (up_to n 1099511627776 (first_is _ _ e))) h)

  snode_good : (o : Option (List ℕ)) (rest : List ℕ) → passes is_node_name o ≡ true → IsGood rest → IsGood (snode_front o rest)
  unfolding is_refused
  snode_good None rest e h = h
  snode_good (Some name) rest e h = in_front (codes " SNODE=") _ refl (good_append name rest (node_good name e) h)

  prty_good : (o : Option ℕ) (rest : List ℕ) → passes (within 1 15) o ≡ true → IsGood rest → IsGood (prty_front o rest)
  unfolding is_refused
  prty_good None rest e h = h
  prty_good (Some n) rest e h = let low : n ≤ 15 = up_to n 15 (second_is (nat_le 1 n) _ e) in in_front (codes " PRTY=") _ refl (good_append (decimal n) rest (decimal_good n (omega arith)) h)

  symbols_good : (pairs : List (List ℕ × List ℕ)) (rest : List ℕ) → GoodSymbols pairs → IsGood rest → IsGood (symbols_front pairs rest)
  unfolding is_refused
  symbols_good [] rest g h = h
  symbols_good (pair ∷ pairs) rest g h =
      in_front (codes " &") _ refl (in_front pair.0 _ (all_clear is_ascii_alphanumeric pair.0 alnum_clear (second_is (nat_le 1 (length pair.0) && nat_le (length pair.0) 17) _ g.0)) (in_front (codes "=") _ refl (quoted_good pair.1 _ g.1 (symbols_good pairs rest g.2 h))))

  restart_good : (k : TaskKind) (rest : List ℕ) → IsGood rest → IsGood (restart_front k rest)
  unfolding is_refused
  restart_good kind.Restart rest h = in_front (codes " RESTART=YES") rest refl h
  restart_good kind.Once rest h = in_front (codes " RESTART=NO") rest refl h
  restart_good kind.Job rest h = h

  what_good : (said : What) (rest : List ℕ) → is_what said ≡ true → GoodTexts said → IsGood rest → IsGood (what_front said rest)
  unfolding is_refused
  what_good (what.Copy copy) rest e g h =
      in_front (codes "COPY FROM (FILE=") _ refl (quoted_good copy.from _ g.0 (in_front (codes " ") _ refl (in_front (source_word copy.push) _ (source_good copy.push) (in_front (codes ") TO (FILE=") _ refl (quoted_good copy.to _ g.1 (in_front (codes " ") _ refl (in_front (target_word copy.push) _ (target_good copy.push)
      (in_front (codes " DISP=") _ refl (in_front (disp_word copy.disp) _ (disp_good copy.disp) (in_front (codes ")") _ refl (ckpt_good copy.ckpt rest (second_is (is_file_name copy.from && is_file_name copy.to) _ e) h)))))))))))
  what_good (what.Task task) rest e g h =
      in_front (codes "RUN ") _ refl (in_front (work_word task.kind) _ (work_good task.kind) (in_front (codes " ") _ refl (in_front (side_word task.side) _ (side_good task.side) (in_front (codes " SYSOPTS=") _ refl (quoted_good task.command _ g (restart_good task.kind rest h))))))
  what_good (what.Submit submit) rest e g h =
      in_front (codes "SUBMIT FILE=") _ refl (quoted_good submit.file _ g.0 (in_front (codes " SUBNODE=") _ refl (in_front (side_word submit.side) _ (side_good submit.side)
      (snode_good submit.snode _ (second_is (is_file_name submit.file) _ (first_is (is_file_name submit.file && passes is_node_name submit.snode) _ e)) (prty_good submit.prty _ (second_is (is_file_name submit.file && passes is_node_name submit.snode) _ e) (symbols_good submit.symbols rest g.1 h))))))
  what_good (what.If label rel n) rest e g h =
      let low : n ≤ 255 = up_to n 255 (second_is (is_label label) _ e) in
      in_front (codes "IF (") _ refl (good_append label _ (label_good label (first_is (is_label label) _ e)) (in_front (codes " ") _ refl (in_front (relation_sign rel) _ (sign_good rel) (in_front (codes " ") _ refl (good_append (decimal n) _ (decimal_good n (omega arith)) (in_front (codes ") THEN") rest refl h))))))
  what_good what.Else rest e g h = in_front (codes "ELSE") rest refl h
  what_good what.Eif rest e g h = in_front (codes "EIF") rest refl h
  what_good (what.Goto label) rest e g h = in_front (codes "GOTO ") _ refl (good_append label rest (label_good label e) h)
  what_good what.Exit rest e g h = in_front (codes "EXIT") rest refl h

  label_front_good : (o : Option (List ℕ)) (rest : List ℕ) → passes is_label o ≡ true → IsGood rest → IsGood (label_front o rest)
  unfolding is_refused
  label_front_good None rest e h = h
  label_front_good (Some label) rest e h = good_append label _ (label_good label e) (in_front (codes " ") rest refl h)

  pub stmts_good : (stmts : List Stmt) (rest : List ℕ) → are_stmts stmts ≡ true → AllGood stmts → IsGood rest → IsGood (stmts_front stmts rest)
  unfolding is_refused
  stmts_good [] rest e g h = h
  stmts_good (s ∷ stmts) rest e g h =
      let here : is_stmt s ≡ true = first_is (is_stmt s) _ e in
      label_front_good s.label _ (first_is (passes is_label s.label) _ here) (what_good s.what _ (second_is (passes is_label s.label) _ here) g.0 (in_front (10 ∷ []) _ refl (stmts_good stmts rest (second_is (is_stmt s) _ e) g.1 h)))

hold_good : (h : Hold) → list_all is_clear (hold_word h) ≡ true
unfolding is_refused
hold_good hold.No = refl
hold_good hold.Yes = refl
hold_good hold.Call = refl

retain_good : (r : Retain) → list_all is_clear (retain_word r) ≡ true
unfolding is_refused
retain_good retain.No = refl
retain_good retain.Yes = refl
retain_good retain.Initial = refl

digit_of_clear : (n : ℕ) → is_clear (digit_of n) ≡ true
digit_of_clear n =
    let less : n % 10 < 10 = omega arith in
    let low : nat_le 48 (48 + n % 10) ≡ true = grind arith in
    let high : nat_le (48 + n % 10) 57 ≡ true = grind arith in
    range_clear 48 57 (48 + n % 10) (omega arith) (omega arith) (both_are _ _ low high)

time_clear : (seconds : ℕ) → list_all is_clear (time_word seconds) ≡ true
unfolding is_refused
time_clear seconds =
    rw (digit_of_clear (seconds / 3600 / 10)) (rw (digit_of_clear (seconds / 3600)) (rw (digit_of_clear (seconds / 60 % 60 / 10)) (rw (digit_of_clear (seconds / 60 % 60)) (rw (digit_of_clear (seconds % 60 / 10)) (rw (digit_of_clear (seconds % 60)) refl)))))

weekday_clear : (n : ℕ) → n < 7 → list_all is_clear (weekday n) ≡ true
unfolding weekday is_refused
weekday_clear zero h = refl
weekday_clear (suc zero) h = refl
weekday_clear (suc (suc zero)) h = refl
weekday_clear (suc (suc (suc zero))) h = refl
weekday_clear (suc (suc (suc (suc zero)))) h = refl
weekday_clear (suc (suc (suc (suc (suc zero))))) h = refl
weekday_clear (suc (suc (suc (suc (suc (suc zero)))))) h = refl
weekday_clear (suc (suc (suc (suc (suc (suc (suc n))))))) h = absurd (omega arith)

below : (a b : ℕ) → nat_lt a b ≡ true → a < b
below a b e = grind arith

day_clear : (d : Day) → is_day d ≡ true → list_all is_clear (day_word d) ≡ true
unfolding is_refused
day_clear day.Today e = refl
day_clear day.Tomorrow e = refl
day_clear (day.Weekday n) e = weekday_clear n (below n 7 e)
day_clear (day.Date y m d) e =
    rw (digit_of_clear (m / 10)) (rw (digit_of_clear m) (rw (digit_of_clear (d / 10)) (rw (digit_of_clear d) (rw (digit_of_clear (y / 1000)) (rw (digit_of_clear (y / 100)) (rw (digit_of_clear (y / 10)) (rw (digit_of_clear y) refl)))))))

start_good : (o : Option Start) (rest : List ℕ) → passes (λ start. is_day start.day) o ≡ true → IsGood rest → IsGood (start_front o rest)
unfolding is_refused
start_good None rest e h = h
start_good (Some start) rest e h = in_front (codes " STARTT=(") _ refl (in_front (day_word start.day) _ (day_clear start.day e) (in_front (codes ",") _ refl (in_front (time_word start.seconds) _ (time_clear start.seconds) (in_front (codes ")") rest refl h))))

module _ (values : PrintedValues) where
  head_good : (name : List ℕ) (card : Card) (rest : List ℕ) → is_label name ≡ true → is_card card ≡ true → passes (λ start. is_day start.day) card.start ≡ true → IsGood rest → IsGood (head_front name card rest)
  unfolding is_refused
  head_good name card rest formed e e2 h =
      let four : (is_label card.name && passes is_node_name card.snode && within 1 15 card.prty && within 1 255 card.class) ≡ true = first_is _ (passes is_timed card.start) e in
      let three : (is_label card.name && passes is_node_name card.snode && within 1 15 card.prty) ≡ true = first_is _ (within 1 255 card.class) four in
      let two : (is_label card.name && passes is_node_name card.snode) ≡ true = first_is _ (within 1 15 card.prty) three in
      let low : card.prty ≤ 15 = up_to card.prty 15 (second_is (nat_le 1 card.prty) _ (second_is _ (within 1 15 card.prty) three)) in
      let low2 : card.class ≤ 255 = up_to card.class 255 (second_is (nat_le 1 card.class) _ (second_is _ (within 1 255 card.class) four)) in
      good_append name _ (label_good name formed) (in_front (codes " PROCESS") _ refl (snode_good values card.snode _ (second_is (is_label card.name) _ two) (in_front (codes " PRTY=") _ refl (good_append (decimal card.prty) _ (decimal_good values card.prty (omega arith))
      (in_front (codes " CLASS=") _ refl (good_append (decimal card.class) _ (decimal_good values card.class (omega arith)) (in_front (codes " HOLD=") _ refl (in_front (hold_word card.hold) _ (hold_good card.hold) (in_front (codes " RETAIN=") _ refl (in_front (retain_word card.retain) _ (retain_good card.retain)
      (start_good card.start _ e2 (in_front (10 ∷ []) rest refl h))))))))))))

  name_of : (process : Process) → IsPrintable process → is_label process.name ≡ true
  name_of process p =
      subst (λ (x : List ℕ). is_label x ≡ true) p.name
      (first_is _ (passes is_node_name process.card.snode) (first_is _ (within 1 15 process.card.prty) (first_is _ (within 1 255 process.card.class) (first_is _ (passes is_timed process.card.start) p.card))))

  pub print_good : (process : Process) → IsPrintable process → AllGood process.stmts → IsGood (canonical process)
  unfolding is_refused
  print_good process p g =
      subst (λ (x : List ℕ). IsGood x) (sym (print_is process)) (head_good process.name process.card _ (name_of process p) p.card p.start (stmts_good values process.stmts _ p.stmts g (good_word (codes "PEND" ++ (10 ∷ [])) refl)))

good_of : (body : List ℕ) → IsGoodText body → IsGood body
good_of body h = record { bytes = h.0; utf8 = h.1 }

values_of : (pairs : List (List ℕ × List ℕ)) → are_symbols pairs ≡ true → HaveGoodValues pairs → GoodSymbols pairs
values_of [] e h = tt
values_of (pair ∷ pairs) e h =
    (first_is (is_symbol_name pair.0) _ (first_is (is_symbol_name pair.0 && is_quotable pair.1) _ e), good_of pair.1 h.0, values_of pairs (second_is (is_symbol_name pair.0 && is_quotable pair.1) _ e) h.1)

texts_of : (said : What) → IsQuotable said → HasGoodTexts said → GoodTexts said
texts_of (what.Copy copy) q h = (good_of copy.from h.0, good_of copy.to h.1)
texts_of (what.Task task) q h = good_of task.command h
texts_of (what.Submit submit) q h = (good_of submit.file h.0, values_of submit.symbols q.1 h.1)
texts_of (what.If label rel n) q h = tt
texts_of what.Else q h = tt
texts_of what.Eif q h = tt
texts_of (what.Goto label) q h = tt
texts_of what.Exit q h = tt

pub all_of : (stmts : List Stmt) → AreQuotable stmts → HaveGoodTexts stmts → AllGood stmts
all_of [] q h = tt
all_of (s ∷ stmts) q h = (texts_of s.what q.0 h.0, all_of stmts q.1 h.1)
