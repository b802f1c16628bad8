-- What is printed of a PROCESS statement is read as it.
use Rattle.std.proofs.Common.{◌≡◌, ℕ, ◌+◌, ◌/◌, ◌%◌, ◌<◌, ◌≤◌, Bool, true, false, ◌&&◌, List, ◌∷◌, ◌++◌, length, zero, suc, Option, Some, None, Ok, refl, ap, ◌∙◌, arith, nat_le, nat_lt}
use Rattle.std.specs.Prelude.{◌==◌, codes}
use Rattle.std.specs.Char.{is_ascii_digit}
use Rattle.std.specs.Fmt.{decimal}
use Rattle.std.specs.List.{list_all}
use Rattle.cd_types.specs.Label.{is_label}
use Rattle.cd_types.specs.NodeName.{is_node_name}
use Rattle.cd_ast.specs.Bytes.{is_blank, is_quote, is_sign_byte, is_word_byte}
use Rattle.cd_ast.specs.declared.piece.PieceKind.{PieceKind}
use Rattle.cd_ast.specs.declared.piece.PieceKind.TheVariants as piece
use Rattle.cd_grammar.specs.declared.token.Key.{Key}
use Rattle.cd_grammar.specs.declared.token.Key.TheVariants as key
use Rattle.cd_grammar.specs.declared.token.Sign.TheVariants as sign
use Rattle.cd_grammar.specs.declared.token.Token.TheVariants.{Word}
use Rattle.cd_grammar.specs.declared.given.Given.{Given}
use Rattle.cd_grammar.specs.declared.given.Slot.TheVariants as slot
use Rattle.cd_grammar.specs.declared.step.Step.TheVariants as step
use Rattle.cd_grammar.specs.Answers.{Fits, taken}
use Rattle.cd_grammar.specs.Given.{nothing, has, with_word, with_value}
use Rattle.cd_grammar.specs.Grammar.{Place, Rest, opening, before_it, begun_at, end_in, work_of, relation_of}
use Rattle.cd_grammar.specs.Grammar as g
use Rattle.cd_grammar.specs.Reading.{Reading, slot_of}
use Rattle.cd_grammar.specs.Tokens.{Side, Out, In}
use Rattle.cd_grammar.specs.Values.{number_in, interval_in, symbol_in, file_in, node_in, is_command, disp_in, restart_in}
use Rattle.cd_grammar.specs.Words.{key_of, said_in}
use Rattle.cd_automaton.specs.Ranges.{passes, within}
use Rattle.cd_print.proofs.Cuts.{is_plain, begins_well, stops}
use Rattle.cd_print.proofs.Tails.{Reads, onward, on_blank, on_word, is_outside}
use Rattle.cd_print.proofs.Words.{word_outside, label_read, fits_taken, labels_plain, label_begins, nodes_plain, node_begins, number_digits, digits_plain, digits_begin}
use Rattle.cd_print.proofs.Fronts.{snode_front}
use Rattle.cd_print.proofs.Lines.{on_close, on_equals, on_pair, plain_other}
use Rattle.cd_types.specs.declared.choices.Hold.{Hold}
use Rattle.cd_types.specs.declared.choices.Hold.TheVariants as hold
use Rattle.cd_types.specs.declared.choices.Retain.{Retain}
use Rattle.cd_types.specs.declared.choices.Retain.TheVariants as retain
use Rattle.cd_types.specs.declared.start.Card.{Card}
use Rattle.cd_types.specs.declared.start.Day.{Day}
use Rattle.cd_types.specs.declared.start.Day.TheVariants as day
use Rattle.cd_types.specs.declared.start.Start.{Start}
use Rattle.cd_ast.specs.Canonical.{digit_of, hold_word, retain_word, weekday, two_digits, four_digits}
use Rattle.cd_grammar.specs.declared.step.Clock.{Clock}
use Rattle.cd_grammar.specs.Given.{head_slot}
use Rattle.cd_grammar.specs.Reading.{named}
use Rattle.cd_grammar.specs.Starts.{clock_in, plain_time, time_in, time_by, day_in}
use Rattle.cd_grammar.specs.Values.{hold_in, retain_in, label_in}
use Rattle.cd_grammar.specs.Grammar.{started}
use Rattle.cd_automaton.specs.Ranges.{is_card, is_timed}
use Rattle.cd_print.specs.Printable.{is_day}
use Rattle.cd_print.proofs.Fronts.{day_word, time_word, start_front, head_front}
use Rattle.cd_print.proofs.Tails.{on_inner, on_sign}
use Rattle.cd_print.proofs.Words.{digit_plain}
use Rattle.cd_print.proofs.Lines.{sign_open, sign_comma}
use Rattle.cd_print.proofs.Said.{PrintedValues, Ends, key_process, key_class, key_hold, key_retain, key_startt, key_prty, key_snode, first_is, second_is, up_to, node_read, snode_stop}

-- what is known of printed days and times
pub record PrintedStarts : Type 0 where
  pub times : (seconds : ℕ) → seconds < 86400 → (clock : Clock) × (clock_in (two_digits (seconds / 3600) ++ codes ":" ++ two_digits (seconds / 60 % 60) ++ codes ":" ++ two_digits (seconds % 60)) ≡ Some clock) × (plain_time clock ≡ Fits seconds)
  pub weekdays : (n : ℕ) → n < 7 → day_in (weekday n) ≡ Some (day.Weekday n)
  pub dates : (y m d : ℕ) → y < 10000 → m < 100 → d < 100 → day_in (two_digits m ++ codes "/" ++ two_digits d ++ codes "/" ++ four_digits y) ≡ Some (day.Date y m d)

hold_plain : (h : Hold) → list_all is_plain (hold_word h) ≡ true
unfolding is_word_byte is_blank is_quote is_sign_byte
hold_plain hold.No = refl
hold_plain hold.Yes = refl
hold_plain hold.Call = refl

hold_begins : (before : PieceKind) (h : Hold) → begins_well before (hold_word h) ≡ true
hold_begins before hold.No = refl
hold_begins before hold.Yes = refl
hold_begins before hold.Call = refl

hold_read : (h : Hold) → hold_in (hold_word h) ≡ Some h
unfolding hold_in said_in
hold_read hold.No = refl
hold_read hold.Yes = refl
hold_read hold.Call = refl

retain_plain : (r : Retain) → list_all is_plain (retain_word r) ≡ true
unfolding is_word_byte is_blank is_quote is_sign_byte
retain_plain retain.No = refl
retain_plain retain.Yes = refl
retain_plain retain.Initial = refl

retain_begins : (before : PieceKind) (r : Retain) → begins_well before (retain_word r) ≡ true
retain_begins before retain.No = refl
retain_begins before retain.Yes = refl
retain_begins before retain.Initial = refl

retain_read : (r : Retain) → Rattle.cd_grammar.specs.Values.retain_in (retain_word r) ≡ Some r
unfolding Rattle.cd_grammar.specs.Values.retain_in said_in
retain_read retain.No = refl
retain_read retain.Yes = refl
retain_read retain.Initial = refl

-- a digit of a time or of a date
digit_below : (n : ℕ) → is_ascii_digit (digit_of n) ≡ true
digit_below n =
    let less : n % 10 < 10 = omega arith in
    let low : nat_le 48 (48 + n % 10) ≡ true = grind arith in
    let high : nat_le (48 + n % 10) 57 ≡ true = grind arith in
    rw low high

digit_is_plain : (n : ℕ) → is_plain (digit_of n) ≡ true
digit_is_plain n = digit_plain (digit_of n) (digit_below n)

time_plain : (seconds : ℕ) → list_all is_plain (time_word seconds) ≡ true
unfolding is_word_byte is_blank is_quote is_sign_byte
time_plain seconds =
    rw (digit_is_plain (seconds / 3600 / 10)) (rw (digit_is_plain (seconds / 3600)) (rw (digit_is_plain (seconds / 60 % 60 / 10)) (rw (digit_is_plain (seconds / 60 % 60)) (rw (digit_is_plain (seconds % 60 / 10)) (rw (digit_is_plain (seconds % 60)) refl)))))

and_false : (a : Bool) → (a && false) ≡ false
and_false true = refl
and_false false = refl

time_begins : (seconds : ℕ) → begins_well piece.Sign (time_word seconds) ≡ true
time_begins seconds = rw (and_false (digit_of (seconds / 3600 / 10) == 45)) refl

weekday_plain : (n : ℕ) → n < 7 → (list_all is_plain (weekday n) ≡ true) × (begins_well piece.Sign (weekday n) ≡ true)
unfolding weekday is_word_byte is_blank is_quote is_sign_byte
weekday_plain zero h = (refl, refl)
weekday_plain (suc zero) h = (refl, refl)
weekday_plain (suc (suc zero)) h = (refl, refl)
weekday_plain (suc (suc (suc zero))) h = (refl, refl)
weekday_plain (suc (suc (suc (suc zero)))) h = (refl, refl)
weekday_plain (suc (suc (suc (suc (suc zero))))) h = (refl, refl)
weekday_plain (suc (suc (suc (suc (suc (suc zero)))))) h = (refl, refl)
weekday_plain (suc (suc (suc (suc (suc (suc (suc n))))))) h = absurd (omega arith)

below : (a b : ℕ) → nat_lt a b ≡ true → a < b
below a b e = grind arith

day_plain : (d : Day) → is_day d ≡ true → (list_all is_plain (day_word d) ≡ true) × (begins_well piece.Sign (day_word d) ≡ true)
unfolding is_word_byte is_blank is_quote is_sign_byte
day_plain day.Today e = (refl, refl)
day_plain day.Tomorrow e = (refl, refl)
day_plain (day.Weekday n) e = weekday_plain n (below n 7 e)
day_plain (day.Date y m d) e = (
  rw (digit_is_plain (m / 10)) (rw (digit_is_plain m) (rw (digit_is_plain (d / 10)) (rw (digit_is_plain d) (rw (digit_is_plain (y / 1000)) (rw (digit_is_plain (y / 100)) (rw (digit_is_plain (y / 10)) (rw (digit_is_plain y) refl))))))),
  rw (and_false (digit_of (m / 10) == 45)) refl,
)

module _ (starts : PrintedStarts) where
  day_read : (d : Day) → is_day d ≡ true → day_in (day_word d) ≡ Some d
  unfolding day_in said_in
  day_read day.Today e = refl
  day_read day.Tomorrow e = refl
  day_read (day.Weekday n) e = starts.weekdays n (below n 7 e)
  day_read (day.Date y m d) e =
      starts.dates y m d (below y 10000 (first_is (nat_lt y 10000) _ (first_is (nat_lt y 10000 && nat_lt m 100) _ e))) (below m 100 (second_is (nat_lt y 10000) _ (first_is (nat_lt y 10000 && nat_lt m 100) _ e)))
      (below d 100 (second_is (nat_lt y 10000 && nat_lt m 100) _ e))

  time_by_read : (word : List ℕ) (clock : Clock) (seconds : ℕ) → clock_in word ≡ Some clock → plain_time clock ≡ Fits seconds → time_in word ≡ Fits seconds
  time_by_read word clock seconds e e2 = ap (λ (x : Option Clock). time_by x word) e ∙ e2

  time_read : (seconds : ℕ) → seconds < 86400 → time_in (time_word seconds) ≡ Fits seconds
  time_read seconds h = let found : (clock : Clock) × (clock_in (time_word seconds) ≡ Some clock) × (plain_time clock ≡ Fits seconds) = starts.times seconds h in time_by_read (time_word seconds) found.0 seconds found.1 found.2

snode_in_head : (given : Given) (at at2 : ℕ) (k : Key) (name : List ℕ) → is_node_name name ≡ true → taken true (with_value given slot.Snode at (Word at2 k name)) ≡ Ok (record given { snode = Some name })
unfolding with_word
snode_in_head given at at2 k name e = rw (node_read name e) refl

prty_in_head : (given : Given) (at at2 n : ℕ) (k : Key) (word : List ℕ) → number_in 1 15 word ≡ Fits n → taken true (with_value given slot.Prty at (Word at2 k word)) ≡ Ok (record given { prty = Some n })
unfolding with_word
prty_in_head given at at2 n k word e = rw e refl

class_in_head : (given : Given) (at at2 n : ℕ) (k : Key) (word : List ℕ) → number_in 1 255 word ≡ Fits n → taken true (with_value given slot.Class at (Word at2 k word)) ≡ Ok (record given { class = Some n })
unfolding with_word
class_in_head given at at2 n k word e = rw e refl

hold_in_head : (given : Given) (at at2 : ℕ) (k : Key) (h : Hold) → taken true (with_value given slot.Hold at (Word at2 k (hold_word h))) ≡ Ok (record given { hold = Some h })
unfolding with_word
hold_in_head given at at2 k h = rw (hold_read h) refl

retain_in_head : (given : Given) (at at2 : ℕ) (k : Key) (r : Retain) → taken true (with_value given slot.Retain at (Word at2 k (retain_word r))) ≡ Ok (record given { retain = Some r; retain_at = at })
unfolding with_word
retain_in_head given at at2 k r = rw (retain_read r) refl

-- what the PROCESS statement gives
abbrev pub card_given : Card → Option (List ℕ) → Option Start → ℕ → Given
card_given card snode start at = record nothing { snode = snode; prty = Some card.prty; class = Some card.class; hold = Some card.hold; retain = Some card.retain; retain_at = at; start = start }

start_stop : (o : Option Start) (rest : List ℕ) → stops (start_front o (10 ∷ rest)) ≡ true
unfolding is_word_byte is_blank is_quote is_sign_byte
start_stop None rest = refl
start_stop (Some start) rest = refl

module _ (values : PrintedValues) (starts : PrintedStarts) (Q : Reading → Type 0) where
  start_line : (r : Reading) (card : Card) (at : ℕ) (o : Option Start) (kind : PieceKind) (side : Side) (rest : List ℕ) → is_outside side ≡ true → passes is_timed o ≡ true → passes (λ start. is_day start.day) o ≡ true
      → ((kind2 : PieceKind) (side2 : Side) → is_outside side2 ≡ true → Reads (Ends Q (g.At r (step.Head (card_given card card.snode o at)))) kind2 side2 (10 ∷ rest))
      → Reads (Ends Q (g.At r (step.Head (card_given card card.snode None at)))) kind side (start_front o (10 ∷ rest))
  unfolding is_word_byte is_blank is_quote is_sign_byte
  start_line r card at None kind side rest out fits fits2 next = next kind side out
  start_line r card at (Some start) kind side rest out fits fits2 next =
      let dated : (list_all is_plain (day_word start.day) ≡ true) × (begins_well piece.Sign (day_word start.day) ≡ true) = day_plain start.day fits2 in
      on_blank _ kind side (
      on_word _ piece.Blank side (codes "STARTT") key.Startt out key_startt refl refl refl (λ a1.
      on_equals _ _ _ refl (λ a2.
      on_sign _ _ _ 40 sign.Open In refl (plain_other piece.Sign (day_word start.day) (44 ∷ (time_word start.seconds ++ (41 ∷ 10 ∷ rest))) dated.0 dated.1) sign_open (λ a. refl) refl (λ a3.
      on_inner _ _ _ (day_word start.day) refl dated.0 dated.1 refl (λ a4.
      on_sign _ _ _ 44 sign.Comma In refl (plain_other piece.Sign (time_word start.seconds) (41 ∷ 10 ∷ rest) (time_plain start.seconds) (time_begins start.seconds)) sign_comma (λ a. refl) refl (λ a5.
      on_inner _ _ _ (time_word start.seconds) refl (time_plain start.seconds) (time_begins start.seconds) refl (λ a6.
      on_close _ _ _ refl (λ a7.
      onward (λ ts found. (found.0, g.startt refl (g.on_day_at (day_read starts start.day fits2) (g.timed (fits_taken _ start.seconds (time_read starts start.seconds (below start.seconds 86400 fits))) found.1)), found.2))
      (next piece.Sign Out refl)
      ))))))))

  snode_head : (r : Reading) (o : Option (List ℕ)) (kind : PieceKind) (side : Side) (rest : List ℕ) → is_outside side ≡ true → passes is_node_name o ≡ true → stops rest ≡ true
      → ((kind2 : PieceKind) (side2 : Side) → is_outside side2 ≡ true → Reads (Ends Q (g.At r (step.Head (record nothing { snode = o })))) kind2 side2 rest)
      → Reads (Ends Q (g.At r (step.Head nothing))) kind side (snode_front o rest)
  unfolding is_word_byte is_blank is_quote is_sign_byte slot_of head_slot has
  snode_head r None kind side rest out fits e next = next kind side out
  snode_head r (Some name) kind side rest out fits e next =
      on_blank _ kind side (
      on_pair _ piece.Blank side (codes "SNODE") key.Snode name out key_snode refl refl refl (nodes_plain name fits) (node_begins name fits) e (λ a1 a2 a3.
      onward (λ ts found. (found.0, g.param refl refl (snode_in_head nothing a1 a3 (key_of name) name fits) found.1, found.2))
      (next piece.Word _ (word_outside (key_of name)))
      ))

  pub head_line : (name : List ℕ) (card : Card) (rest : List ℕ) → is_label name ≡ true → is_card card ≡ true → passes (λ start. is_day start.day) card.start ≡ true
      → ((at : ℕ) (kind2 : PieceKind) (side2 : Side) → is_outside side2 ≡ true → Reads (Ends Q (g.At (named name) (step.Head (card_given card card.snode card.start at)))) kind2 side2 (10 ∷ rest))
      → Reads (Ends Q g.Start) piece.LineEnd Out (head_front name card rest)
  unfolding is_word_byte is_blank is_quote is_sign_byte slot_of head_slot has
  head_line name card rest formed fits fits2 next =
      let four : (is_label card.name && passes is_node_name card.snode && within 1 15 card.prty && within 1 255 card.class) ≡ true = first_is _ (passes is_timed card.start) fits in
      let three : (is_label card.name && passes is_node_name card.snode && within 1 15 card.prty) ≡ true = first_is _ (within 1 255 card.class) four in
      let two : (is_label card.name && passes is_node_name card.snode) ≡ true = first_is _ (within 1 15 card.prty) three in
      let low : within 1 15 card.prty ≡ true = second_is _ (within 1 15 card.prty) three in
      let low2 : within 1 255 card.class ≡ true = second_is _ (within 1 255 card.class) four in
      let read : number_in 1 15 (decimal card.prty) ≡ Fits card.prty = values.numbers 1 15 card.prty (up_to 1 card.prty (first_is _ (nat_le card.prty 15) low)) (up_to card.prty 15 (second_is (nat_le 1 card.prty) _ low)) (omega arith) in
      let digits : (list_all is_ascii_digit (decimal card.prty) ≡ true) × (1 ≤ length (decimal card.prty)) = number_digits 1 15 card.prty (decimal card.prty) read in
      let read2 : number_in 1 255 (decimal card.class) ≡ Fits card.class = values.numbers 1 255 card.class (up_to 1 card.class (first_is _ (nat_le card.class 255) low2)) (up_to card.class 255 (second_is (nat_le 1 card.class) _ low2)) (omega arith) in
      let digits2 : (list_all is_ascii_digit (decimal card.class) ≡ true) × (1 ≤ length (decimal card.class)) = number_digits 1 255 card.class (decimal card.class) read2 in
      on_word _ _ _ name (key_of name) refl refl (labels_plain name formed) (label_begins piece.LineEnd name formed) refl (λ a1. on_blank _ _ _ (
      on_word _ _ _ (codes "PROCESS") key.Process (word_outside (key_of name)) key_process refl refl (snode_stop values Q card.snode _ refl) (λ a2.
      onward (λ ts found. (found.0, g.process (fits_taken _ name (label_read name formed)) found.1, found.2))
      (snode_head (named name) card.snode piece.Word Out _ refl (second_is (is_label card.name) _ two) refl (λ kind2 side2 out2. on_blank _ kind2 side2 (
      on_pair _ piece.Blank side2 (codes "PRTY") key.Prty (decimal card.prty) out2 key_prty refl refl refl (digits_plain (decimal card.prty) digits.0) (digits_begin piece.Sign (decimal card.prty) digits.0 digits.1) refl (λ a3 a4 a5. on_blank _ _ _ (
      on_pair _ _ _ (codes "CLASS") key.Class (decimal card.class) (word_outside (key_of (decimal card.prty))) key_class refl refl refl (digits_plain (decimal card.class) digits2.0) (digits_begin piece.Sign (decimal card.class) digits2.0 digits2.1) refl (λ a6 a7 a8. on_blank _ _ _ (
      on_pair _ _ _ (codes "HOLD") key.Hold (hold_word card.hold) (word_outside (key_of (decimal card.class))) key_hold refl refl refl (hold_plain card.hold) (hold_begins piece.Sign card.hold) refl (λ a9 a10 a11. on_blank _ _ _ (
      on_pair _ _ _ (codes "RETAIN") key.Retain (retain_word card.retain) (word_outside (key_of (hold_word card.hold))) key_retain refl refl refl (retain_plain card.retain) (retain_begins piece.Sign card.retain) (start_stop card.start rest) (λ a12 a13 a14.
      onward (λ ts found. (
        found.0,
        g.param refl refl (prty_in_head (record nothing { snode = card.snode }) a3 a5 card.prty (key_of (decimal card.prty)) (decimal card.prty) read)
            (g.param refl refl (class_in_head (record nothing { snode = card.snode; prty = Some card.prty }) a6 a8 card.class (key_of (decimal card.class)) (decimal card.class) read2)
            (g.param refl refl (hold_in_head (record nothing { snode = card.snode; prty = Some card.prty; class = Some card.class }) a9 a11 (key_of (hold_word card.hold)) card.hold)
            (g.param refl refl (retain_in_head (record nothing { snode = card.snode; prty = Some card.prty; class = Some card.class; hold = Some card.hold }) a12 a14 (key_of (retain_word card.retain)) card.retain) found.1))),
        found.2,
      ))
      (start_line (named name) card a12 card.start piece.Word _ rest (word_outside (key_of (retain_word card.retain))) (second_is _ (passes is_timed card.start) fits) fits2 (next a12))
      )))))))))))))
