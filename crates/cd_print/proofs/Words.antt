-- The words of a print.
use Rattle.std.proofs.Common.{◌≡◌, ℕ, ◌+◌, ◌≤◌, Bool, true, false, not, ◌&&◌, ◌||◌, List, [], ◌∷◌, length, Option, Some, None, Ok, refl, ap, ◌∙◌, arith, drop, nat_eq, nat_le, nat_lt, if◌then◌else◌}
use Rattle.std.specs.Prelude.{◌==◌, codes}
use Rattle.std.specs.Char.{is_ascii_digit, is_ascii_alphanumeric, to_ascii_uppercase, to_ascii_lowercase}
use Rattle.std.specs.List.{list_all, list_any}
use Rattle.std.specs.Str.{bytes_eq}
use Rattle.cd_types.specs.Label.{is_label, is_label_byte, begins_with_letter, is_reserved, reserved_words}
use Rattle.cd_types.specs.NodeName.{is_node_name, is_node_byte}
use Rattle.cd_types.specs.Symbols.{upper_case}
use Rattle.cd_ast.specs.declared.piece.PieceKind.{PieceKind}
use Rattle.cd_ast.specs.declared.piece.PieceKind.TheVariants as piece
use Rattle.cd_ast.specs.Bytes.{is_blank, is_quote, is_sign_byte, is_word_byte}
use Rattle.cd_grammar.specs.declared.token.Key.{Key}
use Rattle.cd_grammar.specs.declared.token.Key.TheVariants as key
use Rattle.cd_grammar.specs.Answers.{Answer, Fits, Wrong, taken}
use Rattle.cd_grammar.specs.Values.{is_own, label_in, front_label_in, has_reference, number_in, is_digits}
use Rattle.cd_grammar.specs.Words.{is_word, said_in, key_of, or_else, or_other, statement_words, inner_words, head_words, step_words}
use Rattle.cd_grammar.specs.Tokens.{behind_word}
use Rattle.cd_print.proofs.Cuts.{is_plain, begins_well, may_begin}
use Rattle.cd_print.proofs.Tails.{is_outside}

differs : (test : ℕ → Bool) (b n : ℕ) → test b ≡ true → test n ≡ false → (b == n) ≡ false
differs test b n e e2 = go (b == n) refl
  where
    same : (b == n) ≡ true → b ≡ n
    same f = grind arith

    both : (x : Bool) → x ≡ true → x ≡ false → ⊥
    both x p q = cc

    go : (t : Bool) → (b == n) ≡ t → t ≡ false
    go true f = absurd (both (test b) e (ap test (same f) ∙ e2))
    go false f = refl

-- a byte that passes a test which no other byte than those of words passes
plain_by : (test : ℕ → Bool) (b : ℕ) → test b ≡ true → test 32 ≡ false → test 9 ≡ false → test 10 ≡ false → test 13 ≡ false → test 34 ≡ false → test 39 ≡ false → test 40 ≡ false → test 41 ≡ false → test 61 ≡ false → test 44 ≡ false → test 59 ≡ false → test 60 ≡ false → test 62 ≡ false → test 33 ≡ false → test 42 ≡ false → is_plain b ≡ true
unfolding is_word_byte is_blank is_quote is_sign_byte
plain_by test b e e32 e9 e10 e13 e34 e39 e40 e41 e61 e44 e59 e60 e62 e33 e42 =
    rw (differs test b 32 e e32) (rw (differs test b 9 e e9) (rw (differs test b 10 e e10) (rw (differs test b 13 e e13) (rw (differs test b 34 e e34) (rw (differs test b 39 e e39) (rw (differs test b 40 e e40) (rw (differs test b 41 e e41) (rw (differs test b 61 e e61) (rw (differs test b 44 e e44) (rw (differs test b 59 e e59) (rw (differs test b 60 e e60) (rw (differs test b 62 e e62) (rw (differs test b 33 e e33) (rw (differs test b 42 e e42) (refl)))))))))))))))

both_are : (a b : Bool) → a ≡ true → b ≡ true → (a && b) ≡ true
both_are true b e e2 = e2
both_are false b e e2 = absurd cc

first_is : (a b : Bool) → (a && b) ≡ true → a ≡ true
first_is true b e = refl
first_is false b e = absurd cc

second_is : (a b : Bool) → (a && b) ≡ true → b ≡ true
second_is true b e = e
second_is false b e = absurd cc

pub all_by : (test other : ℕ → Bool) (w : List ℕ) → ((b : ℕ) → test b ≡ true → other b ≡ true) → list_all test w ≡ true → list_all other w ≡ true
all_by test other [] f e = refl
all_by test other (b ∷ w) f e = both_are (other b) (list_all other w) (f b (first_is (test b) _ e)) (all_by test other w f (second_is (test b) _ e))

node_plain : (b : ℕ) → is_node_byte b ≡ true → is_plain b ≡ true
node_plain b e = plain_by is_node_byte b e refl refl refl refl refl refl refl refl refl refl refl refl refl refl refl

label_plain : (b : ℕ) → is_label_byte b ≡ true → is_plain b ≡ true
label_plain b e = plain_by is_label_byte b e refl refl refl refl refl refl refl refl refl refl refl refl refl refl refl

pub digit_plain : (b : ℕ) → is_ascii_digit b ≡ true → is_plain b ≡ true
digit_plain b e = plain_by is_ascii_digit b e refl refl refl refl refl refl refl refl refl refl refl refl refl refl refl

not_dash : (test : ℕ → Bool) (before : PieceKind) (b : ℕ) → test b ≡ true → test 45 ≡ false → may_begin before b ≡ true
not_dash test before b e e2 = rw (differs test b 45 e e2) refl

pub nodes_plain : (name : List ℕ) → is_node_name name ≡ true → list_all is_plain name ≡ true
nodes_plain name e = all_by is_node_byte is_plain name node_plain (second_is (nat_le 1 (length name) && nat_le (length name) 16) _ e)

and_false : (a : Bool) → (a && false) ≡ false
and_false true = refl
and_false false = refl

-- behind a sign
pub node_begins : (name : List ℕ) → is_node_name name ≡ true → begins_well piece.Sign name ≡ true
node_begins [] e = absurd cc
node_begins (b ∷ name) e = rw (and_false (b == 45)) refl

label_bytes : (label : List ℕ) → is_label label ≡ true → list_all is_label_byte label ≡ true
label_bytes label e = second_is (begins_with_letter label && nat_le (length label) 8) _ (first_is (begins_with_letter label && nat_le (length label) 8 && list_all is_label_byte label) _ e)

pub labels_plain : (label : List ℕ) → is_label label ≡ true → list_all is_plain label ≡ true
labels_plain label e = all_by is_label_byte is_plain label label_plain (label_bytes label e)

pub label_begins : (before : PieceKind) (label : List ℕ) → is_label label ≡ true → begins_well before label ≡ true
label_begins before [] e = absurd cc
label_begins before (b ∷ label) e = not_dash is_label_byte before b (first_is (is_label_byte b) _ (label_bytes (b ∷ label) e)) refl

-- a label is in upper case
label_small : (b : ℕ) → is_label_byte b ≡ true → b ≤ 90
label_small b e = top (nat_le 65 b) (nat_le b 90) (nat_le 48 b) (nat_le b 57) refl refl refl refl e
  where
    top : (a c d f : Bool) → nat_le 65 b ≡ a → nat_le b 90 ≡ c → nat_le 48 b ≡ d → nat_le b 57 ≡ f → ((a && c) || (d && f)) ≡ true → b ≤ 90
    top true true d f p q r s h = grind arith
    top true false true true p q r s h = grind arith
    top true false true false p q r s h = absurd cc
    top true false false f p q r s h = absurd cc
    top false c true true p q r s h = grind arith
    top false c true false p q r s h = absurd cc
    top false c false f p q r s h = absurd cc

byte_upper : (b : ℕ) → is_label_byte b ≡ true → to_ascii_uppercase b ≡ b
byte_upper b e = let small : b ≤ 90 = label_small b e in let less : nat_lt b 97 ≡ true = grind arith in rw less refl

pub uppers : (w : List ℕ) → list_all is_label_byte w ≡ true → upper_case w ≡ w
uppers [] e = refl
uppers (b ∷ w) e = rw (byte_upper b (first_is (is_label_byte b) _ e)) (ap (λ (x : List ℕ). b ∷ x) (uppers w (second_is (is_label_byte b) _ e)))

-- words in upper case are the same in any case where they are the same
lower_eq : (b c : ℕ) → is_label_byte b ≡ true → is_label_byte c ≡ true → nat_eq (to_ascii_lowercase b) (to_ascii_lowercase c) ≡ nat_eq c b
lower_eq b c hb hc =
    let small : b ≤ 90 = label_small b hb in
    let small2 : c ≤ 90 = label_small c hc in
    let less : nat_lt b 91 ≡ true = grind arith in
    let less2 : nat_lt c 91 ≡ true = grind arith in
    go (nat_lt b 65) (nat_lt c 65) refl refl less less2
  where
    go : (s t : Bool) → nat_lt b 65 ≡ s → nat_lt c 65 ≡ t → nat_lt b 91 ≡ true → nat_lt c 91 ≡ true → nat_eq (to_ascii_lowercase b) (to_ascii_lowercase c) ≡ nat_eq c b
    go true true p q f g = rw p (rw q (grind arith))
    go true false p q f g = let no : nat_eq b (c + 32) ≡ false = grind arith in let no2 : nat_eq c b ≡ false = grind arith in rw p (rw q (rw g (rw no (rw no2 refl))))
    go false true p q f g = let no : nat_eq (b + 32) c ≡ false = grind arith in let no2 : nat_eq c b ≡ false = grind arith in rw p (rw q (rw f (rw no (rw no2 refl))))
    go false false p q f g = let same : nat_eq (b + 32) (c + 32) ≡ nat_eq c b = grind arith in rw p (rw q (rw f (rw g same)))

names_eq : (w name : List ℕ) → list_all is_label_byte w ≡ true → list_all is_label_byte name ≡ true → is_word w name ≡ bytes_eq name w
names_eq [] [] e e2 = refl
names_eq [] (c ∷ name) e e2 = refl
names_eq (b ∷ w) [] e e2 = refl
names_eq (b ∷ w) (c ∷ name) e e2 =
    rw (lower_eq b c (first_is (is_label_byte b) _ e) (first_is (is_label_byte c) _ e2)) (ap (λ (x : Bool). nat_eq c b && x) (names_eq w name (second_is (is_label_byte b) _ e) (second_is (is_label_byte c) _ e2)))

left_is : (a b : Bool) → (a || b) ≡ false → a ≡ false
left_is true b e = absurd cc
left_is false b e = refl

right_is : (a b : Bool) → (a || b) ≡ false → b ≡ false
right_is true b e = absurd cc
right_is false b e = e

abbrev past : ℕ → List (List ℕ) → List (List ℕ)
past n words = drop n words

-- a key of tables without the language's own words
said_foreign : (entries : List (List ℕ × Key)) (word : List ℕ) (other : Option Key) → list_all (λ entry. not (is_own entry.1)) entries ≡ true → is_own (or_other other) ≡ false → is_own (or_other (or_else (said_in entries word) other)) ≡ false
unfolding said_in
said_foreign [] word other e e2 = e2
said_foreign (entry ∷ entries) word other e e2 = go (is_word word entry.0) (not_true (is_own entry.1) (first_is (not (is_own entry.1)) _ e)) (said_foreign entries word other (second_is (not (is_own entry.1)) _ e) e2)
  where
    not_true : (a : Bool) → not a ≡ true → a ≡ false
    not_true true f = absurd cc
    not_true false f = refl

    go : (t : Bool) → is_own entry.1 ≡ false → is_own (or_other (or_else (said_in entries word) other)) ≡ false → is_own (or_other (or_else (if t then Some entry.1 else said_in entries word) other)) ≡ false
    go true f g = f
    go false f g = g

unreserved : (label : List ℕ) → list_all is_label_byte label ≡ true → list_any (λ word. bytes_eq word label) reserved_words ≡ false → (said_in statement_words label ≡ None) × (said_in inner_words label ≡ None)
unfolding said_in
unreserved label e e0 =
    let f0 : bytes_eq (codes "PROCESS") label ≡ false = left_is _ _ e0 in
    let e1 : list_any (λ word. bytes_eq word label) (past 1 reserved_words) ≡ false = right_is (bytes_eq (codes "PROCESS") label) _ e0 in
    let f1 : bytes_eq (codes "COPY") label ≡ false = left_is _ _ e1 in
    let e2 : list_any (λ word. bytes_eq word label) (past 2 reserved_words) ≡ false = right_is (bytes_eq (codes "COPY") label) _ e1 in
    let f2 : bytes_eq (codes "RUN") label ≡ false = left_is _ _ e2 in
    let e3 : list_any (λ word. bytes_eq word label) (past 3 reserved_words) ≡ false = right_is (bytes_eq (codes "RUN") label) _ e2 in
    let f3 : bytes_eq (codes "TASK") label ≡ false = left_is _ _ e3 in
    let e4 : list_any (λ word. bytes_eq word label) (past 4 reserved_words) ≡ false = right_is (bytes_eq (codes "TASK") label) _ e3 in
    let f4 : bytes_eq (codes "JOB") label ≡ false = left_is _ _ e4 in
    let e5 : list_any (λ word. bytes_eq word label) (past 5 reserved_words) ≡ false = right_is (bytes_eq (codes "JOB") label) _ e4 in
    let f5 : bytes_eq (codes "SUBMIT") label ≡ false = left_is _ _ e5 in
    let e6 : list_any (λ word. bytes_eq word label) (past 6 reserved_words) ≡ false = right_is (bytes_eq (codes "SUBMIT") label) _ e5 in
    let f6 : bytes_eq (codes "IF") label ≡ false = left_is _ _ e6 in
    let e7 : list_any (λ word. bytes_eq word label) (past 7 reserved_words) ≡ false = right_is (bytes_eq (codes "IF") label) _ e6 in
    let f7 : bytes_eq (codes "THEN") label ≡ false = left_is _ _ e7 in
    let e8 : list_any (λ word. bytes_eq word label) (past 8 reserved_words) ≡ false = right_is (bytes_eq (codes "THEN") label) _ e7 in
    let f8 : bytes_eq (codes "ELSE") label ≡ false = left_is _ _ e8 in
    let e9 : list_any (λ word. bytes_eq word label) (past 9 reserved_words) ≡ false = right_is (bytes_eq (codes "ELSE") label) _ e8 in
    let f9 : bytes_eq (codes "EIF") label ≡ false = left_is _ _ e9 in
    let e10 : list_any (λ word. bytes_eq word label) (past 10 reserved_words) ≡ false = right_is (bytes_eq (codes "EIF") label) _ e9 in
    let f10 : bytes_eq (codes "GOTO") label ≡ false = left_is _ _ e10 in
    let e11 : list_any (λ word. bytes_eq word label) (past 11 reserved_words) ≡ false = right_is (bytes_eq (codes "GOTO") label) _ e10 in
    let f11 : bytes_eq (codes "EXIT") label ≡ false = left_is _ _ e11 in
    let e12 : list_any (λ word. bytes_eq word label) (past 12 reserved_words) ≡ false = right_is (bytes_eq (codes "EXIT") label) _ e11 in
    let f12 : bytes_eq (codes "PEND") label ≡ false = left_is _ _ e12 in
    let e13 : list_any (λ word. bytes_eq word label) (past 13 reserved_words) ≡ false = right_is (bytes_eq (codes "PEND") label) _ e12 in
    let f13 : bytes_eq (codes "PNODE") label ≡ false = left_is _ _ e13 in
    let e14 : list_any (λ word. bytes_eq word label) (past 14 reserved_words) ≡ false = right_is (bytes_eq (codes "PNODE") label) _ e13 in
    let f14 : bytes_eq (codes "SNODE") label ≡ false = left_is _ _ e14 in
    let e15 : list_any (λ word. bytes_eq word label) (past 15 reserved_words) ≡ false = right_is (bytes_eq (codes "SNODE") label) _ e14 in
    let f15 : bytes_eq (codes "FROM") label ≡ false = left_is _ _ e15 in
    let e16 : list_any (λ word. bytes_eq word label) (past 16 reserved_words) ≡ false = right_is (bytes_eq (codes "FROM") label) _ e15 in
    let f16 : bytes_eq (codes "TO") label ≡ false = left_is _ _ e16 in
    let e17 : list_any (λ word. bytes_eq word label) (past 17 reserved_words) ≡ false = right_is (bytes_eq (codes "TO") label) _ e16 in
    let f17 : bytes_eq (codes "COMPRESS") label ≡ false = left_is _ _ e17 in
    let e18 : list_any (λ word. bytes_eq word label) (past 18 reserved_words) ≡ false = right_is (bytes_eq (codes "COMPRESS") label) _ e17 in
    let f18 : bytes_eq (codes "EXTENDED") label ≡ false = left_is _ _ e18 in
    let e19 : list_any (λ word. bytes_eq word label) (past 19 reserved_words) ≡ false = right_is (bytes_eq (codes "EXTENDED") label) _ e18 in (
      rw (names_eq label (codes "PROCESS") e refl ∙ f0) (rw (names_eq label (codes "COPY") e refl ∙ f1) (rw (names_eq label (codes "RUN") e refl ∙ f2) (rw (names_eq label (codes "SUBMIT") e refl ∙ f5) (rw (names_eq label (codes "IF") e refl ∙ f6) (rw (names_eq label (codes "ELSE") e refl ∙ f8) (rw (names_eq label (codes "EIF") e refl ∙ f9) (rw (names_eq label (codes "GOTO") e refl ∙ f10) (rw (names_eq label (codes "EXIT") e refl ∙ f11) (rw (names_eq label (codes "PEND") e refl ∙ f12) (refl)))))))))),
      rw (names_eq label (codes "TASK") e refl ∙ f3) (rw (names_eq label (codes "JOB") e refl ∙ f4) (rw (names_eq label (codes "THEN") e refl ∙ f7) (rw (names_eq label (codes "PNODE") e refl ∙ f13) (rw (names_eq label (codes "SNODE") e refl ∙ f14) (rw (names_eq label (codes "FROM") e refl ∙ f15) (rw (names_eq label (codes "TO") e refl ∙ f16) (rw (names_eq label (codes "COMPRESS") e refl ∙ f17) (rw (names_eq label (codes "EXTENDED") e refl ∙ f18) (refl))))))))),
    )

label_free : (label : List ℕ) → is_label label ≡ true → is_reserved label ≡ false
label_free label e = not_true (is_reserved label) (second_is (begins_with_letter label && nat_le (length label) 8 && list_all is_label_byte label) _ e)
  where
    not_true : (a : Bool) → not a ≡ true → a ≡ false
    not_true true f = absurd cc
    not_true false f = refl

none_key : (x : Option Key) → is_own (or_other x) ≡ false → is_own (or_other (or_else x None)) ≡ false
none_key (Some k) e = e
none_key None e = e

other_key : (x : Option Key) → is_own (or_other (or_else x None)) ≡ false → is_own (or_other x) ≡ false
other_key (Some k) e = e
other_key None e = e

by_tables : (a b c d : Option Key) → a ≡ None → b ≡ None → is_own (or_other (or_else c d)) ≡ false → is_own (or_other (or_else a (or_else b (or_else c d)))) ≡ false
by_tables a b c d e e2 h = rw e (rw e2 h)

pub label_key : (label : List ℕ) → is_label label ≡ true → is_own (key_of label) ≡ false
unfolding key_of is_own
label_key label e =
    let none : (said_in statement_words label ≡ None) × (said_in inner_words label ≡ None) = unreserved label (label_bytes label e) (label_free label e) in
    by_tables (said_in statement_words label) (said_in inner_words label) (said_in head_words label) (said_in step_words label) none.0 none.1
    (said_foreign head_words label (said_in step_words label) refl (other_key (said_in step_words label) (said_foreign step_words label None refl refl)))

-- and read as a label
pub label_read : (label : List ℕ) → is_label label ≡ true → label_in (key_of label) label ≡ Fits label
unfolding label_in
label_read label e = rw (label_key label e) (rw (uppers label (label_bytes label e)) (rw e refl))

no_reference : (w : List ℕ) → list_all is_label_byte w ≡ true → list_any (λ c. c == 38) w ≡ false
no_reference [] e = refl
no_reference (b ∷ w) e = rw (differs is_label_byte b 38 (first_is (is_label_byte b) _ e) refl) (no_reference w (second_is (is_label_byte b) _ e))

tail_free : (label : List ℕ) → list_all is_label_byte label ≡ true → has_reference label ≡ false
tail_free [] e = refl
tail_free (b ∷ w) e = no_reference w (second_is (is_label_byte b) _ e)

pub front_read : (label : List ℕ) → is_label label ≡ true → front_label_in (key_of label) label ≡ Fits label
unfolding front_label_in
front_read label e = rw (tail_free label (label_bytes label e)) (label_read label e)

pub fits_taken : {A : Type 0} (answer : Answer A) (x : A) → answer ≡ Fits x → taken true answer ≡ Ok x
fits_taken answer x e = rw e refl

pub word_outside : (k : Key) → is_outside (behind_word k) ≡ true
word_outside key.Startt = refl
word_outside _ = refl

-- the digits of a number
digits_by : (b : Bool) (answer : Answer ℕ) (n : ℕ) → (if b then answer else Wrong) ≡ Fits n → b ≡ true
digits_by true answer n e = refl
digits_by false answer n e = absurd cc

pub number_digits : (low high n : ℕ) (word : List ℕ) → number_in low high word ≡ Fits n → (list_all is_ascii_digit word ≡ true) × (1 ≤ length word)
unfolding number_in is_digits
number_digits low high n word e =
    let both : (nat_le 1 (length word) && list_all is_ascii_digit word) ≡ true = digits_by _ _ n e in
    (second_is (nat_le 1 (length word)) _ both, up_to (first_is (nat_le 1 (length word)) _ both))
  where
    up_to : nat_le 1 (length word) ≡ true → 1 ≤ length word
    up_to f = grind arith

pub digits_plain : (word : List ℕ) → list_all is_ascii_digit word ≡ true → list_all is_plain word ≡ true
digits_plain word e = all_by is_ascii_digit is_plain word digit_plain e

pub digits_begin : (before : PieceKind) (word : List ℕ) → list_all is_ascii_digit word ≡ true → 1 ≤ length word → begins_well before word ≡ true
digits_begin before [] e some = absurd (omega arith)
digits_begin before (b ∷ word) e some = not_dash is_ascii_digit before b (first_is (is_ascii_digit b) _ e) refl

alnum_plain : (b : ℕ) → is_ascii_alphanumeric b ≡ true → is_plain b ≡ true
alnum_plain b e = plain_by is_ascii_alphanumeric b e refl refl refl refl refl refl refl refl refl refl refl refl refl refl refl

pub alnums_plain : (w : List ℕ) → list_all is_ascii_alphanumeric w ≡ true → list_all is_plain w ≡ true
alnums_plain w e = all_by is_ascii_alphanumeric is_plain w alnum_plain e
