-- A text without a fault has good bytes, and so has what is cut out of it at the places where tokens begin and end.
use Rattle.std.proofs.Common.{◌≡◌, ℕ, zero, suc, ◌+◌, ◌<◌, ◌≤◌, Bool, true, false, not, ◌&&◌, ◌||◌, List, [], ◌∷◌, length, take, drop, Option, Some, None, refl, ap, sym, subst, ◌∙◌, arith, if◌then◌else◌, nat_lt, add-one}
use Rattle.std.specs.Prelude.{◌==◌, min}
use Rattle.std.specs.List.{list_all}
use Rattle.std.specs.Str.{IsUtf8, is_utf8, IsCharBoundary}
use Rattle.std.specs.Str.Lossy.{utf8_valid_len, valid_len_up_to}
use Rattle.std.proofs.Math.Seq.{drop-nil}
use Rattle.std.proofs.lemmas.List.{take-append-drop, take_all}
use Rattle.std.proofs.lemmas.List.Folds.{list_all-append}
use Rattle.std.proofs.lemmas.Str.{IsUtf8-nil, IsUtf8-take, IsUtf8-drop, IsUtf8-from_is_utf8, IsCharBoundary-end, IsCharBoundary-before_ascii, IsCharBoundary-after_ascii, IsCharBoundary-from_rest}
use Rattle.cd_ast.specs.declared.fault.FaultName.{FaultName}
use Rattle.cd_ast.specs.Bytes.{is_blank, is_quote, is_sign_byte, is_word_byte, is_double_sign, opens_comment, closes_comment, is_refused}
use Rattle.cd_ast.specs.Pieces.{run_len, ends_line, ends_quote, ends_word, pieces_of}
use Rattle.cd_ast.specs.Tokens.{ends_good, bad_place, earlier, open_from, flaw_of}
use Rattle.cd_print.proofs.Bytes.{is_good, IsGood}
use Rattle.cd_print.proofs.Texts.{first_is, second_is}

-- a text without a fault
no_less : (t : Bool) (x : FaultName × ℕ) (o : Option (FaultName × ℕ)) → (if t then Some x else o) ≡ None → t ≡ false
no_less true x o e = absurd cc
no_less false x o e = refl

no_earlier : (bad len : ℕ) (o : Option (FaultName × ℕ)) → earlier bad len o ≡ None → nat_lt bad len ≡ false
no_earlier bad len None e = no_less (nat_lt bad len) _ None e
no_earlier bad len (Some flaw) e = absurd (never (nat_lt bad flaw.1) _ flaw e)
  where
    never : (t : Bool) (x y : FaultName × ℕ) → (if t then Some x else Some y) ≡ None → ⊥
    never true x y f = cc
    never false x y f = cc

not_less : (a b : ℕ) → nat_lt a b ≡ false → b ≤ a
not_less a b e = grind arith

all_placed : (text : List ℕ) → flaw_of text ≡ None → length text ≤ bad_place text
unfolding flaw_of
all_placed text e = not_less (bad_place text) (length text) (no_earlier (bad_place text) (length text) (open_from 0 (pieces_of text)) e)

good_all : (text : List ℕ) → length text ≤ run_len ends_good text → list_all is_good text ≡ true
unfolding run_len ends_good
good_all [] h = refl
good_all (b ∷ bs) h = by_bool (is_refused b) h (good_all bs)
  where
    by_bool : (t : Bool) → suc (length bs) ≤ (if t then 0 else run_len ends_good bs + 1) → (length bs ≤ run_len ends_good bs → list_all is_good bs ≡ true) → (not t && list_all is_good bs) ≡ true
    by_bool true k f = absurd (omega arith)
    by_bool false k f = f (omega arith)

valid_le : (bs : List ℕ) (m : ℕ) → valid_len_up_to bs m ≤ m
valid_le bs zero = omega arith
valid_le bs (suc m) = by_bool (is_utf8 (take (suc m) bs)) (valid_le bs m)
  where
    by_bool : (t : Bool) → valid_len_up_to bs m ≤ m → (if t then suc m else valid_len_up_to bs m) ≤ suc m
    by_bool true h = omega arith
    by_bool false h = omega arith

valid_front : (bs : List ℕ) (m : ℕ) → m ≤ valid_len_up_to bs m → IsUtf8 (take m bs)
valid_front bs zero h = IsUtf8-nil
valid_front bs (suc m) h = by_bool (is_utf8 (take (suc m) bs)) refl h (valid_le bs m)
  where
    by_bool : (t : Bool) → is_utf8 (take (suc m) bs) ≡ t → suc m ≤ (if t then suc m else valid_len_up_to bs m) → valid_len_up_to bs m ≤ m → IsUtf8 (take (suc m) bs)
    by_bool true e k low = IsUtf8-from_is_utf8 (take (suc m) bs) e
    by_bool false e k low = absurd (omega arith)

valid_all : (text : List ℕ) → length text ≤ utf8_valid_len text → IsUtf8 text
unfolding utf8_valid_len
valid_all text h = subst (λ (x : List ℕ). IsUtf8 x) (take_all (length text) text (omega arith)) (valid_front text (length text) h)

min_left : (n a b : ℕ) → n ≤ min a b → n ≤ a
min_left n a b h = grind arith

min_right : (n a b : ℕ) → n ≤ min a b → n ≤ b
min_right n a b h = grind arith

pub flawless_good : (text : List ℕ) → flaw_of text ≡ None → IsGood text
unfolding bad_place
flawless_good text e =
    let all : length text ≤ min (run_len ends_good text) (utf8_valid_len text) = all_placed text e in
    record { bytes = good_all text (min_left (length text) (run_len ends_good text) (utf8_valid_len text) all); utf8 = valid_all text (min_right (length text) (run_len ends_good text) (utf8_valid_len text) all) }

-- what stands before a place and behind it
pub front_good : (bs : List ℕ) (i : ℕ) → IsGood bs → IsCharBoundary bs i → IsGood (take i bs)
front_good bs i h at = record { bytes = first_is _ (list_all is_good (drop i bs)) (sym (list_all-append is_good (take i bs) (drop i bs)) ∙ (ap (λ (x : List ℕ). list_all is_good x) (take-append-drop i bs) ∙ h.bytes)); utf8 = IsUtf8-take bs i h.utf8 at }

pub back_good : (bs : List ℕ) (i : ℕ) → IsGood bs → IsCharBoundary bs i → IsGood (drop i bs)
back_good bs i h at = record { bytes = second_is (list_all is_good (take i bs)) _ (sym (list_all-append is_good (take i bs) (drop i bs)) ∙ (ap (λ (x : List ℕ). list_all is_good x) (take-append-drop i bs) ∙ h.bytes)); utf8 = IsUtf8-drop bs i h.utf8 at }

pub tail_good : (b : ℕ) (bs : List ℕ) → IsGood (b ∷ bs) → b < 128 → IsGood bs
tail_good b bs h low = back_good (b ∷ bs) 1 h (IsCharBoundary-after_ascii (b ∷ bs) 0 h.utf8 (omega arith) low)

one_more : (n : ℕ) → 1 + n ≡ n + 1
one_more n = omega arith

pub stop_place : (stops : ℕ → List ℕ → Bool) → ((c : ℕ) (cs : List ℕ) → stops c cs ≡ true → c < 128) → (bs : List ℕ) → IsCharBoundary bs (run_len stops bs)
unfolding run_len
stop_place stops f [] = IsCharBoundary-end []
stop_place stops f (c ∷ cs) = by_bool (stops c cs) refl (stop_place stops f cs)
  where
    by_bool : (t : Bool) → stops c cs ≡ t → IsCharBoundary cs (run_len stops cs) → IsCharBoundary (c ∷ cs) (if t then 0 else run_len stops cs + 1)
    by_bool true e h = IsCharBoundary-before_ascii (c ∷ cs) 0 (omega arith) (f c cs e)
    by_bool false e h = subst (λ (n : ℕ). IsCharBoundary (c ∷ cs) n) (one_more (run_len stops cs)) (IsCharBoundary-from_rest (c ∷ cs) 1 (run_len stops cs) (omega arith) h)

-- the byte at which a run stops
abbrev pub StopsAt : (ℕ → List ℕ → Bool) → List ℕ → Type 0
StopsAt stops [] = ⊥
StopsAt stops (c ∷ cs) = stops c cs ≡ true

pub stop_is : (stops : ℕ → List ℕ → Bool) (bs : List ℕ) → nat_lt (run_len stops bs) (length bs) ≡ true → StopsAt stops (drop (run_len stops bs) bs)
unfolding run_len
stop_is stops [] e = absurd cc
stop_is stops (c ∷ cs) e = by_bool (stops c cs) refl e (stop_is stops cs)
  where
    less : (n m : ℕ) → nat_lt (n + 1) (suc m) ≡ true → nat_lt n m ≡ true
    less n m k = grind arith

    by_bool : (t : Bool) → stops c cs ≡ t → nat_lt (if t then 0 else run_len stops cs + 1) (suc (length cs)) ≡ true → (nat_lt (run_len stops cs) (length cs) ≡ true → StopsAt stops (drop (run_len stops cs) cs))
        → StopsAt stops (drop (if t then 0 else run_len stops cs + 1) (c ∷ cs))
    by_bool true is k g = is
    by_bool false is k g = subst (λ (n : ℕ). StopsAt stops (drop n (c ∷ cs))) (sym (add-one (run_len stops cs))) (g (less (run_len stops cs) (length cs) k))

drop_sum : (n k m : ℕ) (bs : List ℕ) → m ≡ n + k → drop m bs ≡ drop k (drop n bs)
drop_sum zero k m bs e = let same : m ≡ k = omega arith in ap (λ (x : ℕ). drop x bs) same
drop_sum (suc n) k m [] e = drop-nil m ∙ sym (drop-nil k)
drop_sum (suc n) k zero (b ∷ bs) e = absurd (omega arith)
drop_sum (suc n) k (suc m) (b ∷ bs) e = drop_sum n k m bs (omega arith)

pub drop_more : (n k : ℕ) (bs : List ℕ) → drop (n + k) bs ≡ drop k (drop n bs)
drop_more n k bs = drop_sum n k (n + k) bs refl

-- bytes of ASCII
pub is_low : (b n : ℕ) → n < 128 → (b == n) ≡ true → b < 128
is_low b n h e = let same : b ≡ n = grind arith in omega arith

pub either_low : (a c : Bool) (b : ℕ) → (a || c) ≡ true → (a ≡ true → b < 128) → (c ≡ true → b < 128) → b < 128
either_low true c b e f g = f refl
either_low false c b e f g = g e

pub blank_low : (b : ℕ) → is_blank b ≡ true → b < 128
unfolding is_blank
blank_low b e =
    either_low _ _ b e (λ e1. either_low _ _ b e1 (λ e2. either_low _ _ b e2 (λ e3. is_low b 32 (omega arith) e3) (λ e3. is_low b 9 (omega arith) e3)) (λ e2. is_low b 10 (omega arith) e2)) (λ e1. is_low b 13 (omega arith) e1)

pub quote_low : (b : ℕ) → is_quote b ≡ true → b < 128
unfolding is_quote
quote_low b e = either_low _ _ b e (λ e1. is_low b 34 (omega arith) e1) (λ e1. is_low b 39 (omega arith) e1)

pub sign_low : (b : ℕ) → is_sign_byte b ≡ true → b < 128
unfolding is_sign_byte
sign_low b e =
    either_low _ _ b e (λ e1. either_low _ _ b e1 (λ e2. either_low _ _ b e2 (λ e3. either_low _ _ b e3 (λ e4. either_low _ _ b e4 (λ e5. either_low _ _ b e5 (λ e6. either_low _ _ b e6 (λ e7. is_low b 40 (omega arith) e7) (λ e7. is_low b 41 (omega arith) e7)) (λ e6. is_low b 61 (omega arith) e6)) (λ e5. is_low b 44 (omega arith) e5)) (λ e4. is_low b 59 (omega arith) e4)) (λ e3. is_low b 60 (omega arith) e3)) (λ e2. is_low b 62 (omega arith) e2)) (λ e1. is_low b 33 (omega arith) e1)

pub double_low : (a b : ℕ) → is_double_sign a b ≡ true → b < 128
unfolding is_double_sign
double_low a b e = either_low _ _ b e (λ e1. is_low b 61 small (first_is (b == 61) _ e1)) (λ e1. is_low b 62 small2 (second_is (a == 60) (b == 62) e1))
  where
    small : 61 < 128
    small = omega arith

    small2 : 62 < 128
    small2 = omega arith

pub opens_low : (c : ℕ) (cs : List ℕ) → opens_comment c cs ≡ true → c < 128
unfolding opens_comment
opens_low c [] e = absurd cc
opens_low c (d ∷ cs) e = is_low c 47 (omega arith) (first_is (c == 47) _ e)

pub line_low : (c : ℕ) (cs : List ℕ) → ends_line c cs ≡ true → c < 128
unfolding ends_line
line_low c cs e = is_low c 10 (omega arith) e

pub closes_low : (c : ℕ) (cs : List ℕ) → closes_comment c cs ≡ true → c < 128
unfolding closes_comment
closes_low c [] e = absurd cc
closes_low c (d ∷ cs) e = is_low c 42 (omega arith) (first_is (c == 42) _ e)

pub ends_low : (q : ℕ) → q < 128 → (c : ℕ) (cs : List ℕ) → ends_quote q c cs ≡ true → c < 128
unfolding ends_quote
ends_low q h c cs e = is_low c q h e

not_word : (c : ℕ) (blank quote sign : Bool) → not (not blank && not quote && not sign) ≡ true → (blank ≡ true → c < 128) → (quote ≡ true → c < 128) → (sign ≡ true → c < 128) → c < 128
not_word c true quote sign e f g h = f refl
not_word c false true sign e f g h = g refl
not_word c false false true e f g h = h refl
not_word c false false false e f g h = absurd cc

pub word_low : (c : ℕ) (cs : List ℕ) → ends_word c cs ≡ true → c < 128
unfolding ends_word is_word_byte
word_low c cs e = either_low _ _ c e (λ e1. not_word c (is_blank c) (is_quote c) (is_sign_byte c) e1 (λ f. blank_low c f) (λ f. quote_low c f) (λ f. sign_low c f)) (λ e1. opens_low c cs e1)

-- what stands behind a comment's opening, its end, and a quote
pub opened_good : (b : ℕ) (bs : List ℕ) → opens_comment b bs ≡ true → IsGood (b ∷ bs) → IsGood (drop 1 bs)
unfolding opens_comment
opened_good b [] e h = absurd cc
opened_good b (c ∷ cs) e h = tail_good c cs (tail_good b (c ∷ cs) h (is_low b 47 (omega arith) (first_is (b == 47) _ e))) (is_low c 42 (omega arith) (second_is (b == 47) _ e))

pub closed_good : (bs : List ℕ) → StopsAt closes_comment bs → IsGood bs → IsGood (drop 2 bs)
unfolding closes_comment
closed_good [] e h = absurd e
closed_good (c ∷ []) e h = absurd cc
closed_good (c ∷ d ∷ cs) e h = tail_good d cs (tail_good c (d ∷ cs) h (is_low c 42 (omega arith) (first_is (c == 42) _ e))) (is_low d 47 (omega arith) (second_is (c == 42) _ e))

pub stopped_good : (stops : ℕ → List ℕ → Bool) → ((c : ℕ) (cs : List ℕ) → stops c cs ≡ true → c < 128) → (bs : List ℕ) → StopsAt stops bs → IsGood bs → IsGood (drop 1 bs)
stopped_good stops f [] e h = absurd e
stopped_good stops f (c ∷ cs) e h = tail_good c cs h (f c cs e)
