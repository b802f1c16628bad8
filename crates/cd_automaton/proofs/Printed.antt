-- What is printed of a value is read as that value.
use Rattle.std.proofs.Common.{◌≡◌, ℕ, zero, suc, ◌+◌, ◌-◌, ◌*◌, ◌/◌, ◌%◌, ◌<◌, ◌≤◌, ◌^◌, nat_lt, nat_le, Bool, true, false, ◌&&◌, List, [], ◌∷◌, ◌++◌, length, length-append, take, Some, None, refl, ap, ◌∙◌, arith}
use Rattle.std.specs.Prelude.{◌==◌, codes, slice_index, nat_eq}
use Rattle.std.specs.Char.{is_ascii_digit}
use Rattle.std.specs.Fmt.{decimal}
use Rattle.std.specs.List.{list_all, fold}
use Rattle.std.specs.Str.{bytes_eq}
use Rattle.std.proofs.Math.Seq.{take-append_seam, get_or-append_seam}
use Rattle.std.proofs.lemmas.Fmt.{decimal_by_steps, length-decimal-le}
use Rattle.std.proofs.lemmas.List.Folds.{list_all-append}
use Rattle.std.proofs.lemmas.List.Sums.{fold-append}
use Rattle.cd_types.specs.declared.choices.Hold.{Hold}
use Rattle.cd_types.specs.declared.choices.Hold.TheVariants as hold
use Rattle.cd_types.specs.declared.choices.Retain.{Retain}
use Rattle.cd_types.specs.declared.choices.Retain.TheVariants as retain
use Rattle.cd_types.specs.declared.choices.Disp.{Disp}
use Rattle.cd_types.specs.declared.choices.Disp.TheVariants as disp
use Rattle.cd_types.specs.declared.choices.Relation.{Relation}
use Rattle.cd_types.specs.declared.choices.Relation.TheVariants as relation
use Rattle.cd_types.specs.declared.choices.Side.{Side}
use Rattle.cd_types.specs.declared.choices.Side.TheVariants as side
use Rattle.cd_types.specs.declared.start.Day.TheVariants as day
use Rattle.cd_ast.specs.Canonical.{digit_of, two_digits, four_digits, weekday, hold_word, retain_word, disp_word, relation_sign, side_word}
use Rattle.cd_grammar.specs.declared.token.Token.TheVariants.{Mark}
use Rattle.cd_grammar.specs.declared.step.Clock.{Clock}
use Rattle.cd_grammar.specs.Answers.{Answer, Fits}
use Rattle.cd_grammar.specs.Grammar.{relation_of}
use Rattle.cd_grammar.specs.Given.{side_of}
use Rattle.cd_grammar.specs.Starts.{are_two, two, clock_in, long_clock, minutes_in, plain_time, day_in, date_in, named_days}
use Rattle.cd_grammar.specs.Values.{is_digits, number_of, number_in, interval_in, units_in, unit_of, hold_in, retain_in, disp_in}
use Rattle.cd_grammar.specs.Words.{is_word, said_in, key_of, sign_of}

-- the choices
pub hold_read : (h : Hold) → hold_in (hold_word h) ≡ Some h
unfolding hold_in said_in
hold_read hold.No = refl
hold_read hold.Yes = refl
hold_read hold.Call = refl

pub retain_read : (r : Retain) → Rattle.cd_grammar.specs.Values.retain_in (retain_word r) ≡ Some r
unfolding Rattle.cd_grammar.specs.Values.retain_in said_in
retain_read retain.No = refl
retain_read retain.Yes = refl
retain_read retain.Initial = refl

pub disp_read : (d : Disp) → disp_in (disp_word d) ≡ Some d
unfolding disp_in said_in
disp_read disp.New = refl
disp_read disp.Rpl = refl
disp_read disp.Mod = refl

pub side_read : (s : Side) → side_of (key_of (side_word s)) ≡ Some s
unfolding side_of key_of said_in
side_read side.Pnode = refl
side_read side.Snode = refl

pub relation_read : (at : ℕ) (r : Relation) → relation_of (Mark at (sign_of (relation_sign r))) ≡ Some r
unfolding relation_of sign_of
relation_read at relation.Eq = refl
relation_read at relation.Ne = refl
relation_read at relation.Ge = refl
relation_read at relation.Gt = refl
relation_read at relation.Le = refl
relation_read at relation.Lt = refl

-- a number
digit_is : (n : ℕ) → n < 10 → is_ascii_digit (48 + n) ≡ true
digit_is n h =
    let low : nat_le 48 (48 + n) ≡ true = grind arith in
    let high : nat_le (48 + n) 57 ≡ true = grind arith in
    rw low high

record Writes (n : ℕ) (ds : List ℕ) : Type 0 where
  some : 0 < length ds
  digits : list_all is_ascii_digit ds ≡ true
  value : fold (λ m digit. 10 * m + (digit - 48)) 0 ds ≡ n

one_digit : (n : ℕ) → n < 10 → Writes n ((48 + n) ∷ [])
one_digit n h = record { some = omega arith; digits = rw (digit_is n h) refl; value = omega arith }

more_digits : (n : ℕ) (ds : List ℕ) → 10 ≤ n → Writes (n / 10) ds → Writes n (ds ++ ((48 + n % 10) ∷ []))
more_digits n ds h w =
    let last : n % 10 < 10 = omega arith in
    let is : is_ascii_digit (48 + n % 10) ≡ true = digit_is (n % 10) last in
    let whole : fold (λ m digit. 10 * m + (digit - 48)) 0 (ds ++ ((48 + n % 10) ∷ [])) ≡ 10 * fold (λ m digit. 10 * m + (digit - 48)) 0 ds + (48 + n % 10 - 48) = fold-append (λ m digit. 10 * m + (digit - 48)) 0 ds ((48 + n % 10) ∷ []) in
    let front : fold (λ m digit. 10 * m + (digit - 48)) 0 ds ≡ n / 10 = w.value in
    record {
      some = simp length-append (omega arith);
      digits = list_all-append is_ascii_digit ds ((48 + n % 10) ∷ []) ∙ rw w.digits (rw is refl);
      value = whole ∙ (rw front (omega arith));
    }

writes : (n : ℕ) → n < 2 ^ 64 → Writes n (decimal n)
writes n h = decimal_by_steps Writes one_digit more_digits n h

digits_are : (n : ℕ) (ds : List ℕ) → Writes n ds → is_digits ds ≡ true
unfolding is_digits
digits_are n ds w =
    let some : 0 < length ds = w.some in
    let full : nat_le 1 (length ds) ≡ true = grind arith in
    rw full (rw w.digits refl)

value_is : (n : ℕ) (ds : List ℕ) → Writes n ds → number_of ds ≡ n
unfolding number_of
value_is n ds w = w.value

pub number_read : (low high n : ℕ) → low ≤ n → n ≤ high → high < 10000000000 → number_in low high (decimal n) ≡ Fits n
unfolding number_in
number_read low high n h h2 h3 =
    let w : Writes n (decimal n) = writes n (omega arith) in
    let short : length (decimal n) ≤ 10 = length-decimal-le 10 n (omega arith) (omega arith) (omega arith) in
    let fits : nat_le (length (decimal n)) 10 ≡ true = grind arith in
    let above : nat_le low n ≡ true = grind arith in
    let below : nat_le n high ≡ true = grind arith in
    rw (digits_are n (decimal n) w) (rw (value_is n (decimal n) w) (rw fits (rw above (rw below refl))))

-- a time
digit_below : (n : ℕ) → is_ascii_digit (digit_of n) ≡ true
digit_below n = digit_is (n % 10) (omega arith)

both_digits : (a b : ℕ) → are_two (digit_of a) (digit_of b) ≡ true
unfolding are_two
both_digits a b = rw (digit_below a) (digit_below b)

two_is : (n : ℕ) → n < 100 → two (digit_of (n / 10)) (digit_of n) ≡ n
unfolding two
two_is n h = omega arith

not_colon : (n : ℕ) → (digit_of n == 58) ≡ false
not_colon n = let low : n % 10 < 10 = omega arith in grind arith

time_text : ℕ → ℕ → ℕ → List ℕ
time_text h m s = digit_of (h / 10) ∷ digit_of h ∷ 58 ∷ digit_of (m / 10) ∷ digit_of m ∷ 58 ∷ digit_of (s / 10) ∷ digit_of s ∷ []

clock_read : (h m s : ℕ) → h < 100 → m < 100 → s < 100 → clock_in (time_text h m s) ≡ Some (record { hours = h; minutes = m; seconds = s })
unfolding clock_in long_clock minutes_in time_text
clock_read h m s a b c =
    rw (not_colon h) (rw (digit_below (h / 10)) (rw (both_digits (h / 10) h) (rw (both_digits (m / 10) m) (rw (both_digits (s / 10) s) (rw (two_is h a) (rw (two_is m b) (rw (two_is s c) refl)))))))

abbrev pub time_printed : ℕ → List ℕ
time_printed seconds = two_digits (seconds / 3600) ++ codes ":" ++ two_digits (seconds / 60 % 60) ++ codes ":" ++ two_digits (seconds % 60)

seconds_are : (seconds : ℕ) → seconds < 86400 → seconds / 3600 * 3600 + seconds / 60 % 60 * 60 + seconds % 60 ≡ seconds
seconds_are seconds h = omega arith

pub time_read : (seconds : ℕ) → seconds < 86400 → (clock : Clock) × (clock_in (time_printed seconds) ≡ Some clock) × (plain_time clock ≡ Fits seconds)
unfolding plain_time time_text
time_read seconds h =
    let hours : seconds / 3600 < 24 = omega arith in
    let minutes : seconds / 60 % 60 < 60 = omega arith in
    let rest : seconds % 60 < 60 = omega arith in
    let early : nat_le (seconds / 3600) 23 ≡ true = grind arith in
    let few : nat_le (seconds / 60 % 60) 59 ≡ true = grind arith in
    let less : nat_le (seconds % 60) 59 ≡ true = grind arith in (
      record { hours = seconds / 3600; minutes = seconds / 60 % 60; seconds = seconds % 60 },
      clock_read (seconds / 3600) (seconds / 60 % 60) (seconds % 60) (omega arith) (omega arith) (omega arith),
      rw early (rw few (rw less (ap (λ (n : ℕ). fits n) (seconds_are seconds h)))),
    )
  where
    fits : ℕ → Answer ℕ
    fits n = Fits n

-- a day
pub day_read : (n : ℕ) → n < 7 → day_in (weekday n) ≡ Some (day.Weekday n)
unfolding day_in weekday said_in
day_read zero h = refl
day_read (suc zero) h = refl
day_read (suc (suc zero)) h = refl
day_read (suc (suc (suc zero))) h = refl
day_read (suc (suc (suc (suc zero)))) h = refl
day_read (suc (suc (suc (suc (suc zero))))) h = refl
day_read (suc (suc (suc (suc (suc (suc zero)))))) h = refl
day_read (suc (suc (suc (suc (suc (suc (suc n))))))) h = absurd (omega arith)

pub today_read : day_in (codes "TODAY") ≡ Some day.Today
unfolding day_in said_in
today_read = refl

pub tomorrow_read : day_in (codes "TOMORROW") ≡ Some day.Tomorrow
unfolding day_in said_in
tomorrow_read = refl

-- an interval, in units of 1,024 bytes
digit_bounds : (d : ℕ) → is_ascii_digit d ≡ true → (48 ≤ d) × (d ≤ 57)
digit_bounds d e = (low_of (nat_le 48 d) (nat_le d 57) refl refl e, high_of (nat_le 48 d) (nat_le d 57) refl refl e)
  where
    low_of : (a b : Bool) → nat_le 48 d ≡ a → nat_le d 57 ≡ b → (a && b) ≡ true → 48 ≤ d
    low_of true b p q r = grind arith
    low_of false b p q r = absurd cc

    high_of : (a b : Bool) → nat_le 48 d ≡ a → nat_le d 57 ≡ b → (a && b) ≡ true → d ≤ 57
    high_of true true p q r = grind arith
    high_of true false p q r = absurd cc
    high_of false b p q r = absurd cc

and_false : (a : Bool) → (a && false) ≡ false
and_false true = refl
and_false false = refl

not_no : (d : ℕ) (ds : List ℕ) → is_ascii_digit d ≡ true → is_word (d ∷ ds) (codes "NO") ≡ false
not_no d ds e =
    let bounds : (48 ≤ d) × (d ≤ 57) = digit_bounds d e in
    let high : d ≤ 57 = bounds.1 in
    let small : nat_lt d 65 ≡ true = grind arith in
    let other : nat_eq d 110 ≡ false = grind arith in
    rw small (rw other refl)

not_zero : (d : ℕ) (ds : List ℕ) → bytes_eq (d ∷ (ds ++ 75 ∷ [])) (codes "0") ≡ false
not_zero d [] = and_false _
not_zero d (x ∷ ds) = and_false _

no_digits : (ds : List ℕ) → is_digits (ds ++ 75 ∷ []) ≡ false
unfolding is_digits
no_digits ds =
    let tail : list_all is_ascii_digit (ds ++ 75 ∷ []) ≡ false = list_all-append is_ascii_digit ds (75 ∷ []) ∙ and_false _ in
    rw tail (and_false _)

front_len : (ds : List ℕ) → length (ds ++ 75 ∷ []) - 1 ≡ length ds
front_len ds = simp length-append (omega arith)

unit_at : (ds : List ℕ) → slice_index (ds ++ 75 ∷ []) (length (ds ++ 75 ∷ []) - 1) ≡ 75
unit_at ds = ap (λ (i : ℕ). slice_index (ds ++ 75 ∷ []) i) (front_len ds) ∙ get_or-append_seam ds 75 [] 0

front_is : (ds : List ℕ) → take (length (ds ++ 75 ∷ []) - 1) (ds ++ 75 ∷ []) ≡ ds
front_is ds = ap (λ (i : ℕ). take i (ds ++ 75 ∷ [])) (front_len ds) ∙ take-append_seam ds (75 ∷ [])

units_read : (k : ℕ) (ds : List ℕ) → Writes k ds → length ds ≤ 10 → 1 ≤ k → k * 1024 ≤ 1099511627776 → units_in ds 1024 ≡ Fits (k * 1024)
unfolding units_in
units_read k ds w short low high =
    let few : nat_le (length ds) 10 ≡ true = grind arith in
    let some : nat_le 1 (k * 1024) ≡ true = grind arith in
    let fits : nat_le (k * 1024) 1099511627776 ≡ true = grind arith in
    rw (value_is k ds w) (rw few (rw some (rw fits refl)))

unit_of_k : unit_of 75 ≡ 1024
unfolding unit_of
unit_of_k = refl

interval_by : (k d : ℕ) (ds : List ℕ) → Writes k (d ∷ ds) → length (d ∷ ds) ≤ 10 → 1 ≤ k → k * 1024 ≤ 1099511627776 → is_ascii_digit d ≡ true → interval_in ((d ∷ ds) ++ 75 ∷ []) ≡ Fits (k * 1024)
unfolding interval_in
interval_by k d ds w short low high e =
    rw (not_no d (ds ++ 75 ∷ []) e) (rw (not_zero d ds) (rw (no_digits (d ∷ ds)) (rw (unit_at (d ∷ ds)) (rw unit_of_k (rw (front_is (d ∷ ds)) (rw (digits_are k (d ∷ ds) w) (units_read k (d ∷ ds) w short low high)))))))

first_digit : (d : ℕ) (ds : List ℕ) → list_all is_ascii_digit (d ∷ ds) ≡ true → is_ascii_digit d ≡ true
first_digit d ds e = go (is_ascii_digit d) e
  where
    go : (b : Bool) → (b && list_all is_ascii_digit ds) ≡ true → b ≡ true
    go true e2 = refl
    go false e2 = absurd cc

interval_of : (k : ℕ) (ds : List ℕ) → Writes k ds → length ds ≤ 10 → 1 ≤ k → k * 1024 ≤ 1099511627776 → interval_in (ds ++ 75 ∷ []) ≡ Fits (k * 1024)
interval_of k [] w short low high = let some : 0 < 0 = w.some in absurd (omega arith)
interval_of k (d ∷ ds) w short low high = interval_by k d ds w short low high (first_digit d ds w.digits)

pub interval_read : (k : ℕ) → 1 ≤ k → k * 1024 ≤ 1099511627776 → interval_in (decimal k ++ codes "K") ≡ Fits (k * 1024)
interval_read k low high =
    let w : Writes k (decimal k) = writes k (omega arith) in
    let short : length (decimal k) ≤ 10 = length-decimal-le 10 k (omega arith) (omega arith) (omega arith) in
    interval_of k (decimal k) w short low high

-- a date
no_name : (d : ℕ) (word : List ℕ) → is_ascii_digit d ≡ true → said_in named_days (d ∷ word) ≡ None
unfolding said_in
no_name d word e =
    let bounds : (48 ≤ d) × (d ≤ 57) = digit_bounds d e in
    let high : d ≤ 57 = bounds.1 in
    let small : nat_lt d 65 ≡ true = grind arith in
    let t : nat_eq d 116 ≡ false = grind arith in
    let m : nat_eq d 109 ≡ false = grind arith in
    let w : nat_eq d 119 ≡ false = grind arith in
    let f : nat_eq d 102 ≡ false = grind arith in
    let s : nat_eq d 115 ≡ false = grind arith in
    rw small (rw t (rw m (rw w (rw f (rw s refl)))))

date_text : ℕ → ℕ → ℕ → List ℕ
date_text y m d = digit_of (m / 10) ∷ digit_of m ∷ 47 ∷ digit_of (d / 10) ∷ digit_of d ∷ 47 ∷ four_digits y

year_is : (y : ℕ) → y < 10000 → 100 * two (digit_of (y / 1000)) (digit_of (y / 100)) + two (digit_of (y / 10)) (digit_of y) ≡ y
unfolding two
year_is y h = omega arith

dated : (y m d : ℕ) → y < 10000 → m < 100 → d < 100 → date_in (date_text y m d) ≡ Some (day.Date y m d)
unfolding date_in date_text
dated y m d a b c =
    rw (both_digits (m / 10) m) (rw (both_digits (d / 10) d) (rw (both_digits (y / 1000) (y / 100)) (rw (both_digits (y / 10) y) (rw (year_is y a) (rw (two_is m b) (rw (two_is d c) refl))))))

pub date_read : (y m d : ℕ) → y < 10000 → m < 100 → d < 100 → day_in (two_digits m ++ codes "/" ++ two_digits d ++ codes "/" ++ four_digits y) ≡ Some (day.Date y m d)
unfolding day_in date_text
date_read y m d a b c = rw (no_name (digit_of (m / 10)) _ (digit_below (m / 10))) (dated y m d a b c)
