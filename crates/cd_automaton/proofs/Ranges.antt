-- What a text says is in range.
use Rattle.std.proofs.Common.{◌≡◌, if◌then◌else◌, ℕ, ◌+◌, ◌*◌, ◌%◌, ◌==◌, ◌<◌, ◌≤◌, nat_lt, nat_le, List, [], ◌∷◌, length, length-append, take, drop, ◌-◌, Bool, true, false, ◌&&◌, ◌||◌, Option, Some, None, Ok, refl, ap, sym, subst, ◌∙◌, arith}
use Rattle.std.specs.Prelude.{slice_index, codes}
use Rattle.std.specs.Str.{bytes_eq}
use Rattle.cd_grammar.specs.Words.{is_word, said_in}
use Rattle.std.specs.Option.{option_map}
use Rattle.std.proofs.lemmas.List.Folds.{list_all-append}
use Rattle.cd_types.specs.FileName.{is_file_name}
use Rattle.cd_types.specs.Label.{is_label}
use Rattle.cd_types.specs.NodeName.{is_node_name}
use Rattle.cd_types.specs.Symbols.{upper_case}
use Rattle.cd_types.specs.declared.start.Day.{Day}
use Rattle.cd_ast.specs.declared.process.What.{What}
use Rattle.cd_grammar.specs.declared.token.Key.{Key}
use Rattle.cd_grammar.specs.declared.token.Token.{Token}
use Rattle.cd_grammar.specs.declared.token.Token.TheVariants.{Word, Quoted, Mark}
use Rattle.cd_grammar.specs.declared.given.Given.{Given}
use Rattle.cd_grammar.specs.declared.given.Slot.{Slot}
use Rattle.cd_grammar.specs.declared.given.Slot.TheVariants as slot
use Rattle.cd_grammar.specs.declared.mark.Sketch.{Sketch}
use Rattle.cd_grammar.specs.declared.step.Begun.{Begun}
use Rattle.cd_grammar.specs.declared.step.Clock.{Clock}
use Rattle.cd_grammar.specs.declared.step.CopyGiven.{CopyGiven}
use Rattle.cd_grammar.specs.declared.step.End.{End}
use Rattle.cd_grammar.specs.declared.step.End.TheVariants as ends
use Rattle.cd_grammar.specs.declared.step.Step.{Step}
use Rattle.cd_grammar.specs.declared.step.Work.{Work}
use Rattle.cd_grammar.specs.declared.step.Step.TheVariants as step
use Rattle.cd_grammar.specs.Answers.{Answer, Fits, Outside, Wrong, fits_as, ranged, wanted, strict, taken}
use Rattle.cd_grammar.specs.Values.{label_in, number_in, is_digits, number_of, node_in, file_in, interval_in, units_in, unit_of, is_command, are_items, is_own}
use Rattle.cd_grammar.specs.Starts.{half_in, plain_time, half_time, named_time, time_in, time_by, time_with, half_or_wrong, clock_in}
use Rattle.cd_grammar.specs.Given.{nothing, with_word, with_quoted, with_value, with_list, shared}
use Rattle.cd_grammar.specs.Reading.{Reading, stored, copied, copied_between, run, submitted, ended, given_of, with_given, with_end, with_name, has_room}
use Rattle.cd_grammar.specs.Grammar.{Place, Start, Rest, started, begun_at, opening, before_it}
use Rattle.cd_grammar.specs.Grammar as g
use Rattle.cd_ast.specs.declared.process.Process.{Process}
use Rattle.cd_grammar.specs.Reading.{or_default}
use Rattle.cd_grammar.specs.Faults.{process_of, InGrammar}
use Rattle.cd_automaton.specs.Ranges.{passes, within, is_timed, is_interval, is_card, is_what, is_stmt, are_stmts}
use Rattle.cd_automaton.specs.Jumps.{LeadWell}
use Rattle.cd_automaton.proofs.Keys.{front_is_label}
use Rattle.cd_automaton.proofs.Jumps.{IsSketch, AreMarks, marks_more, none_right, leads}
use Rattle.cd_grammar.specs.Later.{late_faults, wrong_start}

fits_at : {A : Type 0} {x y : A} → x ≡ y → Fits x ≡ Fits y
fits_at {A} e = ap (λ (z : A). Fits z) e

-- an answer that is taken where ranges are asked for
taken_fits : {A : Type 0} (answer : Answer A) (x : A) → taken true answer ≡ Ok x → answer ≡ Fits x
taken_fits (Fits y) x e = let same : y ≡ x = cc in fits_at same
taken_fits (Outside y) x e = absurd cc
taken_fits Wrong x e = absurd cc

fits_is : {A : Type 0} (x y : A) → Fits x ≡ Fits y → x ≡ y
fits_is x y e = cc

-- the value of an answer that fits
record Fit (A B : Type 0) (test : A → Bool) (f : A → B) (x : B) : Type 0 where
  value : A
  passed : test value ≡ true
  is : f value ≡ x

ranged_fit : {A B : Type 0} (test : A → Bool) (b : Bool) (v : A) (f : A → B) (x : B) → (b ≡ true → test v ≡ true) → fits_as f (ranged b v) ≡ Fits x → Fit A B test f x
ranged_fit test true v f x k e = record { value = v; passed = k refl; is = fits_is (f v) x e }
ranged_fit test false v f x k e = absurd cc

second_of : (a b : Bool) → (a && b) ≡ true → b ≡ true
second_of true b e = e
second_of false b e = absurd cc

both_of : (a b c : Bool) → (a && b && c) ≡ true → (b && c) ≡ true
both_of true b c e = e
both_of false b c e = absurd cc

number_by : {B : Type 0} (low high len value : ℕ) (b : Bool) (f : ℕ → B) (x : B) → fits_as f (if b then ranged (nat_le len 10 && nat_le low value && nat_le value high) value else Wrong) ≡ Fits x → Fit ℕ B (within low high) f x
number_by low high len value true f x e = ranged_fit (within low high) (nat_le len 10 && nat_le low value && nat_le value high) value f x (λ e2. both_of (nat_le len 10) (nat_le low value) (nat_le value high) e2) e
number_by low high len value false f x e = absurd cc

number_fit : {B : Type 0} (low high : ℕ) (word : List ℕ) (f : ℕ → B) (x : B) → fits_as f (number_in low high word) ≡ Fits x → Fit ℕ B (within low high) f x
unfolding number_in
number_fit low high word f x e = number_by low high (length word) (number_of word) (is_digits word) f x e

node_fit : {B : Type 0} (word : List ℕ) (f : List ℕ → B) (x : B) → fits_as f (node_in word) ≡ Fits x → Fit (List ℕ) B is_node_name f x
unfolding node_in
node_fit word f x e = ranged_fit is_node_name (is_node_name word) word f x (λ e2. e2) e

file_fit : {B : Type 0} (word : List ℕ) (f : List ℕ → B) (x : B) → fits_as f (file_in word) ≡ Fits x → Fit (List ℕ) B is_file_name f x
unfolding file_in
file_fit word f x e = ranged_fit is_file_name (is_file_name word) word f x (λ e2. e2) e

interval_by : {B : Type 0} (a b c : Bool) (answer : Answer ℕ) (f : ℕ → B) (x : B) → (fits_as f answer ≡ Fits x → Fit ℕ B is_interval f x)
    → fits_as f (if a then Fits 0 else (if b then Outside 0 else (if c then answer else Wrong))) ≡ Fits x → Fit ℕ B is_interval f x
interval_by true b c answer f x k e = record { value = 0; passed = refl; is = fits_is (f 0) x e }
interval_by false true c answer f x k e = absurd cc
interval_by false false true answer f x k e = k e
interval_by false false false answer f x k e = absurd cc

unit_by : (a b : Bool) (n : ℕ) → (n * (if a then 1024 else (if b then 1048576 else 0))) % 1024 ≡ 0
unit_by true b n = omega arith
unit_by false true n = omega arith
unit_by false false n = omega arith

unit_multiple : (n b : ℕ) → (n * unit_of b) % 1024 ≡ 0
unfolding unit_of
unit_multiple n b = unit_by (b == 75 || b == 107) (b == 77 || b == 109) n

is_multiple : (n : ℕ) → n % 1024 ≡ 0 → nat_le n 1099511627776 ≡ true → is_interval n ≡ true
is_multiple n e low = rw low (rw e refl)

units_fit : {B : Type 0} (digits : List ℕ) (b : ℕ) (f : ℕ → B) (x : B) → fits_as f (units_in digits (unit_of b)) ≡ Fits x → Fit ℕ B is_interval f x
unfolding units_in
units_fit digits b f x e =
    let n : ℕ = number_of digits * unit_of b in
    ranged_fit is_interval (nat_le (length digits) 10 && nat_le 1 n && nat_le n 1099511627776) n f x
    (λ e2. is_multiple n (unit_multiple (number_of digits) b) (second_of _ _ e2)) e

interval_fit : {B : Type 0} (word : List ℕ) (f : ℕ → B) (x : B) → fits_as f (interval_in word) ≡ Fits x → Fit ℕ B is_interval f x
unfolding interval_in
interval_fit word f x e =
    let front : List ℕ = take (length word - 1) word in
    let last : ℕ = slice_index word (length word - 1) in
    interval_by (is_word word (codes "NO") || bytes_eq word (codes "0")) (is_digits word) (nat_lt 0 (unit_of last) && is_digits front) (units_in front (unit_of last)) f x (λ e2. units_fit front last f x e2) e

-- what was given is in range
abbrev pub FitGiven : Given → Type 0
FitGiven given =
    (passes is_node_name given.snode ≡ true) × (passes (within 1 15) given.prty ≡ true) × (passes (within 1 255) given.class ≡ true)
    × (passes is_timed given.start ≡ true) × (passes is_file_name given.file ≡ true) × (passes is_command given.command ≡ true)
    × (passes is_interval given.ckpt ≡ true)

wanted_same : {A : Type 0} (given : Given) (o : Option A) (f : A → Given) (x : Given) → FitGiven given → ((v : A) → FitGiven (f v)) → fits_as f (wanted o) ≡ Fits x → FitGiven x
wanted_same given (Some v) f x h k e = subst (λ (y : Given). FitGiven y) (fits_is (f v) x e) (k v)
wanted_same given None f x h k e = absurd cc

shared_same : (given : Given) (b : Bool) (x : Given) → FitGiven given → shared given b ≡ Fits x → FitGiven x
shared_same given true x h e = subst (λ (y : Given). FitGiven y) (fits_is (record given { share = true }) x e) h
shared_same given false x h e = absurd cc

moved : (x y : Given) → Fits x ≡ Fits y → FitGiven x → FitGiven y
moved x y e h = subst (λ (z : Given). FitGiven z) (fits_is x y e) h

by_fit : {A : Type 0} {test : A → Bool} {f : A → Given} (x : Given) → Fit A Given test f x → ((v : A) → test v ≡ true → FitGiven (f v)) → FitGiven x
by_fit x fit k = subst (λ (z : Given). FitGiven z) fit.is (k fit.value fit.passed)

word_fit : (given : Given) (set : Slot) (at : ℕ) (k : Key) (word : List ℕ) (x : Given) → FitGiven given → with_word given set at k word ≡ Fits x → FitGiven x
unfolding with_word
word_fit given slot.Snode at k word x h e = by_fit x (node_fit word _ x e) (λ v p. (p, h.1, h.2, h.3, h.4, h.5, h.6))
word_fit given slot.Prty at k word x h e = by_fit x (number_fit 1 15 word _ x e) (λ v p. (h.0, p, h.2, h.3, h.4, h.5, h.6))
word_fit given slot.Class at k word x h e = by_fit x (number_fit 1 255 word _ x e) (λ v p. (h.0, h.1, p, h.3, h.4, h.5, h.6))
word_fit given slot.Hold at k word x h e = wanted_same given _ _ x h (λ v. h) e
word_fit given slot.Retain at k word x h e = wanted_same given _ _ x h (λ v. h) e
word_fit given slot.Start at k word x h e = absurd cc
word_fit given slot.Pacct at k word x h e = moved _ x e h
word_fit given slot.Sacct at k word x h e = moved _ x e h
word_fit given slot.Notify at k word x h e = moved _ x e h
word_fit given slot.Pnodeid at k word x h e = moved _ x e h
word_fit given slot.Snodeid at k word x h e = moved _ x e h
word_fit given slot.File at k word x h e = by_fit x (file_fit word _ x e) (λ v p. (h.0, h.1, h.2, h.3, p, h.5, h.6))
word_fit given slot.Side at k word x h e = wanted_same given _ _ x h (λ v. h) e
word_fit given slot.Items at k word x h e = absurd cc
word_fit given slot.Command at k word x h e = absurd cc
word_fit given slot.Share at k word x h e = shared_same given _ x h e
word_fit given slot.Disp at k word x h e = wanted_same given _ _ x h (λ v. h) e
word_fit given slot.Ckpt at k word x h e = by_fit x (interval_fit word _ x e) (λ v p. (h.0, h.1, h.2, h.3, h.4, h.5, p))
word_fit given slot.Restart at k word x h e = wanted_same given _ _ x h (λ v. h) e
word_fit given slot.Pgm at k word x h e = moved _ x e h
word_fit given slot.Library at k word x h e = moved _ x e h

command_fit : (given : Given) (text : List ℕ) (b : Bool) (x : Given) → is_command text ≡ b → FitGiven given → ranged b (record given { command = Some text }) ≡ Fits x → FitGiven x
command_fit given text true x is h e = moved (record given { command = Some text }) x e (h.0, h.1, h.2, h.3, h.4, is, h.6)
command_fit given text false x is h e = absurd cc

items_fit : (given : Given) (b : Bool) (x : Given) → FitGiven given → ranged b (record given { items = true }) ≡ Fits x → FitGiven x
items_fit given true x h e = moved (record given { items = true }) x e h
items_fit given false x h e = absurd cc

quoted_fit : (given : Given) (set : Slot) (text : List ℕ) (x : Given) → FitGiven given → with_quoted given set text ≡ Fits x → FitGiven x
unfolding with_quoted
quoted_fit given slot.File text x h e = by_fit x (file_fit text _ x e) (λ v p. (h.0, h.1, h.2, h.3, p, h.5, h.6))
quoted_fit given slot.Items text x h e = items_fit given (are_items text) x h e
quoted_fit given slot.Command text x h e = command_fit given text (is_command text) x refl h e
quoted_fit given slot.Pacct text x h e = moved _ x e h
quoted_fit given slot.Sacct text x h e = moved _ x e h
quoted_fit given slot.Notify text x h e = moved _ x e h
quoted_fit given slot.Pnodeid text x h e = moved _ x e h
quoted_fit given slot.Snodeid text x h e = moved _ x e h
quoted_fit given _ text x h e = absurd cc

value_fit : (given : Given) (set : Slot) (at : ℕ) (t : Token) (x : Given) → FitGiven given → taken true (with_value given set at t) ≡ Ok x → FitGiven x
value_fit given set at (Word at2 k word) x h e = word_fit given set at k word x h (taken_fits (with_word given set at k word) x e)
value_fit given set at (Quoted at2 text) x h e = quoted_fit given set text x h (taken_fits (with_quoted given set text) x e)
value_fit given set at (Mark at2 m) x h e = absurd cc

list_fit : (given : Given) (set : Slot) → FitGiven given → FitGiven (with_list given set)
unfolding with_list
list_fit given slot.Pacct h = h
list_fit given slot.Sacct h = h
list_fit given slot.Notify h = h
list_fit given slot.Pnodeid h = h
list_fit given slot.Snodeid h = h
list_fit given _ h = h

-- a label
label_by : (own : Bool) (word name : List ℕ) → (if own then Wrong else ranged (is_label word) word) ≡ Fits name → is_label name ≡ true
label_by true word name e = absurd cc
label_by false word name e = go (is_label word) refl e
  where
    go : (b : Bool) → is_label word ≡ b → ranged b word ≡ Fits name → is_label name ≡ true
    go true is e2 = subst (λ (x : List ℕ). is_label x ≡ true) (fits_is word name e2) is
    go false is e2 = absurd cc

label_fit : (k : Key) (word name : List ℕ) → taken true (label_in k word) ≡ Ok name → is_label name ≡ true
unfolding label_in
label_fit k word name e = label_by (is_own k) (upper_case word) name (taken_fits _ name e)

-- a time
early_clock : (hours minutes seconds high : ℕ) → hours ≤ 23 → minutes ≤ 59 → seconds ≤ 59 → hours * 3600 + minutes * 60 + seconds < 86400
early_clock hours minutes seconds high a b c = omega arith

timed_by : (b : Bool) (n seconds : ℕ) → (b ≡ true → n < 86400) → ranged b n ≡ Fits seconds → seconds < 86400
timed_by true n seconds k e = subst (λ (m : ℕ). m < 86400) (fits_is n seconds e) (k refl)
timed_by false n seconds k e = absurd cc

first_of : (a b : Bool) → (a && b) ≡ true → a ≡ true
first_of true b e = refl
first_of false b e = absurd cc

up_to : (a b : ℕ) → nat_le a b ≡ true → a ≤ b
up_to a b e = grind arith

plain_fit : (clock : Clock) (seconds : ℕ) → plain_time clock ≡ Fits seconds → seconds < 86400
unfolding plain_time
plain_fit clock seconds e = timed_by (nat_le clock.hours 23 && (nat_le clock.minutes 59 && nat_le clock.seconds 59)) (clock.hours * 3600 + clock.minutes * 60 + clock.seconds) seconds
    (λ e2. early_clock clock.hours clock.minutes clock.seconds 0 (up_to clock.hours 23 (first_of _ _ e2)) (up_to clock.minutes 59 (first_of _ _ (second_of _ _ e2))) (up_to clock.seconds 59 (second_of _ _ (second_of _ _ e2)))) e

half_clock : (hours half minutes seconds : ℕ) → half ≤ 1 → minutes ≤ 59 → seconds ≤ 59 → (hours % 12 + 12 * half) * 3600 + minutes * 60 + seconds < 86400
half_clock hours half minutes seconds a b c = let low : hours % 12 < 12 = omega arith in omega arith

half_fit : (clock : Clock) (half seconds : ℕ) → half ≤ 1 → half_time clock half ≡ Fits seconds → seconds < 86400
unfolding half_time
half_fit clock half seconds small e = timed_by (nat_le 1 clock.hours && nat_le clock.hours 12 && (nat_le clock.minutes 59 && nat_le clock.seconds 59)) ((clock.hours % 12 + 12 * half) * 3600 + clock.minutes * 60 + clock.seconds) seconds
    (λ e2. half_clock clock.hours half clock.minutes clock.seconds small (up_to clock.minutes 59 (first_of _ _ (second_of _ _ e2))) (up_to clock.seconds 59 (second_of _ _ (second_of _ _ e2)))) e

half_by : (a b : Bool) (half : ℕ) → (if a then Some 0 else (if b then Some 1 else None)) ≡ Some half → half ≤ 1
half_by true b half e = let same : 0 ≡ half = cc in omega arith
half_by false true half e = let same : 1 ≡ half = cc in omega arith
half_by false false half e = absurd cc

half_small : (word : List ℕ) (half : ℕ) → half_in word ≡ Some half → half ≤ 1
unfolding half_in said_in
half_small word half e = half_by (is_word word (codes "AM")) (is_word word (codes "PM")) half e

with_half : (o : Option Clock) (half seconds : ℕ) → half ≤ 1 → half_or_wrong o half ≡ Fits seconds → seconds < 86400
with_half (Some clock) half seconds small e = half_fit clock half seconds small e
with_half None half seconds small e = absurd cc

behind_fit : (word rest : List ℕ) (o : Option ℕ) (seconds : ℕ) → half_in rest ≡ o → time_with word o ≡ Fits seconds → seconds < 86400
behind_fit word rest (Some half) seconds is e = with_half _ half seconds (half_small rest half is) e
behind_fit word rest None seconds is e = absurd cc

named_by : (a b : Bool) (answer : Answer ℕ) (seconds : ℕ) → (answer ≡ Fits seconds → seconds < 86400) → (if a then Fits 43200 else (if b then Fits 0 else answer)) ≡ Fits seconds → seconds < 86400
named_by true b answer seconds k e = let same : 43200 ≡ seconds = fits_is 43200 seconds e in omega arith
named_by false true answer seconds k e = let same : 0 ≡ seconds = fits_is 0 seconds e in omega arith
named_by false false answer seconds k e = k e

named_fit : (word : List ℕ) (seconds : ℕ) → named_time word ≡ Fits seconds → seconds < 86400
unfolding named_time
named_fit word seconds e = named_by (is_word word (codes "NOON")) (is_word word (codes "MIDNIGHT")) (time_with word (half_in (drop (length word - 2) word))) seconds
    (λ e2. behind_fit word (drop (length word - 2) word) (half_in (drop (length word - 2) word)) seconds refl e2) e

time_fit : (o : Option Clock) (word : List ℕ) (seconds : ℕ) → time_by o word ≡ Fits seconds → seconds < 86400
time_fit (Some clock) word seconds e = plain_fit clock seconds e
time_fit None word seconds e = named_fit word seconds e

-- with a start
started_fit : (given : Given) (day : Day) (seconds : ℕ) → FitGiven given → seconds < 86400 → FitGiven (started given day seconds)
started_fit given day seconds h small = let less : nat_lt seconds 86400 ≡ true = grind arith in (h.0, h.1, h.2, less, h.4, h.5, h.6)

-- what was read is in range
pub record FitReading (r : Reading) : Type 0 where
  pub name : is_label r.name ≡ true
  pub head : FitGiven r.head
  pub stmts : are_stmts r.stmts ≡ true
  pub count : length r.stmts ≤ 1024
  pub marks : AreMarks r.marks r.stmts

abbrev pub FitEnd : Option Given → Type 0
FitEnd None = Unit {0}
FitEnd (Some given) = FitGiven given

pub record FitBegun (r : Reading) (begun : Begun) : Type 0 where
  pub label : passes is_label (option_map (λ found. found.1) begun.label) ≡ true
  pub room : length r.stmts < 1024

-- at a step
abbrev pub FitStep : Reading → Step → Type 0
FitStep r (step.Head given) = FitGiven given
FitStep r step.Between = Unit {0}
FitStep r (step.Copy begun copy) = FitBegun r begun × (FitEnd copy.from × FitEnd copy.to × FitGiven copy.others)
FitStep r (step.Group begun copy end given) = FitBegun r begun × (FitEnd copy.from × FitEnd copy.to × FitGiven copy.others) × FitGiven given
FitStep r (step.Run begun w given) = FitBegun r begun × FitGiven given
FitStep r (step.RunGroup begun w given) = FitBegun r begun × FitGiven given
FitStep r (step.Submit begun given) = FitBegun r begun × FitGiven given

nothing_fit : FitGiven nothing
nothing_fit = (refl, refl, refl, refl, refl, refl, refl)

given_fit : (r : Reading) (s : Step) → FitStep r s → FitGiven (given_of s)
given_fit r (step.Head given) h = h
given_fit r step.Between h = nothing_fit
given_fit r (step.Copy begun copy) h = h.1.2
given_fit r (step.Group begun copy end given) h = h.2
given_fit r (step.Run begun w given) h = h.1
given_fit r (step.RunGroup begun w given) h = h.1
given_fit r (step.Submit begun given) h = h.1

with_fit : (r : Reading) (s : Step) (later : Given) → FitStep r s → FitGiven later → FitStep r (with_given s later)
with_fit r (step.Head given) later h e = e
with_fit r step.Between later h e = tt
with_fit r (step.Copy begun copy) later h e = (h.0, (h.1.0, h.1.1, e))
with_fit r (step.Group begun copy end given) later h e = (h.0, h.1, e)
with_fit r (step.Run begun w given) later h e = (h.0, e)
with_fit r (step.RunGroup begun w given) later h e = (h.0, e)
with_fit r (step.Submit begun given) later h e = (h.0, e)

-- with a statement
stored_fit : (r : Reading) (begun : Begun) (sketched : Sketch) (said : What) → IsSketch sketched said → FitReading r → FitBegun r begun → is_what said ≡ true → FitReading (stored r begun sketched said)
stored_fit r begun sketched said like h b e =
    let room : length r.stmts < 1024 = b.room in
    record {
      name = h.name;
      head = h.head;
      stmts = list_all-append is_stmt r.stmts (record { label = option_map (λ found. found.1) begun.label; what = said } ∷ []) ∙ rw h.stmts (rw b.label (rw e refl));
      count = simp length-append (omega arith);
      marks = marks_more r.marks r.stmts (record { label = begun.label; at = begun.at; what = sketched }) (record { label = option_map (λ found. found.1) begun.label; what = said }) h.marks (record { label = refl; said = like });
    }

same_reading : (a b : Reading) → Some a ≡ Some b → a ≡ b
same_reading a b e = cc

copied_fit : (r : Reading) (begun : Begun) (from to : Given) (ckpt : Option ℕ) (a b : Option (List ℕ)) (before : Reading) → FitReading r → FitBegun r begun → passes is_file_name a ≡ true → passes is_file_name b ≡ true
    → passes is_interval ckpt ≡ true → copied r begun from to ckpt a b ≡ Some before → FitReading before
copied_fit r begun from to ckpt (Some a) (Some b) before h fb ha hb hc e =
    subst (λ (x : Reading). FitReading x) (same_reading _ before e) (stored_fit r begun _ _ tt h fb (rw ha (rw hb hc)))
copied_fit r begun from to ckpt None b before h fb ha hb hc e = absurd cc
copied_fit r begun from to ckpt (Some a) None before h fb ha hb hc e = absurd cc

between_fit : (r : Reading) (begun : Begun) (ckpt : Option ℕ) (a b : Option Given) (before : Reading) → FitReading r → FitBegun r begun → FitEnd a → FitEnd b → passes is_interval ckpt ≡ true
    → copied_between r begun ckpt a b ≡ Some before → FitReading before
between_fit r begun ckpt (Some from) (Some to) before h fb ha hb hc e = copied_fit r begun from to ckpt from.file to.file before h fb ha.4 hb.4 hc e
between_fit r begun ckpt None b before h fb ha hb hc e = absurd cc
between_fit r begun ckpt (Some from) None before h fb ha hb hc e = absurd cc

run_fit : (r : Reading) (begun : Begun) (w : Work) (given : Given) (o : Option (List ℕ)) (before : Reading) → FitReading r → FitBegun r begun → passes is_command o ≡ true → run r begun w given o ≡ Some before → FitReading before
run_fit r begun w given (Some command) before h fb hc e = subst (λ (x : Reading). FitReading x) (same_reading _ before e) (stored_fit r begun _ _ tt h fb hc)
run_fit r begun w given None before h fb hc e = absurd cc

submitted_fit : (r : Reading) (begun : Begun) (given : Given) (o : Option (List ℕ)) (before : Reading) → FitReading r → FitBegun r begun → FitGiven given → passes is_file_name o ≡ true → submitted r begun given o ≡ Some before
    → FitReading before
submitted_fit r begun given (Some file) before h fb hg hf e = subst (λ (x : Reading). FitReading x) (same_reading _ before e) (stored_fit r begun _ _ tt h fb (rw hf (rw hg.0 hg.1)))
submitted_fit r begun given None before h fb hg hf e = absurd cc

ended_fit : (r before : Reading) (s : Step) → FitReading r → FitStep r s → ended r s ≡ Some before → FitReading before
unfolding ended
ended_fit r before (step.Head given) h f e = subst (λ (x : Reading). FitReading x) (same_reading _ before e) (record { name = h.name; head = f; stmts = h.stmts; count = h.count; marks = h.marks })
ended_fit r before step.Between h f e = subst (λ (x : Reading). FitReading x) (same_reading _ before e) h
ended_fit r before (step.Copy begun copy) h f e = between_fit r begun copy.others.ckpt copy.from copy.to before h f.0 f.1.0 f.1.1 f.1.2.6 e
ended_fit r before (step.Group begun copy end given) h f e = absurd cc
ended_fit r before (step.Run begun w given) h f e = run_fit r begun w given given.command before h f.0 f.1.5 e
ended_fit r before (step.RunGroup begun w given) h f e = absurd cc
ended_fit r before (step.Submit begun given) h f e = submitted_fit r begun given given.file before h f.0 f.1 f.1.4 e

-- at a place of the grammar
abbrev pub FitPlace : Place → Type 0
FitPlace Start = Unit {0}
FitPlace (g.At r s) = FitReading r × FitStep r s
FitPlace (g.Labelled r at label) = FitReading r × (is_label label ≡ true)
FitPlace (g.Values r s) = FitReading r × FitStep r s
FitPlace (g.Pairs r s) = FitReading r × FitStep r s
FitPlace (g.Starting r given) = FitReading r × FitGiven given
FitPlace (g.Timing r given day) = FitReading r × FitGiven given

room_fit : (r : Reading) → has_room strict r ≡ true → length r.stmts < 1024
room_fit r e = grind arith

abbrev Opened : Type 0
Opened = Option (ℕ × List ℕ) × Reading

abbrev opened : Option (ℕ × List ℕ) → Reading → Opened
opened label r = (label, r)

same_opened : (a b : Opened) → Some a ≡ Some b → a ≡ b
same_opened a b e = cc

-- a statement begins
pub record Begins (before : Reading) (label : Option (ℕ × List ℕ)) : Type 0 where
  pub reading : FitReading before
  pub labelled : passes is_label (option_map (λ found. found.1) label) ≡ true

begins_at : (r : Reading) (s : Step) (o : Option Reading) (label : Option (ℕ × List ℕ)) (before : Reading) → FitReading r → FitStep r s → ended r s ≡ o → before_it None o ≡ Some (opened label before) → Begins before label
begins_at r s (Some other) label before h f e e2 =
    let pairs : opened None other ≡ opened label before = same_opened (opened None other) (opened label before) e2 in
    subst (λ (p : Opened). Begins p.1 p.0) pairs (record { reading = ended_fit r other s h f e; labelled = refl })
begins_at r s None label before h f e e2 = absurd cc

begins : (p : Place) (label : Option (ℕ × List ℕ)) (before : Reading) → FitPlace p → opening p ≡ Some (opened label before) → Begins before label
begins Start label before h e = absurd cc
begins (g.At r s) label before h e = begins_at r s (ended r s) label before h.0 h.1 refl e
begins (g.Labelled r at name) label before h e =
    let pairs : opened (Some (at, name)) r ≡ opened label before = same_opened (opened (Some (at, name)) r) (opened label before) e in
    subst (λ (p : Opened). Begins p.1 p.0) pairs (record { reading = h.0; labelled = h.1 })
begins (g.Values r s) label before h e = absurd cc
begins (g.Pairs r s) label before h e = absurd cc
begins (g.Starting r given) label before h e = absurd cc
begins (g.Timing r given day) label before h e = absurd cc

begun_fit : (before : Reading) (label : Option (ℕ × List ℕ)) (at : ℕ) → Begins before label → has_room strict before ≡ true → FitBegun before (begun_at label at)
begun_fit before label at b room = record { label = b.labelled; room = room_fit before room }

end_fit : (copy : CopyGiven) (end : End) (given : Given) → FitEnd copy.from × FitEnd copy.to × FitGiven copy.others → FitGiven given → FitEnd (with_end copy end given).from × FitEnd (with_end copy end given).to × FitGiven (with_end copy end given).others
end_fit copy ends.From given h e = (e, h.1, h.2)
end_fit copy ends.To given h e = (h.0, e, h.2)

symbols_fit : (r : Reading) (s : Step) (name text : List ℕ) → FitReading r → FitStep r s → FitReading (with_name r s name text) × FitStep (with_name r s name text) s
symbols_fit r (step.Submit begun given) name text h f = (record { name = h.name; head = h.head; stmts = h.stmts; count = h.count; marks = h.marks }, (record { label = f.0.label; room = f.0.room }, f.1))
symbols_fit r (step.Head given) name text h f = (h, f)
symbols_fit r step.Between name text h f = (h, f)
symbols_fit r (step.Copy begun copy) name text h f = (h, f)
symbols_fit r (step.Group begun copy end given) name text h f = (h, f)
symbols_fit r (step.Run begun w given) name text h f = (h, f)
symbols_fit r (step.RunGroup begun w given) name text h f = (h, f)

ifs_fit : (r : Reading) (ifs : List Bool) → FitReading r → FitReading (record r { ifs = ifs })
ifs_fit r ifs h = record { name = h.name; head = h.head; stmts = h.stmts; count = h.count; marks = h.marks }

number_of_if : (word : List ℕ) (n : ℕ) → taken true (number_in 0 255 word) ≡ Ok n → nat_le n 255 ≡ true
number_of_if word n e =
    let fit : Fit ℕ ℕ (within 0 255) (λ m. m) n = number_fit 0 255 word (λ m. m) n (same_answer (number_in 0 255 word) n e) in
    subst (λ (m : ℕ). nat_le m 255 ≡ true) fit.is (second_of _ _ fit.passed)
  where
    same_answer : (answer : Answer ℕ) (n : ℕ) → taken true answer ≡ Ok n → fits_as (λ m. m) answer ≡ Fits n
    same_answer (Fits m) n e2 = taken_fits (Fits m) n e2
    same_answer (Outside m) n e2 = absurd cc
    same_answer Wrong n e2 = absurd cc

pub all_fit : {p : Place} {ts : List Token} {all : Reading} → Rest strict p ts all → FitPlace p → FitReading all
all_fit (g.process {k = k} {word = word} {name = name} e rest) h =
    all_fit rest (record { name = label_fit k word name e; head = nothing_fit; stmts = refl; count = omega arith; marks = tt }, nothing_fit)
all_fit (g.param {r = r} {step = s} {at = at} {set = set} {value = value} {next = later} e unused fits rest) h =
    all_fit rest (h.0, with_fit r s later h.1 (value_fit (given_of s) set at value later (given_fit r s h.1) fits))
all_fit (g.in_parentheses {r = r} {step = s} {at = at} {set = set} {value = value} {next = later} e unused parens fits rest) h =
    all_fit rest (h.0, with_fit r s later h.1 (value_fit (given_of s) set at value later (given_fit r s h.1) fits))
all_fit (g.list {r = r} {step = s} {set = set} e unused lists rest) h =
    all_fit rest (h.0, with_fit r s (with_list (given_of s) set) h.1 (list_fit (given_of s) set (given_fit r s h.1)))
all_fit (g.list_value e rest) h = all_fit rest h
all_fit (g.list_end rest) h = all_fit rest h
all_fit (g.symbol {r = r} {step = s} {name = name} {text = text} takes e said rest) h = all_fit rest (symbols_fit r s (upper_case name) text h.0 h.1)
all_fit (g.startt unused rest) h = all_fit rest h
all_fit (g.on_day {given = given} {day = day} e rest) h = all_fit rest (h.0, started_fit given day 0 h.1 (omega arith))
all_fit (g.on_day_at e rest) h = all_fit rest h
all_fit (g.today_at rest) h = all_fit rest h
all_fit (g.timed {given = given} {day = day} {word = word} {seconds = seconds} fits rest) h =
    all_fit rest (h.0, started_fit given day seconds h.1 (time_fit (clock_in word) word seconds (taken_fits (time_in word) seconds fits)))
all_fit (g.timed_half {given = given} {day = day} {word2 = word2} {clock = clock} {half = half} {seconds = seconds} e fits e2 fits2 rest) h =
    all_fit rest (h.0, started_fit given day seconds h.1 (half_fit clock half seconds (half_small word2 half e2) (taken_fits (half_time clock half) seconds fits2)))
all_fit (g.side {r = r} {step = s} takes e unused rest) h = all_fit rest (h.0, with_fit r s _ h.1 (given_fit r s h.1))
all_fit (g.group e unused rest) h = all_fit rest (h.0, (h.1.0, h.1.1, nothing_fit))
all_fit (g.group_end {copy = copy} {end = end} {given = given} named2 rest) h = all_fit rest (h.0, (h.1.0, end_fit copy end given h.1.1 h.1.2))
all_fit (g.compress unused rest) h = all_fit rest h
all_fit (g.prime unused rest) h = all_fit rest h
all_fit (g.prime_quoted unused rest) h = all_fit rest h
all_fit (g.extended unused rest) h = all_fit rest h
all_fit (g.extended_list unused rest) h = all_fit rest h
all_fit (g.pair rest) h = all_fit rest h
all_fit (g.pairs_end rest) h = all_fit rest h
all_fit (g.run_group rest) h = all_fit rest h
all_fit (g.run_group_end rest) h = all_fit rest h
all_fit (g.label {r = r} {before = before} {step = s} {k = k} {word = word} {name = name} e e2 rest) h =
    all_fit rest (ended_fit r before s h.0 h.1 e, label_fit k word name (front_is_label true k word name e2))
all_fit (g.copy {p = p} {before = before} {named = label} {at = at} e room rest) h =
    let b : Begins before label = begins p label before h e in all_fit rest (b.reading, (begun_fit before label at b room, (tt, tt, nothing_fit)))
all_fit (g.run {p = p} {before = before} {named = label} {at = at} e room w rest) h =
    let b : Begins before label = begins p label before h e in all_fit rest (b.reading, (begun_fit before label at b room, nothing_fit))
all_fit (g.submit {p = p} {before = before} {named = label} {at = at} e room rest) h =
    let b : Begins before label = begins p label before h e in all_fit rest (b.reading, (begun_fit before label at b room, nothing_fit))
all_fit (g.if_then {p = p} {before = before} {named = label} {at = at} {n = n} {k3 = k3} {word3 = word3} {word5 = word5} {name = name} e room deep e3 related fits rest) h =
    let b : Begins before label = begins p label before h e in
    all_fit rest (ifs_fit _ _ (stored_fit before (begun_at label at) _ _ refl b.reading (begun_fit before label at b room) (rw (label_fit k3 word3 name e3) (number_of_if word5 n fits))), tt)
all_fit (g.else_part {r = r} {before = before} {step = s} {at = at} e room opened2 rest) h =
    let read : FitReading before = ended_fit r before s h.0 h.1 e in
    all_fit rest (ifs_fit _ _ (stored_fit before (begun_at None at) _ _ tt read (record { label = refl; room = room_fit before room }) refl), tt)
all_fit (g.eif {r = r} {before = before} {step = s} {at = at} e room opened2 rest) h =
    let read : FitReading before = ended_fit r before s h.0 h.1 e in
    all_fit rest (ifs_fit _ _ (stored_fit before (begun_at None at) _ _ tt read (record { label = refl; room = room_fit before room }) refl), tt)
all_fit (g.goto {p = p} {before = before} {named = label} {at = at} {k2 = k2} {word2 = word2} {name = name} e room e2 rest) h =
    let b : Begins before label = begins p label before h e in
    all_fit rest (stored_fit before (begun_at label at) _ _ refl b.reading (begun_fit before label at b room) (label_fit k2 word2 name e2), tt)
all_fit (g.exit {p = p} {before = before} {named = label} {at = at} e room rest) h =
    let b : Begins before label = begins p label before h e in
    all_fit rest (stored_fit before (begun_at label at) _ _ tt b.reading (begun_fit before label at b room) refl, tt)
all_fit (g.pend {r = r} {all = all} {step = s} e) h = ended_fit r all s h.0 h.1 e
all_fit (g.pend_semicolon {r = r} {all = all} {step = s} e) h = ended_fit r all s h.0 h.1 e

all_true : (a b c d e : Bool) → a ≡ true → b ≡ true → c ≡ true → d ≡ true → e ≡ true → (a && b && c && d && e) ≡ true
all_true true true true true true p q r s t = refl
all_true false b c d e p q r s t = absurd cc
all_true true false c d e p q r s t = absurd cc
all_true true true false d e p q r s t = absurd cc
all_true true true true false e p q r s t = absurd cc
all_true true true true true false p q r s t = absurd cc

-- a default is in range
default_fit : (low high d : ℕ) (o : Option ℕ) → passes (within low high) o ≡ true → within low high d ≡ true → within low high (or_default o d) ≡ true
default_fit low high d (Some n) e e2 = e
default_fit low high d None e e2 = e2

card_fit : (r : Reading) → FitReading r → is_card (process_of r).card ≡ true
card_fit r h =
    let prty : within 1 15 (or_default r.head.prty 10) ≡ true = default_fit 1 15 10 r.head.prty h.head.1 refl in
    let class : within 1 255 (or_default r.head.class 1) ≡ true = default_fit 1 255 1 r.head.class h.head.2 refl in
    all_true (is_label r.name) (passes is_node_name r.head.snode) (within 1 15 (or_default r.head.prty 10)) (within 1 255 (or_default r.head.class 1)) (passes is_timed r.head.start) h.name h.head.0 prty class h.head.3

-- of a text
read_fit : (text : List ℕ) (process : Process) → InGrammar text process → (all : Reading) × FitReading all × (process ≡ process_of all)
read_fit text process said = (said.all, all_fit said.read tt, said.said)

pub text_card : (text : List ℕ) (process : Process) → InGrammar text process → is_card process.card ≡ true
text_card text process said = let fit : (all : Reading) × FitReading all × (process ≡ process_of all) = read_fit text process said in
    subst (λ (x : Process). is_card x.card ≡ true) (sym fit.2) (card_fit fit.0 fit.1)

pub text_name : (text : List ℕ) (process : Process) → InGrammar text process → process.card.name ≡ process.name
text_name text process said = subst (λ (x : Process). x.card.name ≡ x.name) (sym said.said) refl

pub text_stmts : (text : List ℕ) (process : Process) → InGrammar text process → are_stmts process.stmts ≡ true
text_stmts text process said = let fit : (all : Reading) × FitReading all × (process ≡ process_of all) = read_fit text process said in
    subst (λ (x : Process). are_stmts x.stmts ≡ true) (sym fit.2) fit.1.stmts

pub text_count : (text : List ℕ) (process : Process) → InGrammar text process → length process.stmts ≤ 1024
text_count text process said = let fit : (all : Reading) × FitReading all × (process ≡ process_of all) = read_fit text process said in
    subst (λ (x : Process). length x.stmts ≤ 1024) (sym fit.2) fit.1.count

-- conditions and jumps
reading_leads : (r : Reading) → FitReading r → late_faults r ≡ [] → LeadWell [] r.stmts
unfolding late_faults
reading_leads r h e = leads [] r.marks [] r.stmts tt h.marks (none_right (wrong_start r.head.retain r.head.start r.head.retain_at) _ e)

pub text_leads : (text : List ℕ) (process : Process) → InGrammar text process → LeadWell [] process.stmts
text_leads text process said = subst (λ (x : Process). LeadWell [] x.stmts) (sym said.said) (reading_leads said.all (all_fit said.read tt) said.sound)
