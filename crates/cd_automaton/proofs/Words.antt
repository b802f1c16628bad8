-- What the keys of a text's words rule out.
use Rattle.std.proofs.Common.{◌≡◌, if◌then◌else◌, ℕ, List, [], ◌∷◌, Bool, true, false, ◌&&◌, ◌==◌, length, Option, Some, None, Ok, refl, ap, sym, arith, map, nat_lt, nat_le, ◌∙◌}
use lib.Pointwise.{pointwise_long}
use Rattle.std.proofs.Common.{nat_eq}
use Rattle.std.specs.Str.{str_to_ascii_lowercase}
use Rattle.cd_types.specs.Label.{is_label}
use Rattle.cd_types.specs.Symbols.{upper_case}
use Rattle.cd_grammar.specs.declared.token.Key.{Key}
use Rattle.cd_grammar.specs.declared.token.Key.TheVariants as key
use Rattle.cd_grammar.specs.Answers.{Answer, Wrong, taken, ranged}
use Rattle.cd_grammar.specs.Values.{label_in, front_label_in, has_reference, is_own}
use Rattle.cd_grammar.specs.Words.{key_of, said_in, or_else, or_other, statement_words, inner_words, head_words, step_words, is_word}
use Rattle.cd_automaton.specs.Machine.{is_symbolic}

eq_is : (b : ℕ) → (b == 38) ≡ true → b ≡ 38
eq_is b e = grind arith

-- a symbolic name is no word of the language
pub symbolic_key : (word : List ℕ) → is_symbolic word ≡ true → key_of word ≡ key.Other
unfolding key_of said_in
symbolic_key [] e = absurd cc
symbolic_key (b ∷ word) e = rw (eq_is b e) refl

-- nor of a label's form
pub symbolic_label : (word : List ℕ) → is_symbolic word ≡ true → is_label (upper_case word) ≡ false
symbolic_label [] e = absurd cc
symbolic_label (b ∷ word) e = rw (eq_is b e) refl

by_form : (own formed : Bool) (x name : List ℕ) → formed ≡ false → taken true (if own then Wrong else ranged formed x) ≡ Ok name → ⊥
by_form true formed x name f e = cc
by_form false true x name f e = cc
by_form false false x name f e = cc

by_reference : (reference : Bool) (answer : Answer (List ℕ)) (name : List ℕ) → (taken true answer ≡ Ok name → ⊥) → taken true (if reference then Wrong else answer) ≡ Ok name → ⊥
by_reference true answer name f e = cc
by_reference false answer name f e = f e

-- a word that isn't of a label's form is no label where its range is asked for
pub formless : (k : Key) (word name : List ℕ) → is_label (upper_case word) ≡ false → taken true (front_label_in k word) ≡ Ok name → ⊥
unfolding front_label_in label_in
formless k word name f e = by_reference (has_reference word) _ name (λ e2. by_form (is_own k) (is_label (upper_case word)) (upper_case word) name f e2) e

-- PRIMECHAR is longer than a label
abbrev is_prime : Key → Bool
is_prime key.Primechar = true
is_prime _ = false

abbrev is_long : Bool → List ℕ → Bool
is_long false name = true
is_long true name = nat_lt 8 (length name)

-- a word whose key is that of PRIMECHAR is long, where one stands in a table
abbrev are_long : List (List ℕ × Key) → Bool
are_long [] = true
are_long (entry ∷ entries) = is_long (is_prime entry.1) entry.0 && are_long entries

map_length : {A B : Type 0} (f : A → B) (xs : List A) → length (map f xs) ≡ length xs
map_length f [] = refl
map_length f (x ∷ xs) = rw (map_length f xs) refl

word_length : (word name : List ℕ) → is_word word name ≡ true → length word ≡ length name
word_length word name e =
    let same : length (str_to_ascii_lowercase word) ≡ length (str_to_ascii_lowercase name) = pointwise_long nat_eq _ _ e in
    sym (map_length _ word) ∙ same ∙ map_length _ name

first_of_two : (a b : Bool) → (a && b) ≡ true → a ≡ true
first_of_two true b e = refl
first_of_two false b e = absurd cc

second_of_two : (a b : Bool) → (a && b) ≡ true → b ≡ true
second_of_two true b e = e
second_of_two false b e = absurd cc

from_entry : (word name : List ℕ) (k k2 : Key) → is_word word name ≡ true → is_long (is_prime k) name ≡ true → k ≡ k2 → is_prime k2 ≡ true → nat_lt 8 (length word) ≡ true
from_entry word name k k2 e long same prime =
    let prime2 : is_prime k ≡ true = ap is_prime same ∙ prime in
    let long2 : nat_lt 8 (length name) ≡ true = rw prime2 at long in
    rw (word_length word name e) long2

same_key : (k k2 : Key) → Some k ≡ Some k2 → k ≡ k2
same_key k k2 e = cc

by_entry : (entry : List ℕ × Key) (word : List ℕ) (k : Key) (other : Option Key) (b : Bool) → is_word word entry.0 ≡ b → (if b then Some entry.1 else other) ≡ Some k
    → is_long (is_prime entry.1) entry.0 ≡ true → is_prime k ≡ true → (other ≡ Some k → nat_lt 8 (length word) ≡ true) → nat_lt 8 (length word) ≡ true
by_entry entry word k other true here e long prime f = from_entry word entry.0 entry.1 k here long (same_key entry.1 k e) prime
by_entry entry word k other false here e long prime f = f e

from_table : (entries : List (List ℕ × Key)) (word : List ℕ) (k : Key) → said_in entries word ≡ Some k → are_long entries ≡ true → is_prime k ≡ true → nat_lt 8 (length word) ≡ true
unfolding said_in
from_table [] word k e long prime = absurd cc
from_table (entry ∷ entries) word k e long prime = by_entry entry word k _ (is_word word entry.0) refl e (first_of_two _ _ long) prime
    (λ e2. from_table entries word k e2 (second_of_two _ _ long) prime)

from_tables : (a b c d : Option Key) (word : List ℕ) → ((k : Key) → a ≡ Some k → is_prime k ≡ true → nat_lt 8 (length word) ≡ true)
    → ((k : Key) → b ≡ Some k → is_prime k ≡ true → nat_lt 8 (length word) ≡ true) → ((k : Key) → c ≡ Some k → is_prime k ≡ true → nat_lt 8 (length word) ≡ true)
    → ((k : Key) → d ≡ Some k → is_prime k ≡ true → nat_lt 8 (length word) ≡ true)
    → is_prime (or_other (or_else a (or_else b (or_else c d)))) ≡ true → nat_lt 8 (length word) ≡ true
from_tables (Some k) b c d word f g h i e = f k refl e
from_tables None (Some k) c d word f g h i e = g k refl e
from_tables None None (Some k) d word f g h i e = h k refl e
from_tables None None None (Some k) word f g h i e = i k refl e
from_tables None None None None word f g h i e = absurd cc

prime_long : (word : List ℕ) → is_prime (key_of word) ≡ true → nat_lt 8 (length word) ≡ true
unfolding key_of
prime_long word e = from_tables (said_in statement_words word) (said_in inner_words word) (said_in head_words word) (said_in step_words word) word
    (λ k said prime. from_table statement_words word k said refl prime) (λ k said prime. from_table inner_words word k said refl prime)
    (λ k said prime. from_table head_words word k said refl prime) (λ k said prime. from_table step_words word k said refl prime) e

long_label : (a c d : Bool) (n : ℕ) → nat_lt 8 n ≡ true → (a && nat_le n 8 && c && d) ≡ false
long_label true c d n e = let longer : nat_le n 8 ≡ false = grind arith in rw longer refl
long_label false c d n e = refl

pub prime_label : (word : List ℕ) → key.Primechar ≡ key_of word → is_label (upper_case word) ≡ false
prime_label word e =
    let long : nat_lt 8 (length (upper_case word)) ≡ true = ap (λ (n : ℕ). nat_lt 8 n) (map_length _ word) ∙ prime_long word (ap is_prime (sym e)) in
    long_label _ _ _ (length (upper_case word)) long
