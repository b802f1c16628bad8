-- The first line of a text, and the orders of several lines.
use Rattle.std.proofs.Common.{◌≡◌, ℕ, zero, suc, ◌+◌, ◌-◌, ◌≤◌, ◌<◌, Bool, true, false, cond, eqb, ltb, List, [], ◌∷◌, ◌++◌, length, take, drop, Option, Some, None, refl, sym, ap, ◌∙◌, inl, inr, arith, Ok, Err}
use Rattle.std.specs.List.{position_or_len}
use Rattle.std.proofs.lemmas.Bool.{cases_Bool, cond-true, cond-false, lt-ltb, le-ltb}
use Rattle.std.proofs.lemmas.List.{append_assoc, append-nil, take_rest}
use Rattle.cd_drill_script.specs.Script.{Order, Orders, most_line, order_of, is_skipped, onto_first, lines_of, with_order, with_line, orders_from}
use Rattle.cd_drill_script.specs.declared.script.ScriptFault.{ScriptFault}
use Rattle.cd_drill_script.specs.declared.script.ScriptFault.TheVariants.{ScriptText, NoMemory}
use Rattle.cd_drill_script.specs.Fault.{IsFaultOf, lines_left, with_orders}

abbrev is_feed : ℕ → Bool
is_feed b = eqb b 10

size_feed : (b : ℕ) (text : List ℕ) → is_feed b ≡ true → position_or_len is_feed (b ∷ text) ≡ 0
size_feed b text feed = rw feed refl

size_other : (b : ℕ) (text : List ℕ) → is_feed b ≡ false → position_or_len is_feed (b ∷ text) ≡ suc (position_or_len is_feed text)
size_other b text other = let h : position_or_len is_feed (b ∷ text) ≡ 1 + position_or_len is_feed text = rw other refl in omega (arith, h)

line_feed : (b : ℕ) (text : List ℕ) → is_feed b ≡ true → lines_of (b ∷ text) ≡ [] ∷ lines_of text
unfolding lines_of
line_feed b text feed = cond-true (is_feed b) ([] ∷ lines_of text) (onto_first b (lines_of text)) feed

line_other : (b : ℕ) (text : List ℕ) → is_feed b ≡ false → lines_of (b ∷ text) ≡ onto_first b (lines_of text)
unfolding lines_of
line_other b text other = cond-false (is_feed b) ([] ∷ lines_of text) (onto_first b (lines_of text)) other

-- at a line feed the first line ends
abbrev EndsAt : ℕ → List ℕ → Type 0
EndsAt len text = lines_of text ≡ take len text ∷ lines_of (drop (suc len) text)

pub line_at : (text : List ℕ) (len : ℕ) → len ≡ position_or_len is_feed text → len < length text → EndsAt len text
line_at [] len is lt = absurd (omega arith)
line_at (b ∷ text) zero is lt = elim (cases_Bool (is_feed b)) [
  | inl feed ↦ line_feed b text feed
  | inr other ↦ let more = size_other b text other in absurd (omega (arith, is, more))
]
line_at (b ∷ text) (suc len) is lt = elim (cases_Bool (is_feed b)) [
  | inl feed ↦ let none = size_feed b text feed in absurd (omega (arith, is, none))
  | inr other ↦ let more = size_other b text other in line_other b text other ∙ ap (onto_first b) (line_at text len (omega (arith, is, more)) (omega (arith, lt)))
]

-- without one the text is its one line
pub line_whole : (text : List ℕ) → length text ≤ position_or_len is_feed text → lines_of text ≡ text ∷ []
unfolding lines_of
line_whole [] le = refl
line_whole (b ∷ text) le = elim (cases_Bool (is_feed b)) [
  | inl feed ↦ let none = size_feed b text feed in absurd (omega (arith, le, none))
  | inr other ↦ let more = size_other b text other in line_other b text other ∙ ap (onto_first b) (line_whole text (omega (arith, le, more)))
]

none_ahead : (orders : Orders) → orders ≡ with_orders [] orders
none_ahead (Ok more) = refl
none_ahead (Err at) = refl

one_ahead : (n : ℕ) (order : Order) (orders : Orders) → with_order n order orders ≡ with_orders ((n, order) ∷ []) orders
one_ahead n order (Ok more) = refl
one_ahead n order (Err at) = refl

abbrev these : List (ℕ × Order) → Orders
these orders = Ok orders

pub ahead_twice : (first second : List (ℕ × Order)) (orders : Orders) → with_orders first (with_orders second orders) ≡ with_orders (first ++ second) orders
ahead_twice first second (Ok more) = ap these (sym (append_assoc first second more))
ahead_twice first second (Err at) = refl

pub ends_at : (text : List ℕ) (len : ℕ) → len ≡ position_or_len is_feed text → len < length text
    → lines_of text ≡ take len text ∷ lines_of (take (length text - (len + 1)) (drop (len + 1) text))
ends_at text len is lt =
    let next : suc len ≡ len + 1 = omega arith in
    line_at text len is lt ∙ ap (λ (k : ℕ). take len text ∷ lines_of (drop k text)) next ∙ ap (λ (rest : List ℕ). take len text ∷ lines_of rest) (sym (take_rest text (len + 1)))

pub fault_ahead : (front : List (ℕ × Order)) (orders : Orders) (fault : ScriptFault) → IsFaultOf orders fault → IsFaultOf (with_orders front orders) fault
fault_ahead front orders (ScriptText at) is = ap (with_orders front) is
fault_ahead front orders NoMemory is = is

-- what is left begins with this line
pub left_with : (reserved : List ℕ → Bool) (all : Orders) (front : List (ℕ × Order)) (at n : ℕ) (rest : Option (List ℕ)) (text line : List ℕ) (more : Option (List ℕ))
    → all ≡ with_orders front (orders_from reserved at n (lines_left rest)) → rest ≡ Some text → lines_of text ≡ line ∷ lines_left more
    → all ≡ with_orders front (orders_from reserved at n (line ∷ lines_left more))
left_with reserved all front at n rest text line more told is split =
    told ∙ ap (λ (r : Option (List ℕ)). with_orders front (orders_from reserved at n (lines_left r))) is
    ∙ ap (λ (lines : List (List ℕ)). with_orders front (orders_from reserved at n lines)) split

-- nothing is left
pub left_none : (reserved : List ℕ → Bool) (all : Orders) (front : List (ℕ × Order)) (at n : ℕ)
    → all ≡ with_orders front (orders_from reserved at n []) → all ≡ Ok front
unfolding orders_from
left_none reserved all front at n told = told ∙ ap these (append-nil front)

module _ (reserved : List ℕ → Bool) (at n : ℕ) (line : List ℕ) (more : List (List ℕ)) where
  abbrev rest : Orders
  rest = orders_from reserved (at + length line + 1) (n + 1) more

  -- a line that is too long
  pub long_line : most_line < length line → orders_from reserved at n (line ∷ more) ≡ Err at
  unfolding orders_from
  long_line long = cond-true (ltb most_line (length line)) _ _ (lt-ltb _ _ long)

  -- and one that isn't
  short_line : length line ≤ most_line → orders_from reserved at n (line ∷ more) ≡ cond (is_skipped line) rest (with_line at n (order_of reserved line) rest)
  unfolding orders_from
  short_line short = cond-false (ltb most_line (length line)) _ _ (le-ltb _ _ short)

  pub skipped_line : length line ≤ most_line → is_skipped line ≡ true → orders_from reserved at n (line ∷ more) ≡ with_orders [] rest
  skipped_line short skipped = short_line short ∙ cond-true (is_skipped line) _ _ skipped ∙ none_ahead rest

  pub order_line : length line ≤ most_line → is_skipped line ≡ false → (order : Order) → order_of reserved line ≡ Some order
      → orders_from reserved at n (line ∷ more) ≡ with_orders ((n, order) ∷ []) rest
  order_line short asks order is =
      short_line short ∙ cond-false (is_skipped line) _ _ asks ∙ ap (λ (found : Option Order). with_line at n found rest) is ∙ one_ahead n order rest

  pub bad_line : length line ≤ most_line → is_skipped line ≡ false → order_of reserved line ≡ None → orders_from reserved at n (line ∷ more) ≡ Err at
  bad_line short asks is = short_line short ∙ cond-false (is_skipped line) _ _ asks ∙ ap (λ (found : Option Order). with_line at n found rest) is
