-- What the reader reads is in the grammar.
use Rattle.std.proofs.Common.{◌≡◌, ℕ, List, [], ◌∷◌, Bool, true, false, is_some, Option, Some, None, ◌⊎◌, inl, inr, refl, sym, subst}
use Rattle.std.specs.Prelude.{if◌then◌else◌}
use Rattle.cd_types.specs.declared.start.Day.{Day}
use Rattle.cd_types.specs.declared.start.Day.TheVariants.{Today}
use Rattle.cd_grammar.specs.declared.step.Clock.{Clock}
use Rattle.cd_grammar.specs.declared.token.Key.{Key}
use Rattle.cd_grammar.specs.declared.token.Sign.{Sign}
use Rattle.cd_grammar.specs.declared.token.Sign.TheVariants as sign
use Rattle.cd_grammar.specs.declared.token.Token.{Token}
use Rattle.cd_grammar.specs.declared.token.Token.TheVariants.{Word, Quoted, Mark}
use Rattle.cd_grammar.specs.Answers.{Answer, Fits, Outside, Wrong}
use Rattle.cd_grammar.specs.Starts.{day_in, clock_in, half_in, plain_time, half_time, named_time}
use Rattle.cd_grammar.specs.Tokens.{place_of}
use Rattle.cd_commands.specs.declared.kind.Kind.{Kind}
use Rattle.cd_commands.specs.declared.kind.Verb.{Verb}
use Rattle.cd_commands.specs.declared.kind.Lead.{Lead}
use Rattle.cd_commands.specs.declared.kind.Lead.TheVariants.{Alone, Two}
use Rattle.cd_commands.specs.declared.kind.Param.{Param}
use Rattle.cd_commands.specs.declared.kind.Param.TheVariants as param
use Rattle.cd_commands.specs.declared.given.Given.{Given}
use Rattle.cd_commands.specs.declared.given.Slot.{Slot}
use Rattle.cd_commands.specs.declared.given.Slot.TheVariants.{Set, Symbol}
use Rattle.cd_commands.specs.declared.command.Command.{Command}
use Rattle.cd_commands.specs.Words.{lead_in, kind_in, looks_ahead}
use Rattle.cd_commands.specs.Given.{nothing, slot_of, with_value, with_name, started, finished}
use Rattle.cd_commands.specs.Machine.{Said, Whole, Text, Leaves, State, Begin, Led, At, Named, Valued, Starting, Dated, Timing, Timed, Closing, Ended, Stops, Begins, moved, goes_if, fits_if, lead_state, begin_move, led_move, word_move, end_move, at_move, without, named_by, named_move, open_move, opening_move, close_move, closing_move, set_move, symbol_move, value_move, starting_by, starting_move, dated_by, dated_move, time_move, timing_move, half_move, timed_move, next, at_end, said}
use Rattle.cd_commands.specs.Grammar as grammar
use Rattle.cd_commands.specs.Grammar.{First, Params, Days, Times, IsNoEquals, Rest}

-- something was said that isn't left
abbrev pub IsGood : Said → Type 0
IsGood (Whole c) = Unit {0}
IsGood (Text given at rest) = Unit {0}
IsGood (Leaves at) = ⊥

bad : (at : ℕ) (x : Said) → Leaves at ≡ x → IsGood x → ⊥
bad at (Whole c) e good = cc
bad at (Text given at2 rest) e good = cc
bad at (Leaves at2) e good = good

abbrev IsTime : List ℕ → Option Clock → ℕ → Type 0
IsTime word (Some clock) seconds = (clock_in word ≡ Some clock) × (plain_time clock ≡ Fits seconds)
IsTime word None seconds = (clock_in word ≡ None) × (named_time word ≡ Fits seconds)

-- what it means that tokens from a state on say something, in the grammar: with the tokens that led to the state
abbrev pub Means : State → List Token → Said → Type 0
Means Begin ts x = Rest First ts x
Means (Led v) ts x = (at : ℕ) (key : Key) (word : List ℕ) → lead_in word ≡ Some (Two v) → Rest First (Word at key word ∷ ts) x
Means (At k given) ts x = Rest (Params k given) ts x
Means (Named k given at set) ts x = (key : Key) (word : List ℕ) → slot_of k given word ≡ set → Rest (Params k given) (Word at key word ∷ ts) x
Means (Valued k given slot) ts x = (at at2 : ℕ) (key : Key) (word : List ℕ) → slot_of k given word ≡ Some slot → Rest (Params k given) (Word at key word ∷ Mark at2 sign.Equals ∷ ts) x
Means (Starting k given) ts x = Rest (Days k given) ts x
Means (Dated k given day) ts x = (at : ℕ) (key : Key) (word : List ℕ) → day_in word ≡ Some day → Rest (Days k given) (Word at key word ∷ ts) x
Means (Timing k given day) ts x = Rest (Times k given day) ts x
Means (Timed k given day clock seconds) ts x = (at : ℕ) (key : Key) (word : List ℕ) → IsTime word clock seconds → Rest (Times k given day) (Word at key word ∷ ts) x
Means (Closing k given2) ts x =
    (given : Given) (day : Day) (seconds at at2 : ℕ) (key key2 : Key) (word word2 : List ℕ) (clock : Clock) (whole half : ℕ) → given2 ≡ started given day seconds
    → clock_in word ≡ Some clock → plain_time clock ≡ Fits whole → half_in word2 ≡ Some half → half_time clock half ≡ Fits seconds
    → Rest (Times k given day) (Word at key word ∷ Word at2 key2 word2 ∷ ts) x
Means (Ended c) ts x = (k : Kind) (given : Given) (at : ℕ) → finished k given ≡ Some c → Rest (Params k given) (Mark at sign.Semicolon ∷ ts) x

set_split : (p : Param) → (p ≡ param.Startt) ⊎ ((k : Kind) (given : Given) (t : Token) → set_move k given p t ≡ goes_if (place_of t) (with_value k given p t) (λ next. At k next))
unfolding set_move
set_split param.Startt = inl refl
set_split _ = inr (λ k given t. refl)

-- a word that begins a Process text
text_by : (k : Kind) (given : Given) (at : ℕ) (key : Key) (word : List ℕ) (ts : List Token) (f : State → Said) (x : Said) → IsGood x → looks_ahead k ≡ true → IsNoEquals ts
    → (n : Bool) → is_some given.file ≡ n → moved (if n then Stops at else Begins given at) ts f ≡ x → Rest (Params k given) (Word at key word ∷ ts) x
text_by k given at key word ts f x good looks other true n e = absurd (bad at x e good)
text_by k given at key word ts f x good looks other false n e = subst (λ (y : Said). Rest (Params k given) (Word at key word ∷ ts) y) e (grammar.text looks n other)

text_means : (k : Kind) (given : Given) (at at2 : ℕ) (key : Key) (word : List ℕ) (ts : List Token) (f : State → Said) (x : Said) → IsGood x → IsNoEquals ts
    → (b : Bool) → looks_ahead k ≡ b → moved (without b given at at2) ts f ≡ x → Rest (Params k given) (Word at key word ∷ ts) x
text_means k given at at2 key word ts f x good other false looks e = absurd (bad at2 x e good)
text_means k given at at2 key word ts f x good other true looks e = text_by k given at key word ts f x good looks other (is_some given.file) refl e

module _ (len : ℕ) (ts : List Token) (x : Said) (good : IsGood x) (ih : (s : State) → said len s ts ≡ x → Means s ts x) where
  abbrev more : State → Said
  more s = said len s ts

  lead_means : (at : ℕ) (key : Key) (word : List ℕ) (l : Option Lead) → lead_in word ≡ l → moved (goes_if at l lead_state) (Word at key word ∷ ts) more ≡ x → Rest First (Word at key word ∷ ts) x
  lead_means at key word None is e = absurd (bad at x e good)
  lead_means at key word (Some (Alone k)) is e = grammar.one_word is (ih (At k nothing) e)
  lead_means at key word (Some (Two v)) is e = ih (Led v) e at key word is

  begin_means : (t : Token) → moved (begin_move t) (t ∷ ts) more ≡ x → Rest First (t ∷ ts) x
  begin_means (Word at key word) e = lead_means at key word (lead_in word) refl e
  begin_means (Quoted at text) e = absurd (bad at x e good)
  begin_means (Mark at s) e = absurd (bad at x e good)

  kind_means : (v : Verb) (at : ℕ) (key : Key) (word : List ℕ) (k : Option Kind) → kind_in v word ≡ k → moved (goes_if at k (λ k. At k nothing)) (Word at key word ∷ ts) more ≡ x
      → Means (Led v) (Word at key word ∷ ts) x
  kind_means v at key word None is e = absurd (bad at x e good)
  kind_means v at key word (Some k) is e = λ at1 key1 word1 lead. grammar.two_words lead is (ih (At k nothing) e)

  led_means : (v : Verb) (t : Token) → moved (led_move v t) (t ∷ ts) more ≡ x → Means (Led v) (t ∷ ts) x
  led_means v (Word at key word) e = kind_means v at key word (kind_in v word) refl e
  led_means v (Quoted at text) e = absurd (bad at x e good)
  led_means v (Mark at s) e = absurd (bad at x e good)

  word_means : (k : Kind) (given : Given) (at : ℕ) (key : Key) (word : List ℕ) (b : Bool) (set : Option Slot) → slot_of k given word ≡ set
      → moved (word_move k given at b set) (Word at key word ∷ ts) more ≡ x → Rest (Params k given) (Word at key word ∷ ts) x
  word_means k given at key word true set is e = ih (Named k given at set) e key word is
  word_means k given at key word false None is e = absurd (bad at x e good)
  word_means k given at key word false (Some s) is e = ih (Named k given at (Some s)) e key word is

  finish_means : (k : Kind) (given : Given) (at : ℕ) (c : Option Command) → finished k given ≡ c → moved (goes_if at c Ended) (Mark at sign.Semicolon ∷ ts) more ≡ x
      → Rest (Params k given) (Mark at sign.Semicolon ∷ ts) x
  finish_means k given at None is e = absurd (bad at x e good)
  finish_means k given at (Some c) is e = ih (Ended c) e k given at is

  end_means : (k : Kind) (given : Given) (at : ℕ) (s : Sign) → moved (end_move k given at s) (Mark at s ∷ ts) more ≡ x → Rest (Params k given) (Mark at s ∷ ts) x
  end_means k given at sign.Semicolon e = finish_means k given at (finished k given) refl e
  end_means k given at _ e = absurd (bad at x e good)

  at_means : (k : Kind) (given : Given) (t : Token) → moved (at_move k given t) (t ∷ ts) more ≡ x → Rest (Params k given) (t ∷ ts) x
  at_means k given (Word at key word) e = word_means k given at key word (looks_ahead k) (slot_of k given word) refl e
  at_means k given (Quoted at text) e = absurd (bad at x e good)
  at_means k given (Mark at s) e = end_means k given at s e

  set_means : (k : Kind) (given : Given) (at at2 : ℕ) (set : Option Slot) → moved (goes_if at set (λ s. Valued k given s)) (Mark at2 sign.Equals ∷ ts) more ≡ x
      → Means (Named k given at set) (Mark at2 sign.Equals ∷ ts) x
  set_means k given at at2 None e = absurd (bad at x e good)
  set_means k given at at2 (Some s) e = λ key word is. ih (Valued k given s) e at at2 key word is

  sign_means : (k : Kind) (given : Given) (at at2 : ℕ) (set : Option Slot) (s : Sign) → moved (named_by k given at set at2 s) (Mark at2 s ∷ ts) more ≡ x
      → Means (Named k given at set) (Mark at2 s ∷ ts) x
  sign_means k given at at2 set sign.Equals e = set_means k given at at2 set e
  sign_means k given at at2 set sign.Open e = λ key word is. text_means k given at at2 key word (Mark at2 sign.Open ∷ ts) more x good refl (looks_ahead k) refl e
  sign_means k given at at2 set sign.Close e = λ key word is. text_means k given at at2 key word (Mark at2 sign.Close ∷ ts) more x good refl (looks_ahead k) refl e
  sign_means k given at at2 set sign.Same e = λ key word is. text_means k given at at2 key word (Mark at2 sign.Same ∷ ts) more x good refl (looks_ahead k) refl e
  sign_means k given at at2 set sign.Comma e = λ key word is. text_means k given at at2 key word (Mark at2 sign.Comma ∷ ts) more x good refl (looks_ahead k) refl e
  sign_means k given at at2 set sign.Semicolon e = λ key word is. text_means k given at at2 key word (Mark at2 sign.Semicolon ∷ ts) more x good refl (looks_ahead k) refl e
  sign_means k given at at2 set sign.Less e = λ key word is. text_means k given at at2 key word (Mark at2 sign.Less ∷ ts) more x good refl (looks_ahead k) refl e
  sign_means k given at at2 set sign.Greater e = λ key word is. text_means k given at at2 key word (Mark at2 sign.Greater ∷ ts) more x good refl (looks_ahead k) refl e
  sign_means k given at at2 set sign.AtMost e = λ key word is. text_means k given at at2 key word (Mark at2 sign.AtMost ∷ ts) more x good refl (looks_ahead k) refl e
  sign_means k given at at2 set sign.AtLeast e = λ key word is. text_means k given at at2 key word (Mark at2 sign.AtLeast ∷ ts) more x good refl (looks_ahead k) refl e
  sign_means k given at at2 set sign.Unequal e = λ key word is. text_means k given at at2 key word (Mark at2 sign.Unequal ∷ ts) more x good refl (looks_ahead k) refl e

  named_means : (k : Kind) (given : Given) (at : ℕ) (set : Option Slot) (t : Token) → moved (named_move k given at set t) (t ∷ ts) more ≡ x → Means (Named k given at set) (t ∷ ts) x
  named_means k given at set (Word at2 key2 word2) e = λ key word is. text_means k given at at2 key word (Word at2 key2 word2 ∷ ts) more x good refl (looks_ahead k) refl e
  named_means k given at set (Quoted at2 text) e = λ key word is. text_means k given at at2 key word (Quoted at2 text ∷ ts) more x good refl (looks_ahead k) refl e
  named_means k given at set (Mark at2 s) e = sign_means k given at at2 set s e

  opening_by : (k : Kind) (given : Given) (at3 : ℕ) (s : Sign) → moved (open_move at3 s (Starting k given)) (Mark at3 s ∷ ts) more ≡ x
      → Means (Valued k given (Set param.Startt)) (Mark at3 s ∷ ts) x
  opening_by k given at3 sign.Open e = λ at at2 key word is. grammar.startt is (ih (Starting k given) e)
  opening_by k given at3 _ e = absurd (bad at3 x e good)

  opening_means : (k : Kind) (given : Given) (t : Token) → moved (opening_move (Starting k given) t) (t ∷ ts) more ≡ x → Means (Valued k given (Set param.Startt)) (t ∷ ts) x
  opening_means k given (Word at key word) e = absurd (bad at x e good)
  opening_means k given (Quoted at text) e = absurd (bad at x e good)
  opening_means k given (Mark at s) e = opening_by k given at s e

  value_by : (k : Kind) (given : Given) (p : Param) (t : Token) (v : Option Given) → with_value k given p t ≡ v → moved (goes_if (place_of t) v (λ next. At k next)) (t ∷ ts) more ≡ x
      → Means (Valued k given (Set p)) (t ∷ ts) x
  value_by k given p t None is e = absurd (bad (place_of t) x e good)
  value_by k given p t (Some next) is e = λ at at2 key word set. grammar.param set is (ih (At k next) e)

  param_by : (k : Kind) (given : Given) (p : Param) (t : Token)
      → (p ≡ param.Startt) ⊎ ((k : Kind) (given : Given) (t : Token) → set_move k given p t ≡ goes_if (place_of t) (with_value k given p t) (λ next. At k next))
      → moved (set_move k given p t) (t ∷ ts) more ≡ x → Means (Valued k given (Set p)) (t ∷ ts) x
  unfolding set_move
  param_by k given p t (inl start) e =
      subst (λ (q : Param). moved (set_move k given q t) (t ∷ ts) more ≡ x → Means (Valued k given (Set q)) (t ∷ ts) x) (sym start) (λ e2. opening_means k given t e2) e
  param_by k given p t (inr other) e = value_by k given p t (with_value k given p t) refl (rw (other k given t) at e)

  symbol_means : (k : Kind) (given : Given) (name : List ℕ) (t : Token) → moved (symbol_move k given name t) (t ∷ ts) more ≡ x → Means (Valued k given (Symbol name)) (t ∷ ts) x
  symbol_means k given name (Word at3 key3 text) e = λ at at2 key word set. grammar.symbol set refl (ih (At k (with_name given name text)) e)
  symbol_means k given name (Quoted at3 text) e = λ at at2 key word set. grammar.symbol set refl (ih (At k (with_name given name text)) e)
  symbol_means k given name (Mark at3 s) e = absurd (bad at3 x e good)

  value_means : (k : Kind) (given : Given) (slot : Slot) (t : Token) → moved (value_move k given slot t) (t ∷ ts) more ≡ x → Means (Valued k given slot) (t ∷ ts) x
  value_means k given (Set p) t e = param_by k given p t (set_split p) e
  value_means k given (Symbol name) t e = symbol_means k given name t e

  day_means : (k : Kind) (given : Given) (at : ℕ) (key : Key) (word : List ℕ) (day : Option Day) → day_in word ≡ day
      → moved (goes_if at day (λ day. Dated k given day)) (Word at key word ∷ ts) more ≡ x → Rest (Days k given) (Word at key word ∷ ts) x
  day_means k given at key word None is e = absurd (bad at x e good)
  day_means k given at key word (Some day) is e = ih (Dated k given day) e at key word is

  starting_sign : (k : Kind) (given : Given) (at : ℕ) (s : Sign) → moved (starting_by k given at s) (Mark at s ∷ ts) more ≡ x → Rest (Days k given) (Mark at s ∷ ts) x
  starting_sign k given at sign.Comma e = grammar.today_at (ih (Timing k given Today) e)
  starting_sign k given at _ e = absurd (bad at x e good)

  starting_means : (k : Kind) (given : Given) (t : Token) → moved (starting_move k given t) (t ∷ ts) more ≡ x → Rest (Days k given) (t ∷ ts) x
  starting_means k given (Word at key word) e = day_means k given at key word (day_in word) refl e
  starting_means k given (Quoted at text) e = absurd (bad at x e good)
  starting_means k given (Mark at s) e = starting_sign k given at s e

  dated_sign : (k : Kind) (given : Given) (day : Day) (at2 : ℕ) (s : Sign) → moved (dated_by k given day at2 s) (Mark at2 s ∷ ts) more ≡ x → Means (Dated k given day) (Mark at2 s ∷ ts) x
  dated_sign k given day at2 sign.Close e = λ at key word is. grammar.on_day is (ih (At k (started given day 0)) e)
  dated_sign k given day at2 sign.Comma e = λ at key word is. grammar.on_day_at is (ih (Timing k given day) e)
  dated_sign k given day at2 _ e = absurd (bad at2 x e good)

  dated_means : (k : Kind) (given : Given) (day : Day) (t : Token) → moved (dated_move k given day t) (t ∷ ts) more ≡ x → Means (Dated k given day) (t ∷ ts) x
  dated_means k given day (Word at key word) e = absurd (bad at x e good)
  dated_means k given day (Quoted at text) e = absurd (bad at x e good)
  dated_means k given day (Mark at s) e = dated_sign k given day at s e

  plain_means : (k : Kind) (given : Given) (day : Day) (at : ℕ) (key : Key) (word : List ℕ) (clock : Clock) (time : Answer ℕ) → clock_in word ≡ Some clock → plain_time clock ≡ time
      → moved (fits_if at time (λ seconds. Timed k given day (Some clock) seconds)) (Word at key word ∷ ts) more ≡ x → Rest (Times k given day) (Word at key word ∷ ts) x
  plain_means k given day at key word clock (Fits seconds) is plain e = ih (Timed k given day (Some clock) seconds) e at key word (is, plain)
  plain_means k given day at key word clock (Outside seconds) is plain e = absurd (bad at x e good)
  plain_means k given day at key word clock Wrong is plain e = absurd (bad at x e good)

  name_means : (k : Kind) (given : Given) (day : Day) (at : ℕ) (key : Key) (word : List ℕ) (time : Answer ℕ) → clock_in word ≡ None → named_time word ≡ time
      → moved (fits_if at time (λ seconds. Timed k given day None seconds)) (Word at key word ∷ ts) more ≡ x → Rest (Times k given day) (Word at key word ∷ ts) x
  name_means k given day at key word (Fits seconds) is named e = ih (Timed k given day None seconds) e at key word (is, named)
  name_means k given day at key word (Outside seconds) is named e = absurd (bad at x e good)
  name_means k given day at key word Wrong is named e = absurd (bad at x e good)

  time_means : (k : Kind) (given : Given) (day : Day) (at : ℕ) (key : Key) (word : List ℕ) (clock : Option Clock) → clock_in word ≡ clock
      → moved (time_move k given day at word clock) (Word at key word ∷ ts) more ≡ x → Rest (Times k given day) (Word at key word ∷ ts) x
  time_means k given day at key word (Some clock) is e = plain_means k given day at key word clock (plain_time clock) is refl e
  time_means k given day at key word None is e = name_means k given day at key word (named_time word) is refl e

  timing_means : (k : Kind) (given : Given) (day : Day) (t : Token) → moved (timing_move k given day t) (t ∷ ts) more ≡ x → Rest (Times k given day) (t ∷ ts) x
  timing_means k given day (Word at key word) e = time_means k given day at key word (clock_in word) refl e
  timing_means k given day (Quoted at text) e = absurd (bad at x e good)
  timing_means k given day (Mark at s) e = absurd (bad at x e good)

  closed_time : (k : Kind) (given : Given) (day : Day) (clock : Option Clock) (seconds at2 : ℕ) → Rest (Params k (started given day seconds)) ts x
      → Means (Timed k given day clock seconds) (Mark at2 sign.Close ∷ ts) x
  closed_time k given day (Some clock) seconds at2 rest = λ at key word time. grammar.timed time.0 time.1 rest
  closed_time k given day None seconds at2 rest = λ at key word time. grammar.timed_named time.0 time.1 rest

  timed_sign : (k : Kind) (given : Given) (day : Day) (clock : Option Clock) (seconds at2 : ℕ) (s : Sign)
      → moved (close_move at2 s (At k (started given day seconds))) (Mark at2 s ∷ ts) more ≡ x → Means (Timed k given day clock seconds) (Mark at2 s ∷ ts) x
  timed_sign k given day clock seconds at2 sign.Close e = closed_time k given day clock seconds at2 (ih (At k (started given day seconds)) e)
  timed_sign k given day clock seconds at2 _ e = absurd (bad at2 x e good)

  half_by : (k : Kind) (given : Given) (day : Day) (clock : Clock) (seconds at2 : ℕ) (key2 : Key) (word2 : List ℕ) (half : ℕ) (time : Answer ℕ) → half_in word2 ≡ Some half → half_time clock half ≡ time
      → moved (fits_if at2 time (λ s. Closing k (started given day s))) (Word at2 key2 word2 ∷ ts) more ≡ x → Means (Timed k given day (Some clock) seconds) (Word at2 key2 word2 ∷ ts) x
  half_by k given day clock seconds at2 key2 word2 half (Fits s) is time e =
      λ at key word plain. ih (Closing k (started given day s)) e given day s at at2 key key2 word word2 clock seconds half refl plain.0 plain.1 is time
  half_by k given day clock seconds at2 key2 word2 half (Outside s) is time e = absurd (bad at2 x e good)
  half_by k given day clock seconds at2 key2 word2 half Wrong is time e = absurd (bad at2 x e good)

  half_means : (k : Kind) (given : Given) (day : Day) (clock : Option Clock) (seconds at2 : ℕ) (key2 : Key) (word2 : List ℕ) (half : Option ℕ) → half_in word2 ≡ half
      → moved (half_move k given day at2 clock half) (Word at2 key2 word2 ∷ ts) more ≡ x → Means (Timed k given day clock seconds) (Word at2 key2 word2 ∷ ts) x
  half_means k given day None seconds at2 key2 word2 half is e = absurd (bad at2 x e good)
  half_means k given day (Some clock) seconds at2 key2 word2 None is e = absurd (bad at2 x e good)
  half_means k given day (Some clock) seconds at2 key2 word2 (Some half) is e = half_by k given day clock seconds at2 key2 word2 half (half_time clock half) is refl e

  timed_means : (k : Kind) (given : Given) (day : Day) (clock : Option Clock) (seconds : ℕ) (t : Token) → moved (timed_move k given day clock seconds t) (t ∷ ts) more ≡ x
      → Means (Timed k given day clock seconds) (t ∷ ts) x
  timed_means k given day clock seconds (Word at2 key2 word2) e = half_means k given day clock seconds at2 key2 word2 (half_in word2) refl e
  timed_means k given day clock seconds (Quoted at2 text) e = absurd (bad at2 x e good)
  timed_means k given day clock seconds (Mark at2 s) e = timed_sign k given day clock seconds at2 s e

  closing_sign : (k : Kind) (given2 : Given) (at3 : ℕ) (s : Sign) → moved (close_move at3 s (At k given2)) (Mark at3 s ∷ ts) more ≡ x → Means (Closing k given2) (Mark at3 s ∷ ts) x
  closing_sign k given2 at3 sign.Close e =
      λ given day seconds at at2 key key2 word word2 clock whole half same is plain h time.
      grammar.timed_half is plain h time (subst (λ (g : Given). Rest (Params k g) ts x) same (ih (At k given2) e))
  closing_sign k given2 at3 _ e = absurd (bad at3 x e good)

  closing_means : (k : Kind) (given2 : Given) (t : Token) → moved (closing_move (At k given2) t) (t ∷ ts) more ≡ x → Means (Closing k given2) (t ∷ ts) x
  closing_means k given2 (Word at key word) e = absurd (bad at x e good)
  closing_means k given2 (Quoted at text) e = absurd (bad at x e good)
  closing_means k given2 (Mark at s) e = closing_sign k given2 at s e

  step_means : (s : State) (t : Token) → moved (next s t) (t ∷ ts) more ≡ x → Means s (t ∷ ts) x
  unfolding next
  step_means Begin t e = begin_means t e
  step_means (Led v) t e = led_means v t e
  step_means (At k given) t e = at_means k given t e
  step_means (Named k given at set) t e = named_means k given at set t e
  step_means (Valued k given slot) t e = value_means k given slot t e
  step_means (Starting k given) t e = starting_means k given t e
  step_means (Dated k given day) t e = dated_means k given day t e
  step_means (Timing k given day) t e = timing_means k given day t e
  step_means (Timed k given day clock seconds) t e = timed_means k given day clock seconds t e
  step_means (Closing k given) t e = closing_means k given t e
  step_means (Ended c) t e = absurd (bad (place_of t) x e good)

end_state : (len : ℕ) (x : Said) → IsGood x → (s : State) → at_end len s ≡ x → Means s [] x
unfolding at_end
end_state len x good Begin e = absurd (bad len x e good)
end_state len x good (Led v) e = absurd (bad len x e good)
end_state len x good (At k given) e = absurd (bad len x e good)
end_state len x good (Named k given at set) e = λ key word is. text_means k given at len key word [] (λ s. Leaves len) x good tt (looks_ahead k) refl e
end_state len x good (Valued k given slot) e = absurd (bad len x e good)
end_state len x good (Starting k given) e = absurd (bad len x e good)
end_state len x good (Dated k given day) e = absurd (bad len x e good)
end_state len x good (Timing k given day) e = absurd (bad len x e good)
end_state len x good (Timed k given day clock seconds) e = absurd (bad len x e good)
end_state len x good (Closing k given) e = absurd (bad len x e good)
end_state len x good (Ended c) e = λ k given at is. subst (λ (y : Said). Rest (Params k given) (Mark at sign.Semicolon ∷ []) y) e (grammar.end is)

pub sound : (len : ℕ) (ts : List Token) (x : Said) → IsGood x → (s : State) → said len s ts ≡ x → Means s ts x
unfolding said
sound len [] x good s e = end_state len x good s e
sound len (t ∷ ts) x good s e = step_means len ts x good (sound len ts x good) s t e
