-- What the reader of a command does with one token after the other.
use Rattle.std.specs.Prelude.{ℕ, List, [], ◌∷◌, Bool, true, false, if◌then◌else◌, is_some, Option, Some, None}
use Rattle.cd_types.specs.declared.start.Day.{Day}
use Rattle.cd_types.specs.declared.start.Day.TheVariants.{Today}
use Rattle.cd_grammar.specs.declared.step.Clock.{Clock}
use Rattle.cd_grammar.specs.declared.token.Sign.{Sign}
use Rattle.cd_grammar.specs.declared.token.Sign.TheVariants as sign
use Rattle.cd_grammar.specs.declared.token.Token.{Token}
use Rattle.cd_grammar.specs.declared.token.Token.TheVariants.{Word, Quoted, Mark}
use Rattle.cd_grammar.specs.Answers.{Answer, Fits, Outside, Wrong}
use Rattle.cd_grammar.specs.Tokens.{place_of}
use Rattle.cd_grammar.specs.Starts.{day_in, clock_in, half_in, plain_time, half_time, named_time}
use Rattle.cd_commands.specs.declared.kind.Kind.{Kind}
use Rattle.cd_commands.specs.declared.kind.Verb.{Verb}
use Rattle.cd_commands.specs.declared.kind.Lead.{Lead}
use Rattle.cd_commands.specs.declared.kind.Lead.TheVariants.{Alone, Two}
use Rattle.cd_commands.specs.declared.kind.Param.{Param}
use Rattle.cd_commands.specs.declared.kind.Param.TheVariants as param
use Rattle.cd_commands.specs.declared.given.Given.{Given}
use Rattle.cd_commands.specs.declared.given.Slot.{Slot}
use Rattle.cd_commands.specs.declared.given.Slot.TheVariants.{Set, Symbol}
use Rattle.cd_commands.specs.declared.command.Command.{Command}
use Rattle.cd_commands.specs.Words.{lead_in, kind_in, looks_ahead}
use Rattle.cd_commands.specs.Given.{nothing, slot_of, with_value, with_name, started, finished}

-- what tokens say: a whole command, options before a Process text that begins at a place, with the tokens behind its first
-- word, or a place where they are no command
pub data Said : Type 0 where
  Whole : Command → Said
  Text : Given → ℕ → List Token → Said
  Leaves : ℕ → Said

-- where the reader stands
pub data State : Type 0 where
  -- before the first word
  Begin : State
  -- behind the first of two words
  Led : Verb → State
  -- where a parameter or the end may stand
  At : Kind → Given → State
  -- behind a word at this place, which sets this
  Named : Kind → Given → ℕ → Option Slot → State
  -- behind its =
  Valued : Kind → Given → Slot → State
  -- in the parentheses of a start, before the day, behind it, before the time, and behind it: the time as it is written, where
  -- AM or PM may follow
  Starting : Kind → Given → State
  Dated : Kind → Given → Day → State
  Timing : Kind → Given → Day → State
  Timed : Kind → Given → Day → Option Clock → ℕ → State
  -- before the parenthesis that closes a start
  Closing : Kind → Given → State
  -- behind the ; of a command
  Ended : Command → State

-- what a token makes of it: it goes on, it is left at a place, or a Process text began with the word before
pub data Move : Type 0 where
  Goes : State → Move
  Stops : ℕ → Move
  Begins : Given → ℕ → Move

abbrev pub goes_if : {A : Type 0} → ℕ → Option A → (A → State) → Move
goes_if at (Some x) f = Goes (f x)
goes_if at None f = Stops at

abbrev pub fits_if : {A : Type 0} → ℕ → Answer A → (A → State) → Move
fits_if at (Fits x) f = Goes (f x)
fits_if at (Outside x) f = Stops at
fits_if at Wrong f = Stops at

abbrev pub lead_state : Lead → State
lead_state (Alone k) = At k nothing
lead_state (Two v) = Led v

abbrev pub begin_move : Token → Move
begin_move (Word at key word) = goes_if at (lead_in word) lead_state
begin_move (Quoted at text) = Stops at
begin_move (Mark at s) = Stops at

abbrev pub led_move : Verb → Token → Move
led_move v (Word at key word) = goes_if at (kind_in v word) (λ k. At k nothing)
led_move v (Quoted at text) = Stops at
led_move v (Mark at s) = Stops at

-- a word where a parameter may stand
abbrev pub word_move : Kind → Given → ℕ → Bool → Option Slot → Move
word_move k given at true set = Goes (Named k given at set)
word_move k given at false None = Stops at
word_move k given at false (Some set) = Goes (Named k given at (Some set))

abbrev pub end_move : Kind → Given → ℕ → Sign → Move
end_move k given at sign.Semicolon = goes_if at (finished k given) Ended
end_move k given at _ = Stops at

abbrev pub at_move : Kind → Given → Token → Move
at_move k given (Word at key word) = word_move k given at (looks_ahead k) (slot_of k given word)
at_move k given (Quoted at text) = Stops at
at_move k given (Mark at s) = end_move k given at s

-- something else than = behind a word, at the second place: the word begins a Process text, where there may be one; behind a
-- file's name there is none
abbrev pub without : Bool → Given → ℕ → ℕ → Move
without false given at at2 = Stops at2
without true given at at2 = if is_some given.file then Stops at else Begins given at

abbrev pub named_by : Kind → Given → ℕ → Option Slot → ℕ → Sign → Move
named_by k given at set at2 sign.Equals = goes_if at set (λ s. Valued k given s)
named_by k given at set at2 _ = without (looks_ahead k) given at at2

abbrev pub named_move : Kind → Given → ℕ → Option Slot → Token → Move
named_move k given at set (Word at2 key word) = without (looks_ahead k) given at at2
named_move k given at set (Quoted at2 text) = without (looks_ahead k) given at at2
named_move k given at set (Mark at2 s) = named_by k given at set at2 s

-- the signs ( and )
abbrev pub open_move : ℕ → Sign → State → Move
open_move at sign.Open s = Goes s
open_move at _ s = Stops at

abbrev pub close_move : ℕ → Sign → State → Move
close_move at sign.Close s = Goes s
close_move at _ s = Stops at

abbrev pub opening_move : State → Token → Move
opening_move s (Word at key word) = Stops at
opening_move s (Quoted at text) = Stops at
opening_move s (Mark at g) = open_move at g s

abbrev pub closing_move : State → Token → Move
closing_move s (Word at key word) = Stops at
closing_move s (Quoted at text) = Stops at
closing_move s (Mark at g) = close_move at g s

-- the value of a parameter: for a start the parenthesis that opens it
unfoldable pub set_move : Kind → Given → Param → Token → Move
set_move k given param.Startt t = opening_move (Starting k given) t
set_move k given p t = goes_if (place_of t) (with_value k given p t) (λ next. At k next)

abbrev pub symbol_move : Kind → Given → List ℕ → Token → Move
symbol_move k given name (Word at key word) = Goes (At k (with_name given name word))
symbol_move k given name (Quoted at text) = Goes (At k (with_name given name text))
symbol_move k given name (Mark at s) = Stops at

abbrev pub value_move : Kind → Given → Slot → Token → Move
value_move k given (Set p) t = set_move k given p t
value_move k given (Symbol name) t = symbol_move k given name t

abbrev pub starting_by : Kind → Given → ℕ → Sign → Move
starting_by k given at sign.Comma = Goes (Timing k given Today)
starting_by k given at _ = Stops at

abbrev pub starting_move : Kind → Given → Token → Move
starting_move k given (Word at key word) = goes_if at (day_in word) (λ day. Dated k given day)
starting_move k given (Quoted at text) = Stops at
starting_move k given (Mark at s) = starting_by k given at s

abbrev pub dated_by : Kind → Given → Day → ℕ → Sign → Move
dated_by k given day at sign.Close = Goes (At k (started given day 0))
dated_by k given day at sign.Comma = Goes (Timing k given day)
dated_by k given day at _ = Stops at

abbrev pub dated_move : Kind → Given → Day → Token → Move
dated_move k given day (Word at key word) = Stops at
dated_move k given day (Quoted at text) = Stops at
dated_move k given day (Mark at s) = dated_by k given day at s

-- a time as it is written is one of 24 hours; else it has its half in the same word, or is a name
abbrev pub time_move : Kind → Given → Day → ℕ → List ℕ → Option Clock → Move
time_move k given day at word (Some clock) = fits_if at (plain_time clock) (λ seconds. Timed k given day (Some clock) seconds)
time_move k given day at word None = fits_if at (named_time word) (λ seconds. Timed k given day None seconds)

abbrev pub timing_move : Kind → Given → Day → Token → Move
timing_move k given day (Word at key word) = time_move k given day at word (clock_in word)
timing_move k given day (Quoted at text) = Stops at
timing_move k given day (Mark at s) = Stops at

-- AM or PM as the next word
abbrev pub half_move : Kind → Given → Day → ℕ → Option Clock → Option ℕ → Move
half_move k given day at None half = Stops at
half_move k given day at (Some clock) None = Stops at
half_move k given day at (Some clock) (Some half) = fits_if at (half_time clock half) (λ seconds. Closing k (started given day seconds))

abbrev pub timed_move : Kind → Given → Day → Option Clock → ℕ → Token → Move
timed_move k given day clock seconds (Word at key word) = half_move k given day at clock (half_in word)
timed_move k given day clock seconds (Quoted at text) = Stops at
timed_move k given day clock seconds (Mark at s) = close_move at s (At k (started given day seconds))

-- one token
unfoldable pub next : State → Token → Move
next Begin t = begin_move t
next (Led v) t = led_move v t
next (At k given) t = at_move k given t
next (Named k given at set) t = named_move k given at set t
next (Valued k given set) t = value_move k given set t
next (Starting k given) t = starting_move k given t
next (Dated k given day) t = dated_move k given day t
next (Timing k given day) t = timing_move k given day t
next (Timed k given day clock seconds) t = timed_move k given day clock seconds t
next (Closing k given) t = closing_move (At k given) t
next (Ended c) t = Stops (place_of t)

-- what a move says, before these tokens, where it doesn't go on
abbrev pub moved : Move → List Token → (State → Said) → Said
moved (Goes s) tokens more = more s
moved (Stops at) tokens more = Leaves at
moved (Begins given at) tokens more = Text given at tokens

-- what is said at the end of a text of this length
unfoldable pub at_end : ℕ → State → Said
at_end len (Named k given at set) = moved (without (looks_ahead k) given at len) [] (λ s. Leaves len)
at_end len (Ended c) = Whole c
at_end len _ = Leaves len

-- one token after the other
unfoldable pub said : ℕ → State → List Token → Said
said len s [] = at_end len s
said len s (t ∷ ts) = moved (next s t) (t ∷ ts) (λ s2. said len s2 ts)
