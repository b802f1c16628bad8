-- The grammar of commands, on tokens.
use Rattle.std.specs.Prelude.{◌≡◌, ℕ, List, [], ◌∷◌, true, false, is_some, Some, None}
use Rattle.cd_types.specs.declared.start.Day.{Day}
use Rattle.cd_types.specs.declared.start.Day.TheVariants.{Today}
use Rattle.cd_grammar.specs.declared.step.Clock.{Clock}
use Rattle.cd_grammar.specs.declared.token.Key.{Key}
use Rattle.cd_grammar.specs.declared.token.Sign.TheVariants as sign
use Rattle.cd_grammar.specs.declared.token.Token.{Token}
use Rattle.cd_grammar.specs.declared.token.Token.TheVariants.{Word, Mark}
use Rattle.cd_grammar.specs.Answers.{Fits}
use Rattle.cd_grammar.specs.Grammar.{text_of}
use Rattle.cd_grammar.specs.Starts.{day_in, clock_in, half_in, plain_time, half_time, named_time}
use Rattle.cd_commands.specs.declared.kind.Kind.{Kind}
use Rattle.cd_commands.specs.declared.kind.Verb.{Verb}
use Rattle.cd_commands.specs.declared.kind.Lead.TheVariants.{Alone, Two}
use Rattle.cd_commands.specs.declared.kind.Param.{Param}
use Rattle.cd_commands.specs.declared.kind.Param.TheVariants.{Startt}
use Rattle.cd_commands.specs.declared.given.Given.{Given}
use Rattle.cd_commands.specs.declared.given.Slot.TheVariants.{Set, Symbol}
use Rattle.cd_commands.specs.declared.command.Command.{Command}
use Rattle.cd_commands.specs.Words.{lead_in, kind_in, looks_ahead}
use Rattle.cd_commands.specs.Given.{nothing, slot_of, with_value, with_name, started, finished}
use Rattle.cd_commands.specs.Peeks.{equals}
use Rattle.cd_commands.specs.Machine.{Said, Whole, Text}

-- a place of the grammar
pub data Place : Type 0 where
  -- before the first word
  First : Place
  -- where a parameter or the end may stand
  Params : Kind → Given → Place
  -- in the parentheses of a start, before the day
  Days : Kind → Given → Place
  -- there before the time
  Times : Kind → Given → Day → Place

-- the next token, if there is one, isn't =
abbrev pub IsNoEquals : List Token → Type 0
IsNoEquals [] = Unit {0}
IsNoEquals (t ∷ ts) = equals t ≡ false

-- From a place these tokens say a command; or they are options, before a Process text. There is a constructor for each
-- alternative of the grammar.
pub data Rest : Place → List Token → Said → Type 0 where
  -- a command of one word
  one_word : {at : ℕ} {key : Key} {word : List ℕ} {k : Kind} {ts : List Token} {x : Said}
      → lead_in word ≡ Some (Alone k) → Rest (Params k nothing) ts x → Rest First (Word at key word ∷ ts) x
  -- a command of two words
  two_words : {at at2 : ℕ} {key key2 : Key} {word word2 : List ℕ} {v : Verb} {k : Kind} {ts : List Token} {x : Said}
      → lead_in word ≡ Some (Two v) → kind_in v word2 ≡ Some k → Rest (Params k nothing) ts x
      → Rest First (Word at key word ∷ Word at2 key2 word2 ∷ ts) x
  -- word=value
  param : {k : Kind} {given next : Given} {at at2 : ℕ} {key : Key} {word : List ℕ} {p : Param} {value : Token} {ts : List Token} {x : Said}
      → slot_of k given word ≡ Some (Set p) → with_value k given p value ≡ Some next → Rest (Params k next) ts x
      → Rest (Params k given) (Word at key word ∷ Mark at2 sign.Equals ∷ value ∷ ts) x
  -- &name=value
  symbol : {k : Kind} {given : Given} {at at2 : ℕ} {key : Key} {word name text : List ℕ} {value : Token} {ts : List Token} {x : Said}
      → slot_of k given word ≡ Some (Symbol name) → text_of value ≡ Some text → Rest (Params k (with_name given name text)) ts x
      → Rest (Params k given) (Word at key word ∷ Mark at2 sign.Equals ∷ value ∷ ts) x
  -- startt=(day), startt=(day,time), startt=(,time)
  startt : {k : Kind} {given : Given} {at at2 at3 : ℕ} {key : Key} {word : List ℕ} {ts : List Token} {x : Said}
      → slot_of k given word ≡ Some (Set Startt) → Rest (Days k given) ts x
      → Rest (Params k given) (Word at key word ∷ Mark at2 sign.Equals ∷ Mark at3 sign.Open ∷ ts) x
  on_day : {k : Kind} {given : Given} {at at2 : ℕ} {key : Key} {word : List ℕ} {day : Day} {ts : List Token} {x : Said}
      → day_in word ≡ Some day → Rest (Params k (started given day 0)) ts x → Rest (Days k given) (Word at key word ∷ Mark at2 sign.Close ∷ ts) x
  on_day_at : {k : Kind} {given : Given} {at at2 : ℕ} {key : Key} {word : List ℕ} {day : Day} {ts : List Token} {x : Said}
      → day_in word ≡ Some day → Rest (Times k given day) ts x → Rest (Days k given) (Word at key word ∷ Mark at2 sign.Comma ∷ ts) x
  today_at : {k : Kind} {given : Given} {at : ℕ} {ts : List Token} {x : Said}
      → Rest (Times k given Today) ts x → Rest (Days k given) (Mark at sign.Comma ∷ ts) x
  -- a time of 24 hours, one with its half of the day in the same word or with a name, and one with its half as the next word
  timed : {k : Kind} {given : Given} {day : Day} {at at2 seconds : ℕ} {key : Key} {word : List ℕ} {clock : Clock} {ts : List Token} {x : Said}
      → clock_in word ≡ Some clock → plain_time clock ≡ Fits seconds → Rest (Params k (started given day seconds)) ts x
      → Rest (Times k given day) (Word at key word ∷ Mark at2 sign.Close ∷ ts) x
  timed_named : {k : Kind} {given : Given} {day : Day} {at at2 seconds : ℕ} {key : Key} {word : List ℕ} {ts : List Token} {x : Said}
      → clock_in word ≡ None → named_time word ≡ Fits seconds → Rest (Params k (started given day seconds)) ts x
      → Rest (Times k given day) (Word at key word ∷ Mark at2 sign.Close ∷ ts) x
  timed_half : {k : Kind} {given : Given} {day : Day} {at at2 at3 whole half seconds : ℕ} {key key2 : Key} {word word2 : List ℕ} {clock : Clock} {ts : List Token} {x : Said}
      → clock_in word ≡ Some clock → plain_time clock ≡ Fits whole → half_in word2 ≡ Some half → half_time clock half ≡ Fits seconds
      → Rest (Params k (started given day seconds)) ts x
      → Rest (Times k given day) (Word at key word ∷ Word at2 key2 word2 ∷ Mark at3 sign.Close ∷ ts) x
  -- ; and nothing behind it
  end : {k : Kind} {given : Given} {at : ℕ} {c : Command}
      → finished k given ≡ Some c → Rest (Params k given) (Mark at sign.Semicolon ∷ []) (Whole c)
  -- the first word of a Process text
  text : {k : Kind} {given : Given} {at : ℕ} {key : Key} {word : List ℕ} {ts : List Token}
      → looks_ahead k ≡ true → is_some given.file ≡ false → IsNoEquals ts → Rest (Params k given) (Word at key word ∷ ts) (Text given at ts)
