-- The grammar, on tokens.
use Rattle.std.specs.Prelude.{◌≡◌, ℕ, List, [], ◌∷◌, Bool, true, false, is_some, Option, Some, None, Ok}
use Rattle.cd_types.specs.Symbols.{upper_case}
use Rattle.cd_types.specs.declared.choices.Relation.{Relation}
use Rattle.cd_types.specs.declared.choices.Relation.TheVariants as relation
use Rattle.cd_types.specs.declared.choices.Side.{Side}
use Rattle.cd_types.specs.declared.start.Day.{Day}
use Rattle.cd_types.specs.declared.start.Day.TheVariants.{Today}
use Rattle.cd_ast.specs.declared.process.What.TheVariants as what
use Rattle.cd_grammar.specs.declared.token.Key.{Key}
use Rattle.cd_grammar.specs.declared.token.Key.TheVariants as key
use Rattle.cd_grammar.specs.declared.token.Sign.{Sign}
use Rattle.cd_grammar.specs.declared.token.Sign.TheVariants as sign
use Rattle.cd_grammar.specs.declared.token.Token.{Token}
use Rattle.cd_grammar.specs.declared.token.Token.TheVariants.{Word, Quoted, Mark}
use Rattle.cd_grammar.specs.declared.given.Given.{Given}
use Rattle.cd_grammar.specs.declared.given.Slot.{Slot}
use Rattle.cd_grammar.specs.declared.mark.Sketch.TheVariants as sketch
use Rattle.cd_grammar.specs.declared.step.Begun.{Begun}
use Rattle.cd_grammar.specs.declared.step.Work.{Work}
use Rattle.cd_grammar.specs.declared.step.Work.TheVariants as work
use Rattle.cd_grammar.specs.declared.step.End.{End}
use Rattle.cd_grammar.specs.declared.step.End.TheVariants as ends
use Rattle.cd_grammar.specs.declared.step.CopyGiven.{CopyGiven}
use Rattle.cd_grammar.specs.declared.step.Step.{Step}
use Rattle.cd_grammar.specs.declared.step.Step.TheVariants.{Head, Between, Copy, Group, Run, RunGroup, Submit}
use Rattle.cd_grammar.specs.Answers.{Answer, Strictness, taken, wanted}
use Rattle.cd_grammar.specs.Values.{label_in, front_label_in, symbol_in, number_in, relation_in}
use Rattle.cd_grammar.specs.declared.step.Clock.{Clock}
use Rattle.cd_grammar.specs.Tokens.{place_of}
use Rattle.cd_grammar.specs.Starts.{day_in, clock_in, half_in, plain_time, half_time, time_in}
use Rattle.cd_grammar.specs.Given.{nothing, has, with_value, with_list, takes_list, takes_parentheses, side_of}
use Rattle.cd_grammar.specs.Reading.{Reading, named, stored, ended, given_of, with_given, slot_of, takes_side, takes_symbols, with_name, bare_copy, end_of, with_end, has_room, has_depth}

-- a place of the grammar
pub data Place : Type 0 where
  -- the text's begin
  Start : Place
  -- where a parameter may stand, and, where nothing is missing, the next statement
  At : Reading → Step → Place
  -- behind a statement's label
  Labelled : Reading → ℕ → List ℕ → Place
  -- in a list of values, behind which goes the step
  Values : Reading → Step → Place
  -- in a list of pairs of COMPRESS, behind which goes the step
  Pairs : Reading → Step → Place
  -- in the parentheses of STARTT, before the day
  Starting : Reading → Given → Place
  -- there before the time
  Timing : Reading → Given → Day → Place

abbrev pub before_it : Option (ℕ × List ℕ) → Option Reading → Option (Option (ℕ × List ℕ) × Reading)
before_it named None = None
before_it named (Some before) = Some (named, before)

-- the label of the statement that may begin at a place, if there is one, and the reading before the statement
abbrev pub opening : Place → Option (Option (ℕ × List ℕ) × Reading)
opening Start = None
opening (At r step) = before_it None (ended r step)
opening (Labelled r at label) = Some (Some (at, label), r)
opening (Values r step) = None
opening (Pairs r step) = None
opening (Starting r given) = None
opening (Timing r given day) = None

abbrev pub started : Given → Day → ℕ → Given
started given day seconds = record given { start = Some (record { day = day; seconds = seconds }) }

abbrev pub begun_at : Option (ℕ × List ℕ) → ℕ → Begun
begun_at label at = record { label = label; at = at }

-- the relation that a token names
unfoldable pub relation_of : Token → Option Relation
relation_of (Word at k word) = relation_in word
relation_of (Quoted at text) = None
relation_of (Mark at sign.Equals) = Some relation.Eq
relation_of (Mark at sign.Same) = Some relation.Eq
relation_of (Mark at sign.Unequal) = Some relation.Ne
relation_of (Mark at sign.AtLeast) = Some relation.Ge
relation_of (Mark at sign.Greater) = Some relation.Gt
relation_of (Mark at sign.AtMost) = Some relation.Le
relation_of (Mark at sign.Less) = Some relation.Lt
relation_of (Mark at sign.Open) = None
relation_of (Mark at sign.Close) = None
relation_of (Mark at sign.Comma) = None
relation_of (Mark at sign.Semicolon) = None

-- the value that a token is
abbrev pub text_of : Token → Option (List ℕ)
text_of (Word at k word) = Some word
text_of (Quoted at text) = Some text
text_of (Mark at s) = None

-- what a RUN runs
unfoldable pub work_of : Key → Option Work
work_of key.Task = Some work.Task
work_of key.Job = Some work.Job
work_of _ = None

-- the end of a copy that a word names
unfoldable pub end_in : Key → Option End
end_in key.From = Some ends.From
end_in key.To = Some ends.To
end_in _ = None

-- From a place these tokens, and no others behind them, make up a text with this reading. There is a constructor for each
-- alternative of the grammar.
pub data Rest (how : Strictness) : Place → List Token → Reading → Type 0 where
  -- NAME PROCESS
  process : {at at2 : ℕ} {k : Key} {word word2 name : List ℕ} {ts : List Token} {all : Reading}
      → taken (how.ranges at) (label_in k word) ≡ Ok name → Rest how (At (named name) (Head nothing)) ts all
      → Rest how Start (Word at k word ∷ Word at2 key.Process word2 ∷ ts) all
  -- KEY=value
  param : {r all : Reading} {step : Step} {at at2 : ℕ} {k : Key} {word : List ℕ} {set : Slot} {value : Token} {next : Given} {ts : List Token}
      → slot_of step k ≡ Some set → has (given_of step) set ≡ false → taken (how.ranges (place_of value)) (with_value (given_of step) set at value) ≡ Ok next
      → Rest how (At r (with_given step next)) ts all
      → Rest how (At r step) (Word at k word ∷ Mark at2 sign.Equals ∷ value ∷ ts) all
  -- KEY=(value), for DISP
  in_parentheses : {r all : Reading} {step : Step} {at at2 at3 at4 : ℕ} {k : Key} {word : List ℕ} {set : Slot} {value : Token} {next : Given} {ts : List Token}
      → slot_of step k ≡ Some set → has (given_of step) set ≡ false → takes_parentheses set ≡ true
      → taken (how.ranges (place_of value)) (with_value (given_of step) set at value) ≡ Ok next → Rest how (At r (with_given step next)) ts all
      → Rest how (At r step) (Word at k word ∷ Mark at2 sign.Equals ∷ Mark at3 sign.Open ∷ value ∷ Mark at4 sign.Close ∷ ts) all
  -- KEY=(values), for the parameters without effect
  list : {r all : Reading} {step : Step} {at at2 at3 : ℕ} {k : Key} {word : List ℕ} {set : Slot} {ts : List Token}
      → slot_of step k ≡ Some set → has (given_of step) set ≡ false → takes_list set ≡ true
      → Rest how (Values r (with_given step (with_list (given_of step) set))) ts all
      → Rest how (At r step) (Word at k word ∷ Mark at2 sign.Equals ∷ Mark at3 sign.Open ∷ ts) all
  list_value : {r all : Reading} {step : Step} {value : Token} {text : List ℕ} {ts : List Token}
      → text_of value ≡ Some text → Rest how (Values r step) ts all → Rest how (Values r step) (value ∷ ts) all
  list_end : {r all : Reading} {step : Step} {at : ℕ} {ts : List Token}
      → Rest how (At r step) ts all → Rest how (Values r step) (Mark at sign.Close ∷ ts) all
  -- &NAME=value
  symbol : {r all : Reading} {step : Step} {at at2 : ℕ} {k : Key} {word name text : List ℕ} {value : Token} {ts : List Token}
      → takes_symbols step ≡ true → taken (how.ranges at) (symbol_in word) ≡ Ok name → text_of value ≡ Some text
      → Rest how (At (with_name r step (upper_case name) text) step) ts all
      → Rest how (At r step) (Word at k word ∷ Mark at2 sign.Equals ∷ value ∷ ts) all
  -- STARTT=(day), STARTT=(day,time), STARTT=(,time)
  startt : {r all : Reading} {given : Given} {at at2 at3 : ℕ} {word : List ℕ} {ts : List Token}
      → is_some given.start ≡ false → Rest how (Starting r given) ts all
      → Rest how (At r (Head given)) (Word at key.Startt word ∷ Mark at2 sign.Equals ∷ Mark at3 sign.Open ∷ ts) all
  on_day : {r all : Reading} {given : Given} {at at2 : ℕ} {k : Key} {word : List ℕ} {day : Day} {ts : List Token}
      → day_in word ≡ Some day → Rest how (At r (Head (started given day 0))) ts all
      → Rest how (Starting r given) (Word at k word ∷ Mark at2 sign.Close ∷ ts) all
  on_day_at : {r all : Reading} {given : Given} {at at2 : ℕ} {k : Key} {word : List ℕ} {day : Day} {ts : List Token}
      → day_in word ≡ Some day → Rest how (Timing r given day) ts all
      → Rest how (Starting r given) (Word at k word ∷ Mark at2 sign.Comma ∷ ts) all
  today_at : {r all : Reading} {given : Given} {at : ℕ} {ts : List Token}
      → Rest how (Timing r given Today) ts all → Rest how (Starting r given) (Mark at sign.Comma ∷ ts) all
  timed : {r all : Reading} {given : Given} {day : Day} {at at2 : ℕ} {k : Key} {word : List ℕ} {seconds : ℕ} {ts : List Token}
      → taken (how.ranges at) (time_in word) ≡ Ok seconds → Rest how (At r (Head (started given day seconds))) ts all
      → Rest how (Timing r given day) (Word at k word ∷ Mark at2 sign.Close ∷ ts) all
  -- a time with AM or PM as the next word
  timed_half : {r all : Reading} {given : Given} {day : Day} {at at2 at3 : ℕ} {k k2 : Key} {word word2 : List ℕ} {clock : Clock} {half whole seconds : ℕ} {ts : List Token}
      → clock_in word ≡ Some clock → taken (how.ranges at) (plain_time clock) ≡ Ok whole → half_in word2 ≡ Some half → taken (how.ranges at2) (half_time clock half) ≡ Ok seconds
      → Rest how (At r (Head (started given day seconds))) ts all
      → Rest how (Timing r given day) (Word at k word ∷ Word at2 k2 word2 ∷ Mark at3 sign.Close ∷ ts) all
  -- PNODE, SNODE
  side : {r all : Reading} {step : Step} {at : ℕ} {k : Key} {word : List ℕ} {s : Side} {ts : List Token}
      → takes_side step ≡ true → side_of k ≡ Some s → is_some (given_of step).side ≡ false
      → Rest how (At r (with_given step (record (given_of step) { side = Some s }))) ts all
      → Rest how (At r step) (Word at k word ∷ ts) all
  -- FROM ( .. ) and TO ( .. ), which name a file
  group : {r all : Reading} {begun : Begun} {copy : CopyGiven} {end : End} {at at2 : ℕ} {k : Key} {word : List ℕ} {ts : List Token}
      → end_in k ≡ Some end → is_some (end_of copy end) ≡ false → Rest how (At r (Group begun copy end nothing)) ts all
      → Rest how (At r (Copy begun copy)) (Word at k word ∷ Mark at2 sign.Open ∷ ts) all
  group_end : {r all : Reading} {begun : Begun} {copy : CopyGiven} {end : End} {given : Given} {at : ℕ} {ts : List Token}
      → is_some given.file ≡ true → Rest how (At r (Copy begun (with_end copy end given))) ts all
      → Rest how (At r (Group begun copy end given)) (Mark at sign.Close ∷ ts) all
  -- COMPRESS, COMPRESS PRIMECHAR=word, with a quoted text behind it or not, COMPRESS EXTENDED, COMPRESS EXTENDED=(pairs)
  compress : {r all : Reading} {begun : Begun} {copy : CopyGiven} {at : ℕ} {word : List ℕ} {ts : List Token}
      → copy.compress ≡ false → Rest how (At r (Copy begun (record copy { compress = true }))) ts all
      → Rest how (At r (Copy begun copy)) (Word at key.Compress word ∷ ts) all
  prime : {r all : Reading} {begun : Begun} {copy : CopyGiven} {at at2 at3 at4 : ℕ} {k : Key} {word word2 word4 : List ℕ} {ts : List Token}
      → copy.compress ≡ false → Rest how (At r (Copy begun (record copy { compress = true }))) ts all
      → Rest how (At r (Copy begun copy)) (Word at key.Compress word ∷ Word at2 key.Primechar word2 ∷ Mark at3 sign.Equals ∷ Word at4 k word4 ∷ ts) all
  prime_quoted : {r all : Reading} {begun : Begun} {copy : CopyGiven} {at at2 at3 at4 at5 : ℕ} {k : Key} {word word2 word4 text : List ℕ} {ts : List Token}
      → copy.compress ≡ false → Rest how (At r (Copy begun (record copy { compress = true }))) ts all
      → Rest how (At r (Copy begun copy)) (Word at key.Compress word ∷ Word at2 key.Primechar word2 ∷ Mark at3 sign.Equals ∷ Word at4 k word4 ∷ Quoted at5 text ∷ ts) all
  extended : {r all : Reading} {begun : Begun} {copy : CopyGiven} {at at2 : ℕ} {word word2 : List ℕ} {ts : List Token}
      → copy.compress ≡ false → Rest how (At r (Copy begun (record copy { compress = true }))) ts all
      → Rest how (At r (Copy begun copy)) (Word at key.Compress word ∷ Word at2 key.Extended word2 ∷ ts) all
  extended_list : {r all : Reading} {begun : Begun} {copy : CopyGiven} {at at2 at3 at4 : ℕ} {word word2 : List ℕ} {ts : List Token}
      → copy.compress ≡ false → Rest how (Pairs r (Copy begun (record copy { compress = true }))) ts all
      → Rest how (At r (Copy begun copy)) (Word at key.Compress word ∷ Word at2 key.Extended word2 ∷ Mark at3 sign.Equals ∷ Mark at4 sign.Open ∷ ts) all
  pair : {r all : Reading} {step : Step} {at at2 at3 : ℕ} {k k3 : Key} {word word3 : List ℕ} {ts : List Token}
      → Rest how (Pairs r step) ts all → Rest how (Pairs r step) (Word at k word ∷ Mark at2 sign.Equals ∷ Word at3 k3 word3 ∷ ts) all
  pairs_end : {r all : Reading} {step : Step} {at : ℕ} {ts : List Token}
      → Rest how (At r step) ts all → Rest how (Pairs r step) (Mark at sign.Close ∷ ts) all
  -- parentheses of a RUN
  run_group : {r all : Reading} {begun : Begun} {w : Work} {given : Given} {at : ℕ} {ts : List Token}
      → Rest how (At r (RunGroup begun w given)) ts all → Rest how (At r (Run begun w given)) (Mark at sign.Open ∷ ts) all
  run_group_end : {r all : Reading} {begun : Begun} {w : Work} {given : Given} {at : ℕ} {ts : List Token}
      → Rest how (At r (Run begun w given)) ts all → Rest how (At r (RunGroup begun w given)) (Mark at sign.Close ∷ ts) all
  -- LABEL
  label : {r before all : Reading} {step : Step} {at : ℕ} {k : Key} {word name : List ℕ} {ts : List Token}
      → ended r step ≡ Some before → taken (how.ranges at) (front_label_in k word) ≡ Ok name → Rest how (Labelled before at name) ts all
      → Rest how (At r step) (Word at k word ∷ ts) all
  -- COPY ..
  copy : {p : Place} {before all : Reading} {named : Option (ℕ × List ℕ)} {at : ℕ} {word : List ℕ} {ts : List Token}
      → opening p ≡ Some (named, before) → has_room how before ≡ true
      → Rest how (At before (Copy (begun_at named at) bare_copy)) ts all
      → Rest how p (Word at key.Copy word ∷ ts) all
  -- RUN TASK .., RUN JOB ..
  run : {p : Place} {before all : Reading} {named : Option (ℕ × List ℕ)} {at at2 : ℕ} {k : Key} {word word2 : List ℕ} {w : Work} {ts : List Token}
      → opening p ≡ Some (named, before) → has_room how before ≡ true → work_of k ≡ Some w
      → Rest how (At before (Run (begun_at named at) w nothing)) ts all
      → Rest how p (Word at key.Run word ∷ Word at2 k word2 ∷ ts) all
  -- SUBMIT ..
  submit : {p : Place} {before all : Reading} {named : Option (ℕ × List ℕ)} {at : ℕ} {word : List ℕ} {ts : List Token}
      → opening p ≡ Some (named, before) → has_room how before ≡ true
      → Rest how (At before (Submit (begun_at named at) nothing)) ts all
      → Rest how p (Word at key.Submit word ∷ ts) all
  -- IF (LABEL relation number) THEN
  if_then : {p : Place} {before all : Reading} {named : Option (ℕ × List ℕ)} {at at2 at3 at5 at6 at7 n : ℕ} {k3 k5 : Key} {word word3 word5 word7 name : List ℕ} {rel : Token} {relates : Relation} {ts : List Token}
      → opening p ≡ Some (named, before) → has_room how before ≡ true → has_depth how at before ≡ true
      → taken (how.ranges at3) (label_in k3 word3) ≡ Ok name → relation_of rel ≡ Some relates → taken (how.ranges at5) (number_in 0 255 word5) ≡ Ok n
      → Rest how (At (record (stored before (begun_at named at) (sketch.If at3 name) (what.If name relates n)) { ifs = false ∷ before.ifs }) Between) ts all
      → Rest how p (Word at key.If word ∷ Mark at2 sign.Open ∷ Word at3 k3 word3 ∷ rel ∷ Word at5 k5 word5 ∷ Mark at6 sign.Close ∷ Word at7 key.Then word7 ∷ ts) all
  -- ELSE
  else_part : {r before all : Reading} {step : Step} {at : ℕ} {word : List ℕ} {ifs : List Bool} {ts : List Token}
      → ended r step ≡ Some before → has_room how before ≡ true → before.ifs ≡ false ∷ ifs
      → Rest how (At (record (stored before (begun_at None at) sketch.Else what.Else) { ifs = true ∷ ifs }) Between) ts all
      → Rest how (At r step) (Word at key.Else word ∷ ts) all
  -- EIF
  eif : {r before all : Reading} {step : Step} {at : ℕ} {word : List ℕ} {has_else : Bool} {ifs : List Bool} {ts : List Token}
      → ended r step ≡ Some before → has_room how before ≡ true → before.ifs ≡ has_else ∷ ifs
      → Rest how (At (record (stored before (begun_at None at) sketch.Eif what.Eif) { ifs = ifs }) Between) ts all
      → Rest how (At r step) (Word at key.Eif word ∷ ts) all
  -- GOTO LABEL
  goto : {p : Place} {before all : Reading} {named : Option (ℕ × List ℕ)} {at at2 : ℕ} {k2 : Key} {word word2 name : List ℕ} {ts : List Token}
      → opening p ≡ Some (named, before) → has_room how before ≡ true → taken (how.ranges at2) (label_in k2 word2) ≡ Ok name
      → Rest how (At (stored before (begun_at named at) (sketch.Goto at2 name) (what.Goto name)) Between) ts all
      → Rest how p (Word at key.Goto word ∷ Word at2 k2 word2 ∷ ts) all
  -- EXIT
  exit : {p : Place} {before all : Reading} {named : Option (ℕ × List ℕ)} {at : ℕ} {word : List ℕ} {ts : List Token}
      → opening p ≡ Some (named, before) → has_room how before ≡ true
      → Rest how (At (stored before (begun_at named at) sketch.Exit what.Exit) Between) ts all
      → Rest how p (Word at key.Exit word ∷ ts) all
  -- PEND, with a ; behind it or not
  pend : {r all : Reading} {step : Step} {at : ℕ} {word : List ℕ}
      → ended r step ≡ Some all → Rest how (At r step) (Word at key.Pend word ∷ []) all
  pend_semicolon : {r all : Reading} {step : Step} {at at2 : ℕ} {word : List ℕ}
      → ended r step ≡ Some all → Rest how (At r step) (Word at key.Pend word ∷ Mark at2 sign.Semicolon ∷ []) all
