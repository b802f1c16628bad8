-- What the parser does with one token after the other. The laws of it say what that has to do with the grammar.
use Rattle.std.specs.Prelude.{ℕ, List, [], ◌∷◌, Bool, true, false, ◌&&◌, ◌==◌, if◌then◌else◌, is_some, Option, Some, None, Result, Ok, Err}
use Rattle.std.specs.Option.{option_map}
use Rattle.cd_types.specs.Symbols.{upper_case}
use Rattle.cd_types.specs.declared.choices.Relation.{Relation}
use Rattle.cd_types.specs.declared.choices.Side.{Side}
use Rattle.cd_types.specs.declared.start.Day.{Day}
use Rattle.cd_types.specs.declared.start.Day.TheVariants.{Today}
use Rattle.cd_ast.specs.declared.fault.FaultName.{FaultName}
use Rattle.cd_ast.specs.declared.fault.FaultName.TheVariants.{Unexpected, TooMany, Range}
use Rattle.cd_ast.specs.declared.process.What.TheVariants as what
use Rattle.cd_grammar.specs.declared.token.Key.{Key}
use Rattle.cd_grammar.specs.declared.token.Key.TheVariants as key
use Rattle.cd_grammar.specs.declared.token.Sign.{Sign}
use Rattle.cd_grammar.specs.declared.token.Sign.TheVariants as sign
use Rattle.cd_grammar.specs.declared.token.Token.{Token}
use Rattle.cd_grammar.specs.declared.token.Token.TheVariants.{Word, Quoted, Mark}
use Rattle.cd_grammar.specs.declared.given.Given.{Given}
use Rattle.cd_grammar.specs.declared.given.Slot.{Slot}
use Rattle.cd_grammar.specs.declared.given.Slot.TheVariants as slot
use Rattle.cd_grammar.specs.declared.mark.Sketch.TheVariants as sketch
use Rattle.cd_grammar.specs.declared.step.Begun.{Begun}
use Rattle.cd_grammar.specs.declared.step.Clock.{Clock}
use Rattle.cd_grammar.specs.declared.step.End.{End}
use Rattle.cd_grammar.specs.declared.step.CopyGiven.{CopyGiven}
use Rattle.cd_grammar.specs.declared.step.Step.{Step}
use Rattle.cd_grammar.specs.declared.step.Step.TheVariants as step
use Rattle.cd_grammar.specs.Answers.{Strictness, taken}
use Rattle.cd_grammar.specs.Tokens.{place_of}
use Rattle.cd_grammar.specs.Values.{label_in, front_label_in, symbol_in, number_in}
use Rattle.cd_grammar.specs.Starts.{day_in, clock_in, half_in, plain_time, half_time, named_time}
use Rattle.cd_grammar.specs.Given.{nothing, has, with_value, with_list, takes_list, takes_parentheses, side_of}
use Rattle.cd_grammar.specs.Reading.{Reading, named, stored, ended, given_of, with_given, slot_of, takes_symbols, with_name, bare_copy, end_of, with_end, has_room, has_depth}
use Rattle.cd_grammar.specs.Grammar.{started, begun_at, relation_of, work_of, end_in}
use Rattle.cd_grammar.specs.Later.{Found}
use Rattle.cd_automaton.specs.State.{State}
use Rattle.cd_automaton.specs.State.{At, Labelled, Named, Value, Parenthesized, Closing, Values, Symbol, SymbolValue, Starting, Dated, Timing, Timed, GroupOpen, Compress, Prime, PrimeValue, Primed, Extended, Extending, Pairs, PairNamed, PairValue, Running, IfOpen, IfLabel, IfRelation, IfNumber, IfClose, IfThen, GotoLabel, Ended, Closed}

-- what is read and where reading stands, behind a token; or the fault of the token
abbrev pub Turn : Type 0
Turn = Result (Reading × State) Found

-- the same for what reads nothing that is kept
abbrev pub Move : Type 0
Move = Result State Found

abbrev pub kept : Reading → Move → Turn
kept r (Ok s) = Ok (r, s)
kept r (Err f) = Err f

-- what is made of a value, or a fault at a place
abbrev pub with_place : {A B : Type 0} → ℕ → Result A FaultName → (A → B) → Result B Found
with_place at (Ok x) f = Ok (f x)
with_place at (Err name) f = Err (name, at)

abbrev pub unexpected : {A : Type 0} → ℕ → Result A Found
unexpected at = Err (Unexpected, at)

-- one statement more than may be
abbrev pub roomy : {A : Type 0} → Bool → Result A Found → Result A Found
roomy true x = x
roomy false x = Err (TooMany, 1024)

-- a sign that is wanted
abbrev pub is_open : Sign → Bool
is_open sign.Open = true
is_open _ = false

abbrev pub is_close : Sign → Bool
is_close sign.Close = true
is_close _ = false

abbrev pub is_equals : Sign → Bool
is_equals sign.Equals = true
is_equals _ = false

abbrev pub on : {A : Type 0} → Bool → ℕ → A → Result A Found
on true at x = Ok x
on false at x = Err (Unexpected, at)

-- what follows an opening parenthesis, a closing one, and a =
abbrev pub behind_open : {A : Type 0} → Token → A → Result A Found
behind_open (Word at k word) x = unexpected at
behind_open (Quoted at text) x = unexpected at
behind_open (Mark at s) x = on (is_open s) at x

abbrev pub behind_close : {A : Type 0} → Token → A → Result A Found
behind_close (Word at k word) x = unexpected at
behind_close (Quoted at text) x = unexpected at
behind_close (Mark at s) x = on (is_close s) at x

abbrev pub behind_equals : {A : Type 0} → Token → A → Result A Found
behind_equals (Word at k word) x = unexpected at
behind_equals (Quoted at text) x = unexpected at
behind_equals (Mark at s) x = on (is_equals s) at x

-- the slot that a word sets, where it isn't set yet
abbrev pub unset : Bool → Slot → Option Slot
unset true set = None
unset false set = Some set

abbrev pub free : Given → Option Slot → Option Slot
free given None = None
free given (Some set) = unset (has given set) set

-- what was given, with a side where none was given
abbrev pub sided : Given → Option Side → Option Side → Option Given
sided given (Some side) None = Some (record given { side = Some side })
sided given (Some side) (Some other) = None
sided given None other = None

abbrev pub end_state : Begun → CopyGiven → End → Option Given → Option State
end_state begun copy end None = Some (GroupOpen begun copy end)
end_state begun copy end (Some given) = None

-- COMPRESS in a COPY that has none yet
abbrev pub compress_if : Begun → CopyGiven → Bool → Option State
compress_if begun copy true = None
compress_if begun copy false = Some (Compress begun (record copy { compress = true }))

unfoldable pub compress_by : Begun → CopyGiven → Key → Option State
compress_by begun copy key.Compress = compress_if begun copy copy.compress
compress_by begun copy _ = None

abbrev pub copy_state : Begun → CopyGiven → Key → Option End → Option State
copy_state begun copy k (Some end) = end_state begun copy end (end_of copy end)
copy_state begun copy k None = compress_by begun copy k

-- the state behind a word that stands alone where a parameter may stand
unfoldable pub bare_state : Step → Key → Option State
bare_state (step.Head given) k = None
bare_state step.Between k = None
bare_state (step.Copy begun copy) k = copy_state begun copy k (end_in k)
bare_state (step.Group begun copy end given) k = option_map (λ next. At (step.Group begun copy end next)) (sided given (side_of k) given.side)
bare_state (step.Run begun w given) k = option_map (λ next. At (step.Run begun w next)) (sided given (side_of k) given.side)
bare_state (step.RunGroup begun w given) k = option_map (λ next. At (step.RunGroup begun w next)) (sided given (side_of k) given.side)
bare_state (step.Submit begun given) k = None

-- an ELSE and an EIF, by the IFs that are open
abbrev pub else_turn : Reading → ℕ → Bool → List Bool → Turn
else_turn r at room [] = unexpected at
else_turn r at room (true ∷ ifs) = unexpected at
else_turn r at room (false ∷ ifs) = roomy room (Ok (record (stored r (begun_at None at) sketch.Else what.Else) { ifs = true ∷ ifs }, At step.Between))

abbrev pub eif_turn : Reading → ℕ → Bool → List Bool → Turn
eif_turn r at room [] = unexpected at
eif_turn r at room (has_else ∷ ifs) = roomy room (Ok (record (stored r (begun_at None at) sketch.Eif what.Eif) { ifs = ifs }, At step.Between))

-- an IF, where it isn't too deep
abbrev pub if_turn : Reading → Begun → Bool → Bool → Turn
if_turn r begun false room = Err (Range, begun.at)
if_turn r begun true room = roomy room (Ok (r, IfOpen begun))

-- a keyword that may stand behind a label
unfoldable pub verb_turn : Strictness → Reading → Option (ℕ × List ℕ) → ℕ → Key → Turn
verb_turn how r label at key.Copy = roomy (has_room how r) (Ok (r, At (step.Copy (begun_at label at) bare_copy)))
verb_turn how r label at key.Run = roomy (has_room how r) (Ok (r, Running (begun_at label at)))
verb_turn how r label at key.Submit = roomy (has_room how r) (Ok (r, At (step.Submit (begun_at label at) nothing)))
verb_turn how r label at key.If = if_turn r (begun_at label at) (has_depth how at r) (has_room how r)
verb_turn how r label at key.Goto = roomy (has_room how r) (Ok (r, GotoLabel (begun_at label at)))
verb_turn how r label at key.Exit = roomy (has_room how r) (Ok (stored r (begun_at label at) sketch.Exit what.Exit, At step.Between))
verb_turn how r label at _ = unexpected at

-- whether a word is one of the keywords that may stand behind a label
unfoldable pub is_verb : Key → Bool
is_verb key.Copy = true
is_verb key.Run = true
is_verb key.Submit = true
is_verb key.If = true
is_verb key.Goto = true
is_verb key.Exit = true
is_verb _ = false

abbrev pub label_move : Strictness → Reading → ℕ → Result (List ℕ) FaultName → Turn
label_move how r at (Ok name) = roomy (has_room how r) (Ok (r, Labelled at name))
label_move how r at (Err name) = Err (name, at)

-- a word at which a statement may begin
unfoldable pub statement_turn : Strictness → Reading → ℕ → Key → List ℕ → Turn
statement_turn how r at key.Else word = else_turn r at (has_room how r) r.ifs
statement_turn how r at key.Eif word = eif_turn r at (has_room how r) r.ifs
statement_turn how r at key.Pend word = Ok (r, Ended)
statement_turn how r at key.Copy word = verb_turn how r None at key.Copy
statement_turn how r at key.Run word = verb_turn how r None at key.Run
statement_turn how r at key.Submit word = verb_turn how r None at key.Submit
statement_turn how r at key.If word = verb_turn how r None at key.If
statement_turn how r at key.Goto word = verb_turn how r None at key.Goto
statement_turn how r at key.Exit word = verb_turn how r None at key.Exit
statement_turn how r at k word = label_move how r at (taken (how.ranges at) (front_label_in k word))

-- the statement that is being read ends, where it may
abbrev pub ended_turn : Option Reading → (Reading → Turn) → ℕ → Turn
ended_turn None f at = unexpected at
ended_turn (Some r) f at = f r

abbrev pub bare_turn : Strictness → Reading → Step → ℕ → Key → List ℕ → Option State → Turn
bare_turn how r s at k word (Some state) = Ok (r, state)
bare_turn how r s at k word None = ended_turn (ended r s) (λ before. statement_turn how before at k word) at

-- a word that begins as a symbolic name does
abbrev pub is_symbolic : List ℕ → Bool
is_symbolic [] = false
is_symbolic (b ∷ word) = b == 38

abbrev pub symbol_turn : Strictness → Reading → Step → ℕ → Key → List ℕ → Bool → Turn
symbol_turn how r s at k word true = kept r (with_place at (taken (how.ranges at) (symbol_in word)) (λ name. Symbol s name))
symbol_turn how r s at k word false = bare_turn how r s at k word (bare_state s k)

abbrev pub slot_turn : Strictness → Reading → Step → ℕ → Key → List ℕ → Option Slot → Turn
slot_turn how r s at k word (Some set) = Ok (r, Named s set at k word)
slot_turn how r s at k word None = symbol_turn how r s at k word (takes_symbols s && is_symbolic word)

-- a word with which a statement begins, or the Process ends
unfoldable pub is_opener : Key → Bool
is_opener key.Copy = true
is_opener key.Run = true
is_opener key.Submit = true
is_opener key.If = true
is_opener key.Else = true
is_opener key.Eif = true
is_opener key.Goto = true
is_opener key.Exit = true
is_opener key.Pend = true
is_opener _ = false

abbrev pub word_by : Strictness → Reading → Step → ℕ → Key → List ℕ → Bool → Turn
word_by how r s at k word true = ended_turn (ended r s) (λ before. statement_turn how before at k word) at
word_by how r s at k word false = slot_turn how r s at k word (free (given_of s) (slot_of s k))

-- a word where a parameter may stand
unfoldable pub word_turn : Strictness → Reading → Step → ℕ → Key → List ℕ → Turn
word_turn how r s at k word = word_by how r s at k word (is_opener k)

-- a sign where a parameter may stand
unfoldable pub mark_move : Step → ℕ → Sign → Move
mark_move (step.Head given) at s = unexpected at
mark_move step.Between at s = unexpected at
mark_move (step.Copy begun copy) at s = unexpected at
mark_move (step.Group begun copy end given) at s = on (is_close s && is_some given.file) at (At (step.Copy begun (with_end copy end given)))
mark_move (step.Run begun w given) at s = on (is_open s) at (At (step.RunGroup begun w given))
mark_move (step.RunGroup begun w given) at s = on (is_close s) at (At (step.Run begun w given))
mark_move (step.Submit begun given) at s = unexpected at

-- a token where a parameter may stand
abbrev pub at_turn : Strictness → Reading → Step → Token → Turn
at_turn how r s (Word at k word) = word_turn how r s at k word
at_turn how r s (Quoted at text) = unexpected at
at_turn how r s (Mark at g) = kept r (mark_move s at g)

-- the keyword behind a word that names a parameter, and so is a label
abbrev pub named_label : Strictness → Reading → ℕ → Result (List ℕ) FaultName → ℕ → Key → Turn
named_label how r at (Ok name) at2 k2 = verb_turn how r (Some (at, name)) at2 k2
named_label how r at (Err name) at2 k2 = unexpected at2

abbrev pub named_turn : Strictness → Reading → Step → Slot → ℕ → Key → List ℕ → Token → Turn
named_turn how r s set at k word (Word at2 k2 word2) = ended_turn (ended r s) (λ before. named_label how before at (taken (how.ranges at) (front_label_in k word)) at2 k2) at2
named_turn how r s set at k word (Quoted at2 text) = unexpected at2
named_turn how r s set at k word (Mark at2 g) = on (is_equals g) at2 (r, Value s set at)

-- a parenthesis before a value
abbrev pub is_start : Slot → Bool
is_start slot.Start = true
is_start _ = false

unfoldable pub open_move : Step → Slot → ℕ → ℕ → Move
open_move s set at at2 =
    if is_start set then Ok (Starting (given_of s))
    else (if takes_list set then Ok (Values (with_given s (with_list (given_of s) set)))
    else on (takes_parentheses set) at2 (Parenthesized s set at))

abbrev pub plain_value : Strictness → Step → Slot → ℕ → Token → (Step → State) → Move
plain_value how s set at t f = with_place (place_of t) (taken (how.ranges (place_of t)) (with_value (given_of s) set at t)) (λ next. f (with_given s next))

unfoldable pub value_move : Strictness → Step → Slot → ℕ → Token → Move
value_move how s set at (Word at2 k word) = plain_value how s set at (Word at2 k word) At
value_move how s set at (Quoted at2 text) = plain_value how s set at (Quoted at2 text) At
value_move how s set at (Mark at2 sign.Open) = open_move s set at at2
value_move how s set at (Mark at2 _) = unexpected at2

-- a token in a list of values
abbrev pub values_move : Step → Token → Move
values_move s (Word at k word) = Ok (Values s)
values_move s (Quoted at text) = Ok (Values s)
values_move s (Mark at g) = on (is_close g) at (At s)

abbrev pub symbol_value_turn : Reading → Step → List ℕ → Token → Turn
symbol_value_turn r s name (Word at k word) = Ok (with_name r s (upper_case name) word, At s)
symbol_value_turn r s name (Quoted at text) = Ok (with_name r s (upper_case name) text, At s)
symbol_value_turn r s name (Mark at g) = unexpected at

-- in STARTT
abbrev pub is_comma_sign : Sign → Bool
is_comma_sign sign.Comma = true
is_comma_sign _ = false

abbrev pub wanted_at : {A B : Type 0} → ℕ → Option A → (A → B) → Result B Found
wanted_at at None f = unexpected at
wanted_at at (Some x) f = Ok (f x)

abbrev pub starting_move : Given → Token → Move
starting_move given (Word at k word) = wanted_at at (day_in word) (λ day. Dated given day)
starting_move given (Quoted at text) = unexpected at
starting_move given (Mark at g) = on (is_comma_sign g) at (Timing given Today)

abbrev pub dated_move : Given → Day → Token → Move
dated_move given day (Word at k word) = unexpected at
dated_move given day (Quoted at text) = unexpected at
dated_move given day (Mark at sign.Close) = Ok (At (step.Head (started given day 0)))
dated_move given day (Mark at sign.Comma) = Ok (Timing given day)
dated_move given day (Mark at _) = unexpected at

abbrev pub time_move : Strictness → Given → Day → ℕ → List ℕ → Option Clock → Move
time_move how given day at word (Some clock) = with_place at (taken (how.ranges at) (plain_time clock)) (λ seconds. Timed given day (Some clock) seconds)
time_move how given day at word None = with_place at (taken (how.ranges at) (named_time word)) (λ seconds. Timed given day None seconds)

abbrev pub timing_move : Strictness → Given → Day → Token → Move
timing_move how given day (Word at k word) = time_move how given day at word (clock_in word)
timing_move how given day (Quoted at text) = unexpected at
timing_move how given day (Mark at g) = unexpected at

abbrev pub half_move : Strictness → Given → Day → ℕ → Option Clock → Option ℕ → Move
half_move how given day at (Some clock) (Some half) = with_place at (taken (how.ranges at) (half_time clock half)) (λ seconds. Closing (step.Head (started given day seconds)))
half_move how given day at (Some clock) None = unexpected at
half_move how given day at None half = unexpected at

abbrev pub timed_move : Strictness → Given → Day → Option Clock → ℕ → Token → Move
timed_move how given day clock seconds (Word at k word) = half_move how given day at clock (half_in word)
timed_move how given day clock seconds (Quoted at text) = unexpected at
timed_move how given day clock seconds (Mark at g) = on (is_close g) at (At (step.Head (started given day seconds)))

-- behind COMPRESS
abbrev pub compress_turn : Strictness → Reading → Begun → CopyGiven → Token → Turn
compress_turn how r begun copy (Word at key.Primechar word) = Ok (r, Prime begun copy)
compress_turn how r begun copy (Word at key.Extended word) = Ok (r, Extended begun copy)
compress_turn how r begun copy t = at_turn how r (step.Copy begun copy) t

abbrev pub primed_turn : Strictness → Reading → Begun → CopyGiven → Token → Turn
primed_turn how r begun copy (Quoted at text) = Ok (r, At (step.Copy begun copy))
primed_turn how r begun copy (Word at k word) = at_turn how r (step.Copy begun copy) (Word at k word)
primed_turn how r begun copy (Mark at g) = at_turn how r (step.Copy begun copy) (Mark at g)

abbrev pub extended_turn : Strictness → Reading → Begun → CopyGiven → Token → Turn
extended_turn how r begun copy (Mark at sign.Equals) = Ok (r, Extending begun copy)
extended_turn how r begun copy t = at_turn how r (step.Copy begun copy) t

-- a word, whichever
abbrev pub behind_word : Token → State → Move
behind_word (Word at k word) s = Ok s
behind_word (Quoted at text) s = unexpected at
behind_word (Mark at g) s = unexpected at

abbrev pub pairs_move : Step → Token → Move
pairs_move s (Word at k word) = Ok (PairNamed s)
pairs_move s (Quoted at text) = unexpected at
pairs_move s (Mark at g) = on (is_close g) at (At s)

abbrev pub running_move : Begun → Token → Move
running_move begun (Word at k word) = wanted_at at (work_of k) (λ w. At (step.Run begun w nothing))
running_move begun (Quoted at text) = unexpected at
running_move begun (Mark at g) = unexpected at

-- in IF
abbrev pub if_label_move : Strictness → Begun → Token → Move
if_label_move how begun (Word at k word) = with_place at (taken (how.ranges at) (label_in k word)) (λ name. IfRelation begun at name)
if_label_move how begun (Quoted at text) = unexpected at
if_label_move how begun (Mark at g) = unexpected at

abbrev pub if_number_move : Strictness → Begun → ℕ → List ℕ → Relation → Token → Move
if_number_move how begun label_at name rel (Word at k word) = with_place at (taken (how.ranges at) (number_in 0 255 word)) (λ n. IfClose begun label_at name rel n)
if_number_move how begun label_at name rel (Quoted at text) = unexpected at
if_number_move how begun label_at name rel (Mark at g) = unexpected at

abbrev pub if_then_turn : Reading → Begun → ℕ → List ℕ → Relation → ℕ → Token → Turn
if_then_turn r begun label_at name rel n (Word at key.Then word) =
    Ok (record (stored r begun (sketch.If label_at name) (what.If name rel n)) { ifs = false ∷ r.ifs }, At step.Between)
if_then_turn r begun label_at name rel n (Word at _ word) = unexpected at
if_then_turn r begun label_at name rel n (Quoted at text) = unexpected at
if_then_turn r begun label_at name rel n (Mark at g) = unexpected at

abbrev pub goto_turn : Strictness → Reading → Begun → Token → Turn
goto_turn how r begun (Word at k word) = with_place at (taken (how.ranges at) (label_in k word)) (λ name. (stored r begun (sketch.Goto at name) (what.Goto name), At step.Between))
goto_turn how r begun (Quoted at text) = unexpected at
goto_turn how r begun (Mark at g) = unexpected at

abbrev pub labelled_turn : Strictness → Reading → ℕ → List ℕ → Token → Turn
labelled_turn how r at name (Word at2 k word) = verb_turn how r (Some (at, name)) at2 k
labelled_turn how r at name (Quoted at2 text) = unexpected at2
labelled_turn how r at name (Mark at2 g) = unexpected at2

abbrev pub ended_move : Token → Move
ended_move (Word at k word) = unexpected at
ended_move (Quoted at text) = unexpected at
ended_move (Mark at sign.Semicolon) = Ok Closed
ended_move (Mark at _) = unexpected at

-- one token
unfoldable pub next : Strictness → Reading → State → Token → Turn
next how r (At s) t = at_turn how r s t
next how r (Labelled at name) t = labelled_turn how r at name t
next how r (Named s set at k word) t = named_turn how r s set at k word t
next how r (Value s set at) t = kept r (value_move how s set at t)
next how r (Parenthesized s set at) t = kept r (plain_value how s set at t Closing)
next how r (Closing s) t = kept r (behind_close t (At s))
next how r (Values s) t = kept r (values_move s t)
next how r (Symbol s name) t = kept r (behind_equals t (SymbolValue s name))
next how r (SymbolValue s name) t = symbol_value_turn r s name t
next how r (Starting given) t = kept r (starting_move given t)
next how r (Dated given day) t = kept r (dated_move given day t)
next how r (Timing given day) t = kept r (timing_move how given day t)
next how r (Timed given day clock seconds) t = kept r (timed_move how given day clock seconds t)
next how r (GroupOpen begun copy end) t = kept r (behind_open t (At (step.Group begun copy end nothing)))
next how r (Compress begun copy) t = compress_turn how r begun copy t
next how r (Prime begun copy) t = kept r (behind_equals t (PrimeValue begun copy))
next how r (PrimeValue begun copy) t = kept r (behind_word t (Primed begun copy))
next how r (Primed begun copy) t = primed_turn how r begun copy t
next how r (Extended begun copy) t = extended_turn how r begun copy t
next how r (Extending begun copy) t = kept r (behind_open t (Pairs (step.Copy begun copy)))
next how r (Pairs s) t = kept r (pairs_move s t)
next how r (PairNamed s) t = kept r (behind_equals t (PairValue s))
next how r (PairValue s) t = kept r (behind_word t (Pairs s))
next how r (Running begun) t = kept r (running_move begun t)
next how r (IfOpen begun) t = kept r (behind_open t (IfLabel begun))
next how r (IfLabel begun) t = kept r (if_label_move how begun t)
next how r (IfRelation begun at name) t = kept r (wanted_at (place_of t) (relation_of t) (λ rel. IfNumber begun at name rel))
next how r (IfNumber begun at name rel) t = kept r (if_number_move how begun at name rel t)
next how r (IfClose begun at name rel n) t = kept r (behind_close t (IfThen begun at name rel n))
next how r (IfThen begun at name rel n) t = if_then_turn r begun at name rel n t
next how r (GotoLabel begun) t = goto_turn how r begun t
next how r Ended t = kept r (ended_move t)
next how r Closed t = unexpected (place_of t)

-- what is read at the end of a text of this length
abbrev pub at_end : ℕ → Reading → State → Result Reading Found
at_end len r Ended = Ok r
at_end len r Closed = Ok r
at_end len r _ = Err (Unexpected, len)

abbrev pub bind_turn : Turn → (Reading → State → Result Reading Found) → Result Reading Found
bind_turn (Ok x) f = f x.0 x.1
bind_turn (Err f) g = Err f

-- one token after the other
unfoldable pub run : Strictness → ℕ → Reading → State → List Token → Result Reading Found
run how len r s [] = at_end len r s
run how len r s (t ∷ ts) = bind_turn (next how r s t) (λ r2 s2. run how len r2 s2 ts)

-- the Process's name and the word PROCESS, and then the rest
abbrev pub titled : Strictness → ℕ → Result (List ℕ) FaultName → ℕ → List Token → Result Reading Found
titled how len (Err name) at ts = Err (name, at)
titled how len (Ok name) at [] = unexpected len
titled how len (Ok name) at (Word at2 key.Process word ∷ ts) = run how len (named name) (At (step.Head nothing)) ts
titled how len (Ok name) at (Word at2 _ word ∷ ts) = unexpected at2
titled how len (Ok name) at (Quoted at2 text ∷ ts) = unexpected at2
titled how len (Ok name) at (Mark at2 g ∷ ts) = unexpected at2

-- a whole text
unfoldable pub whole : Strictness → ℕ → List Token → Result Reading Found
whole how len [] = unexpected len
whole how len (Word at k word ∷ ts) = titled how len (taken (how.ranges at) (label_in k word)) at ts
whole how len (Quoted at text ∷ ts) = unexpected at
whole how len (Mark at g ∷ ts) = unexpected at
