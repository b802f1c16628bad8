-- What the machine does with a token where ranges are asked for and statements counted, and where some ranges aren't and
-- nothing is counted.
use Rattle.std.proofs.Common.{◌≡◌, if◌then◌else◌, ℕ, List, [], ◌∷◌, Bool, true, false, not, ◌&&◌, ◌||◌, is_some, Option, Some, None, Result, Ok, Err, refl}
use Rattle.cd_types.specs.declared.choices.Relation.{Relation}
use Rattle.cd_types.specs.declared.start.Day.{Day}
use Rattle.cd_ast.specs.declared.fault.FaultName.{FaultName}
use Rattle.cd_ast.specs.declared.fault.FaultName.TheVariants.{Unexpected, TooMany, Range}
use Rattle.cd_grammar.specs.declared.token.Key.{Key}
use Rattle.cd_grammar.specs.declared.token.Key.TheVariants as key
use Rattle.cd_grammar.specs.declared.token.Sign.{Sign}
use Rattle.cd_grammar.specs.declared.token.Sign.TheVariants as sign
use Rattle.cd_grammar.specs.declared.token.Token.{Token}
use Rattle.cd_grammar.specs.declared.token.Token.TheVariants.{Word, Quoted, Mark}
use Rattle.cd_grammar.specs.declared.given.Given.{Given}
use Rattle.cd_grammar.specs.declared.given.Slot.{Slot}
use Rattle.cd_grammar.specs.declared.step.Begun.{Begun}
use Rattle.cd_grammar.specs.declared.step.Clock.{Clock}
use Rattle.cd_grammar.specs.declared.step.CopyGiven.{CopyGiven}
use Rattle.cd_grammar.specs.declared.step.Step.{Step}
use Rattle.cd_grammar.specs.declared.step.Step.TheVariants as step
use Rattle.cd_grammar.specs.Answers.{Answer, Fits, Outside, Wrong, Strictness, strict, taken}
use Rattle.cd_grammar.specs.Tokens.{place_of}
use Rattle.cd_grammar.specs.Values.{label_in, front_label_in, symbol_in, number_in}
use Rattle.cd_grammar.specs.Starts.{clock_in, half_in, plain_time, half_time, named_time}
use Rattle.cd_grammar.specs.Given.{nothing, with_value, takes_list, takes_parentheses}
use Rattle.cd_grammar.specs.Reading.{Reading, ended, given_of, slot_of, takes_symbols, has_room, has_depth}
use Rattle.cd_grammar.specs.Grammar.{begun_at, relation_of}
use Rattle.cd_grammar.specs.Later.{Found}
use Rattle.cd_automaton.specs.State.{State, At, Labelled, Named, Value, Parenthesized, Closing, Values, Symbol, SymbolValue, Starting, Dated, Timing, Timed, GroupOpen, Compress, Prime, PrimeValue, Primed, Extended, Extending, Pairs, PairNamed, PairValue, Running, IfOpen, IfLabel, IfRelation, IfNumber, IfClose, IfThen, GotoLabel, Ended, Closed}
use Rattle.cd_automaton.specs.Machine.{Turn, Move, kept, with_place, roomy, on, is_open, is_close, is_equals, behind_open, behind_close, behind_equals, behind_word, free, bare_state, else_turn, eif_turn, if_turn, verb_turn, label_move, statement_turn, ended_turn, bare_turn, is_symbolic, symbol_turn, slot_turn, is_opener, word_by, word_turn, mark_move, at_turn, named_label, named_turn, is_start, open_move, value_move, values_move, symbol_value_turn, wanted_at, starting_move, dated_move, time_move, timing_move, half_move, timed_move, compress_turn, primed_turn, extended_turn, pairs_move, running_move, if_label_move, if_number_move, if_then_turn, goto_turn, labelled_turn, ended_move, next}

-- some ranges are asked for, and nothing is counted
abbrev pub easier : (ℕ → Bool) → Strictness
easier ranges = record { ranges = ranges; count = false }

-- what is answered at a place where all is asked for, and what where its range is or isn't, and nothing is counted
pub data Looser (A : Type 0) (asked : Bool) (at : ℕ) : Result A Found → Result A Found → Type 0 where
  same : (x : A) → Looser A asked at (Ok x) (Ok x)
  unexpected_too : (f : Found) → Looser A asked at (Err (Unexpected, at)) (Err f)
  range_too : (f : Found) → asked ≡ true → Looser A asked at (Err (Range, at)) (Err f)
  in_range : (x : A) → asked ≡ false → Looser A asked at (Err (Range, at)) (Ok x)
  uncounted : (x : A) → Looser A asked at (Err (TooMany, 1024)) (Ok x)

module _ (asked : Bool) (at : ℕ) where
  pub by_place : {A B : Type 0} (answer : Answer A) (f : A → B) → Looser B asked at (with_place at (taken true answer) f) (with_place at (taken asked answer) f)
  by_place (Fits x) f = same (f x)
  by_place (Outside x) f = outside asked refl x f
    where
      outside : {A B : Type 0} (b : Bool) → asked ≡ b → (x : A) (f : A → B) → Looser B asked at (Err (Range, at)) (with_place at (taken b (Outside x)) f)
      outside true e x f = range_too _ e
      outside false e x f = in_range (f x) e
  by_place Wrong f = unexpected_too _

  by_kept : (r : Reading) {x y : Move} → Looser State asked at x y → Looser (Reading × State) asked at (kept r x) (kept r y)
  by_kept r (same x) = same (r, x)
  by_kept r (unexpected_too f) = unexpected_too f
  by_kept r (range_too f e) = range_too f e
  by_kept r (in_range x e) = in_range (r, x) e
  by_kept r (uncounted x) = uncounted (r, x)

  by_test : {A : Type 0} (b : Bool) (x : A) → Looser A asked at (on b at x) (on b at x)
  by_test true x = same x
  by_test false x = unexpected_too _

  by_wanted : {A B : Type 0} (o : Option A) (f : A → B) → Looser B asked at (wanted_at at o f) (wanted_at at o f)
  by_wanted (Some x) f = same (f x)
  by_wanted None f = unexpected_too _

  by_room : {A : Type 0} (b : Bool) (x : A) → Looser A asked at (roomy b (Ok x)) (Ok x)
  by_room true x = same x
  by_room false x = uncounted x

  by_end : (o : Option Reading) (f h : Reading → Turn) → ((before : Reading) → Looser (Reading × State) asked at (f before) (h before))
      → Looser (Reading × State) asked at (ended_turn o f at) (ended_turn o h at)
  by_end (Some before) f h k = k before
  by_end None f h k = unexpected_too _

module _ (ranges : ℕ → Bool) (at : ℕ) where
  by_depth : (r : Reading) (label : Option (ℕ × List ℕ)) (asked deep room : Bool) → ranges at ≡ asked
      → Looser (Reading × State) (ranges at) at (if_turn r (begun_at label at) deep room) (if_turn r (begun_at label at) (not asked || deep) true)
  by_depth r label true true room e = by_room (ranges at) at room (r, IfOpen (begun_at label at))
  by_depth r label false true room e = by_room (ranges at) at room (r, IfOpen (begun_at label at))
  by_depth r label true false room e = range_too _ e
  by_depth r label false false room e = in_range _ e

  verb_looser : (r : Reading) (label : Option (ℕ × List ℕ)) (k : Key) → Looser (Reading × State) (ranges at) at (verb_turn strict r label at k) (verb_turn (easier ranges) r label at k)
  unfolding verb_turn
  verb_looser r label key.Copy = by_room (ranges at) at (has_room strict r) _
  verb_looser r label key.Run = by_room (ranges at) at (has_room strict r) _
  verb_looser r label key.Submit = by_room (ranges at) at (has_room strict r) _
  verb_looser r label key.Goto = by_room (ranges at) at (has_room strict r) _
  verb_looser r label key.Exit = by_room (ranges at) at (has_room strict r) _
  verb_looser r label key.If = by_depth r label (ranges at) (has_depth strict at r) (has_room strict r) refl
  verb_looser r label _ = unexpected_too _

  label_by : (r : Reading) (answer : Answer (List ℕ)) (asked : Bool) → ranges at ≡ asked
      → Looser (Reading × State) (ranges at) at (label_move strict r at (taken true answer)) (label_move (easier ranges) r at (taken asked answer))
  label_by r (Fits name) asked e = by_room (ranges at) at (has_room strict r) (r, Labelled at name)
  label_by r (Outside name) true e = range_too _ e
  label_by r (Outside name) false e = in_range _ e
  label_by r Wrong asked e = unexpected_too _

  else_looser : (r : Reading) (ifs : List Bool) → Looser (Reading × State) (ranges at) at (else_turn r at (has_room strict r) ifs) (else_turn r at true ifs)
  else_looser r [] = unexpected_too _
  else_looser r (true ∷ ifs) = unexpected_too _
  else_looser r (false ∷ ifs) = by_room (ranges at) at (has_room strict r) _

  eif_looser : (r : Reading) (ifs : List Bool) → Looser (Reading × State) (ranges at) at (eif_turn r at (has_room strict r) ifs) (eif_turn r at true ifs)
  eif_looser r [] = unexpected_too _
  eif_looser r (has_else ∷ ifs) = by_room (ranges at) at (has_room strict r) _

  statement_looser : (r : Reading) (k : Key) (word : List ℕ) → Looser (Reading × State) (ranges at) at (statement_turn strict r at k word) (statement_turn (easier ranges) r at k word)
  unfolding statement_turn
  statement_looser r key.Else word = else_looser r r.ifs
  statement_looser r key.Eif word = eif_looser r r.ifs
  statement_looser r key.Pend word = same (r, Ended)
  statement_looser r key.Copy word = verb_looser r None key.Copy
  statement_looser r key.Run word = verb_looser r None key.Run
  statement_looser r key.Submit word = verb_looser r None key.Submit
  statement_looser r key.If word = verb_looser r None key.If
  statement_looser r key.Goto word = verb_looser r None key.Goto
  statement_looser r key.Exit word = verb_looser r None key.Exit
  statement_looser r k word = label_by r (front_label_in k word) (ranges at) refl

  fall : (r : Reading) (s : Step) (k : Key) (word : List ℕ)
      → Looser (Reading × State) (ranges at) at (ended_turn (ended r s) (λ before. statement_turn strict before at k word) at) (ended_turn (ended r s) (λ before. statement_turn (easier ranges) before at k word) at)
  fall r s k word = by_end (ranges at) at (ended r s) _ _ (λ before. statement_looser before k word)

  bare_looser : (r : Reading) (s : Step) (k : Key) (word : List ℕ) (o : Option State) → Looser (Reading × State) (ranges at) at (bare_turn strict r s at k word o) (bare_turn (easier ranges) r s at k word o)
  bare_looser r s k word (Some state) = same (r, state)
  bare_looser r s k word None = fall r s k word

  symbol_looser : (r : Reading) (s : Step) (k : Key) (word : List ℕ) (b : Bool) → Looser (Reading × State) (ranges at) at (symbol_turn strict r s at k word b) (symbol_turn (easier ranges) r s at k word b)
  symbol_looser r s k word true = by_kept (ranges at) at r (by_place (ranges at) at (symbol_in word) (λ name. Symbol s name))
  symbol_looser r s k word false = bare_looser r s k word (bare_state s k)

  slot_looser : (r : Reading) (s : Step) (k : Key) (word : List ℕ) (o : Option Slot) → Looser (Reading × State) (ranges at) at (slot_turn strict r s at k word o) (slot_turn (easier ranges) r s at k word o)
  slot_looser r s k word (Some set) = same _
  slot_looser r s k word None = symbol_looser r s k word (takes_symbols s && is_symbolic word)

  word_by_looser : (r : Reading) (s : Step) (k : Key) (word : List ℕ) (b : Bool) → Looser (Reading × State) (ranges at) at (word_by strict r s at k word b) (word_by (easier ranges) r s at k word b)
  word_by_looser r s k word true = fall r s k word
  word_by_looser r s k word false = slot_looser r s k word (free (given_of s) (slot_of s k))

  word_looser : (r : Reading) (s : Step) (k : Key) (word : List ℕ) → Looser (Reading × State) (ranges at) at (word_turn strict r s at k word) (word_turn (easier ranges) r s at k word)
  unfolding word_turn
  word_looser r s k word = word_by_looser r s k word (is_opener k)

  mark_looser : (r : Reading) (s : Step) (m : Sign) → Looser (Reading × State) (ranges at) at (kept r (mark_move s at m)) (kept r (mark_move s at m))
  unfolding mark_move
  mark_looser r (step.Head given) m = unexpected_too _
  mark_looser r step.Between m = unexpected_too _
  mark_looser r (step.Copy begun copy) m = unexpected_too _
  mark_looser r (step.Submit begun given) m = unexpected_too _
  mark_looser r (step.Group begun copy end given) m = by_kept (ranges at) at r (by_test (ranges at) at (is_close m && is_some given.file) _)
  mark_looser r (step.Run begun w given) m = by_kept (ranges at) at r (by_test (ranges at) at (is_open m) _)
  mark_looser r (step.RunGroup begun w given) m = by_kept (ranges at) at r (by_test (ranges at) at (is_close m) _)

  named_by : (r : Reading) (at1 : ℕ) (k : Key) (x : Result (List ℕ) FaultName) → Looser (Reading × State) (ranges at) at (named_label strict r at1 x at k) (named_label (easier ranges) r at1 x at k)
  named_by r at1 k (Ok name) = verb_looser r (Some (at1, name)) k
  named_by r at1 k (Err name) = unexpected_too _

  open_looser : (r : Reading) (s : Step) (set : Slot) (at1 : ℕ) (starts lists parens : Bool) (x y z : State)
      → Looser (Reading × State) (ranges at) at (kept r (if starts then Ok x else (if lists then Ok y else on parens at z))) (kept r (if starts then Ok x else (if lists then Ok y else on parens at z)))
  open_looser r s set at1 true lists parens x y z = same _
  open_looser r s set at1 false true parens x y z = same _
  open_looser r s set at1 false false parens x y z = by_kept (ranges at) at r (by_test (ranges at) at parens z)

  time_looser : (r : Reading) (given : Given) (day : Day) (word : List ℕ) (clock : Option Clock)
      → Looser (Reading × State) (ranges at) at (kept r (time_move strict given day at word clock)) (kept r (time_move (easier ranges) given day at word clock))
  time_looser r given day word (Some clock) = by_kept (ranges at) at r (by_place (ranges at) at (plain_time clock) _)
  time_looser r given day word None = by_kept (ranges at) at r (by_place (ranges at) at (named_time word) _)

  half_looser : (r : Reading) (given : Given) (day : Day) (clock : Option Clock) (half : Option ℕ)
      → Looser (Reading × State) (ranges at) at (kept r (half_move strict given day at clock half)) (kept r (half_move (easier ranges) given day at clock half))
  half_looser r given day (Some clock) (Some half) = by_kept (ranges at) at r (by_place (ranges at) at (half_time clock half) _)
  half_looser r given day (Some clock) None = unexpected_too _
  half_looser r given day None half = unexpected_too _

module _ (ranges : ℕ → Bool) where
  abbrev pub LooserTurn : Token → Turn → Turn → Type 0
  LooserTurn t x y = Looser (Reading × State) (ranges (place_of t)) (place_of t) x y

  at_looser : (r : Reading) (s : Step) (t : Token) → LooserTurn t (at_turn strict r s t) (at_turn (easier ranges) r s t)
  at_looser r s (Word at k word) = word_looser ranges at r s k word
  at_looser r s (Quoted at text) = unexpected_too _
  at_looser r s (Mark at m) = mark_looser ranges at r s m

  named_looser : (r : Reading) (s : Step) (set : Slot) (at : ℕ) (k : Key) (word : List ℕ) (t : Token) → ranges at ≡ true
      → LooserTurn t (named_turn strict r s set at k word t) (named_turn (easier ranges) r s set at k word t)
  named_looser r s set at k word (Word at2 k2 word2) asks = rw asks (by_end (ranges at2) at2 (ended r s) _ _ (λ before. named_by ranges at2 before at k2 (taken true (front_label_in k word))))
  named_looser r s set at k word (Quoted at2 text) asks = unexpected_too _
  named_looser r s set at k word (Mark at2 m) asks = by_test (ranges at2) at2 (is_equals m) _

  value_looser : (r : Reading) (s : Step) (set : Slot) (at : ℕ) (t : Token) → LooserTurn t (kept r (value_move strict s set at t)) (kept r (value_move (easier ranges) s set at t))
  unfolding value_move open_move
  value_looser r s set at (Word at2 k word) = by_kept (ranges at2) at2 r (by_place (ranges at2) at2 (with_value (given_of s) set at (Word at2 k word)) _)
  value_looser r s set at (Quoted at2 text) = by_kept (ranges at2) at2 r (by_place (ranges at2) at2 (with_value (given_of s) set at (Quoted at2 text)) _)
  value_looser r s set at (Mark at2 sign.Open) = open_looser ranges at2 r s set at (is_start set) (takes_list set) (takes_parentheses set) _ _ _
  value_looser r s set at (Mark at2 _) = unexpected_too _

  -- the next sign, or any word
  open_sign : (r : Reading) (s : State) (t : Token) → LooserTurn t (kept r (behind_open t s)) (kept r (behind_open t s))
  open_sign r s (Word at k word) = unexpected_too _
  open_sign r s (Quoted at text) = unexpected_too _
  open_sign r s (Mark at m) = by_kept (ranges at) at r (by_test (ranges at) at (is_open m) s)

  close_sign : (r : Reading) (s : State) (t : Token) → LooserTurn t (kept r (behind_close t s)) (kept r (behind_close t s))
  close_sign r s (Word at k word) = unexpected_too _
  close_sign r s (Quoted at text) = unexpected_too _
  close_sign r s (Mark at m) = by_kept (ranges at) at r (by_test (ranges at) at (is_close m) s)

  equals_sign : (r : Reading) (s : State) (t : Token) → LooserTurn t (kept r (behind_equals t s)) (kept r (behind_equals t s))
  equals_sign r s (Word at k word) = unexpected_too _
  equals_sign r s (Quoted at text) = unexpected_too _
  equals_sign r s (Mark at m) = by_kept (ranges at) at r (by_test (ranges at) at (is_equals m) s)

  any_word : (r : Reading) (s : State) (t : Token) → LooserTurn t (kept r (behind_word t s)) (kept r (behind_word t s))
  any_word r s (Word at k word) = same _
  any_word r s (Quoted at text) = unexpected_too _
  any_word r s (Mark at m) = unexpected_too _

  values_looser : (r : Reading) (s : Step) (t : Token) → LooserTurn t (kept r (values_move s t)) (kept r (values_move s t))
  values_looser r s (Word at k word) = same _
  values_looser r s (Quoted at text) = same _
  values_looser r s (Mark at m) = by_kept (ranges at) at r (by_test (ranges at) at (is_close m) _)

  symbol_value_looser : (r : Reading) (s : Step) (name : List ℕ) (t : Token) → LooserTurn t (symbol_value_turn r s name t) (symbol_value_turn r s name t)
  symbol_value_looser r s name (Word at k word) = same _
  symbol_value_looser r s name (Quoted at text) = same _
  symbol_value_looser r s name (Mark at m) = unexpected_too _

  starting_looser : (r : Reading) (given : Given) (t : Token) → LooserTurn t (kept r (starting_move given t)) (kept r (starting_move given t))
  starting_looser r given (Word at k word) = by_kept (ranges at) at r (by_wanted (ranges at) at _ _)
  starting_looser r given (Quoted at text) = unexpected_too _
  starting_looser r given (Mark at m) = by_kept (ranges at) at r (by_test (ranges at) at _ _)

  dated_looser : (r : Reading) (given : Given) (day : Day) (t : Token) → LooserTurn t (kept r (dated_move given day t)) (kept r (dated_move given day t))
  dated_looser r given day (Word at k word) = unexpected_too _
  dated_looser r given day (Quoted at text) = unexpected_too _
  dated_looser r given day (Mark at sign.Close) = same _
  dated_looser r given day (Mark at sign.Comma) = same _
  dated_looser r given day (Mark at _) = unexpected_too _

  timing_looser : (r : Reading) (given : Given) (day : Day) (t : Token) → LooserTurn t (kept r (timing_move strict given day t)) (kept r (timing_move (easier ranges) given day t))
  timing_looser r given day (Word at k word) = time_looser ranges at r given day word (clock_in word)
  timing_looser r given day (Quoted at text) = unexpected_too _
  timing_looser r given day (Mark at m) = unexpected_too _

  timed_looser : (r : Reading) (given : Given) (day : Day) (clock : Option Clock) (seconds : ℕ) (t : Token)
      → LooserTurn t (kept r (timed_move strict given day clock seconds t)) (kept r (timed_move (easier ranges) given day clock seconds t))
  timed_looser r given day clock seconds (Word at k word) = half_looser ranges at r given day clock (half_in word)
  timed_looser r given day clock seconds (Quoted at text) = unexpected_too _
  timed_looser r given day clock seconds (Mark at m) = by_kept (ranges at) at r (by_test (ranges at) at (is_close m) _)

  compress_looser : (r : Reading) (begun : Begun) (copy : CopyGiven) (t : Token) → LooserTurn t (compress_turn strict r begun copy t) (compress_turn (easier ranges) r begun copy t)
  compress_looser r begun copy (Word at key.Primechar word) = same _
  compress_looser r begun copy (Word at key.Extended word) = same _
  compress_looser r begun copy (Word at k word) = at_looser r (step.Copy begun copy) (Word at k word)
  compress_looser r begun copy (Quoted at text) = unexpected_too _
  compress_looser r begun copy (Mark at m) = at_looser r (step.Copy begun copy) (Mark at m)

  primed_looser : (r : Reading) (begun : Begun) (copy : CopyGiven) (t : Token) → LooserTurn t (primed_turn strict r begun copy t) (primed_turn (easier ranges) r begun copy t)
  primed_looser r begun copy (Word at k word) = at_looser r (step.Copy begun copy) (Word at k word)
  primed_looser r begun copy (Quoted at text) = same _
  primed_looser r begun copy (Mark at m) = at_looser r (step.Copy begun copy) (Mark at m)

  extended_looser : (r : Reading) (begun : Begun) (copy : CopyGiven) (t : Token) → LooserTurn t (extended_turn strict r begun copy t) (extended_turn (easier ranges) r begun copy t)
  extended_looser r begun copy (Word at k word) = at_looser r (step.Copy begun copy) (Word at k word)
  extended_looser r begun copy (Quoted at text) = unexpected_too _
  extended_looser r begun copy (Mark at sign.Equals) = same _
  extended_looser r begun copy (Mark at m) = at_looser r (step.Copy begun copy) (Mark at m)

  pairs_looser : (r : Reading) (s : Step) (t : Token) → LooserTurn t (kept r (pairs_move s t)) (kept r (pairs_move s t))
  pairs_looser r s (Word at k word) = same _
  pairs_looser r s (Quoted at text) = unexpected_too _
  pairs_looser r s (Mark at m) = by_kept (ranges at) at r (by_test (ranges at) at (is_close m) _)

  running_looser : (r : Reading) (begun : Begun) (t : Token) → LooserTurn t (kept r (running_move begun t)) (kept r (running_move begun t))
  running_looser r begun (Word at k word) = by_kept (ranges at) at r (by_wanted (ranges at) at _ _)
  running_looser r begun (Quoted at text) = unexpected_too _
  running_looser r begun (Mark at m) = unexpected_too _

  if_label_looser : (r : Reading) (begun : Begun) (t : Token) → LooserTurn t (kept r (if_label_move strict begun t)) (kept r (if_label_move (easier ranges) begun t))
  if_label_looser r begun (Word at k word) = by_kept (ranges at) at r (by_place (ranges at) at (label_in k word) _)
  if_label_looser r begun (Quoted at text) = unexpected_too _
  if_label_looser r begun (Mark at m) = unexpected_too _

  if_number_looser : (r : Reading) (begun : Begun) (at1 : ℕ) (name : List ℕ) (rel : Relation) (t : Token)
      → LooserTurn t (kept r (if_number_move strict begun at1 name rel t)) (kept r (if_number_move (easier ranges) begun at1 name rel t))
  if_number_looser r begun at1 name rel (Word at k word) = by_kept (ranges at) at r (by_place (ranges at) at (number_in 0 255 word) _)
  if_number_looser r begun at1 name rel (Quoted at text) = unexpected_too _
  if_number_looser r begun at1 name rel (Mark at m) = unexpected_too _

  if_then_looser : (r : Reading) (begun : Begun) (at1 : ℕ) (name : List ℕ) (rel : Relation) (n : ℕ) (t : Token) → LooserTurn t (if_then_turn r begun at1 name rel n t) (if_then_turn r begun at1 name rel n t)
  if_then_looser r begun at1 name rel n (Word at key.Then word) = same _
  if_then_looser r begun at1 name rel n (Word at _ word) = unexpected_too _
  if_then_looser r begun at1 name rel n (Quoted at text) = unexpected_too _
  if_then_looser r begun at1 name rel n (Mark at m) = unexpected_too _

  goto_looser : (r : Reading) (begun : Begun) (t : Token) → LooserTurn t (goto_turn strict r begun t) (goto_turn (easier ranges) r begun t)
  goto_looser r begun (Word at k word) = by_place (ranges at) at (label_in k word) _
  goto_looser r begun (Quoted at text) = unexpected_too _
  goto_looser r begun (Mark at m) = unexpected_too _

  labelled_looser : (r : Reading) (at1 : ℕ) (name : List ℕ) (t : Token) → LooserTurn t (labelled_turn strict r at1 name t) (labelled_turn (easier ranges) r at1 name t)
  labelled_looser r at1 name (Word at k word) = verb_looser ranges at r (Some (at1, name)) k
  labelled_looser r at1 name (Quoted at text) = unexpected_too _
  labelled_looser r at1 name (Mark at m) = unexpected_too _

  ended_looser : (r : Reading) (t : Token) → LooserTurn t (kept r (ended_move t)) (kept r (ended_move t))
  ended_looser r (Word at k word) = unexpected_too _
  ended_looser r (Quoted at text) = unexpected_too _
  ended_looser r (Mark at sign.Semicolon) = same _
  ended_looser r (Mark at _) = unexpected_too _

  -- the range of the word of a parameter is asked for, where it may be a label
  abbrev pub IsAsked : State → Type 0
  IsAsked (Named s set at k word) = ranges at ≡ true
  IsAsked _ = Unit {0}

  pub next_looser : (r : Reading) (s : State) (t : Token) → IsAsked s → LooserTurn t (next strict r s t) (next (easier ranges) r s t)
  unfolding next
  next_looser r (At s) t asks = at_looser r s t
  next_looser r (Labelled at name) t asks = labelled_looser r at name t
  next_looser r (Named s set at k word) t asks = named_looser r s set at k word t asks
  next_looser r (Value s set at) t asks = value_looser r s set at t
  next_looser r (Parenthesized s set at) t asks = by_kept (ranges (place_of t)) (place_of t) r (by_place (ranges (place_of t)) (place_of t) (with_value (given_of s) set at t) _)
  next_looser r (Closing s) t asks = close_sign r (At s) t
  next_looser r (Values s) t asks = values_looser r s t
  next_looser r (Symbol s name) t asks = equals_sign r (SymbolValue s name) t
  next_looser r (SymbolValue s name) t asks = symbol_value_looser r s name t
  next_looser r (Starting given) t asks = starting_looser r given t
  next_looser r (Dated given day) t asks = dated_looser r given day t
  next_looser r (Timing given day) t asks = timing_looser r given day t
  next_looser r (Timed given day clock seconds) t asks = timed_looser r given day clock seconds t
  next_looser r (GroupOpen begun copy end) t asks = open_sign r (At (step.Group begun copy end nothing)) t
  next_looser r (Compress begun copy) t asks = compress_looser r begun copy t
  next_looser r (Prime begun copy) t asks = equals_sign r (PrimeValue begun copy) t
  next_looser r (PrimeValue begun copy) t asks = any_word r (Primed begun copy) t
  next_looser r (Primed begun copy) t asks = primed_looser r begun copy t
  next_looser r (Extended begun copy) t asks = extended_looser r begun copy t
  next_looser r (Extending begun copy) t asks = open_sign r (Pairs (step.Copy begun copy)) t
  next_looser r (Pairs s) t asks = pairs_looser r s t
  next_looser r (PairNamed s) t asks = equals_sign r (PairValue s) t
  next_looser r (PairValue s) t asks = any_word r (Pairs s) t
  next_looser r (Running begun) t asks = running_looser r begun t
  next_looser r (IfOpen begun) t asks = open_sign r (IfLabel begun) t
  next_looser r (IfLabel begun) t asks = if_label_looser r begun t
  next_looser r (IfRelation begun at name) t asks = by_kept (ranges (place_of t)) (place_of t) r (by_wanted (ranges (place_of t)) (place_of t) (relation_of t) _)
  next_looser r (IfNumber begun at name rel) t asks = if_number_looser r begun at name rel t
  next_looser r (IfClose begun at name rel n) t asks = close_sign r (IfThen begun at name rel n) t
  next_looser r (IfThen begun at name rel n) t asks = if_then_looser r begun at name rel n t
  next_looser r (GotoLabel begun) t asks = goto_looser r begun t
  next_looser r Ended t asks = ended_looser r t
  next_looser r Closed t asks = unexpected_too _
