-- What holds wherever the machine gets to: the ends of a COPY that were read name their files, a label stands only where a
-- statement may begin, and a word before a list or a parenthesis takes it.
use Rattle.std.proofs.Common.{◌≡◌, if◌then◌else◌, ℕ, List, [], ◌∷◌, Bool, true, false, ◌&&◌, is_some, Option, Some, None, Result, Ok, Err, refl, ◌∙◌}
use Rattle.std.specs.Option.{option_map}
use Rattle.cd_types.specs.declared.choices.Relation.{Relation}
use Rattle.cd_types.specs.declared.start.Day.{Day}
use Rattle.cd_ast.specs.declared.fault.FaultName.{FaultName}
use Rattle.cd_grammar.specs.declared.token.Key.{Key}
use Rattle.cd_grammar.specs.declared.token.Key.TheVariants as key
use Rattle.cd_grammar.specs.declared.token.Sign.{Sign}
use Rattle.cd_grammar.specs.declared.token.Sign.TheVariants as sign
use Rattle.cd_grammar.specs.declared.token.Token.{Token}
use Rattle.cd_grammar.specs.declared.token.Token.TheVariants.{Word, Quoted, Mark}
use Rattle.cd_grammar.specs.declared.given.Given.{Given}
use Rattle.cd_grammar.specs.declared.given.Slot.{Slot}
use Rattle.cd_grammar.specs.declared.step.Begun.{Begun}
use Rattle.cd_grammar.specs.declared.step.Clock.{Clock}
use Rattle.cd_grammar.specs.declared.step.End.{End}
use Rattle.cd_grammar.specs.declared.step.End.TheVariants as ends
use Rattle.cd_grammar.specs.declared.step.CopyGiven.{CopyGiven}
use Rattle.cd_grammar.specs.declared.step.Step.{Step}
use Rattle.cd_grammar.specs.declared.step.Step.TheVariants as step
use Rattle.cd_grammar.specs.Answers.{Strictness, taken}
use Rattle.cd_grammar.specs.Tokens.{place_of}
use Rattle.cd_grammar.specs.Values.{label_in, symbol_in, number_in}
use Rattle.cd_grammar.specs.Starts.{day_in, clock_in, half_in, plain_time, half_time, named_time}
use Rattle.cd_grammar.specs.Given.{nothing, with_value, takes_list, takes_parentheses, side_of}
use Rattle.cd_grammar.specs.Reading.{Reading, ended, given_of, with_given, slot_of, takes_symbols, end_of, with_end, has_room, has_depth}
use Rattle.cd_grammar.specs.Grammar.{begun_at, relation_of, work_of, end_in}
use Rattle.cd_automaton.specs.State.{State, At, Labelled, Named, Value, Parenthesized, Closing, Values, Symbol, SymbolValue, Starting, Dated, Timing, Timed, GroupOpen, Compress, Prime, PrimeValue, Primed, Extended, Extending, Pairs, PairNamed, PairValue, Running, IfOpen, IfLabel, IfRelation, IfNumber, IfClose, IfThen, GotoLabel, Ended, Closed}
use Rattle.cd_automaton.specs.Machine.{Turn, kept, with_place, roomy, on, is_open, is_close, is_equals, behind_open, behind_close, behind_equals, behind_word, free, sided, end_state, compress_if, compress_by, copy_state, bare_state, else_turn, eif_turn, if_turn, verb_turn, label_move, statement_turn, ended_turn, bare_turn, is_symbolic, symbol_turn, slot_turn, is_opener, word_by, word_turn, mark_move, at_turn, named_label, named_turn, is_start, open_move, value_move, values_move, symbol_value_turn, wanted_at, starting_move, dated_move, time_move, timing_move, half_move, timed_move, compress_turn, primed_turn, extended_turn, pairs_move, running_move, if_label_move, if_number_move, if_then_turn, goto_turn, labelled_turn, ended_move, next}

-- an end of a COPY that was read names a file
abbrev pub IsFiled : Option Given → Type 0
IsFiled None = Unit {0}
IsFiled (Some given) = is_some given.file ≡ true

abbrev pub GoodCopy : CopyGiven → Type 0
GoodCopy copy = IsFiled copy.from × IsFiled copy.to

abbrev pub GoodStep : Step → Type 0
GoodStep (step.Head given) = Unit {0}
GoodStep step.Between = Unit {0}
GoodStep (step.Copy begun copy) = GoodCopy copy
GoodStep (step.Group begun copy end given) = GoodCopy copy
GoodStep (step.Run begun w given) = Unit {0}
GoodStep (step.RunGroup begun w given) = Unit {0}
GoodStep (step.Submit begun given) = Unit {0}

-- besides, what is asked holds of the place of the word of a parameter
abbrev pub Good : Strictness → (ℕ → Type 0) → Reading → State → Type 0
Good how Q r (At s) = GoodStep s
Good how Q r (Labelled at name) = has_room how r ≡ true
Good how Q r (Named s set at k word) = GoodStep s × Q at
Good how Q r (Value s set at) = GoodStep s
Good how Q r (Parenthesized s set at) = GoodStep s × (takes_parentheses set ≡ true)
Good how Q r (Closing s) = GoodStep s
Good how Q r (Values s) = GoodStep s
Good how Q r (Symbol s name) = GoodStep s
Good how Q r (SymbolValue s name) = GoodStep s
Good how Q r (Starting given) = Unit {0}
Good how Q r (Dated given day) = Unit {0}
Good how Q r (Timing given day) = Unit {0}
Good how Q r (Timed given day clock seconds) = Unit {0}
Good how Q r (GroupOpen begun copy end) = GoodCopy copy
Good how Q r (Compress begun copy) = GoodCopy copy
Good how Q r (Prime begun copy) = GoodCopy copy
Good how Q r (PrimeValue begun copy) = GoodCopy copy
Good how Q r (Primed begun copy) = GoodCopy copy
Good how Q r (Extended begun copy) = GoodCopy copy
Good how Q r (Extending begun copy) = GoodCopy copy
Good how Q r (Pairs s) = GoodStep s
Good how Q r (PairNamed s) = GoodStep s
Good how Q r (PairValue s) = GoodStep s
Good how Q r (Running begun) = Unit {0}
Good how Q r (IfOpen begun) = Unit {0}
Good how Q r (IfLabel begun) = Unit {0}
Good how Q r (IfRelation begun at name) = Unit {0}
Good how Q r (IfNumber begun at name rel) = Unit {0}
Good how Q r (IfClose begun at name rel n) = Unit {0}
Good how Q r (IfThen begun at name rel n) = Unit {0}
Good how Q r (GotoLabel begun) = Unit {0}
Good how Q r Ended = Unit {0}
Good how Q r Closed = Unit {0}

-- where the token had no fault
abbrev pub Well : Strictness → (ℕ → Type 0) → Turn → Type 0
Well how Q (Ok x) = Good how Q x.0 x.1
Well how Q (Err f) = Unit {0}

second_of : (a b : Bool) → (a && b) ≡ true → b ≡ true
second_of true b e = e
second_of false b e = absurd cc

pub given_good : (s : Step) (later : Given) → GoodStep s → GoodStep (with_given s later)
given_good (step.Head given) later h = tt
given_good step.Between later h = tt
given_good (step.Copy begun copy) later h = h
given_good (step.Group begun copy end given) later h = h
given_good (step.Run begun w given) later h = tt
given_good (step.RunGroup begun w given) later h = tt
given_good (step.Submit begun given) later h = tt

pub end_good : (copy : CopyGiven) (end : End) (given : Given) → GoodCopy copy → is_some given.file ≡ true → GoodCopy (with_end copy end given)
end_good copy ends.From given h e = (e, h.1)
end_good copy ends.To given h e = (h.0, e)

module _ (how : Strictness) (Q : ℕ → Type 0) where
  by_place : {A : Type 0} (r : Reading) (at : ℕ) (x : Result A FaultName) (f : A → State) → ((v : A) → Good how Q r (f v)) → Well how Q (kept r (with_place at x f))
  by_place r at (Ok v) f h = h v
  by_place r at (Err name) f h = tt

  by_wanted : {A : Type 0} (r : Reading) (at : ℕ) (o : Option A) (f : A → State) → ((v : A) → Good how Q r (f v)) → Well how Q (kept r (wanted_at at o f))
  by_wanted r at (Some v) f h = h v
  by_wanted r at None f h = tt

  by_test : (r : Reading) (b : Bool) (at : ℕ) (s : State) → (b ≡ true → Good how Q r s) → Well how Q (kept r (on b at s))
  by_test r true at s h = h refl
  by_test r false at s h = tt

  by_room : (b : Bool) (x : Turn) → (b ≡ true → Well how Q x) → Well how Q (roomy b x)
  by_room true x h = h refl
  by_room false x h = tt

  by_end : (o : Option Reading) (f : Reading → Turn) (at : ℕ) → ((before : Reading) → Well how Q (f before)) → Well how Q (ended_turn o f at)
  by_end (Some before) f at h = h before
  by_end None f at h = tt

  if_well : (r : Reading) (begun : Begun) (deep room : Bool) → Well how Q (if_turn r begun deep room)
  if_well r begun true room = by_room room _ (λ e. tt)
  if_well r begun false room = tt

  verb_well : (r : Reading) (label : Option (ℕ × List ℕ)) (at : ℕ) (k : Key) → Well how Q (verb_turn how r label at k)
  unfolding verb_turn
  verb_well r label at key.Copy = by_room (has_room how r) _ (λ e. (tt, tt))
  verb_well r label at key.Run = by_room (has_room how r) _ (λ e. tt)
  verb_well r label at key.Submit = by_room (has_room how r) _ (λ e. tt)
  verb_well r label at key.Goto = by_room (has_room how r) _ (λ e. tt)
  verb_well r label at key.Exit = by_room (has_room how r) _ (λ e. tt)
  verb_well r label at key.If = if_well r (begun_at label at) (has_depth how at r) (has_room how r)
  verb_well r label at _ = tt

  label_well : (r : Reading) (at : ℕ) (x : Result (List ℕ) FaultName) → Well how Q (label_move how r at x)
  label_well r at (Ok name) = by_room (has_room how r) _ (λ e. e)
  label_well r at (Err name) = tt

  else_well : (r : Reading) (at : ℕ) (room : Bool) (ifs : List Bool) → Well how Q (else_turn r at room ifs)
  else_well r at room [] = tt
  else_well r at room (true ∷ ifs) = tt
  else_well r at room (false ∷ ifs) = by_room room _ (λ e. tt)

  eif_well : (r : Reading) (at : ℕ) (room : Bool) (ifs : List Bool) → Well how Q (eif_turn r at room ifs)
  eif_well r at room [] = tt
  eif_well r at room (has_else ∷ ifs) = by_room room _ (λ e. tt)

  statement_well : (r : Reading) (at : ℕ) (k : Key) (word : List ℕ) → Well how Q (statement_turn how r at k word)
  unfolding statement_turn
  statement_well r at key.Else word = else_well r at (has_room how r) r.ifs
  statement_well r at key.Eif word = eif_well r at (has_room how r) r.ifs
  statement_well r at key.Pend word = tt
  statement_well r at key.Copy word = verb_well r None at key.Copy
  statement_well r at key.Run word = verb_well r None at key.Run
  statement_well r at key.Submit word = verb_well r None at key.Submit
  statement_well r at key.If word = verb_well r None at key.If
  statement_well r at key.Goto word = verb_well r None at key.Goto
  statement_well r at key.Exit word = verb_well r None at key.Exit
  statement_well r at k word = label_well r at _

  fall : (r : Reading) (s : Step) (at : ℕ) (k : Key) (word : List ℕ) → Well how Q (ended_turn (ended r s) (λ before. statement_turn how before at k word) at)
  fall r s at k word = by_end (ended r s) _ at (λ before. statement_well before at k word)

  -- a word that stands alone
  abbrev GoodBare : Reading → Option State → Type 0
  GoodBare r None = Unit {0}
  GoodBare r (Some s) = Good how Q r s

  end_bare : (r : Reading) (begun : Begun) (copy : CopyGiven) (end : End) (o : Option Given) → GoodCopy copy → GoodBare r (end_state begun copy end o)
  end_bare r begun copy end None h = h
  end_bare r begun copy end (Some given) h = tt

  compress_bare : (r : Reading) (begun : Begun) (copy : CopyGiven) (b : Bool) → GoodCopy copy → GoodBare r (compress_if begun copy b)
  compress_bare r begun copy true h = tt
  compress_bare r begun copy false h = h

  compress_key_bare : (r : Reading) (begun : Begun) (copy : CopyGiven) (k : Key) → GoodCopy copy → GoodBare r (compress_by begun copy k)
  unfolding compress_by
  compress_key_bare r begun copy key.Compress h = compress_bare r begun copy copy.compress h
  compress_key_bare r begun copy _ h = tt

  copy_bare : (r : Reading) (begun : Begun) (copy : CopyGiven) (k : Key) (o : Option End) → GoodCopy copy → GoodBare r (copy_state begun copy k o)
  copy_bare r begun copy k (Some end) h = end_bare r begun copy end (end_of copy end) h
  copy_bare r begun copy k None h = compress_key_bare r begun copy k h

  side_bare : (r : Reading) (f : Given → Step) (o : Option Given) → ((given : Given) → GoodStep (f given)) → GoodBare r (option_map (λ given. At (f given)) o)
  side_bare r f (Some given) h = h given
  side_bare r f None h = tt

  bare_good : (r : Reading) (s : Step) (k : Key) → GoodStep s → GoodBare r (bare_state s k)
  unfolding bare_state
  bare_good r (step.Head given) k h = tt
  bare_good r step.Between k h = tt
  bare_good r (step.Copy begun copy) k h = copy_bare r begun copy k (end_in k) h
  bare_good r (step.Group begun copy end given) k h = side_bare r (λ later. step.Group begun copy end later) (sided given (side_of k) given.side) (λ later. h)
  bare_good r (step.Run begun w given) k h = side_bare r (λ later. step.Run begun w later) (sided given (side_of k) given.side) (λ later. tt)
  bare_good r (step.RunGroup begun w given) k h = side_bare r (λ later. step.RunGroup begun w later) (sided given (side_of k) given.side) (λ later. tt)
  bare_good r (step.Submit begun given) k h = tt

  bare_well : (r : Reading) (s : Step) (at : ℕ) (k : Key) (word : List ℕ) (o : Option State) → GoodBare r o → Well how Q (bare_turn how r s at k word o)
  bare_well r s at k word (Some state) h = h
  bare_well r s at k word None h = fall r s at k word

  symbol_well : (r : Reading) (s : Step) (at : ℕ) (k : Key) (word : List ℕ) (b : Bool) → GoodStep s → Well how Q (symbol_turn how r s at k word b)
  symbol_well r s at k word true h = by_place r at (taken (how.ranges at) (symbol_in word)) _ (λ name. h)
  symbol_well r s at k word false h = bare_well r s at k word (bare_state s k) (bare_good r s k h)

  slot_well : (r : Reading) (s : Step) (at : ℕ) (k : Key) (word : List ℕ) (o : Option Slot) → Q at → GoodStep s → Well how Q (slot_turn how r s at k word o)
  slot_well r s at k word (Some set) q h = (h, q)
  slot_well r s at k word None q h = symbol_well r s at k word (takes_symbols s && is_symbolic word) h

  word_by_well : (r : Reading) (s : Step) (at : ℕ) (k : Key) (word : List ℕ) (b : Bool) → Q at → GoodStep s → Well how Q (word_by how r s at k word b)
  word_by_well r s at k word true q h = fall r s at k word
  word_by_well r s at k word false q h = slot_well r s at k word (free (given_of s) (slot_of s k)) q h

  word_well : (r : Reading) (s : Step) (at : ℕ) (k : Key) (word : List ℕ) → Q at → GoodStep s → Well how Q (word_turn how r s at k word)
  unfolding word_turn
  word_well r s at k word q h = word_by_well r s at k word (is_opener k) q h

  mark_well : (r : Reading) (s : Step) (at : ℕ) (m : Sign) → GoodStep s → Well how Q (kept r (mark_move s at m))
  unfolding mark_move
  mark_well r (step.Head given) at m h = tt
  mark_well r step.Between at m h = tt
  mark_well r (step.Copy begun copy) at m h = tt
  mark_well r (step.Submit begun given) at m h = tt
  mark_well r (step.Group begun copy end given) at m h = by_test r (is_close m && is_some given.file) at _ (λ e. end_good copy end given h (second_of (is_close m) (is_some given.file) e))
  mark_well r (step.Run begun w given) at m h = by_test r (is_open m) at _ (λ e. tt)
  mark_well r (step.RunGroup begun w given) at m h = by_test r (is_close m) at _ (λ e. tt)

  at_well : (r : Reading) (s : Step) (t : Token) → Q (place_of t) → GoodStep s → Well how Q (at_turn how r s t)
  at_well r s (Word at k word) q h = word_well r s at k word q h
  at_well r s (Quoted at text) q h = tt
  at_well r s (Mark at m) q h = mark_well r s at m h

  label_verb_well : (r : Reading) (at : ℕ) (x : Result (List ℕ) FaultName) (at2 : ℕ) (k2 : Key) → Well how Q (named_label how r at x at2 k2)
  label_verb_well r at (Ok name) at2 k2 = verb_well r (Some (at, name)) at2 k2
  label_verb_well r at (Err name) at2 k2 = tt

  equals_value : (r : Reading) (b : Bool) (at : ℕ) (s : State) → Good how Q r s → Well how Q (on b at (r, s))
  equals_value r true at s h = h
  equals_value r false at s h = tt

  named_well : (r : Reading) (s : Step) (set : Slot) (at : ℕ) (k : Key) (word : List ℕ) (t : Token) → GoodStep s → Well how Q (named_turn how r s set at k word t)
  named_well r s set at k word (Word at2 k2 word2) h = by_end (ended r s) _ at2 (λ before. label_verb_well before at _ at2 k2)
  named_well r s set at k word (Quoted at2 text) h = tt
  named_well r s set at k word (Mark at2 m) h = equals_value r (is_equals m) at2 (Value s set at) h

  open_well : (r : Reading) (s : Step) (set : Slot) (at at2 : ℕ) (starts lists parens : Bool) → takes_parentheses set ≡ parens → GoodStep s
      → Well how Q (kept r (if starts then Ok (Starting (given_of s)) else (if lists then Ok (Values (with_given s (Rattle.cd_grammar.specs.Given.with_list (given_of s) set))) else on parens at2 (Parenthesized s set at))))
  open_well r s set at at2 true lists parens e h = tt
  open_well r s set at at2 false true parens e h = given_good s _ h
  open_well r s set at at2 false false parens e h = by_test r parens at2 _ (λ e2. (h, e ∙ e2))

  value_well : (r : Reading) (s : Step) (set : Slot) (at : ℕ) (t : Token) → GoodStep s → Well how Q (kept r (value_move how s set at t))
  unfolding value_move open_move
  value_well r s set at (Word at2 k word) h = by_place r at2 (taken (how.ranges at2) (with_value (given_of s) set at (Word at2 k word))) _ (λ later. given_good s later h)
  value_well r s set at (Quoted at2 text) h = by_place r at2 (taken (how.ranges at2) (with_value (given_of s) set at (Quoted at2 text))) _ (λ later. given_good s later h)
  value_well r s set at (Mark at2 sign.Open) h = open_well r s set at at2 (is_start set) (takes_list set) (takes_parentheses set) refl h
  value_well r s set at (Mark at2 _) h = tt

  open_sign : (r : Reading) (s : State) (t : Token) → Good how Q r s → Well how Q (kept r (behind_open t s))
  open_sign r s (Word at k word) h = tt
  open_sign r s (Quoted at text) h = tt
  open_sign r s (Mark at m) h = by_test r (is_open m) at s (λ e. h)

  close_sign : (r : Reading) (s : State) (t : Token) → Good how Q r s → Well how Q (kept r (behind_close t s))
  close_sign r s (Word at k word) h = tt
  close_sign r s (Quoted at text) h = tt
  close_sign r s (Mark at m) h = by_test r (is_close m) at s (λ e. h)

  equals_sign : (r : Reading) (s : State) (t : Token) → Good how Q r s → Well how Q (kept r (behind_equals t s))
  equals_sign r s (Word at k word) h = tt
  equals_sign r s (Quoted at text) h = tt
  equals_sign r s (Mark at m) h = by_test r (is_equals m) at s (λ e. h)

  any_word : (r : Reading) (s : State) (t : Token) → Good how Q r s → Well how Q (kept r (behind_word t s))
  any_word r s (Word at k word) h = h
  any_word r s (Quoted at text) h = tt
  any_word r s (Mark at m) h = tt

  values_well : (r : Reading) (s : Step) (t : Token) → GoodStep s → Well how Q (kept r (values_move s t))
  values_well r s (Word at k word) h = h
  values_well r s (Quoted at text) h = h
  values_well r s (Mark at m) h = by_test r (is_close m) at _ (λ e. h)

  symbol_value_well : (r : Reading) (s : Step) (name : List ℕ) (t : Token) → GoodStep s → Well how Q (symbol_value_turn r s name t)
  symbol_value_well r s name (Word at k word) h = h
  symbol_value_well r s name (Quoted at text) h = h
  symbol_value_well r s name (Mark at m) h = tt

  starting_well : (r : Reading) (given : Given) (t : Token) → Well how Q (kept r (starting_move given t))
  starting_well r given (Word at k word) = by_wanted r at (day_in word) _ (λ day. tt)
  starting_well r given (Quoted at text) = tt
  starting_well r given (Mark at m) = by_test r _ at _ (λ e. tt)

  dated_well : (r : Reading) (given : Given) (day : Day) (t : Token) → Well how Q (kept r (dated_move given day t))
  dated_well r given day (Word at k word) = tt
  dated_well r given day (Quoted at text) = tt
  dated_well r given day (Mark at sign.Close) = tt
  dated_well r given day (Mark at sign.Comma) = tt
  dated_well r given day (Mark at _) = tt

  time_well : (r : Reading) (given : Given) (day : Day) (at : ℕ) (word : List ℕ) (clock : Option Clock) → Well how Q (kept r (time_move how given day at word clock))
  time_well r given day at word (Some clock) = by_place r at (taken (how.ranges at) (plain_time clock)) _ (λ n. tt)
  time_well r given day at word None = by_place r at (taken (how.ranges at) (named_time word)) _ (λ n. tt)

  timing_well : (r : Reading) (given : Given) (day : Day) (t : Token) → Well how Q (kept r (timing_move how given day t))
  timing_well r given day (Word at k word) = time_well r given day at word (clock_in word)
  timing_well r given day (Quoted at text) = tt
  timing_well r given day (Mark at m) = tt

  half_well : (r : Reading) (given : Given) (day : Day) (at : ℕ) (clock : Option Clock) (half : Option ℕ) → Well how Q (kept r (half_move how given day at clock half))
  half_well r given day at (Some clock) (Some half) = by_place r at (taken (how.ranges at) (half_time clock half)) _ (λ n. tt)
  half_well r given day at (Some clock) None = tt
  half_well r given day at None half = tt

  timed_well : (r : Reading) (given : Given) (day : Day) (clock : Option Clock) (seconds : ℕ) (t : Token) → Well how Q (kept r (timed_move how given day clock seconds t))
  timed_well r given day clock seconds (Word at k word) = half_well r given day at clock (half_in word)
  timed_well r given day clock seconds (Quoted at text) = tt
  timed_well r given day clock seconds (Mark at m) = by_test r (is_close m) at _ (λ e. tt)

  compress_well : (r : Reading) (begun : Begun) (copy : CopyGiven) (t : Token) → Q (place_of t) → GoodCopy copy → Well how Q (compress_turn how r begun copy t)
  compress_well r begun copy (Word at key.Primechar word) q h = h
  compress_well r begun copy (Word at key.Extended word) q h = h
  compress_well r begun copy (Word at k word) q h = at_well r (step.Copy begun copy) (Word at k word) q h
  compress_well r begun copy (Quoted at text) q h = tt
  compress_well r begun copy (Mark at m) q h = at_well r (step.Copy begun copy) (Mark at m) q h

  primed_well : (r : Reading) (begun : Begun) (copy : CopyGiven) (t : Token) → Q (place_of t) → GoodCopy copy → Well how Q (primed_turn how r begun copy t)
  primed_well r begun copy (Word at k word) q h = at_well r (step.Copy begun copy) (Word at k word) q h
  primed_well r begun copy (Quoted at text) q h = h
  primed_well r begun copy (Mark at m) q h = at_well r (step.Copy begun copy) (Mark at m) q h

  extended_well : (r : Reading) (begun : Begun) (copy : CopyGiven) (t : Token) → Q (place_of t) → GoodCopy copy → Well how Q (extended_turn how r begun copy t)
  extended_well r begun copy (Word at k word) q h = at_well r (step.Copy begun copy) (Word at k word) q h
  extended_well r begun copy (Quoted at text) q h = tt
  extended_well r begun copy (Mark at sign.Equals) q h = h
  extended_well r begun copy (Mark at m) q h = at_well r (step.Copy begun copy) (Mark at m) q h

  pairs_well : (r : Reading) (s : Step) (t : Token) → GoodStep s → Well how Q (kept r (pairs_move s t))
  pairs_well r s (Word at k word) h = h
  pairs_well r s (Quoted at text) h = tt
  pairs_well r s (Mark at m) h = by_test r (is_close m) at _ (λ e. h)

  running_well : (r : Reading) (begun : Begun) (t : Token) → Well how Q (kept r (running_move begun t))
  running_well r begun (Word at k word) = by_wanted r at (work_of k) _ (λ w. tt)
  running_well r begun (Quoted at text) = tt
  running_well r begun (Mark at m) = tt

  if_label_well : (r : Reading) (begun : Begun) (t : Token) → Well how Q (kept r (if_label_move how begun t))
  if_label_well r begun (Word at k word) = by_place r at (taken (how.ranges at) (label_in k word)) _ (λ name. tt)
  if_label_well r begun (Quoted at text) = tt
  if_label_well r begun (Mark at m) = tt

  if_number_well : (r : Reading) (begun : Begun) (at1 : ℕ) (name : List ℕ) (rel : Relation) (t : Token) → Well how Q (kept r (if_number_move how begun at1 name rel t))
  if_number_well r begun at1 name rel (Word at k word) = by_place r at (taken (how.ranges at) (number_in 0 255 word)) _ (λ n. tt)
  if_number_well r begun at1 name rel (Quoted at text) = tt
  if_number_well r begun at1 name rel (Mark at m) = tt

  if_then_well : (r : Reading) (begun : Begun) (at1 : ℕ) (name : List ℕ) (rel : Relation) (n : ℕ) (t : Token) → Well how Q (if_then_turn r begun at1 name rel n t)
  if_then_well r begun at1 name rel n (Word at key.Then word) = tt
  if_then_well r begun at1 name rel n (Word at _ word) = tt
  if_then_well r begun at1 name rel n (Quoted at text) = tt
  if_then_well r begun at1 name rel n (Mark at m) = tt

  goto_by : (r : Reading) (begun : Begun) (at : ℕ) (x : Result (List ℕ) FaultName) (f : List ℕ → Reading) → Well how Q (with_place at x (λ name. (f name, At step.Between)))
  goto_by r begun at (Ok name) f = tt
  goto_by r begun at (Err name) f = tt

  goto_well : (r : Reading) (begun : Begun) (t : Token) → Well how Q (goto_turn how r begun t)
  goto_well r begun (Word at k word) = goto_by r begun at (taken (how.ranges at) (label_in k word)) _
  goto_well r begun (Quoted at text) = tt
  goto_well r begun (Mark at m) = tt

  labelled_well : (r : Reading) (at1 : ℕ) (name : List ℕ) (t : Token) → Well how Q (labelled_turn how r at1 name t)
  labelled_well r at1 name (Word at k word) = verb_well r (Some (at1, name)) at k
  labelled_well r at1 name (Quoted at text) = tt
  labelled_well r at1 name (Mark at m) = tt

  ended_well : (r : Reading) (t : Token) → Well how Q (kept r (ended_move t))
  ended_well r (Word at k word) = tt
  ended_well r (Quoted at text) = tt
  ended_well r (Mark at sign.Semicolon) = tt
  ended_well r (Mark at _) = tt

  -- one token, whatever the state
  pub next_well : (r : Reading) (s : State) (t : Token) → Q (place_of t) → Good how Q r s → Well how Q (next how r s t)
  unfolding next
  next_well r (At s) t q h = at_well r s t q h
  next_well r (Labelled at name) t q h = labelled_well r at name t
  next_well r (Named s set at k word) t q h = named_well r s set at k word t h.0
  next_well r (Value s set at) t q h = value_well r s set at t h
  next_well r (Parenthesized s set at) t q h = by_place r (place_of t) (taken (how.ranges (place_of t)) (with_value (given_of s) set at t)) _ (λ later. given_good s later h.0)
  next_well r (Closing s) t q h = close_sign r (At s) t h
  next_well r (Values s) t q h = values_well r s t h
  next_well r (Symbol s name) t q h = equals_sign r (SymbolValue s name) t h
  next_well r (SymbolValue s name) t q h = symbol_value_well r s name t h
  next_well r (Starting given) t q h = starting_well r given t
  next_well r (Dated given day) t q h = dated_well r given day t
  next_well r (Timing given day) t q h = timing_well r given day t
  next_well r (Timed given day clock seconds) t q h = timed_well r given day clock seconds t
  next_well r (GroupOpen begun copy end) t q h = open_sign r (At (step.Group begun copy end nothing)) t h
  next_well r (Compress begun copy) t q h = compress_well r begun copy t q h
  next_well r (Prime begun copy) t q h = equals_sign r (PrimeValue begun copy) t h
  next_well r (PrimeValue begun copy) t q h = any_word r (Primed begun copy) t h
  next_well r (Primed begun copy) t q h = primed_well r begun copy t q h
  next_well r (Extended begun copy) t q h = extended_well r begun copy t q h
  next_well r (Extending begun copy) t q h = open_sign r (Pairs (step.Copy begun copy)) t h
  next_well r (Pairs s) t q h = pairs_well r s t h
  next_well r (PairNamed s) t q h = equals_sign r (PairValue s) t h
  next_well r (PairValue s) t q h = any_word r (Pairs s) t h
  next_well r (Running begun) t q h = running_well r begun t
  next_well r (IfOpen begun) t q h = open_sign r (IfLabel begun) t tt
  next_well r (IfLabel begun) t q h = if_label_well r begun t
  next_well r (IfRelation begun at name) t q h = by_wanted r (place_of t) (relation_of t) _ (λ rel. tt)
  next_well r (IfNumber begun at name rel) t q h = if_number_well r begun at name rel t
  next_well r (IfClose begun at name rel n) t q h = close_sign r (IfThen begun at name rel n) t tt
  next_well r (IfThen begun at name rel n) t q h = if_then_well r begun at name rel n t
  next_well r (GotoLabel begun) t q h = goto_well r begun t
  next_well r Ended t q h = ended_well r t
  next_well r Closed t q h = tt
