-- What the grammar allows the machine reads: to the end, or up to a token whose range isn't asked for.
use Rattle.std.proofs.Common.{◌≡◌, if◌then◌else◌, ℕ, List, [], ◌∷◌, Bool, true, false, ◌&&◌, ◌==◌, is_some, Option, Some, None, Result, Ok, Err, refl, ap, ◌∙◌}
use Rattle.cd_types.specs.Symbols.{upper_case}
use Rattle.cd_types.specs.declared.choices.Relation.{Relation}
use Rattle.cd_types.specs.declared.choices.Side.{Side}
use Rattle.cd_types.specs.declared.start.Day.{Day}
use Rattle.cd_types.specs.declared.start.Day.TheVariants.{Today}
use Rattle.cd_ast.specs.declared.fault.FaultName.{FaultName}
use Rattle.cd_ast.specs.declared.process.What.TheVariants as what
use Rattle.cd_grammar.specs.declared.token.Key.{Key}
use Rattle.cd_grammar.specs.declared.token.Key.TheVariants as key
use Rattle.cd_grammar.specs.declared.token.Sign.TheVariants as sign
use Rattle.cd_grammar.specs.declared.token.Token.{Token}
use Rattle.cd_grammar.specs.declared.token.Token.TheVariants.{Word, Quoted, Mark}
use Rattle.cd_grammar.specs.declared.given.Given.{Given}
use Rattle.cd_grammar.specs.declared.given.Slot.{Slot}
use Rattle.cd_grammar.specs.declared.given.Slot.TheVariants as slot
use Rattle.cd_grammar.specs.declared.mark.Sketch.TheVariants as sketch
use Rattle.cd_grammar.specs.declared.step.Begun.{Begun}
use Rattle.cd_grammar.specs.declared.step.Clock.{Clock}
use Rattle.cd_grammar.specs.declared.step.Work.{Work}
use Rattle.cd_grammar.specs.declared.step.Work.TheVariants as work
use Rattle.cd_grammar.specs.declared.step.End.{End}
use Rattle.cd_grammar.specs.declared.step.End.TheVariants as ends
use Rattle.cd_grammar.specs.declared.step.CopyGiven.{CopyGiven}
use Rattle.cd_grammar.specs.declared.step.Step.{Step}
use Rattle.cd_grammar.specs.declared.step.Step.TheVariants as step
use Rattle.cd_grammar.specs.Answers.{Answer, Strictness, taken}
use Rattle.cd_grammar.specs.Tokens.{place_of}
use Rattle.cd_grammar.specs.Words.{key_of}
use Rattle.cd_grammar.specs.Values.{label_in, front_label_in, symbol_in, number_in, is_own}
use Rattle.cd_grammar.specs.Starts.{day_in, clock_in, half_in, plain_time, half_time, time_in, time_by}
use Rattle.cd_grammar.specs.Given.{nothing, head_slot, submit_slot, from_slot, to_slot, task_slot, job_slot, copy_slot, has, with_value, with_list, takes_list, takes_parentheses, side_of}
use Rattle.cd_grammar.specs.Reading.{Reading, named, stored, ended, given_of, with_given, slot_of, end_slot, work_slot, takes_side, takes_symbols, bare_copy, with_name, end_of, with_end, has_room, has_depth}
use Rattle.cd_grammar.specs.Grammar.{Place, Start, Rest, started, begun_at, opening, before_it, relation_of, text_of, work_of, end_in}
use Rattle.cd_grammar.specs.Grammar as g
use Rattle.cd_automaton.specs.Placed.{IsKeyed}
use Rattle.cd_automaton.specs.State.{State, At, Labelled, Named, Value, Parenthesized, Closing, Values, Symbol, SymbolValue, Starting, Dated, Timing, Timed, GroupOpen, Compress, Prime, PrimeValue, Primed, Extended, Extending, Pairs, PairNamed, PairValue, Running, IfOpen, IfLabel, IfRelation, IfNumber, IfClose, IfThen, GotoLabel, Ended, Closed}
use Rattle.cd_automaton.specs.Machine.{kept, with_place, unset, free, compress_by, bare_state, verb_turn, label_move, statement_turn, ended_turn, bare_turn, is_symbolic, symbol_turn, slot_turn, is_opener, is_verb, word_turn, mark_move, open_move, value_move, time_move, next}
use Rattle.cd_automaton.proofs.Stages.{Stage, Fresh, Titled, Reads, staged, step_of, ending}
use Rattle.cd_automaton.proofs.Stages as stages
use Rattle.cd_automaton.proofs.Keys.{slot_opener, verb_opener, statement_verb, own_opener, own_statement, own_bare, front_own}
use Rattle.cd_automaton.proofs.Words.{symbolic_key, symbolic_label, formless, prime_label}

abbrev pub OnStage : stages.Step → (Stage → Type 0) → Type 0
OnStage (Ok st) P = P st
OnStage (Err fault) P = ⊥

-- the machine goes over these tokens to the end, with this reading, or up to the first whose range isn't asked for or whose
-- key isn't its own
abbrev pub Passes : Strictness → Stage → List Token → Reading → Type 0
Passes how st [] all = ending 0 st ≡ Ok all
Passes how st (t ∷ ts) all = IsKeyed t → OnStage (step_of how st t) (λ st2. how.ranges (place_of t) ≡ true → Passes how st2 ts all)

pub record Pass (how : Strictness) (st : Stage) (ts : List Token) (all : Reading) : Type 0 where
  pub holds : Passes how st ts all

-- where the machine stands at a place of the grammar
abbrev pub stage_of : Place → Stage
stage_of Start = Fresh
stage_of (g.At r s) = Reads r (At s)
stage_of (g.Labelled r at label) = Reads r (Labelled at label)
stage_of (g.Values r s) = Reads r (Values s)
stage_of (g.Pairs r s) = Reads r (Pairs s)
stage_of (g.Starting r given) = Reads r (Starting given)
stage_of (g.Timing r given day) = Reads r (Timing given day)

some_is : {A : Type 0} (a b : A) → Some a ≡ Some b → a ≡ b
some_is a b e = cc

pub none_of : {A : Type 0} (o : Option A) → is_some o ≡ false → o ≡ None
none_of None e = refl
none_of (Some x) e = absurd cc

second_of : (a b : Bool) → (a && b) ≡ true → b ≡ true
second_of true b e = e
second_of false b e = absurd cc

extended_own : is_own key.Extended ≡ false → ⊥
unfolding is_own
extended_own e = cc

abbrev Opened : Type 0
Opened = Option (ℕ × List ℕ) × Reading

abbrev opened : Option (ℕ × List ℕ) → Reading → Opened
opened label r = (label, r)

module _ (how : Strictness) where
  on_stage : {st : Stage} {t : Token} {ts : List Token} {all : Reading} (st2 : Stage) → step_of how st t ≡ Ok st2 → Pass how st2 ts all → Pass how st (t ∷ ts) all
  on_stage st2 e rest = record { holds = λ keyed. rw e (λ asked. rest.holds) }

  on_next : {r : Reading} {s : State} {t : Token} {ts : List Token} {all : Reading} (r2 : Reading) (s2 : State) → next how r s t ≡ Ok (r2, s2)
      → Pass how (Reads r2 s2) ts all → Pass how (Reads r s) (t ∷ ts) all
  on_next r2 s2 e rest = record { holds = λ keyed. rw e (λ asked. rest.holds) }

  -- a parameter
  pub named_next : (r : Reading) (s : Step) (set : Slot) (at : ℕ) (k : Key) (word : List ℕ) → slot_of s k ≡ Some set → has (given_of s) set ≡ false
      → next how r (At s) (Word at k word) ≡ Ok (r, Named s set at k word)
  unfolding next word_turn
  named_next r s set at k word e unused = rw (slot_opener s k set e) (rw e (rw unused refl))

  pub value_next : (r : Reading) (s : Step) (set : Slot) (at : ℕ) (value : Token) (later : Given) → taken (how.ranges (place_of value)) (with_value (given_of s) set at value) ≡ Ok later
      → next how r (Value s set at) value ≡ Ok (r, At (with_given s later))
  unfolding next value_move
  value_next r s set at (Word at2 k word) later e = rw e refl
  value_next r s set at (Quoted at2 text) later e = rw e refl
  value_next r s set at (Mark at2 m) later e = absurd cc

  pub inner_next : (r : Reading) (s : Step) (set : Slot) (at : ℕ) (value : Token) (later : Given) → taken (how.ranges (place_of value)) (with_value (given_of s) set at value) ≡ Ok later
      → next how r (Parenthesized s set at) value ≡ Ok (r, Closing (with_given s later))
  unfolding next
  inner_next r s set at value later e = rw e refl

  parenthesis_next : (r : Reading) (s : Step) (set : Slot) (at at3 : ℕ) → takes_parentheses set ≡ true → next how r (Value s set at) (Mark at3 sign.Open) ≡ Ok (r, Parenthesized s set at)
  unfolding next value_move open_move takes_parentheses takes_list
  parenthesis_next r s slot.Share at at3 e = refl
  parenthesis_next r s slot.Disp at at3 e = refl
  parenthesis_next r s _ at at3 e = absurd cc

  list_next : (r : Reading) (s : Step) (set : Slot) (at at3 : ℕ) → takes_list set ≡ true
      → next how r (Value s set at) (Mark at3 sign.Open) ≡ Ok (r, Values (with_given s (with_list (given_of s) set)))
  unfolding next value_move open_move takes_list
  list_next r s slot.Pacct at at3 e = refl
  list_next r s slot.Sacct at at3 e = refl
  list_next r s slot.Notify at at3 e = refl
  list_next r s slot.Pnodeid at at3 e = refl
  list_next r s slot.Snodeid at at3 e = refl
  list_next r s _ at at3 e = absurd cc

  listed_next : (r : Reading) (s : Step) (value : Token) (text : List ℕ) → text_of value ≡ Some text → next how r (Values s) value ≡ Ok (r, Values s)
  unfolding next
  listed_next r s (Word at k word) text e = refl
  listed_next r s (Quoted at word) text e = refl
  listed_next r s (Mark at m) text e = absurd cc

  -- a symbolic name
  by_symbol : (ranges : Bool) (word name : List ℕ) → taken ranges (symbol_in word) ≡ Ok name → is_symbolic word ≡ true
  unfolding symbol_in
  by_symbol true [] name e = absurd cc
  by_symbol false [] name e = absurd cc
  by_symbol ranges (b ∷ word) name e = by_first ranges (b == 38) _ name e
    where
      by_first : (ranges test : Bool) (answer : Answer (List ℕ)) (name : List ℕ) → taken ranges (if test then answer else Rattle.cd_grammar.specs.Answers.Wrong) ≡ Ok name → test ≡ true
      by_first true false answer name e = absurd cc
      by_first false false answer name e = absurd cc
      by_first ranges true answer name e = refl

  other_slot : (s : Step) → takes_symbols s ≡ true → slot_of s key.Other ≡ None
  unfolding slot_of head_slot submit_slot
  other_slot (step.Head given) e = refl
  other_slot (step.Submit begun given) e = refl
  other_slot _ e = absurd cc

  symbol_by : (r : Reading) (s : Step) (at : ℕ) (word name : List ℕ) → takes_symbols s ≡ true → is_symbolic word ≡ true → taken (how.ranges at) (symbol_in word) ≡ Ok name
      → next how r (At s) (Word at key.Other word) ≡ Ok (r, Symbol s name)
  unfolding next word_turn is_opener
  symbol_by r s at word name takes begins e = rw (other_slot s takes) (rw takes (rw begins (rw e refl)))

  symbol_next : (r : Reading) (s : Step) (at : ℕ) (k : Key) (word name : List ℕ) → takes_symbols s ≡ true → taken (how.ranges at) (symbol_in word) ≡ Ok name → k ≡ key_of word
      → next how r (At s) (Word at k word) ≡ Ok (r, Symbol s name)
  symbol_next r s at k word name takes e keyed =
      let begins : is_symbolic word ≡ true = by_symbol (how.ranges at) word name e in
      let other : k ≡ key.Other = keyed ∙ symbolic_key word begins in
      rw other (symbol_by r s at word name takes begins e)

  symbol_value_next : (r : Reading) (s : Step) (name : List ℕ) (value : Token) (text : List ℕ) → text_of value ≡ Some text
      → next how r (SymbolValue s name) value ≡ Ok (with_name r s (upper_case name) text, At s)
  unfolding next
  symbol_value_next r s name (Word at k word) text e = rw (some_is word text e) refl
  symbol_value_next r s name (Quoted at word) text e = rw (some_is word text e) refl
  symbol_value_next r s name (Mark at m) text e = absurd cc

  -- STARTT
  start_next : (r : Reading) (given : Given) (at : ℕ) (word : List ℕ) → is_some given.start ≡ false
      → next how r (At (step.Head given)) (Word at key.Startt word) ≡ Ok (r, Named (step.Head given) slot.Start at key.Startt word)
  unfolding slot_of head_slot has
  start_next r given at word unused = named_next r (step.Head given) slot.Start at key.Startt word refl unused

  start_open_next : (r : Reading) (given : Given) (at at3 : ℕ) → next how r (Value (step.Head given) slot.Start at) (Mark at3 sign.Open) ≡ Ok (r, Starting given)
  unfolding next value_move open_move
  start_open_next r given at at3 = refl

  day_next : (r : Reading) (given : Given) (at : ℕ) (k : Key) (word : List ℕ) (day : Day) → day_in word ≡ Some day → next how r (Starting given) (Word at k word) ≡ Ok (r, Dated given day)
  unfolding next
  day_next r given at k word day e = rw e refl

  time_by_clock : (r : Reading) (given : Given) (day : Day) (at : ℕ) (word : List ℕ) (seconds : ℕ) (clock : Option Clock) → taken (how.ranges at) (time_by clock word) ≡ Ok seconds
      → kept r (time_move how given day at word clock) ≡ Ok (r, Timed given day clock seconds)
  time_by_clock r given day at word seconds (Some clock) e = rw e refl
  time_by_clock r given day at word seconds None e = rw e refl

  pub time_next : (r : Reading) (given : Given) (day : Day) (at : ℕ) (k : Key) (word : List ℕ) (seconds : ℕ) → taken (how.ranges at) (time_in word) ≡ Ok seconds
      → next how r (Timing given day) (Word at k word) ≡ Ok (r, Timed given day (clock_in word) seconds)
  unfolding next
  time_next r given day at k word seconds e = time_by_clock r given day at word seconds (clock_in word) e

  clock_next : (r : Reading) (given : Given) (day : Day) (at : ℕ) (k : Key) (word : List ℕ) (clock : Clock) (seconds : ℕ) → clock_in word ≡ Some clock
      → taken (how.ranges at) (plain_time clock) ≡ Ok seconds → next how r (Timing given day) (Word at k word) ≡ Ok (r, Timed given day (Some clock) seconds)
  unfolding next
  clock_next r given day at k word clock seconds e e2 = rw e (rw e2 refl)

  half_next : (r : Reading) (given : Given) (day : Day) (clock : Clock) (seconds : ℕ) (at : ℕ) (k : Key) (word : List ℕ) (half later : ℕ) → half_in word ≡ Some half
      → taken (how.ranges at) (half_time clock half) ≡ Ok later
      → next how r (Timed given day (Some clock) seconds) (Word at k word) ≡ Ok (r, Closing (step.Head (started given day later)))
  unfolding next
  half_next r given day clock seconds at k word half later e e2 = rw e (rw e2 refl)

  -- a side
  key_side : (k : Key) (x : Side) → side_of k ≡ Some x → is_opener k ≡ false
  unfolding side_of is_opener
  key_side key.Copy x e = absurd cc
  key_side _ x e = cc

  end_side : (end : End) (k : Key) (x : Side) → side_of k ≡ Some x → end_slot end k ≡ None
  unfolding side_of from_slot to_slot
  end_side ends.From key.Pnode x e = refl
  end_side ends.From key.Snode x e = refl
  end_side ends.From _ x e = absurd cc
  end_side ends.To key.Pnode x e = refl
  end_side ends.To key.Snode x e = refl
  end_side ends.To _ x e = absurd cc

  work_side : (w : Work) (k : Key) (x : Side) → side_of k ≡ Some x → work_slot w k ≡ None
  unfolding side_of task_slot job_slot
  work_side work.Task key.Pnode x e = refl
  work_side work.Task key.Snode x e = refl
  work_side work.Task _ x e = absurd cc
  work_side work.Job key.Pnode x e = refl
  work_side work.Job key.Snode x e = refl
  work_side work.Job _ x e = absurd cc

  side_next : (r : Reading) (s : Step) (at : ℕ) (k : Key) (word : List ℕ) (x : Side) → takes_side s ≡ true → side_of k ≡ Some x → is_some (given_of s).side ≡ false
      → next how r (At s) (Word at k word) ≡ Ok (r, At (with_given s (record (given_of s) { side = Some x })))
  unfolding next word_turn slot_of bare_state
  side_next r (step.Group begun copy end given) at k word x takes e unused = rw (key_side k x e) (rw (end_side end k x e) (rw e (rw (none_of given.side unused) refl)))
  side_next r (step.Run begun w given) at k word x takes e unused = rw (key_side k x e) (rw (work_side w k x e) (rw e (rw (none_of given.side unused) refl)))
  side_next r (step.RunGroup begun w given) at k word x takes e unused = rw (key_side k x e) (rw (work_side w k x e) (rw e (rw (none_of given.side unused) refl)))
  side_next r (step.Head given) at k word x takes e unused = absurd cc
  side_next r step.Between at k word x takes e unused = absurd cc
  side_next r (step.Copy begun copy) at k word x takes e unused = absurd cc
  side_next r (step.Submit begun given) at k word x takes e unused = absurd cc

  -- an end of a copy
  key_end : (k : Key) (end : End) → end_in k ≡ Some end → is_opener k ≡ false
  unfolding end_in is_opener
  key_end key.Copy end e = absurd cc
  key_end _ end e = cc

  copy_end : (k : Key) (end : End) → end_in k ≡ Some end → copy_slot k ≡ None
  unfolding end_in copy_slot
  copy_end key.From end e = refl
  copy_end key.To end e = refl
  copy_end _ end e = absurd cc

  pub group_next : (r : Reading) (begun : Begun) (copy : CopyGiven) (at : ℕ) (k : Key) (word : List ℕ) (end : End) → end_in k ≡ Some end → is_some (end_of copy end) ≡ false
      → next how r (At (step.Copy begun copy)) (Word at k word) ≡ Ok (r, GroupOpen begun copy end)
  unfolding next word_turn slot_of bare_state
  group_next r begun copy at k word end e unused = rw (key_end k end e) (rw (copy_end k end e) (rw e (rw (none_of (end_of copy end) unused) refl)))

  pub group_end_next : (r : Reading) (begun : Begun) (copy : CopyGiven) (end : End) (given : Given) (at : ℕ) → is_some given.file ≡ true
      → next how r (At (step.Group begun copy end given)) (Mark at sign.Close) ≡ Ok (r, At (step.Copy begun (with_end copy end given)))
  unfolding next mark_move
  group_end_next r begun copy end given at e = rw e refl

  run_group_next : (r : Reading) (begun : Begun) (w : Work) (given : Given) (at : ℕ) → next how r (At (step.Run begun w given)) (Mark at sign.Open) ≡ Ok (r, At (step.RunGroup begun w given))
  unfolding next mark_move
  run_group_next r begun w given at = refl

  pub run_group_end_next : (r : Reading) (begun : Begun) (w : Work) (given : Given) (at : ℕ) → next how r (At (step.RunGroup begun w given)) (Mark at sign.Close) ≡ Ok (r, At (step.Run begun w given))
  unfolding next mark_move
  run_group_end_next r begun w given at = refl

  -- COMPRESS
  compress_next : (r : Reading) (begun : Begun) (copy : CopyGiven) (at : ℕ) (word : List ℕ) → copy.compress ≡ false
      → next how r (At (step.Copy begun copy)) (Word at key.Compress word) ≡ Ok (r, Compress begun (record copy { compress = true }))
  unfolding next word_turn is_opener slot_of copy_slot bare_state end_in compress_by
  compress_next r begun copy at word unused = rw unused refl

  -- a statement
  verb_at : (r : Reading) (s : Step) (label : Option (ℕ × List ℕ)) (before : Reading) (at : ℕ) (k : Key) (word : List ℕ) (x : Reading × State) (o : Option Reading) → is_verb k ≡ true
      → ended r s ≡ o → before_it None o ≡ Some (label, before) → verb_turn how before label at k ≡ Ok x → next how r (At s) (Word at k word) ≡ Ok x
  unfolding next word_turn
  verb_at r s label before at k word x None v e e2 e3 = absurd cc
  verb_at r s label before at k word x (Some other) v e e2 e3 =
      rw (verb_opener k v) (rw e (rw (statement_verb how other at k word v)
      (let pairs : opened None other ≡ opened label before = some_is _ _ e2 in
      (ap (λ (p : Opened). verb_turn how p.1 p.0 at k) pairs ∙ e3))))

  verb_stage : (p : Place) (label : Option (ℕ × List ℕ)) (before : Reading) (at : ℕ) (k : Key) (word : List ℕ) (r2 : Reading) (s2 : State) → is_verb k ≡ true
      → opening p ≡ Some (label, before) → verb_turn how before label at k ≡ Ok (r2, s2) → step_of how (stage_of p) (Word at k word) ≡ Ok (Reads r2 s2)
  unfolding next
  verb_stage Start label before at k word r2 s2 v e e2 = absurd cc
  verb_stage (g.At r s) label before at k word r2 s2 v e e2 = ap staged (verb_at r s label before at k word (r2, s2) (ended r s) v refl e e2)
  verb_stage (g.Labelled r at2 name) label before at k word r2 s2 v e e2 =
      let pairs : opened (Some (at2, name)) r ≡ opened label before = some_is _ _ e in
      ap staged (ap (λ (p : Opened). verb_turn how p.1 p.0 at k) pairs ∙ e2)
  verb_stage (g.Values r s) label before at k word r2 s2 v e e2 = absurd cc
  verb_stage (g.Pairs r s) label before at k word r2 s2 v e e2 = absurd cc
  verb_stage (g.Starting r given) label before at k word r2 s2 v e e2 = absurd cc
  verb_stage (g.Timing r given day) label before at k word r2 s2 v e e2 = absurd cc

  verb_on : (p : Place) {label : Option (ℕ × List ℕ)} {before : Reading} {at : ℕ} {k : Key} {word : List ℕ} {ts : List Token} {all : Reading} (r2 : Reading) (s2 : State)
      → is_verb k ≡ true → opening p ≡ Some (label, before) → verb_turn how before label at k ≡ Ok (r2, s2) → Pass how (Reads r2 s2) ts all
      → Pass how (stage_of p) (Word at k word ∷ ts) all
  verb_on p {label} {before} {at} {k} {word} r2 s2 v e e2 rest = on_stage (Reads r2 s2) (verb_stage p label before at k word r2 s2 v e e2) rest

  if_verb : (label : Option (ℕ × List ℕ)) (before : Reading) (at : ℕ) → has_room how before ≡ true → has_depth how at before ≡ true
      → verb_turn how before label at key.If ≡ Ok (before, IfOpen (begun_at label at))
  unfolding verb_turn
  if_verb label before at room deep = rw deep (rw room refl)

  opener_at : (r before : Reading) (s : Step) (at : ℕ) (k : Key) (word : List ℕ) → is_opener k ≡ true → ended r s ≡ Some before
      → next how r (At s) (Word at k word) ≡ statement_turn how before at k word
  unfolding next word_turn
  opener_at r before s at k word o e = rw o (rw e refl)

  -- a label
  room_of : (r before : Reading) (label : Option (ℕ × List ℕ)) {at : ℕ} {name : List ℕ} → opening (g.Labelled r at name) ≡ Some (label, before) → has_room how before ≡ true → has_room how r ≡ true
  room_of r before label {at} {name} e room =
      let pairs : opened (Some (at, name)) r ≡ opened label before = some_is _ _ e in
      ap (λ (p : Opened). has_room how p.1) pairs ∙ room

  labelled_room : {r : Reading} {at : ℕ} {name : List ℕ} {ts : List Token} {all : Reading} → Rest how (g.Labelled r at name) ts all → has_room how r ≡ true
  labelled_room (g.copy {before = b} e room rest) = room_of _ b _ e room
  labelled_room (g.run {before = b} e room w rest) = room_of _ b _ e room
  labelled_room (g.submit {before = b} e room rest) = room_of _ b _ e room
  labelled_room (g.if_then {before = b} e room deep named2 related fits rest) = room_of _ b _ e room
  labelled_room (g.goto {before = b} e room named2 rest) = room_of _ b _ e room
  labelled_room (g.exit {before = b} e room rest) = room_of _ b _ e room

  named_pass : (r before : Reading) (s : Step) (set : Slot) (at : ℕ) (k : Key) (word name : List ℕ) (ts : List Token) (all : Reading) → ended r s ≡ Some before
      → taken (how.ranges at) (front_label_in k word) ≡ Ok name → Passes how (Reads before (Labelled at name)) ts all → Passes how (Reads r (Named s set at k word)) ts all
  unfolding next
  named_pass r before s set at k word name [] all e e2 h = absurd cc
  named_pass r before s set at k word name (Word at2 k2 word2 ∷ ts) all e e2 h = λ keyed. rw e (rw e2 (h keyed))
  named_pass r before s set at k word name (Quoted at2 text ∷ ts) all e e2 h = λ keyed. absurd (h keyed)
  named_pass r before s set at k word name (Mark at2 m ∷ ts) all e e2 h = λ keyed. absurd (h tt)

  -- a word that is a label, and begins as a symbolic name does, where one may stand
  loose_symbol : (r : Reading) (s : Step) (at : ℕ) (k : Key) (word name : List ℕ) (ts : List Token) (all : Reading) (ranges : Bool) → how.ranges at ≡ ranges → is_symbolic word ≡ true
      → taken ranges (front_label_in k word) ≡ Ok name
      → OnStage (staged (kept r (with_place at (taken ranges (symbol_in word)) (λ name. Symbol s name)))) (λ st2. how.ranges at ≡ true → Passes how st2 ts all)
  unfolding symbol_in
  loose_symbol r s at k word name ts all true asks begins e = absurd (formless k word name (symbolic_label word begins) e)
  loose_symbol r s at k [] name ts all false asks begins e = absurd cc
  loose_symbol r s at k (b ∷ word) name ts all false asks begins e = rw begins (loose_name _ _)
    where
      loose_name : (test : Bool) (x : List ℕ) → OnStage (staged (kept r (with_place at (taken false (Rattle.cd_grammar.specs.Answers.ranged test x)) (λ name. Symbol s name)))) (λ st2. how.ranges at ≡ true → Passes how st2 ts all)
      loose_name true x = λ asked. absurd cc
      loose_name false x = λ asked. absurd cc

  label_bare : (r before : Reading) (s : Step) (at : ℕ) (k : Key) (word name : List ℕ) (ts : List Token) (all : Reading) → ended r s ≡ Some before
      → taken (how.ranges at) (front_label_in k word) ≡ Ok name → has_room how before ≡ true → Passes how (Reads before (Labelled at name)) ts all
      → OnStage (staged (bare_turn how r s at k word (bare_state s k))) (λ st2. how.ranges at ≡ true → Passes how st2 ts all)
  label_bare r before s at k word name ts all e e2 room h =
      let own : is_own k ≡ false = front_own (how.ranges at) k word name e2 in
      rw (own_bare s k own) (rw e (rw (own_statement how before at k word own) (rw e2 (rw room (λ asked. h)))))

  label_symbol : (r before : Reading) (s : Step) (at : ℕ) (k : Key) (word name : List ℕ) (ts : List Token) (all : Reading) (b : Bool) → (takes_symbols s && is_symbolic word) ≡ b → ended r s ≡ Some before
      → taken (how.ranges at) (front_label_in k word) ≡ Ok name → has_room how before ≡ true → Passes how (Reads before (Labelled at name)) ts all
      → OnStage (staged (symbol_turn how r s at k word b)) (λ st2. how.ranges at ≡ true → Passes how st2 ts all)
  label_symbol r before s at k word name ts all true is e e2 room h = loose_symbol r s at k word name ts all (how.ranges at) refl (second_of (takes_symbols s) (is_symbolic word) is) e2
  label_symbol r before s at k word name ts all false is e e2 room h = label_bare r before s at k word name ts all e e2 room h

  label_unset : (r before : Reading) (s : Step) (at : ℕ) (k : Key) (word name : List ℕ) (ts : List Token) (all : Reading) (set : Slot) (given : Bool) → ended r s ≡ Some before
      → taken (how.ranges at) (front_label_in k word) ≡ Ok name → has_room how before ≡ true → Passes how (Reads before (Labelled at name)) ts all
      → OnStage (staged (slot_turn how r s at k word (unset given set))) (λ st2. how.ranges at ≡ true → Passes how st2 ts all)
  label_unset r before s at k word name ts all set true e e2 room h = label_symbol r before s at k word name ts all (takes_symbols s && is_symbolic word) refl e e2 room h
  label_unset r before s at k word name ts all set false e e2 room h = λ asked. named_pass r before s set at k word name ts all e e2 h

  label_slot : (r before : Reading) (s : Step) (at : ℕ) (k : Key) (word name : List ℕ) (ts : List Token) (all : Reading) (o : Option Slot) → ended r s ≡ Some before
      → taken (how.ranges at) (front_label_in k word) ≡ Ok name → has_room how before ≡ true → Passes how (Reads before (Labelled at name)) ts all
      → OnStage (staged (slot_turn how r s at k word (free (given_of s) o))) (λ st2. how.ranges at ≡ true → Passes how st2 ts all)
  label_slot r before s at k word name ts all (Some set) e e2 room h = label_unset r before s at k word name ts all set (has (given_of s) set) e e2 room h
  label_slot r before s at k word name ts all None e e2 room h = label_symbol r before s at k word name ts all (takes_symbols s && is_symbolic word) refl e e2 room h

  label_pass : (r before : Reading) (s : Step) (at : ℕ) (k : Key) (word name : List ℕ) (ts : List Token) (all : Reading) → ended r s ≡ Some before
      → taken (how.ranges at) (front_label_in k word) ≡ Ok name → has_room how before ≡ true → Passes how (Reads before (Labelled at name)) ts all
      → Passes how (Reads r (At s)) (Word at k word ∷ ts) all
  unfolding next word_turn
  label_pass r before s at k word name ts all e e2 room h =
      let own : is_own k ≡ false = front_own (how.ranges at) k word name e2 in
      λ keyed. rw (own_opener k own) (label_slot r before s at k word name ts all (slot_of s k) e e2 room h)

  -- behind COMPRESS, PRIMECHAR is no label, nor is EXTENDED
  prime_by : (r : Reading) (begun : Begun) (copy : CopyGiven) (at : ℕ) (word : List ℕ) (ts : List Token) (all : Reading) (ranges : Bool) → how.ranges at ≡ ranges → IsKeyed (Word at key.Primechar word)
      → OnStage (staged (ended_turn (ended r (step.Copy begun copy)) (λ before. label_move how before at (taken ranges (front_label_in key.Primechar word))) at)) (λ st2. how.ranges at ≡ true → Passes how st2 ts all)
      → how.ranges at ≡ true → ⊥
  prime_by r begun copy at word ts all false asks keyed h asked = cc
  prime_by r begun copy at word ts all true asks keyed h asked = by_end (ended r (step.Copy begun copy)) (taken true (front_label_in key.Primechar word)) refl h
    where
      by_end : (o : Option Reading) (x : Result (List ℕ) FaultName) → taken true (front_label_in key.Primechar word) ≡ x
          → OnStage (staged (ended_turn o (λ before. label_move how before at x) at)) (λ st2. how.ranges at ≡ true → Passes how st2 ts all) → ⊥
      by_end None x e h2 = h2
      by_end (Some before) (Err name) e h2 = h2
      by_end (Some before) (Ok name) e h2 = formless key.Primechar word name (prime_label word keyed) e

  prime_pass : (r : Reading) (begun : Begun) (copy : CopyGiven) (at : ℕ) (word : List ℕ) (ts : List Token) (all : Reading) → Passes how (Reads r (At (step.Copy begun copy))) (Word at key.Primechar word ∷ ts) all
      → IsKeyed (Word at key.Primechar word) → how.ranges at ≡ true → ⊥
  unfolding next word_turn is_opener slot_of copy_slot bare_state end_in compress_by statement_turn
  prime_pass r begun copy at word ts all h keyed asked = prime_by r begun copy at word ts all (how.ranges at) refl keyed (h keyed) asked

  extended_pass : (r : Reading) (begun : Begun) (copy : CopyGiven) (at : ℕ) (word : List ℕ) (ts : List Token) (all : Reading) → Passes how (Reads r (At (step.Copy begun copy))) (Word at key.Extended word ∷ ts) all
      → IsKeyed (Word at key.Extended word) → ⊥
  unfolding next word_turn is_opener slot_of copy_slot bare_state end_in compress_by statement_turn
  extended_pass r begun copy at word ts all h keyed = by_end (ended r (step.Copy begun copy)) (taken (how.ranges at) (front_label_in key.Extended word)) refl (h keyed)
    where
      by_end : (o : Option Reading) (x : Result (List ℕ) FaultName) → taken (how.ranges at) (front_label_in key.Extended word) ≡ x
          → OnStage (staged (ended_turn o (λ before. label_move how before at x) at)) (λ st2. how.ranges at ≡ true → Passes how st2 ts all) → ⊥
      by_end None x e h2 = h2
      by_end (Some before) (Err name) e h2 = h2
      by_end (Some before) (Ok name) e h2 = extended_own (front_own (how.ranges at) key.Extended word name e)

  compress_pass : (r : Reading) (begun : Begun) (copy : CopyGiven) (ts : List Token) (all : Reading) → Passes how (Reads r (At (step.Copy begun copy))) ts all → Passes how (Reads r (Compress begun copy)) ts all
  unfolding next
  compress_pass r begun copy [] all h = absurd cc
  compress_pass r begun copy (Word at key.Primechar word ∷ ts) all h = λ keyed asked. absurd (prime_pass r begun copy at word ts all h keyed asked)
  compress_pass r begun copy (Word at key.Extended word ∷ ts) all h = λ keyed asked. absurd (extended_pass r begun copy at word ts all h keyed)
  compress_pass r begun copy (Word at k word ∷ ts) all h = h
  compress_pass r begun copy (Quoted at text ∷ ts) all h = h
  compress_pass r begun copy (Mark at m ∷ ts) all h = h

  primed_pass : (r : Reading) (begun : Begun) (copy : CopyGiven) (ts : List Token) (all : Reading) → Passes how (Reads r (At (step.Copy begun copy))) ts all → Passes how (Reads r (Primed begun copy)) ts all
  unfolding next
  primed_pass r begun copy [] all h = absurd cc
  primed_pass r begun copy (Word at k word ∷ ts) all h = h
  primed_pass r begun copy (Quoted at text ∷ ts) all h = λ keyed. absurd (h keyed)
  primed_pass r begun copy (Mark at m ∷ ts) all h = h

  extending_pass : (r : Reading) (begun : Begun) (copy : CopyGiven) (ts : List Token) (all : Reading) → Passes how (Reads r (At (step.Copy begun copy))) ts all → Passes how (Reads r (Extended begun copy)) ts all
  unfolding next mark_move
  extending_pass r begun copy [] all h = absurd cc
  extending_pass r begun copy (Word at k word ∷ ts) all h = h
  extending_pass r begun copy (Quoted at text ∷ ts) all h = h
  extending_pass r begun copy (Mark at sign.Equals ∷ ts) all h = λ keyed. absurd (h keyed)
  extending_pass r begun copy (Mark at m ∷ ts) all h = h

  symbol_pass : (r : Reading) (s : Step) (at : ℕ) (k : Key) (word name : List ℕ) {ts : List Token} {all : Reading} → takes_symbols s ≡ true → taken (how.ranges at) (symbol_in word) ≡ Ok name
      → Pass how (Reads r (Symbol s name)) ts all → Pass how (Reads r (At s)) (Word at k word ∷ ts) all
  symbol_pass r s at k word name takes e rest = record { holds = λ keyed. rw (symbol_next r s at k word name takes e keyed) (λ asked. rest.holds) }

  pub running_next : (r : Reading) (begun : Begun) (at : ℕ) (k : Key) (word : List ℕ) (w : Work) → work_of k ≡ Some w → next how r (Running begun) (Word at k word) ≡ Ok (r, At (step.Run begun w nothing))
  unfolding next
  running_next r begun at k word w e = rw e refl

  pub if_label_next : (r : Reading) (begun : Begun) (at : ℕ) (k : Key) (word name : List ℕ) → taken (how.ranges at) (label_in k word) ≡ Ok name
      → next how r (IfLabel begun) (Word at k word) ≡ Ok (r, IfRelation begun at name)
  unfolding next
  if_label_next r begun at k word name e = rw e refl

  if_relation_next : (r : Reading) (begun : Begun) (at : ℕ) (name : List ℕ) (rel : Token) (relates : Relation) → relation_of rel ≡ Some relates
      → next how r (IfRelation begun at name) rel ≡ Ok (r, IfNumber begun at name relates)
  unfolding next
  if_relation_next r begun at name rel relates e = rw e refl

  pub if_number_next : (r : Reading) (begun : Begun) (at : ℕ) (name : List ℕ) (relates : Relation) (at5 : ℕ) (k : Key) (word : List ℕ) (n : ℕ) → taken (how.ranges at5) (number_in 0 255 word) ≡ Ok n
      → next how r (IfNumber begun at name relates) (Word at5 k word) ≡ Ok (r, IfClose begun at name relates n)
  unfolding next
  if_number_next r begun at name relates at5 k word n e = rw e refl

  pub goto_next : (r : Reading) (begun : Begun) (at : ℕ) (k : Key) (word name : List ℕ) → taken (how.ranges at) (label_in k word) ≡ Ok name
      → next how r (GotoLabel begun) (Word at k word) ≡ Ok (stored r begun (sketch.Goto at name) (what.Goto name), At step.Between)
  unfolding next
  goto_next r begun at k word name e = rw e refl

  is_else : is_opener key.Else ≡ true
  unfolding is_opener
  is_else = refl

  is_eif : is_opener key.Eif ≡ true
  unfolding is_opener
  is_eif = refl

  is_pend : is_opener key.Pend ≡ true
  unfolding is_opener
  is_pend = refl

  else_next : (r before : Reading) (s : Step) (at : ℕ) (word : List ℕ) (ifs : List Bool) → ended r s ≡ Some before → has_room how before ≡ true → before.ifs ≡ false ∷ ifs
      → next how r (At s) (Word at key.Else word) ≡ Ok (record (stored before (begun_at None at) sketch.Else what.Else) { ifs = true ∷ ifs }, At step.Between)
  unfolding statement_turn
  else_next r before s at word ifs e room opened2 = rw (opener_at r before s at key.Else word is_else e) (rw opened2 (rw room refl))

  eif_next : (r before : Reading) (s : Step) (at : ℕ) (word : List ℕ) (has_else : Bool) (ifs : List Bool) → ended r s ≡ Some before → has_room how before ≡ true → before.ifs ≡ has_else ∷ ifs
      → next how r (At s) (Word at key.Eif word) ≡ Ok (record (stored before (begun_at None at) sketch.Eif what.Eif) { ifs = ifs }, At step.Between)
  unfolding statement_turn
  eif_next r before s at word has_else ifs e room opened2 = rw (opener_at r before s at key.Eif word is_eif e) (rw opened2 (rw room refl))

  pub pend_next : (r before : Reading) (s : Step) (at : ℕ) (word : List ℕ) → ended r s ≡ Some before → next how r (At s) (Word at key.Pend word) ≡ Ok (before, Ended)
  unfolding statement_turn
  pend_next r before s at word e = rw (opener_at r before s at key.Pend word is_pend e) refl

  -- whatever the place
  pub complete : {p : Place} {ts : List Token} {all : Reading} → Rest how p ts all → Pass how (stage_of p) ts all
  unfolding next verb_turn is_verb mark_move
  complete (g.process {name = name} e rest) = on_stage (Titled name) (rw e refl) (on_stage (Reads (named name) (At (step.Head nothing))) refl (complete rest))
  complete (g.param {r = r} {step = s} {at = at} {k = k} {word = word} {set = set} {value = value} {next = later} e unused fits rest) =
      on_next r (Named s set at k word) (named_next r s set at k word e unused) (on_next r (Value s set at) refl
      (on_next r (At (with_given s later)) (value_next r s set at value later fits) (complete rest)))
  complete (g.in_parentheses {r = r} {step = s} {at = at} {at3 = at3} {k = k} {word = word} {set = set} {value = value} {next = later} e unused parens fits rest) =
      on_next r (Named s set at k word) (named_next r s set at k word e unused) (on_next r (Value s set at) refl
      (on_next r (Parenthesized s set at) (parenthesis_next r s set at at3 parens)
      (on_next r (Closing (with_given s later)) (inner_next r s set at value later fits) (on_next r (At (with_given s later)) refl (complete rest)))))
  complete (g.list {r = r} {step = s} {at = at} {at3 = at3} {k = k} {word = word} {set = set} e unused lists rest) =
      on_next r (Named s set at k word) (named_next r s set at k word e unused) (on_next r (Value s set at) refl
      (on_next r (Values (with_given s (with_list (given_of s) set))) (list_next r s set at at3 lists) (complete rest)))
  complete (g.list_value {r = r} {step = s} {value = value} {text = text} e rest) = on_next r (Values s) (listed_next r s value text e) (complete rest)
  complete (g.list_end {r = r} {step = s} rest) = on_next r (At s) refl (complete rest)
  complete (g.symbol {r = r} {step = s} {at = at} {k = k} {word = word} {name = name} {text = text} {value = value} takes e said rest) =
      symbol_pass r s at k word name takes e (on_next r (SymbolValue s name) refl (on_next (with_name r s (upper_case name) text) (At s) (symbol_value_next r s name value text said) (complete rest)))
  complete (g.startt {r = r} {given = given} {at = at} {at3 = at3} {word = word} unused rest) =
      on_next r (Named (step.Head given) slot.Start at key.Startt word) (start_next r given at word unused) (on_next r (Value (step.Head given) slot.Start at) refl
      (on_next r (Starting given) (start_open_next r given at at3) (complete rest)))
  complete (g.on_day {r = r} {given = given} {at = at} {k = k} {word = word} {day = day} e rest) =
      on_next r (Dated given day) (day_next r given at k word day e) (on_next r (At (step.Head (started given day 0))) refl (complete rest))
  complete (g.on_day_at {r = r} {given = given} {at = at} {k = k} {word = word} {day = day} e rest) =
      on_next r (Dated given day) (day_next r given at k word day e) (on_next r (Timing given day) refl (complete rest))
  complete (g.today_at {r = r} {given = given} rest) = on_next r (Timing given Today) refl (complete rest)
  complete (g.timed {r = r} {given = given} {day = day} {at = at} {k = k} {word = word} {seconds = seconds} fits rest) =
      on_next r (Timed given day (clock_in word) seconds) (time_next r given day at k word seconds fits) (on_next r (At (step.Head (started given day seconds))) refl (complete rest))
  complete (g.timed_half {r = r} {given = given} {day = day} {at = at} {at2 = at2} {k = k} {k2 = k2} {word = word} {word2 = word2} {clock = clock} {half = half} {whole = whole} {seconds = seconds} e fits e2 fits2 rest) =
      on_next r (Timed given day (Some clock) whole) (clock_next r given day at k word clock whole e fits)
      (on_next r (Closing (step.Head (started given day seconds))) (half_next r given day clock whole at2 k2 word2 half seconds e2 fits2)
      (on_next r (At (step.Head (started given day seconds))) refl (complete rest)))
  complete (g.side {r = r} {step = s} {at = at} {k = k} {word = word} {s = x} takes e unused rest) =
      on_next r (At (with_given s (record (given_of s) { side = Some x }))) (side_next r s at k word x takes e unused) (complete rest)
  complete (g.group {r = r} {begun = begun} {copy = copy} {end = end} {at = at} {k = k} {word = word} e unused rest) =
      on_next r (GroupOpen begun copy end) (group_next r begun copy at k word end e unused) (on_next r (At (step.Group begun copy end nothing)) refl (complete rest))
  complete (g.group_end {r = r} {begun = begun} {copy = copy} {end = end} {given = given} {at = at} named2 rest) =
      on_next r (At (step.Copy begun (with_end copy end given))) (group_end_next r begun copy end given at named2) (complete rest)
  complete (g.compress {r = r} {begun = begun} {copy = copy} {at = at} {word = word} unused rest) =
      let later : CopyGiven = record copy { compress = true } in
      on_next r (Compress begun later) (compress_next r begun copy at word unused) (record { holds = compress_pass r begun later _ _ (complete rest).holds })
  complete (g.prime {r = r} {begun = begun} {copy = copy} {at = at} {word = word} unused rest) =
      let later : CopyGiven = record copy { compress = true } in
      on_next r (Compress begun later) (compress_next r begun copy at word unused) (on_next r (Prime begun later) refl (on_next r (PrimeValue begun later) refl
      (on_next r (Primed begun later) refl (record { holds = primed_pass r begun later _ _ (complete rest).holds }))))
  complete (g.prime_quoted {r = r} {begun = begun} {copy = copy} {at = at} {word = word} unused rest) =
      let later : CopyGiven = record copy { compress = true } in
      on_next r (Compress begun later) (compress_next r begun copy at word unused) (on_next r (Prime begun later) refl (on_next r (PrimeValue begun later) refl
      (on_next r (Primed begun later) refl (on_next r (At (step.Copy begun later)) refl (complete rest)))))
  complete (g.extended {r = r} {begun = begun} {copy = copy} {at = at} {word = word} unused rest) =
      let later : CopyGiven = record copy { compress = true } in
      on_next r (Compress begun later) (compress_next r begun copy at word unused) (on_next r (Extended begun later) refl (record { holds = extending_pass r begun later _ _ (complete rest).holds }))
  complete (g.extended_list {r = r} {begun = begun} {copy = copy} {at = at} {word = word} unused rest) =
      let later : CopyGiven = record copy { compress = true } in
      on_next r (Compress begun later) (compress_next r begun copy at word unused) (on_next r (Extended begun later) refl (on_next r (Extending begun later) refl
      (on_next r (Pairs (step.Copy begun later)) refl (complete rest))))
  complete (g.pair {r = r} {step = s} rest) = on_next r (PairNamed s) refl (on_next r (PairValue s) refl (on_next r (Pairs s) refl (complete rest)))
  complete (g.pairs_end {r = r} {step = s} rest) = on_next r (At s) refl (complete rest)
  complete (g.run_group {r = r} {begun = begun} {w = w} {given = given} {at = at} rest) = on_next r (At (step.RunGroup begun w given)) (run_group_next r begun w given at) (complete rest)
  complete (g.run_group_end {r = r} {begun = begun} {w = w} {given = given} {at = at} rest) = on_next r (At (step.Run begun w given)) (run_group_end_next r begun w given at) (complete rest)
  complete (g.label {r = r} {before = before} {step = s} {at = at} {k = k} {word = word} {name = name} e e2 rest) =
      record { holds = label_pass r before s at k word name _ _ e e2 (labelled_room rest) (complete rest).holds }
  complete (g.copy {p = p} {before = before} {named = label} {at = at} e room rest) =
      verb_on p before (At (step.Copy (begun_at label at) bare_copy)) refl e (rw room refl) (complete rest)
  complete (g.run {p = p} {before = before} {named = label} {at = at} {at2 = at2} {k = k} {word2 = word2} {w = w} e room e2 rest) =
      verb_on p before (Running (begun_at label at)) refl e (rw room refl) (on_next before (At (step.Run (begun_at label at) w nothing)) (running_next before (begun_at label at) at2 k word2 w e2) (complete rest))
  complete (g.submit {p = p} {before = before} {named = label} {at = at} e room rest) =
      verb_on p before (At (step.Submit (begun_at label at) nothing)) refl e (rw room refl) (complete rest)
  complete (g.if_then {p = p} {before = before} {named = label} {at = at} {at3 = at3} {at5 = at5} {n = n} {k3 = k3} {k5 = k5} {word3 = word3} {word5 = word5} {name = name} {rel = rel} {relates = relates} e room deep e3 related fits rest) =
      verb_on p before (IfOpen (begun_at label at)) refl e (if_verb label before at room deep) (on_next before (IfLabel (begun_at label at)) refl
      (on_next before (IfRelation (begun_at label at) at3 name) (if_label_next before (begun_at label at) at3 k3 word3 name e3)
      (on_next before (IfNumber (begun_at label at) at3 name relates) (if_relation_next before (begun_at label at) at3 name rel relates related)
      (on_next before (IfClose (begun_at label at) at3 name relates n) (if_number_next before (begun_at label at) at3 name relates at5 k5 word5 n fits)
      (on_next before (IfThen (begun_at label at) at3 name relates n) refl
      (on_next (record (stored before (begun_at label at) (sketch.If at3 name) (what.If name relates n)) { ifs = false ∷ before.ifs }) (At step.Between) refl (complete rest)))))))
  complete (g.else_part {r = r} {before = before} {step = s} {at = at} {word = word} {ifs = ifs} e room opened2 rest) =
      on_next (record (stored before (begun_at None at) sketch.Else what.Else) { ifs = true ∷ ifs }) (At step.Between) (else_next r before s at word ifs e room opened2) (complete rest)
  complete (g.eif {r = r} {before = before} {step = s} {at = at} {word = word} {has_else = has_else} {ifs = ifs} e room opened2 rest) =
      on_next (record (stored before (begun_at None at) sketch.Eif what.Eif) { ifs = ifs }) (At step.Between) (eif_next r before s at word has_else ifs e room opened2) (complete rest)
  complete (g.goto {p = p} {before = before} {named = label} {at = at} {at2 = at2} {k2 = k2} {word2 = word2} {name = name} e room e2 rest) =
      verb_on p before (GotoLabel (begun_at label at)) refl e (rw room refl)
      (on_next (stored before (begun_at label at) (sketch.Goto at2 name) (what.Goto name)) (At step.Between) (goto_next before (begun_at label at) at2 k2 word2 name e2) (complete rest))
  complete (g.exit {p = p} {before = before} {named = label} {at = at} e room rest) =
      verb_on p (stored before (begun_at label at) sketch.Exit what.Exit) (At step.Between) refl e (rw room refl) (complete rest)
  complete (g.pend {r = r} {all = all} {step = s} {at = at} {word = word} e) = on_next all Ended (pend_next r all s at word e) (record { holds = refl })
  complete (g.pend_semicolon {r = r} {all = all} {step = s} {at = at} {word = word} e) = on_next all Ended (pend_next r all s at word e) (on_next all Closed refl (record { holds = refl }))
