-- What the machine reads is in the grammar.
use Rattle.std.proofs.Common.{◌≡◌, if◌then◌else◌, subst, ℕ, List, [], ◌∷◌, Bool, true, false, ◌&&◌, is_some, Option, Some, None, Result, Ok, Err, refl, ap, sym, ◌∙◌, inl, inr, ◌⊎◌}
use Rattle.std.specs.Option.{option_map}
use Rattle.cd_types.specs.declared.choices.Relation.{Relation}
use Rattle.cd_types.specs.declared.choices.Side.{Side}
use Rattle.cd_types.specs.declared.start.Day.{Day}
use Rattle.cd_ast.specs.declared.fault.FaultName.{FaultName}
use Rattle.cd_grammar.specs.declared.token.Key.{Key}
use Rattle.cd_grammar.specs.declared.token.Key.TheVariants as key
use Rattle.cd_grammar.specs.declared.token.Sign.{Sign}
use Rattle.cd_grammar.specs.declared.token.Sign.TheVariants as sign
use Rattle.cd_grammar.specs.declared.token.Token.{Token}
use Rattle.cd_grammar.specs.declared.token.Token.TheVariants.{Word, Quoted, Mark}
use Rattle.cd_grammar.specs.declared.given.Given.{Given}
use Rattle.cd_grammar.specs.declared.given.Slot.{Slot}
use Rattle.cd_grammar.specs.declared.given.Slot.TheVariants as slot
use Rattle.cd_grammar.specs.declared.step.Begun.{Begun}
use Rattle.cd_grammar.specs.declared.step.Clock.{Clock}
use Rattle.cd_grammar.specs.declared.step.Work.{Work}
use Rattle.cd_grammar.specs.declared.step.End.{End}
use Rattle.cd_grammar.specs.declared.step.CopyGiven.{CopyGiven}
use Rattle.cd_grammar.specs.declared.step.Step.{Step}
use Rattle.cd_grammar.specs.declared.step.Step.TheVariants as step
use Rattle.cd_grammar.specs.declared.mark.Sketch.TheVariants as sketch
use Rattle.cd_ast.specs.declared.process.What.TheVariants as what
use Rattle.cd_grammar.specs.Answers.{Strictness, taken}
use Rattle.cd_grammar.specs.Tokens.{place_of}
use Rattle.cd_grammar.specs.Values.{label_in, front_label_in, symbol_in, number_in}
use Rattle.cd_grammar.specs.Starts.{day_in, clock_in, half_in, plain_time, half_time, named_time, time_in}
use Rattle.cd_grammar.specs.Given.{nothing, has, with_value, with_list, takes_list, takes_parentheses, side_of}
use Rattle.cd_grammar.specs.Reading.{Reading, stored, ended, given_of, with_given, slot_of, takes_symbols, bare_copy, end_of, has_room, has_depth}
use Rattle.cd_grammar.specs.Grammar.{Place, Start, Rest, started, begun_at, opening, before_it, relation_of, text_of, work_of, end_in}
use Rattle.cd_grammar.specs.Grammar as g
use Rattle.cd_grammar.specs.Later.{Found}
use Rattle.cd_automaton.specs.State.{State}
use Rattle.cd_automaton.specs.State.{At, Labelled, Named, Value, Parenthesized, Closing, Values, Symbol, SymbolValue, Starting, Dated, Timing, Timed, GroupOpen, Compress, Prime, PrimeValue, Primed, Extended, Extending, Pairs, PairNamed, PairValue, Running, IfOpen, IfLabel, IfRelation, IfNumber, IfClose, IfThen, GotoLabel, Ended, Closed}
use Rattle.cd_automaton.proofs.Starts.{IsStart, start_slot}
use Rattle.cd_automaton.specs.Machine.{Turn, kept, with_place, roomy, on, behind_open, behind_close, behind_equals, behind_word, unset, free, sided, end_state, compress_if, compress_by, copy_state, bare_state, else_turn, eif_turn, if_turn, verb_turn, label_move, statement_turn, ended_turn, bare_turn, is_symbolic, symbol_turn, slot_turn, is_opener, word_by, word_turn, mark_move, at_turn, named_label, named_turn, open_move, plain_value, value_move, values_move, symbol_value_turn, wanted_at, starting_move, dated_move, time_move, timing_move, half_move, timed_move, compress_turn, primed_turn, extended_turn, pairs_move, running_move, if_label_move, if_number_move, if_then_turn, goto_turn, labelled_turn, ended_move, next, at_end, bind_turn, run, titled, whole}

-- the copy that COMPRESS was read of
abbrev pub IsCompressed : CopyGiven → CopyGiven → Type 0
IsCompressed before copy = (before.compress ≡ false) × (record before { compress = true } ≡ copy)

-- the keyword of a statement was read behind a place
abbrev pub IsBegun : Strictness → Reading → Begun → Place → Option (ℕ × List ℕ) → ℕ → Type 0
IsBegun how r begun p label at = (opening p ≡ Some (label, r)) × (has_room how r ≡ true) × (begun_at label at ≡ begun)

-- what a state says of the tokens that follow
abbrev pub Sound : Strictness → Reading → State → List Token → Reading → Type 0
Sound how r (At s) ts all = Rest how (g.At r s) ts all
Sound how r (Labelled at name) ts all = Rest how (g.Labelled r at name) ts all
Sound how r (Named s set at k word) ts all = slot_of s k ≡ Some set → has (given_of s) set ≡ false → Rest how (g.At r s) (Word at k word ∷ ts) all
Sound how r (Value s set at) ts all =
    (k : Key) (word : List ℕ) (at2 : ℕ) → slot_of s k ≡ Some set → has (given_of s) set ≡ false → Rest how (g.At r s) (Word at k word ∷ Mark at2 sign.Equals ∷ ts) all
Sound how r (Parenthesized s set at) ts all =
    (k : Key) (word : List ℕ) (at2 at3 : ℕ) → slot_of s k ≡ Some set → has (given_of s) set ≡ false → takes_parentheses set ≡ true
    → Rest how (g.At r s) (Word at k word ∷ Mark at2 sign.Equals ∷ Mark at3 sign.Open ∷ ts) all
Sound how r (Closing s) ts all = (at : ℕ) × (more : List Token) × (ts ≡ Mark at sign.Close ∷ more) × Rest how (g.At r s) more all
Sound how r (Values s) ts all = Rest how (g.Values r s) ts all
Sound how r (Symbol s name) ts all =
    (at : ℕ) (k : Key) (word : List ℕ) → takes_symbols s ≡ true → taken (how.ranges at) (symbol_in word) ≡ Ok name → Rest how (g.At r s) (Word at k word ∷ ts) all
Sound how r (SymbolValue s name) ts all =
    (at at2 : ℕ) (k : Key) (word : List ℕ) → takes_symbols s ≡ true → taken (how.ranges at) (symbol_in word) ≡ Ok name
    → Rest how (g.At r s) (Word at k word ∷ Mark at2 sign.Equals ∷ ts) all
Sound how r (Starting given) ts all = Rest how (g.Starting r given) ts all
Sound how r (Dated given day) ts all = (at : ℕ) (k : Key) (word : List ℕ) → day_in word ≡ Some day → Rest how (g.Starting r given) (Word at k word ∷ ts) all
Sound how r (Timing given day) ts all = Rest how (g.Timing r given day) ts all
Sound how r (Timed given day clock seconds) ts all =
    (at : ℕ) (k : Key) (word : List ℕ) → clock_in word ≡ clock → taken (how.ranges at) (time_in word) ≡ Ok seconds → Rest how (g.Timing r given day) (Word at k word ∷ ts) all
Sound how r (GroupOpen begun copy end) ts all =
    (at : ℕ) (k : Key) (word : List ℕ) → end_in k ≡ Some end → is_some (end_of copy end) ≡ false → Rest how (g.At r (step.Copy begun copy)) (Word at k word ∷ ts) all
Sound how r (Compress begun copy) ts all =
    (before : CopyGiven) (at : ℕ) (word : List ℕ) → IsCompressed before copy → Rest how (g.At r (step.Copy begun before)) (Word at key.Compress word ∷ ts) all
Sound how r (Prime begun copy) ts all =
    (before : CopyGiven) (at at2 : ℕ) (word word2 : List ℕ) → IsCompressed before copy
    → Rest how (g.At r (step.Copy begun before)) (Word at key.Compress word ∷ Word at2 key.Primechar word2 ∷ ts) all
Sound how r (PrimeValue begun copy) ts all =
    (before : CopyGiven) (at at2 at3 : ℕ) (word word2 : List ℕ) → IsCompressed before copy
    → Rest how (g.At r (step.Copy begun before)) (Word at key.Compress word ∷ Word at2 key.Primechar word2 ∷ Mark at3 sign.Equals ∷ ts) all
Sound how r (Primed begun copy) ts all =
    (before : CopyGiven) (at at2 at3 at4 : ℕ) (k : Key) (word word2 word4 : List ℕ) → IsCompressed before copy
    → Rest how (g.At r (step.Copy begun before)) (Word at key.Compress word ∷ Word at2 key.Primechar word2 ∷ Mark at3 sign.Equals ∷ Word at4 k word4 ∷ ts) all
Sound how r (Extended begun copy) ts all =
    (before : CopyGiven) (at at2 : ℕ) (word word2 : List ℕ) → IsCompressed before copy
    → Rest how (g.At r (step.Copy begun before)) (Word at key.Compress word ∷ Word at2 key.Extended word2 ∷ ts) all
Sound how r (Extending begun copy) ts all =
    (before : CopyGiven) (at at2 at3 : ℕ) (word word2 : List ℕ) → IsCompressed before copy
    → Rest how (g.At r (step.Copy begun before)) (Word at key.Compress word ∷ Word at2 key.Extended word2 ∷ Mark at3 sign.Equals ∷ ts) all
Sound how r (Pairs s) ts all = Rest how (g.Pairs r s) ts all
Sound how r (PairNamed s) ts all = (at : ℕ) (k : Key) (word : List ℕ) → Rest how (g.Pairs r s) (Word at k word ∷ ts) all
Sound how r (PairValue s) ts all = (at at2 : ℕ) (k : Key) (word : List ℕ) → Rest how (g.Pairs r s) (Word at k word ∷ Mark at2 sign.Equals ∷ ts) all
Sound how r (Running begun) ts all =
    (p : Place) (label : Option (ℕ × List ℕ)) (at : ℕ) (word : List ℕ) → IsBegun how r begun p label at → Rest how p (Word at key.Run word ∷ ts) all
Sound how r (IfOpen begun) ts all =
    (p : Place) (label : Option (ℕ × List ℕ)) (at : ℕ) (word : List ℕ) → IsBegun how r begun p label at → has_depth how at r ≡ true
    → Rest how p (Word at key.If word ∷ ts) all
Sound how r (IfLabel begun) ts all =
    (p : Place) (label : Option (ℕ × List ℕ)) (at at2 : ℕ) (word : List ℕ) → IsBegun how r begun p label at → has_depth how at r ≡ true
    → Rest how p (Word at key.If word ∷ Mark at2 sign.Open ∷ ts) all
Sound how r (IfRelation begun at3 name) ts all =
    (p : Place) (label : Option (ℕ × List ℕ)) (at at2 : ℕ) (word : List ℕ) (k3 : Key) (word3 : List ℕ) → IsBegun how r begun p label at → has_depth how at r ≡ true
    → taken (how.ranges at3) (label_in k3 word3) ≡ Ok name
    → Rest how p (Word at key.If word ∷ Mark at2 sign.Open ∷ Word at3 k3 word3 ∷ ts) all
Sound how r (IfNumber begun at3 name rel) ts all =
    (p : Place) (label : Option (ℕ × List ℕ)) (at at2 : ℕ) (word : List ℕ) (k3 : Key) (word3 : List ℕ) (relates : Token) → IsBegun how r begun p label at → has_depth how at r ≡ true
    → taken (how.ranges at3) (label_in k3 word3) ≡ Ok name → relation_of relates ≡ Some rel
    → Rest how p (Word at key.If word ∷ Mark at2 sign.Open ∷ Word at3 k3 word3 ∷ relates ∷ ts) all
Sound how r (IfClose begun at3 name rel n) ts all =
    (p : Place) (label : Option (ℕ × List ℕ)) (at at2 at5 : ℕ) (word : List ℕ) (k3 k5 : Key) (word3 word5 : List ℕ) (relates : Token) → IsBegun how r begun p label at → has_depth how at r ≡ true
    → taken (how.ranges at3) (label_in k3 word3) ≡ Ok name → relation_of relates ≡ Some rel → taken (how.ranges at5) (number_in 0 255 word5) ≡ Ok n
    → Rest how p (Word at key.If word ∷ Mark at2 sign.Open ∷ Word at3 k3 word3 ∷ relates ∷ Word at5 k5 word5 ∷ ts) all
Sound how r (IfThen begun at3 name rel n) ts all =
    (p : Place) (label : Option (ℕ × List ℕ)) (at at2 at5 at6 : ℕ) (word : List ℕ) (k3 k5 : Key) (word3 word5 : List ℕ) (relates : Token) → IsBegun how r begun p label at → has_depth how at r ≡ true
    → taken (how.ranges at3) (label_in k3 word3) ≡ Ok name → relation_of relates ≡ Some rel → taken (how.ranges at5) (number_in 0 255 word5) ≡ Ok n
    → Rest how p (Word at key.If word ∷ Mark at2 sign.Open ∷ Word at3 k3 word3 ∷ relates ∷ Word at5 k5 word5 ∷ Mark at6 sign.Close ∷ ts) all
Sound how r (GotoLabel begun) ts all =
    (p : Place) (label : Option (ℕ × List ℕ)) (at : ℕ) (word : List ℕ) → IsBegun how r begun p label at → Rest how p (Word at key.Goto word ∷ ts) all
Sound how r Ended ts all = (r ≡ all) × ((ts ≡ []) ⊎ ((at : ℕ) × (ts ≡ Mark at sign.Semicolon ∷ [])))
Sound how r Closed ts all = (r ≡ all) × (ts ≡ [])

-- the state behind a token is sound, where the token has no fault
abbrev pub Going : Strictness → List Token → Reading → Turn → Type 0
Going how ts all (Ok x) = Sound how x.0 x.1 ts all
Going how ts all (Err f) = ⊥

module _ (how : Strictness) (ts : List Token) (all : Reading) where
  by_place : {A Goal : Type 0} (r : Reading) (at : ℕ) (x : Result A FaultName) (f : A → State)
      → Going how ts all (kept r (with_place at x f)) → ((v : A) → x ≡ Ok v → Sound how r (f v) ts all → Goal) → Goal
  by_place r at (Ok v) f h k = k v refl h
  by_place r at (Err name) f h k = absurd h

  by_wanted : {A Goal : Type 0} (r : Reading) (at : ℕ) (x : Option A) (f : A → State)
      → Going how ts all (kept r (wanted_at at x f)) → ((v : A) → x ≡ Some v → Sound how r (f v) ts all → Goal) → Goal
  by_wanted r at (Some v) f h k = k v refl h
  by_wanted r at None f h k = absurd h

  by_test : {Goal : Type 0} (r : Reading) (b : Bool) (at : ℕ) (s : State)
      → Going how ts all (kept r (on b at s)) → (b ≡ true → Sound how r s ts all → Goal) → Goal
  by_test r true at s h k = k refl h
  by_test r false at s h k = absurd h

  by_room : {Goal : Type 0} (b : Bool) (x : Turn) → Going how ts all (roomy b x) → (b ≡ true → Going how ts all x → Goal) → Goal
  by_room true x h k = k refl h
  by_room false x h k = absurd h

  by_ended : {Goal : Type 0} (o : Option Reading) (f : Reading → Turn) (at : ℕ) → Going how ts all (ended_turn o f at)
      → ((before : Reading) → o ≡ Some before → Going how ts all (f before) → Goal) → Goal
  by_ended (Some before) f at h k = k before refl h
  by_ended None f at h k = absurd h

  if_sound : (p : Place) (label : Option (ℕ × List ℕ)) (r : Reading) (at : ℕ) (word : List ℕ) (deep : Bool) → opening p ≡ Some (label, r) → has_depth how at r ≡ deep
      → Going how ts all (if_turn r (begun_at label at) deep (has_room how r)) → Rest how p (Word at key.If word ∷ ts) all
  if_sound p label r at word true op e h = by_room (has_room how r) (Ok (r, IfOpen (begun_at label at))) h (λ room rest. rest p label at word (op, room, refl) e)
  if_sound p label r at word false op e h = absurd h

  verb_sound : (p : Place) (label : Option (ℕ × List ℕ)) (r : Reading) (at : ℕ) (k : Key) (word : List ℕ) → opening p ≡ Some (label, r)
      → Going how ts all (verb_turn how r label at k) → Rest how p (Word at k word ∷ ts) all
  unfolding verb_turn
  verb_sound p label r at key.Copy word op h = by_room (has_room how r) (Ok (r, At (step.Copy (begun_at label at) bare_copy))) h (λ room rest. g.copy op room rest)
  verb_sound p label r at key.Run word op h = by_room (has_room how r) (Ok (r, Running (begun_at label at))) h (λ room rest. rest p label at word (op, room, refl))
  verb_sound p label r at key.Submit word op h = by_room (has_room how r) (Ok (r, At (step.Submit (begun_at label at) nothing))) h (λ room rest. g.submit op room rest)
  verb_sound p label r at key.Goto word op h = by_room (has_room how r) (Ok (r, GotoLabel (begun_at label at))) h (λ room rest. rest p label at word (op, room, refl))
  verb_sound p label r at key.Exit word op h = by_room (has_room how r) (Ok (stored r (begun_at label at) sketch.Exit what.Exit, At step.Between)) h (λ room rest. g.exit op room rest)
  verb_sound p label r at key.If word op h = if_sound p label r at word (has_depth how at r) op refl h
  verb_sound p label r at _ word op h = absurd h

  label_sound : (r before : Reading) (s : Step) (at : ℕ) (k : Key) (word : List ℕ) (x : Result (List ℕ) FaultName) → ended r s ≡ Some before → taken (how.ranges at) (front_label_in k word) ≡ x
      → Going how ts all (label_move how before at x) → Rest how (g.At r s) (Word at k word ∷ ts) all
  label_sound r before s at k word (Ok name) e named h = by_room (has_room how before) (Ok (before, Labelled at name)) h (λ room rest. g.label e named rest)
  label_sound r before s at k word (Err name) e named h = absurd h

  else_sound : (r before : Reading) (s : Step) (at : ℕ) (word : List ℕ) (ifs : List Bool) → ended r s ≡ Some before → before.ifs ≡ ifs
      → Going how ts all (else_turn before at (has_room how before) ifs) → Rest how (g.At r s) (Word at key.Else word ∷ ts) all
  else_sound r before s at word [] e opened h = absurd h
  else_sound r before s at word (true ∷ ifs) e opened h = absurd h
  else_sound r before s at word (false ∷ ifs) e opened h = by_room (has_room how before) (Ok (record (stored before (begun_at None at) sketch.Else what.Else) { ifs = true ∷ ifs }, At step.Between)) h (λ room rest. g.else_part e room opened rest)

  eif_sound : (r before : Reading) (s : Step) (at : ℕ) (word : List ℕ) (ifs : List Bool) → ended r s ≡ Some before → before.ifs ≡ ifs
      → Going how ts all (eif_turn before at (has_room how before) ifs) → Rest how (g.At r s) (Word at key.Eif word ∷ ts) all
  eif_sound r before s at word [] e opened h = absurd h
  eif_sound r before s at word (has_else ∷ ifs) e opened h = by_room (has_room how before) (Ok (record (stored before (begun_at None at) sketch.Eif what.Eif) { ifs = ifs }, At step.Between)) h (λ room rest. g.eif e room opened rest)

  pend_by : (r before : Reading) (s : Step) (at : ℕ) (word : List ℕ) → ended r s ≡ Some before → before ≡ all → (ts ≡ []) ⊎ ((at2 : ℕ) × (ts ≡ Mark at2 sign.Semicolon ∷ []))
      → Rest how (g.At r s) (Word at key.Pend word ∷ ts) all
  pend_by r before s at word e same (inl none) = rw none (g.pend (e ∙ ap (λ (x : Reading). Some x) same))
  pend_by r before s at word e same (inr one) = rw one.1 (g.pend_semicolon (e ∙ ap (λ (x : Reading). Some x) same))

  statement_sound : (r before : Reading) (s : Step) (at : ℕ) (k : Key) (word : List ℕ) → ended r s ≡ Some before
      → Going how ts all (statement_turn how before at k word) → Rest how (g.At r s) (Word at k word ∷ ts) all
  unfolding statement_turn
  statement_sound r before s at key.Else word e h = else_sound r before s at word before.ifs e refl h
  statement_sound r before s at key.Eif word e h = eif_sound r before s at word before.ifs e refl h
  statement_sound r before s at key.Pend word e h = pend_by r before s at word e h.0 h.1
  statement_sound r before s at key.Copy word e h = verb_sound (g.At r s) None before at key.Copy word (ap (before_it None) e) h
  statement_sound r before s at key.Run word e h = verb_sound (g.At r s) None before at key.Run word (ap (before_it None) e) h
  statement_sound r before s at key.Submit word e h = verb_sound (g.At r s) None before at key.Submit word (ap (before_it None) e) h
  statement_sound r before s at key.If word e h = verb_sound (g.At r s) None before at key.If word (ap (before_it None) e) h
  statement_sound r before s at key.Goto word e h = verb_sound (g.At r s) None before at key.Goto word (ap (before_it None) e) h
  statement_sound r before s at key.Exit word e h = verb_sound (g.At r s) None before at key.Exit word (ap (before_it None) e) h
  statement_sound r before s at k word e h = label_sound r before s at k word _ e refl h

  fall : (r : Reading) (s : Step) (at : ℕ) (k : Key) (word : List ℕ) → Going how ts all (bare_turn how r s at k word None) → Rest how (g.At r s) (Word at k word ∷ ts) all
  fall r s at k word h = by_ended (ended r s) _ at h (λ before e going. statement_sound r before s at k word e going)

  -- a word that stands alone
  end_sound : (r : Reading) (begun : Begun) (copy : CopyGiven) (at : ℕ) (k : Key) (word : List ℕ) (end : End) (given : Option Given) → end_in k ≡ Some end → end_of copy end ≡ given
      → Going how ts all (bare_turn how r (step.Copy begun copy) at k word (end_state begun copy end given)) → Rest how (g.At r (step.Copy begun copy)) (Word at k word ∷ ts) all
  end_sound r begun copy at k word end None e unused h = h at k word e (ap is_some unused)
  end_sound r begun copy at k word end (Some given) e unused h = fall r (step.Copy begun copy) at k word h

  compress_sound : (r : Reading) (begun : Begun) (copy : CopyGiven) (at : ℕ) (word : List ℕ) (done : Bool) → copy.compress ≡ done
      → Going how ts all (bare_turn how r (step.Copy begun copy) at key.Compress word (compress_if begun copy done)) → Rest how (g.At r (step.Copy begun copy)) (Word at key.Compress word ∷ ts) all
  compress_sound r begun copy at word false e h = h copy at word (e, refl)
  compress_sound r begun copy at word true e h = fall r (step.Copy begun copy) at key.Compress word h

  compress_by_sound : (r : Reading) (begun : Begun) (copy : CopyGiven) (at : ℕ) (k : Key) (word : List ℕ)
      → Going how ts all (bare_turn how r (step.Copy begun copy) at k word (compress_by begun copy k)) → Rest how (g.At r (step.Copy begun copy)) (Word at k word ∷ ts) all
  unfolding compress_by
  compress_by_sound r begun copy at key.Compress word h = compress_sound r begun copy at word copy.compress refl h
  compress_by_sound r begun copy at k word h = fall r (step.Copy begun copy) at k word h

  copy_sound : (r : Reading) (begun : Begun) (copy : CopyGiven) (at : ℕ) (k : Key) (word : List ℕ) (o : Option End) → end_in k ≡ o
      → Going how ts all (bare_turn how r (step.Copy begun copy) at k word (copy_state begun copy k o)) → Rest how (g.At r (step.Copy begun copy)) (Word at k word ∷ ts) all
  copy_sound r begun copy at k word (Some end) e h = end_sound r begun copy at k word end (end_of copy end) e refl h
  copy_sound r begun copy at k word None e h = compress_by_sound r begun copy at k word h

  group_sound : (r : Reading) (begun : Begun) (copy : CopyGiven) (end : End) (given : Given) (at : ℕ) (k : Key) (word : List ℕ) (o old : Option Side) → side_of k ≡ o → given.side ≡ old
      → Going how ts all (bare_turn how r (step.Group begun copy end given) at k word (option_map (λ next. At (step.Group begun copy end next)) (sided given o old)))
      → Rest how (g.At r (step.Group begun copy end given)) (Word at k word ∷ ts) all
  group_sound r begun copy end given at k word (Some s) None e unused h = g.side {step = step.Group begun copy end given} refl e (ap is_some unused) h
  group_sound r begun copy end given at k word (Some s) (Some old) e unused h = fall r (step.Group begun copy end given) at k word h
  group_sound r begun copy end given at k word None old e unused h = fall r (step.Group begun copy end given) at k word h

  run_sound : (r : Reading) (begun : Begun) (w : Work) (given : Given) (at : ℕ) (k : Key) (word : List ℕ) (o old : Option Side) → side_of k ≡ o → given.side ≡ old
      → Going how ts all (bare_turn how r (step.Run begun w given) at k word (option_map (λ next. At (step.Run begun w next)) (sided given o old)))
      → Rest how (g.At r (step.Run begun w given)) (Word at k word ∷ ts) all
  run_sound r begun w given at k word (Some s) None e unused h = g.side {step = step.Run begun w given} refl e (ap is_some unused) h
  run_sound r begun w given at k word (Some s) (Some old) e unused h = fall r (step.Run begun w given) at k word h
  run_sound r begun w given at k word None old e unused h = fall r (step.Run begun w given) at k word h

  run_group_sound : (r : Reading) (begun : Begun) (w : Work) (given : Given) (at : ℕ) (k : Key) (word : List ℕ) (o old : Option Side) → side_of k ≡ o → given.side ≡ old
      → Going how ts all (bare_turn how r (step.RunGroup begun w given) at k word (option_map (λ next. At (step.RunGroup begun w next)) (sided given o old)))
      → Rest how (g.At r (step.RunGroup begun w given)) (Word at k word ∷ ts) all
  run_group_sound r begun w given at k word (Some s) None e unused h = g.side {step = step.RunGroup begun w given} refl e (ap is_some unused) h
  run_group_sound r begun w given at k word (Some s) (Some old) e unused h = fall r (step.RunGroup begun w given) at k word h
  run_group_sound r begun w given at k word None old e unused h = fall r (step.RunGroup begun w given) at k word h

  bare_sound : (r : Reading) (s : Step) (at : ℕ) (k : Key) (word : List ℕ) → Going how ts all (bare_turn how r s at k word (bare_state s k)) → Rest how (g.At r s) (Word at k word ∷ ts) all
  unfolding bare_state
  bare_sound r (step.Head given) at k word h = fall r (step.Head given) at k word h
  bare_sound r step.Between at k word h = fall r step.Between at k word h
  bare_sound r (step.Copy begun copy) at k word h = copy_sound r begun copy at k word (end_in k) refl h
  bare_sound r (step.Group begun copy end given) at k word h = group_sound r begun copy end given at k word (side_of k) given.side refl refl h
  bare_sound r (step.Run begun w given) at k word h = run_sound r begun w given at k word (side_of k) given.side refl refl h
  bare_sound r (step.RunGroup begun w given) at k word h = run_group_sound r begun w given at k word (side_of k) given.side refl refl h
  bare_sound r (step.Submit begun given) at k word h = fall r (step.Submit begun given) at k word h

  takes : (b c : Bool) → (b && c) ≡ true → b ≡ true
  takes true c e = refl
  takes false c e = absurd cc

  symbol_sound : (r : Reading) (s : Step) (at : ℕ) (k : Key) (word : List ℕ) (b : Bool) → (takes_symbols s && is_symbolic word) ≡ b
      → Going how ts all (symbol_turn how r s at k word b) → Rest how (g.At r s) (Word at k word ∷ ts) all
  symbol_sound r s at k word true e h = by_place r at (taken (how.ranges at) (symbol_in word)) (λ name. Symbol s name) h (λ name named rest. rest at k word (takes _ _ e) named)
  symbol_sound r s at k word false e h = bare_sound r s at k word h

  unset_sound : (r : Reading) (s : Step) (at : ℕ) (k : Key) (word : List ℕ) (set : Slot) (given : Bool) → slot_of s k ≡ Some set → has (given_of s) set ≡ given
      → Going how ts all (slot_turn how r s at k word (unset given set)) → Rest how (g.At r s) (Word at k word ∷ ts) all
  unset_sound r s at k word set true e unused h = symbol_sound r s at k word (takes_symbols s && is_symbolic word) refl h
  unset_sound r s at k word set false e unused h = h e unused

  slot_sound : (r : Reading) (s : Step) (at : ℕ) (k : Key) (word : List ℕ) (o : Option Slot) → slot_of s k ≡ o
      → Going how ts all (slot_turn how r s at k word (free (given_of s) o)) → Rest how (g.At r s) (Word at k word ∷ ts) all
  slot_sound r s at k word (Some set) e h = unset_sound r s at k word set (has (given_of s) set) e refl h
  slot_sound r s at k word None e h = symbol_sound r s at k word (takes_symbols s && is_symbolic word) refl h

  word_by_sound : (r : Reading) (s : Step) (at : ℕ) (k : Key) (word : List ℕ) (opens : Bool) → Going how ts all (word_by how r s at k word opens) → Rest how (g.At r s) (Word at k word ∷ ts) all
  word_by_sound r s at k word true h = by_ended (ended r s) _ at h (λ before e going. statement_sound r before s at k word e going)
  word_by_sound r s at k word false h = slot_sound r s at k word (slot_of s k) refl h

  word_sound : (r : Reading) (s : Step) (at : ℕ) (k : Key) (word : List ℕ) → Going how ts all (word_turn how r s at k word) → Rest how (g.At r s) (Word at k word ∷ ts) all
  unfolding word_turn
  word_sound r s at k word h = word_by_sound r s at k word (is_opener k) h

  mark_sound : (r : Reading) (s : Step) (at : ℕ) (m : Sign) → Going how ts all (kept r (mark_move s at m)) → Rest how (g.At r s) (Mark at m ∷ ts) all
  unfolding mark_move
  mark_sound r (step.Head given) at m h = absurd h
  mark_sound r step.Between at m h = absurd h
  mark_sound r (step.Copy begun copy) at m h = absurd h
  mark_sound r (step.Submit begun given) at m h = absurd h
  mark_sound r (step.Group begun copy end given) at sign.Close h = by_test r (is_some given.file) at _ h (λ named rest. g.group_end named rest)
  mark_sound r (step.Group begun copy end given) at _ h = absurd h
  mark_sound r (step.Run begun w given) at sign.Open h = g.run_group h
  mark_sound r (step.Run begun w given) at _ h = absurd h
  mark_sound r (step.RunGroup begun w given) at sign.Close h = g.run_group_end h
  mark_sound r (step.RunGroup begun w given) at _ h = absurd h

  at_sound : (r : Reading) (s : Step) (t : Token) → Going how ts all (at_turn how r s t) → Rest how (g.At r s) (t ∷ ts) all
  at_sound r s (Word at k word) h = word_sound r s at k word h
  at_sound r s (Quoted at text) h = absurd h
  at_sound r s (Mark at m) h = mark_sound r s at m h

  named_by : (r before : Reading) (s : Step) (at at2 : ℕ) (k k2 : Key) (word word2 : List ℕ) (x : Result (List ℕ) FaultName) → ended r s ≡ Some before → taken (how.ranges at) (front_label_in k word) ≡ x
      → Going how ts all (named_label how before at x at2 k2) → Rest how (g.At r s) (Word at k word ∷ Word at2 k2 word2 ∷ ts) all
  named_by r before s at at2 k k2 word word2 (Ok name) e named h = g.label e named (verb_sound (g.Labelled before at name) (Some (at, name)) before at2 k2 word2 refl h)
  named_by r before s at at2 k k2 word word2 (Err name) e named h = absurd h

  named_sound : (r : Reading) (s : Step) (set : Slot) (at : ℕ) (k : Key) (word : List ℕ) (t : Token) → Going how ts all (named_turn how r s set at k word t)
      → slot_of s k ≡ Some set → has (given_of s) set ≡ false → Rest how (g.At r s) (Word at k word ∷ t ∷ ts) all
  named_sound r s set at k word (Word at2 k2 word2) h e unused = by_ended (ended r s) _ at2 h (λ before ends going. named_by r before s at at2 k k2 word word2 _ ends refl going)
  named_sound r s set at k word (Quoted at2 text) h e unused = absurd h
  named_sound r s set at k word (Mark at2 sign.Equals) h e unused = h k word at2 e unused
  named_sound r s set at k word (Mark at2 _) h e unused = absurd h

  -- a value
  open_sound : (r : Reading) (s : Step) (set : Slot) (at at3 : ℕ) (list parens : Bool) → takes_list set ≡ list → takes_parentheses set ≡ parens
      → Going how ts all (kept r (if list then Ok (Values (with_given s (with_list (given_of s) set))) else on parens at3 (Parenthesized s set at)))
      → (k : Key) (word : List ℕ) (at2 : ℕ) → slot_of s k ≡ Some set → has (given_of s) set ≡ false → Rest how (g.At r s) (Word at k word ∷ Mark at2 sign.Equals ∷ Mark at3 sign.Open ∷ ts) all
  open_sound r s set at at3 true parens el ep h k word at2 e unused = g.list e unused el h
  open_sound r s set at at3 false true el ep h k word at2 e unused = h k word at2 at3 e unused ep
  open_sound r s set at at3 false false el ep h k word at2 e unused = absurd h

  startt_sound : (r : Reading) (s : Step) (at at2 at3 : ℕ) (k : Key) (word : List ℕ) → IsStart s k → has (given_of s) slot.Start ≡ false → Rest how (g.Starting r (given_of s)) ts all
      → Rest how (g.At r s) (Word at k word ∷ Mark at2 sign.Equals ∷ Mark at3 sign.Open ∷ ts) all
  unfolding has
  startt_sound r (step.Head given) at at2 at3 k word is unused h = rw is (g.startt unused h)
  startt_sound r step.Between at at2 at3 k word is unused h = absurd is
  startt_sound r (step.Copy begun copy) at at2 at3 k word is unused h = absurd is
  startt_sound r (step.Group begun copy end given) at at2 at3 k word is unused h = absurd is
  startt_sound r (step.Run begun w given) at at2 at3 k word is unused h = absurd is
  startt_sound r (step.RunGroup begun w given) at at2 at3 k word is unused h = absurd is
  startt_sound r (step.Submit begun given) at at2 at3 k word is unused h = absurd is

  open_value_sound : (r : Reading) (s : Step) (set : Slot) (at at3 : ℕ) → Going how ts all (kept r (open_move s set at at3))
      → (k : Key) (word : List ℕ) (at2 : ℕ) → slot_of s k ≡ Some set → has (given_of s) set ≡ false → Rest how (g.At r s) (Word at k word ∷ Mark at2 sign.Equals ∷ Mark at3 sign.Open ∷ ts) all
  unfolding open_move
  open_value_sound r s slot.Start at at3 h k word at2 e unused = startt_sound r s at at2 at3 k word (start_slot s k e) unused h
  open_value_sound r s set at at3 h k word at2 e unused = open_sound r s set at at3 (takes_list set) (takes_parentheses set) refl refl h k word at2 e unused

  plain_sound : (r : Reading) (s : Step) (set : Slot) (at : ℕ) (t : Token) → Going how ts all (kept r (plain_value how s set at t At))
      → (k : Key) (word : List ℕ) (at2 : ℕ) → slot_of s k ≡ Some set → has (given_of s) set ≡ false → Rest how (g.At r s) (Word at k word ∷ Mark at2 sign.Equals ∷ t ∷ ts) all
  plain_sound r s set at t h k word at2 e unused = by_place r (place_of t) (taken (how.ranges (place_of t)) (with_value (given_of s) set at t)) (λ next. At (with_given s next)) h (λ next value rest. g.param e unused value rest)

  value_sound : (r : Reading) (s : Step) (set : Slot) (at : ℕ) (t : Token) → Going how ts all (kept r (value_move how s set at t))
      → (k : Key) (word : List ℕ) (at2 : ℕ) → slot_of s k ≡ Some set → has (given_of s) set ≡ false → Rest how (g.At r s) (Word at k word ∷ Mark at2 sign.Equals ∷ t ∷ ts) all
  unfolding value_move
  value_sound r s set at (Word at3 k3 word3) h = plain_sound r s set at (Word at3 k3 word3) h
  value_sound r s set at (Quoted at3 text) h = plain_sound r s set at (Quoted at3 text) h
  value_sound r s set at (Mark at3 sign.Open) h = open_value_sound r s set at at3 h
  value_sound r s set at (Mark at3 _) h = absurd h

  parenthesized_sound : (r : Reading) (s : Step) (set : Slot) (at : ℕ) (t : Token) → Going how ts all (kept r (plain_value how s set at t Closing))
      → (k : Key) (word : List ℕ) (at2 at3 : ℕ) → slot_of s k ≡ Some set → has (given_of s) set ≡ false → takes_parentheses set ≡ true
      → Rest how (g.At r s) (Word at k word ∷ Mark at2 sign.Equals ∷ Mark at3 sign.Open ∷ t ∷ ts) all
  parenthesized_sound r s set at t h k word at2 at3 e unused parens =
      by_place r (place_of t) (taken (how.ranges (place_of t)) (with_value (given_of s) set at t)) (λ next. Closing (with_given s next)) h
      (λ next value closed. rw closed.2 (g.in_parentheses e unused parens value closed.3))

  -- a closing parenthesis that is wanted
  closing_sound : (r : Reading) (s : Step) (t : Token) → Going how ts all (kept r (behind_close t (At s))) → Sound how r (Closing s) (t ∷ ts) all
  closing_sound r s (Word at k word) h = absurd h
  closing_sound r s (Quoted at text) h = absurd h
  closing_sound r s (Mark at sign.Close) h = (at, ts, refl, h)
  closing_sound r s (Mark at _) h = absurd h

  values_sound : (r : Reading) (s : Step) (t : Token) → Going how ts all (kept r (values_move s t)) → Rest how (g.Values r s) (t ∷ ts) all
  values_sound r s (Word at k word) h = g.list_value {value = Word at k word} {text = word} refl h
  values_sound r s (Quoted at text) h = g.list_value {value = Quoted at text} {text = text} refl h
  values_sound r s (Mark at sign.Close) h = g.list_end h
  values_sound r s (Mark at _) h = absurd h

  symbol_equals_sound : (r : Reading) (s : Step) (name : List ℕ) (t : Token) → Going how ts all (kept r (behind_equals t (SymbolValue s name))) → Sound how r (Symbol s name) (t ∷ ts) all
  symbol_equals_sound r s name (Word at k word) h = absurd h
  symbol_equals_sound r s name (Quoted at text) h = absurd h
  symbol_equals_sound r s name (Mark at2 sign.Equals) h = λ at k word takes_it named. h at at2 k word takes_it named
  symbol_equals_sound r s name (Mark at _) h = absurd h

  symbol_value_sound : (r : Reading) (s : Step) (name : List ℕ) (t : Token) → Going how ts all (symbol_value_turn r s name t) → Sound how r (SymbolValue s name) (t ∷ ts) all
  symbol_value_sound r s name (Word at3 k3 word3) h = λ at at2 k word takes_it named. g.symbol {text = word3} {value = Word at3 k3 word3} takes_it named refl h
  symbol_value_sound r s name (Quoted at3 text) h = λ at at2 k word takes_it named. g.symbol {text = text} {value = Quoted at3 text} takes_it named refl h
  symbol_value_sound r s name (Mark at m) h = absurd h

  starting_sound : (r : Reading) (given : Given) (t : Token) → Going how ts all (kept r (starting_move given t)) → Rest how (g.Starting r given) (t ∷ ts) all
  starting_sound r given (Word at k word) h = by_wanted r at (day_in word) (λ day. Dated given day) h (λ day e rest. rest at k word e)
  starting_sound r given (Quoted at text) h = absurd h
  starting_sound r given (Mark at sign.Comma) h = g.today_at h
  starting_sound r given (Mark at _) h = absurd h

  dated_sound : (r : Reading) (given : Given) (day : Day) (t : Token) → Going how ts all (kept r (dated_move given day t)) → Sound how r (Dated given day) (t ∷ ts) all
  dated_sound r given day (Word at k word) h = absurd h
  dated_sound r given day (Quoted at text) h = absurd h
  dated_sound r given day (Mark at2 sign.Close) h = λ at k word e. g.on_day e h
  dated_sound r given day (Mark at2 sign.Comma) h = λ at k word e. g.on_day_at e h
  dated_sound r given day (Mark at _) h = absurd h

  time_sound : (r : Reading) (given : Given) (day : Day) (at : ℕ) (k : Key) (word : List ℕ) (clock : Option Clock) → clock_in word ≡ clock
      → Going how ts all (kept r (time_move how given day at word clock)) → Rest how (g.Timing r given day) (Word at k word ∷ ts) all
  time_sound r given day at k word (Some clock) e h = by_place r at (taken (how.ranges at) (plain_time clock)) (λ seconds. Timed given day (Some clock) seconds) h
      (λ seconds fits rest. rest at k word e (rw e fits))
  time_sound r given day at k word None e h = by_place r at (taken (how.ranges at) (named_time word)) (λ seconds. Timed given day None seconds) h
      (λ seconds fits rest. rest at k word e (rw e fits))

  timing_sound : (r : Reading) (given : Given) (day : Day) (t : Token) → Going how ts all (kept r (timing_move how given day t)) → Rest how (g.Timing r given day) (t ∷ ts) all
  timing_sound r given day (Word at k word) h = time_sound r given day at k word (clock_in word) refl h
  timing_sound r given day (Quoted at text) h = absurd h
  timing_sound r given day (Mark at m) h = absurd h

  half_sound : (r : Reading) (given : Given) (day : Day) (clock : Option Clock) (seconds at2 : ℕ) (k2 : Key) (word2 : List ℕ) (half : Option ℕ) → half_in word2 ≡ half
      → Going how ts all (kept r (half_move how given day at2 clock half)) → Sound how r (Timed given day clock seconds) (Word at2 k2 word2 ∷ ts) all
  half_sound r given day (Some clock) seconds at2 k2 word2 (Some half) e h = λ at k word clocked fits.
      by_place r at2 (taken (how.ranges at2) (half_time clock half)) (λ later. Closing (step.Head (started given day later))) h
      (λ later fits2 closed. rw closed.2 (g.timed_half clocked (rw clocked at fits) e fits2 closed.3))
  half_sound r given day (Some clock) seconds at2 k2 word2 None e h = absurd h
  half_sound r given day None seconds at2 k2 word2 half e h = absurd h

  timed_sound : (r : Reading) (given : Given) (day : Day) (clock : Option Clock) (seconds : ℕ) (t : Token) → Going how ts all (kept r (timed_move how given day clock seconds t))
      → Sound how r (Timed given day clock seconds) (t ∷ ts) all
  timed_sound r given day clock seconds (Word at2 k2 word2) h = half_sound r given day clock seconds at2 k2 word2 (half_in word2) refl h
  timed_sound r given day clock seconds (Quoted at text) h = absurd h
  timed_sound r given day clock seconds (Mark at2 sign.Close) h = λ at k word clocked fits. g.timed fits h
  timed_sound r given day clock seconds (Mark at _) h = absurd h

  group_open_sound : (r : Reading) (begun : Begun) (copy : CopyGiven) (end : End) (t : Token) → Going how ts all (kept r (behind_open t (At (step.Group begun copy end nothing))))
      → Sound how r (GroupOpen begun copy end) (t ∷ ts) all
  group_open_sound r begun copy end (Word at k word) h = absurd h
  group_open_sound r begun copy end (Quoted at text) h = absurd h
  group_open_sound r begun copy end (Mark at2 sign.Open) h = λ at k word e unused. g.group e unused h
  group_open_sound r begun copy end (Mark at _) h = absurd h

  -- what follows COMPRESS: where the rest is that of the COPY, COMPRESS stands alone
  alone : (r : Reading) (begun : Begun) (before copy : CopyGiven) (at : ℕ) (word : List ℕ) (us : List Token) → IsCompressed before copy
      → Rest how (g.At r (step.Copy begun copy)) us all → Rest how (g.At r (step.Copy begun before)) (Word at key.Compress word ∷ us) all
  alone r begun before copy at word us was rest = g.compress was.0 (rw was.1 rest)

  compressed_sound : (r : Reading) (begun : Begun) (copy : CopyGiven) (t : Token) → Going how ts all (compress_turn how r begun copy t) → Sound how r (Compress begun copy) (t ∷ ts) all
  compressed_sound r begun copy (Word at2 key.Primechar word2) h = λ before at word was. h before at at2 word word2 was
  compressed_sound r begun copy (Word at2 key.Extended word2) h = λ before at word was. h before at at2 word word2 was
  compressed_sound r begun copy (Word at2 k2 word2) h = λ before at word was. alone r begun before copy at word _ was (word_sound r (step.Copy begun copy) at2 k2 word2 h)
  compressed_sound r begun copy (Quoted at2 text) h = absurd h
  compressed_sound r begun copy (Mark at2 m) h = λ before at word was. alone r begun before copy at word _ was (mark_sound r (step.Copy begun copy) at2 m h)

  prime_sound : (r : Reading) (begun : Begun) (copy : CopyGiven) (t : Token) → Going how ts all (kept r (behind_equals t (PrimeValue begun copy))) → Sound how r (Prime begun copy) (t ∷ ts) all
  prime_sound r begun copy (Word at3 k word) h = absurd h
  prime_sound r begun copy (Quoted at3 text) h = absurd h
  prime_sound r begun copy (Mark at3 sign.Equals) h = λ before at at2 word word2 was. h before at at2 at3 word word2 was
  prime_sound r begun copy (Mark at3 _) h = absurd h

  prime_value_sound : (r : Reading) (begun : Begun) (copy : CopyGiven) (t : Token) → Going how ts all (kept r (behind_word t (Primed begun copy))) → Sound how r (PrimeValue begun copy) (t ∷ ts) all
  prime_value_sound r begun copy (Word at4 k word4) h = λ before at at2 at3 word word2 was. h before at at2 at3 at4 k word word2 word4 was
  prime_value_sound r begun copy (Quoted at4 text) h = absurd h
  prime_value_sound r begun copy (Mark at4 m) h = absurd h

  primed : (r : Reading) (begun : Begun) (before copy : CopyGiven) (at at2 at3 at4 : ℕ) (k : Key) (word word2 word4 : List ℕ) (us : List Token) → IsCompressed before copy
      → Rest how (g.At r (step.Copy begun copy)) us all
      → Rest how (g.At r (step.Copy begun before)) (Word at key.Compress word ∷ Word at2 key.Primechar word2 ∷ Mark at3 sign.Equals ∷ Word at4 k word4 ∷ us) all
  primed r begun before copy at at2 at3 at4 k word word2 word4 us was rest = g.prime was.0 (rw was.1 rest)

  primed_sound : (r : Reading) (begun : Begun) (copy : CopyGiven) (t : Token) → Going how ts all (primed_turn how r begun copy t) → Sound how r (Primed begun copy) (t ∷ ts) all
  primed_sound r begun copy (Word at5 k5 word5) h = λ before at at2 at3 at4 k word word2 word4 was. primed r begun before copy at at2 at3 at4 k word word2 word4 _ was (word_sound r (step.Copy begun copy) at5 k5 word5 h)
  primed_sound r begun copy (Quoted at5 text) h = λ before at at2 at3 at4 k word word2 word4 was. g.prime_quoted was.0 (rw was.1 h)
  primed_sound r begun copy (Mark at5 m) h = λ before at at2 at3 at4 k word word2 word4 was. primed r begun before copy at at2 at3 at4 k word word2 word4 _ was (mark_sound r (step.Copy begun copy) at5 m h)

  extended : (r : Reading) (begun : Begun) (before copy : CopyGiven) (at at2 : ℕ) (word word2 : List ℕ) (us : List Token) → IsCompressed before copy
      → Rest how (g.At r (step.Copy begun copy)) us all → Rest how (g.At r (step.Copy begun before)) (Word at key.Compress word ∷ Word at2 key.Extended word2 ∷ us) all
  extended r begun before copy at at2 word word2 us was rest = g.extended was.0 (rw was.1 rest)

  extended_mark : (r : Reading) (begun : Begun) (copy : CopyGiven) (at3 : ℕ) (m : Sign) → Going how ts all (extended_turn how r begun copy (Mark at3 m)) → Sound how r (Extended begun copy) (Mark at3 m ∷ ts) all
  extended_mark r begun copy at3 sign.Equals h = λ before at at2 word word2 was. h before at at2 at3 word word2 was
  extended_mark r begun copy at3 m h = λ before at at2 word word2 was. extended r begun before copy at at2 word word2 _ was (mark_sound r (step.Copy begun copy) at3 m h)

  extended_sound : (r : Reading) (begun : Begun) (copy : CopyGiven) (t : Token) → Going how ts all (extended_turn how r begun copy t) → Sound how r (Extended begun copy) (t ∷ ts) all
  extended_sound r begun copy (Word at3 k3 word3) h = λ before at at2 word word2 was. extended r begun before copy at at2 word word2 _ was (word_sound r (step.Copy begun copy) at3 k3 word3 h)
  extended_sound r begun copy (Quoted at3 text) h = absurd h
  extended_sound r begun copy (Mark at3 m) h = extended_mark r begun copy at3 m h

  extending_sound : (r : Reading) (begun : Begun) (copy : CopyGiven) (t : Token) → Going how ts all (kept r (behind_open t (Pairs (step.Copy begun copy)))) → Sound how r (Extending begun copy) (t ∷ ts) all
  extending_sound r begun copy (Word at4 k word) h = absurd h
  extending_sound r begun copy (Quoted at4 text) h = absurd h
  extending_sound r begun copy (Mark at4 sign.Open) h = λ before at at2 at3 word word2 was. g.extended_list was.0 (rw was.1 h)
  extending_sound r begun copy (Mark at4 _) h = absurd h

  pairs_sound : (r : Reading) (s : Step) (t : Token) → Going how ts all (kept r (pairs_move s t)) → Rest how (g.Pairs r s) (t ∷ ts) all
  pairs_sound r s (Word at k word) h = h at k word
  pairs_sound r s (Quoted at text) h = absurd h
  pairs_sound r s (Mark at sign.Close) h = g.pairs_end h
  pairs_sound r s (Mark at _) h = absurd h

  pair_named_sound : (r : Reading) (s : Step) (t : Token) → Going how ts all (kept r (behind_equals t (PairValue s))) → Sound how r (PairNamed s) (t ∷ ts) all
  pair_named_sound r s (Word at k word) h = absurd h
  pair_named_sound r s (Quoted at text) h = absurd h
  pair_named_sound r s (Mark at2 sign.Equals) h = λ at k word. h at at2 k word
  pair_named_sound r s (Mark at _) h = absurd h

  pair_value_sound : (r : Reading) (s : Step) (t : Token) → Going how ts all (kept r (behind_word t (Pairs s))) → Sound how r (PairValue s) (t ∷ ts) all
  pair_value_sound r s (Word at3 k3 word3) h = λ at at2 k word. g.pair h
  pair_value_sound r s (Quoted at text) h = absurd h
  pair_value_sound r s (Mark at m) h = absurd h

  -- the statements with tokens of their own
  running_sound : (r : Reading) (begun : Begun) (t : Token) → Going how ts all (kept r (running_move begun t)) → Sound how r (Running begun) (t ∷ ts) all
  running_sound r begun (Word at2 k2 word2) h = λ p label at word was.
      by_wanted r at2 (work_of k2) (λ w. At (step.Run begun w nothing)) h (λ w e rest. g.run was.0 was.1 e (rw was.2 rest))
  running_sound r begun (Quoted at text) h = absurd h
  running_sound r begun (Mark at m) h = absurd h

  if_open_sound : (r : Reading) (begun : Begun) (t : Token) → Going how ts all (kept r (behind_open t (IfLabel begun))) → Sound how r (IfOpen begun) (t ∷ ts) all
  if_open_sound r begun (Word at k word) h = absurd h
  if_open_sound r begun (Quoted at text) h = absurd h
  if_open_sound r begun (Mark at2 sign.Open) h = λ p label at word was deep. h p label at at2 word was deep
  if_open_sound r begun (Mark at _) h = absurd h

  if_label_sound : (r : Reading) (begun : Begun) (t : Token) → Going how ts all (kept r (if_label_move how begun t)) → Sound how r (IfLabel begun) (t ∷ ts) all
  if_label_sound r begun (Word at3 k3 word3) h = λ p label at at2 word was deep.
      by_place r at3 (taken (how.ranges at3) (label_in k3 word3)) (λ name. IfRelation begun at3 name) h (λ name named rest. rest p label at at2 word k3 word3 was deep named)
  if_label_sound r begun (Quoted at text) h = absurd h
  if_label_sound r begun (Mark at m) h = absurd h

  if_relation_sound : (r : Reading) (begun : Begun) (at3 : ℕ) (name : List ℕ) (t : Token) → Going how ts all (kept r (wanted_at (place_of t) (relation_of t) (λ rel. IfNumber begun at3 name rel)))
      → Sound how r (IfRelation begun at3 name) (t ∷ ts) all
  if_relation_sound r begun at3 name t h = λ p label at at2 word k3 word3 was deep named.
      by_wanted r (place_of t) (relation_of t) (λ rel. IfNumber begun at3 name rel) h (λ rel e rest. rest p label at at2 word k3 word3 t was deep named e)

  if_number_sound : (r : Reading) (begun : Begun) (at3 : ℕ) (name : List ℕ) (rel : Relation) (t : Token) → Going how ts all (kept r (if_number_move how begun at3 name rel t))
      → Sound how r (IfNumber begun at3 name rel) (t ∷ ts) all
  if_number_sound r begun at3 name rel (Word at5 k5 word5) h = λ p label at at2 word k3 word3 relates was deep named e.
      by_place r at5 (taken (how.ranges at5) (number_in 0 255 word5)) (λ n. IfClose begun at3 name rel n) h (λ n fits rest. rest p label at at2 at5 word k3 k5 word3 word5 relates was deep named e fits)
  if_number_sound r begun at3 name rel (Quoted at text) h = absurd h
  if_number_sound r begun at3 name rel (Mark at m) h = absurd h

  if_close_sound : (r : Reading) (begun : Begun) (at3 : ℕ) (name : List ℕ) (rel : Relation) (n : ℕ) (t : Token) → Going how ts all (kept r (behind_close t (IfThen begun at3 name rel n)))
      → Sound how r (IfClose begun at3 name rel n) (t ∷ ts) all
  if_close_sound r begun at3 name rel n (Word at k word) h = absurd h
  if_close_sound r begun at3 name rel n (Quoted at text) h = absurd h
  if_close_sound r begun at3 name rel n (Mark at6 sign.Close) h = λ p label at at2 at5 word k3 k5 word3 word5 relates was deep named e fits.
      h p label at at2 at5 at6 word k3 k5 word3 word5 relates was deep named e fits
  if_close_sound r begun at3 name rel n (Mark at _) h = absurd h

  if_then_sound : (r : Reading) (begun : Begun) (at3 : ℕ) (name : List ℕ) (rel : Relation) (n : ℕ) (t : Token) → Going how ts all (if_then_turn r begun at3 name rel n t)
      → Sound how r (IfThen begun at3 name rel n) (t ∷ ts) all
  if_then_sound r begun at3 name rel n (Word at7 key.Then word7) h = λ p label at at2 at5 at6 word k3 k5 word3 word5 relates was deep named e fits.
      g.if_then was.0 was.1 deep named e fits (subst (λ (b : Begun). Rest how (g.At (record (stored r b (sketch.If at3 name) (what.If name rel n)) { ifs = false ∷ r.ifs }) step.Between) ts all) (sym was.2) h)
  if_then_sound r begun at3 name rel n (Word at _ word) h = absurd h
  if_then_sound r begun at3 name rel n (Quoted at text) h = absurd h
  if_then_sound r begun at3 name rel n (Mark at m) h = absurd h

  goto_by : (r : Reading) (begun : Begun) (at2 : ℕ) (k2 : Key) (word2 : List ℕ) (x : Result (List ℕ) FaultName) → taken (how.ranges at2) (label_in k2 word2) ≡ x
      → Going how ts all (with_place at2 x (λ name. (stored r begun (sketch.Goto at2 name) (what.Goto name), At step.Between))) → Sound how r (GotoLabel begun) (Word at2 k2 word2 ∷ ts) all
  goto_by r begun at2 k2 word2 (Ok name) named h = λ p label at word was. g.goto was.0 was.1 named (subst (λ (b : Begun). Rest how (g.At (stored r b (sketch.Goto at2 name) (what.Goto name)) step.Between) ts all) (sym was.2) h)
  goto_by r begun at2 k2 word2 (Err name) named h = absurd h

  goto_sound : (r : Reading) (begun : Begun) (t : Token) → Going how ts all (goto_turn how r begun t) → Sound how r (GotoLabel begun) (t ∷ ts) all
  goto_sound r begun (Word at2 k2 word2) h = goto_by r begun at2 k2 word2 (taken (how.ranges at2) (label_in k2 word2)) refl h
  goto_sound r begun (Quoted at text) h = absurd h
  goto_sound r begun (Mark at m) h = absurd h

  labelled_sound : (r : Reading) (at : ℕ) (name : List ℕ) (t : Token) → Going how ts all (labelled_turn how r at name t) → Rest how (g.Labelled r at name) (t ∷ ts) all
  labelled_sound r at name (Word at2 k word) h = verb_sound (g.Labelled r at name) (Some (at, name)) r at2 k word refl h
  labelled_sound r at name (Quoted at2 text) h = absurd h
  labelled_sound r at name (Mark at2 m) h = absurd h

  ended_sound : (r : Reading) (t : Token) → Going how ts all (kept r (ended_move t)) → Sound how r Ended (t ∷ ts) all
  ended_sound r (Word at k word) h = absurd h
  ended_sound r (Quoted at text) h = absurd h
  ended_sound r (Mark at sign.Semicolon) h = (h.0, inr (at, ap (λ (us : List Token). Mark at sign.Semicolon ∷ us) h.1))
  ended_sound r (Mark at _) h = absurd h

  -- one token, whatever the state
  step_sound : (r : Reading) (s : State) (t : Token) → Going how ts all (next how r s t) → Sound how r s (t ∷ ts) all
  unfolding next
  step_sound r (At s) t h = at_sound r s t h
  step_sound r (Labelled at name) t h = labelled_sound r at name t h
  step_sound r (Named s set at k word) t h = named_sound r s set at k word t h
  step_sound r (Value s set at) t h = value_sound r s set at t h
  step_sound r (Parenthesized s set at) t h = parenthesized_sound r s set at t h
  step_sound r (Closing s) t h = closing_sound r s t h
  step_sound r (Values s) t h = values_sound r s t h
  step_sound r (Symbol s name) t h = symbol_equals_sound r s name t h
  step_sound r (SymbolValue s name) t h = symbol_value_sound r s name t h
  step_sound r (Starting given) t h = starting_sound r given t h
  step_sound r (Dated given day) t h = dated_sound r given day t h
  step_sound r (Timing given day) t h = timing_sound r given day t h
  step_sound r (Timed given day clock seconds) t h = timed_sound r given day clock seconds t h
  step_sound r (GroupOpen begun copy end) t h = group_open_sound r begun copy end t h
  step_sound r (Compress begun copy) t h = compressed_sound r begun copy t h
  step_sound r (Prime begun copy) t h = prime_sound r begun copy t h
  step_sound r (PrimeValue begun copy) t h = prime_value_sound r begun copy t h
  step_sound r (Primed begun copy) t h = primed_sound r begun copy t h
  step_sound r (Extended begun copy) t h = extended_sound r begun copy t h
  step_sound r (Extending begun copy) t h = extending_sound r begun copy t h
  step_sound r (Pairs s) t h = pairs_sound r s t h
  step_sound r (PairNamed s) t h = pair_named_sound r s t h
  step_sound r (PairValue s) t h = pair_value_sound r s t h
  step_sound r (Running begun) t h = running_sound r begun t h
  step_sound r (IfOpen begun) t h = if_open_sound r begun t h
  step_sound r (IfLabel begun) t h = if_label_sound r begun t h
  step_sound r (IfRelation begun at name) t h = if_relation_sound r begun at name t h
  step_sound r (IfNumber begun at name rel) t h = if_number_sound r begun at name rel t h
  step_sound r (IfClose begun at name rel n) t h = if_close_sound r begun at name rel n t h
  step_sound r (IfThen begun at name rel n) t h = if_then_sound r begun at name rel n t h
  step_sound r (GotoLabel begun) t h = goto_sound r begun t h
  step_sound r Ended t h = ended_sound r t h
  step_sound r Closed t h = absurd h

abbrev done : Reading → Result Reading Found
done r = Ok r

ok_is : (x y : Reading) → done x ≡ done y → x ≡ y
ok_is x y e = cc

-- a run that comes to its end
run_end : (how : Strictness) (len : ℕ) (r : Reading) (s : State) (all : Reading) → at_end len r s ≡ Ok all → Sound how r s [] all
run_end how len r Ended all e = (ok_is r all e, inl refl)
run_end how len r Closed all e = (ok_is r all e, refl)
run_end how len r _ all e = absurd cc

going_by : (how : Strictness) (ts : List Token) (all : Reading) (turn : Turn) (f : Reading → State → Result Reading Found) → bind_turn turn f ≡ Ok all
    → ((r : Reading) (s : State) → f r s ≡ Ok all → Sound how r s ts all) → Going how ts all turn
going_by how ts all (Ok x) f e k = k x.0 x.1 e
going_by how ts all (Err fault) f e k = absurd cc

-- what a run reads is what its state says
pub run_sound_all : (how : Strictness) (len : ℕ) (r : Reading) (s : State) (ts : List Token) (all : Reading) → run how len r s ts ≡ Ok all → Sound how r s ts all
unfolding run
run_sound_all how len r s [] all e = run_end how len r s all e
run_sound_all how len r s (t ∷ ts) all e =
    step_sound how ts all r s t (going_by how ts all (next how r s t) _ e (λ r2 s2 e2. run_sound_all how len r2 s2 ts all e2))

titled_sound : (how : Strictness) (len at : ℕ) (k : Key) (word : List ℕ) (ts : List Token) (all : Reading) (x : Result (List ℕ) FaultName) → taken (how.ranges at) (label_in k word) ≡ x
    → titled how len x at ts ≡ Ok all → Rest how Start (Word at k word ∷ ts) all
titled_sound how len at k word ts all (Err name) named e = absurd cc
titled_sound how len at k word [] all (Ok name) named e = absurd cc
titled_sound how len at k word (Word at2 key.Process word2 ∷ ts) all (Ok name) named e = g.process named (run_sound_all how len _ _ ts all e)
titled_sound how len at k word (Word at2 _ word2 ∷ ts) all (Ok name) named e = absurd cc
titled_sound how len at k word (Quoted at2 text ∷ ts) all (Ok name) named e = absurd cc
titled_sound how len at k word (Mark at2 m ∷ ts) all (Ok name) named e = absurd cc

-- what is read of a whole text is in the grammar
pub whole_sound : (how : Strictness) (len : ℕ) (ts : List Token) (all : Reading) → whole how len ts ≡ Ok all → Rest how Start ts all
unfolding whole
whole_sound how len [] all e = absurd cc
whole_sound how len (Word at k word ∷ ts) all e = titled_sound how len at k word ts all (taken (how.ranges at) (label_in k word)) refl e
whole_sound how len (Quoted at text ∷ ts) all e = absurd cc
whole_sound how len (Mark at m ∷ ts) all e = absurd cc
