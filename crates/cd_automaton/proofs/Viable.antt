-- Wherever the machine gets to, more tokens bring it to the end of a text.
use Rattle.std.specs.Prelude.{slice_index}
use Rattle.std.proofs.lemmas.Str.{is_utf8-from_IsUtf8, IsUtf8-from_ascii}
use Rattle.cd_types.specs.FileName.{is_file_name}
use Rattle.std.proofs.Common.{◌≡◌, ◌<◌, zero, suc, arith, rules, ℕ, codes, List, [], ◌∷◌, Bool, true, false, is_some, Option, Some, None, Ok, refl, ap}
use Rattle.cd_types.specs.declared.choices.Relation.{Relation}
use Rattle.cd_types.specs.declared.choices.Relation.TheVariants as relation
use Rattle.cd_types.specs.declared.start.Day.{Day}
use Rattle.cd_types.specs.declared.start.Day.TheVariants.{Today}
use Rattle.cd_ast.specs.declared.process.What.TheVariants as what
use Rattle.cd_grammar.specs.declared.token.Key.TheVariants as key
use Rattle.cd_grammar.specs.declared.token.Sign.TheVariants as sign
use Rattle.cd_grammar.specs.declared.token.Token.{Token}
use Rattle.cd_grammar.specs.declared.token.Token.TheVariants.{Word, Quoted, Mark}
use Rattle.cd_grammar.specs.declared.given.Given.{Given}
use Rattle.cd_grammar.specs.declared.given.Slot.{Slot}
use Rattle.cd_grammar.specs.declared.given.Slot.TheVariants as slot
use Rattle.cd_grammar.specs.declared.mark.Sketch.TheVariants as sketch
use Rattle.cd_grammar.specs.declared.step.Begun.{Begun}
use Rattle.cd_grammar.specs.declared.step.Clock.{Clock}
use Rattle.cd_grammar.specs.declared.step.Work.{Work}
use Rattle.cd_grammar.specs.declared.step.Work.TheVariants as work
use Rattle.cd_grammar.specs.declared.step.End.{End}
use Rattle.cd_grammar.specs.declared.step.End.TheVariants as ends
use Rattle.cd_grammar.specs.declared.step.CopyGiven.{CopyGiven}
use Rattle.cd_grammar.specs.declared.step.Step.{Step}
use Rattle.cd_grammar.specs.declared.step.Step.TheVariants as step
use Rattle.cd_grammar.specs.Answers.{Strictness, taken}
use Rattle.cd_grammar.specs.Tokens.{place_of}
use Rattle.cd_grammar.specs.Words.{said_in}
use Rattle.cd_grammar.specs.Values.{label_in, number_in, is_own, is_digits, number_of, node_in, file_in, hold_in, retain_in, restart_in, disp_in, is_share, interval_in, is_item, are_items, between_colons, is_command}
use Rattle.cd_grammar.specs.Starts.{clock_in, long_clock, are_two, named_time}
use Rattle.cd_grammar.specs.Given.{nothing, has, with_word, with_quoted, with_value, takes_parentheses, side_of, from_slot, to_slot, task_slot, job_slot, submit_slot}
use Rattle.cd_grammar.specs.Reading.{Reading, named, stored, ended, copied, run, submitted, given_of, with_given, slot_of, end_slot, with_end, with_name, has_room}
use Rattle.cd_types.specs.Symbols.{upper_case}
use Rattle.cd_grammar.specs.Grammar.{started, begun_at, relation_of, work_of, end_in}
use Rattle.cd_automaton.specs.State.{State, At, Labelled, Named, Value, Parenthesized, Closing, Values, Symbol, SymbolValue, Starting, Dated, Timing, Timed, GroupOpen, Compress, Prime, PrimeValue, Primed, Extended, Extending, Pairs, PairNamed, PairValue, Running, IfOpen, IfLabel, IfRelation, IfNumber, IfClose, IfThen, GotoLabel, Ended, Closed}
use Rattle.cd_automaton.specs.Machine.{next, open_move, value_move, verb_turn}
use Rattle.cd_automaton.proofs.Stages.{Stage, Fresh, Titled, Reads, step_of, walk, ended_at}
use Rattle.cd_automaton.proofs.Complete.{named_next, value_next, inner_next, time_next, group_next, group_end_next, run_group_end_next, pend_next, running_next, if_label_next, if_number_next, goto_next}
use Rattle.cd_automaton.proofs.Good.{IsFiled, GoodCopy, GoodStep, Good, given_good, end_good}

-- a file's name
below : (i : ℕ) → slice_index (codes "a") i < 128
below zero = omega arith
below (suc i) = search rules

is_named : is_file_name (codes "a") ≡ true
is_named = rw (is_utf8-from_IsUtf8 (codes "a") (IsUtf8-from_ascii (codes "a") below)) refl

file_taken : (ranges : Bool) (given : Given) (at : ℕ) → taken ranges (with_value given slot.File at (Word 0 key.Other (codes "a"))) ≡ Ok (record given { file = Some (codes "a") })
unfolding with_word file_in
file_taken ranges given at = rw is_named refl

-- tokens with which the machine comes to the end
pub record Finish (how : Strictness) (st : Stage) : Type 0 where
  pub more : List Token
  pub all : Reading
  pub goes : ended_at 0 (walk how st more) ≡ Ok all

module _ (how : Strictness) where
  pub by_step : {st : Stage} (st2 : Stage) (t : Token) → step_of how st t ≡ Ok st2 → Finish how st2 → Finish how st
  by_step st2 t e rest = record { more = t ∷ rest.more; all = rest.all; goes = rw e rest.goes }

  onto : {r : Reading} {s : State} (r2 : Reading) (s2 : State) (t : Token) → next how r s t ≡ Ok (r2, s2) → Finish how (Reads r2 s2) → Finish how (Reads r s)
  onto r2 s2 t e rest = record { more = t ∷ rest.more; all = rest.all; goes = rw e rest.goes }

  end_ended : (r : Reading) → Finish how (Reads r Ended)
  end_ended r = record { more = []; all = r; goes = refl }

  end_at : (r before : Reading) (s : Step) → ended r s ≡ Some before → Finish how (Reads r (At s))
  end_at r before s e = onto before Ended (Word 0 key.Pend []) (pend_next how r before s 0 [] e) (end_ended before)

  end_head : (r : Reading) (given : Given) → Finish how (Reads r (At (step.Head given)))
  unfolding ended
  end_head r given = end_at r _ (step.Head given) refl

  end_between : (r : Reading) → Finish how (Reads r (At step.Between))
  unfolding ended
  end_between r = end_at r r step.Between refl

  -- a file
  abbrev with_file : Given → Given
  with_file given = record given { file = Some (codes "a") }

  end_file : (r : Reading) (s : Step) → slot_of s key.File ≡ Some slot.File → is_some (given_of s).file ≡ false → Finish how (Reads r (At (with_given s (with_file (given_of s))))) → Finish how (Reads r (At s))
  unfolding next has
  end_file r s e unused rest = onto r (Named s slot.File 0 key.File []) (Word 0 key.File []) (named_next how r s slot.File 0 key.File [] e unused)
      (onto r (Value s slot.File 0) (Mark 0 sign.Equals) refl
      (onto r (At (with_given s (with_file (given_of s)))) (Word 0 key.Other (codes "a")) (value_next how r s slot.File 0 (Word 0 key.Other (codes "a")) (with_file (given_of s)) (file_taken (how.ranges 0) (given_of s) 0)) rest))

  file_slot : (end : End) → end_slot end key.File ≡ Some slot.File
  unfolding from_slot to_slot
  file_slot ends.From = refl
  file_slot ends.To = refl

  group_by : (r : Reading) (begun : Begun) (copy : CopyGiven) (end : End) (given : Given) (o : Option (List ℕ)) → given.file ≡ o
      → ((later : Given) → is_some later.file ≡ true → Finish how (Reads r (At (step.Copy begun (with_end copy end later))))) → Finish how (Reads r (At (step.Group begun copy end given)))
  unfolding slot_of
  group_by r begun copy end given (Some file) e rest = let filed : is_some given.file ≡ true = ap is_some e in
      onto r (At (step.Copy begun (with_end copy end given))) (Mark 0 sign.Close) (group_end_next how r begun copy end given 0 filed) (rest given filed)
  group_by r begun copy end given None e rest = end_file r (step.Group begun copy end given) (file_slot end) (ap is_some e)
      (onto r (At (step.Copy begun (with_end copy end (with_file given)))) (Mark 0 sign.Close) (group_end_next how r begun copy end (with_file given) 0 refl) (rest (with_file given) refl))

  copied_both : (r : Reading) (begun : Begun) (from to : Given) (ckpt : Option ℕ) (a b : Option (List ℕ)) → is_some a ≡ true → is_some b ≡ true → (before : Reading) × (copied r begun from to ckpt a b ≡ Some before)
  copied_both r begun from to ckpt (Some a) (Some b) e e2 = (_, refl)
  copied_both r begun from to ckpt None b e e2 = absurd cc
  copied_both r begun from to ckpt (Some a) None e e2 = absurd cc

  end_full : (r : Reading) (begun : Begun) (copy : CopyGiven) (from to : Given) → copy.from ≡ Some from → copy.to ≡ Some to → is_some from.file ≡ true → is_some to.file ≡ true
      → Finish how (Reads r (At (step.Copy begun copy)))
  unfolding ended
  end_full r begun copy from to e e2 filed filed2 =
      let both : (before : Reading) × (copied r begun from to copy.others.ckpt from.file to.file ≡ Some before) = copied_both r begun from to copy.others.ckpt from.file to.file filed filed2 in
      end_at r both.0 (step.Copy begun copy) (rw e (rw e2 both.1))

  end_to : (r : Reading) (begun : Begun) (copy : CopyGiven) (from : Given) (o : Option Given) → copy.from ≡ Some from → is_some from.file ≡ true → copy.to ≡ o → IsFiled o
      → Finish how (Reads r (At (step.Copy begun copy)))
  unfolding next end_in
  end_to r begun copy from (Some to) e filed e2 filed2 = end_full r begun copy from to e e2 filed filed2
  end_to r begun copy from None e filed e2 filed2 = onto r (GroupOpen begun copy ends.To) (Word 0 key.To []) (group_next how r begun copy 0 key.To [] ends.To refl (ap is_some e2))
      (onto r (At (step.Group begun copy ends.To nothing)) (Mark 0 sign.Open) refl
      (group_by r begun copy ends.To nothing None refl (λ later filed3. end_full r begun (with_end copy ends.To later) from later e refl filed filed3)))

  copy_by : (r : Reading) (begun : Begun) (copy : CopyGiven) (o : Option Given) → copy.from ≡ o → IsFiled o → IsFiled copy.to → Finish how (Reads r (At (step.Copy begun copy)))
  unfolding next end_in
  copy_by r begun copy (Some from) e filed filed2 = end_to r begun copy from copy.to e filed refl filed2
  copy_by r begun copy None e filed filed2 = onto r (GroupOpen begun copy ends.From) (Word 0 key.From []) (group_next how r begun copy 0 key.From [] ends.From refl (ap is_some e))
      (onto r (At (step.Group begun copy ends.From nothing)) (Mark 0 sign.Open) refl
      (group_by r begun copy ends.From nothing None refl (λ later filed3. end_to r begun (with_end copy ends.From later) later copy.to refl filed3 refl filed2)))

  end_copy : (r : Reading) (begun : Begun) (copy : CopyGiven) → GoodCopy copy → Finish how (Reads r (At (step.Copy begun copy)))
  end_copy r begun copy h = copy_by r begun copy copy.from refl h.0 h.1

  end_group : (r : Reading) (begun : Begun) (copy : CopyGiven) (end : End) (given : Given) → GoodCopy copy → Finish how (Reads r (At (step.Group begun copy end given)))
  end_group r begun copy end given h = group_by r begun copy end given given.file refl (λ later filed. end_copy r begun (with_end copy end later) (end_good copy end later h filed))

  -- a command
  abbrev with_command : Given → Given
  with_command given = record given { command = Some (codes "x") }

  command_slot : (begun : Begun) (w : Work) (given : Given) → slot_of (step.Run begun w given) key.Sysopts ≡ Some slot.Command
  unfolding slot_of task_slot job_slot
  command_slot begun work.Task given = refl
  command_slot begun work.Job given = refl

  run_ended : (r : Reading) (begun : Begun) (w : Work) (given : Given) (command : List ℕ) → given.command ≡ Some command → (before : Reading) × (ended r (step.Run begun w given) ≡ Some before)
  unfolding ended
  run_ended r begun w given command e = (by_command given.command e)
    where
      by_command : (o : Option (List ℕ)) → o ≡ Some command → (before : Reading) × (run r begun w given o ≡ Some before)
      by_command (Some x) e2 = (_, refl)
      by_command None e2 = absurd cc

  submit_ended : (r : Reading) (begun : Begun) (given : Given) (file : List ℕ) → given.file ≡ Some file → (before : Reading) × (ended r (step.Submit begun given) ≡ Some before)
  unfolding ended
  submit_ended r begun given file e = (by_file given.file e)
    where
      by_file : (o : Option (List ℕ)) → o ≡ Some file → (before : Reading) × (submitted r begun given o ≡ Some before)
      by_file (Some x) e2 = (_, refl)
      by_file None e2 = absurd cc

  run_by : (r : Reading) (begun : Begun) (w : Work) (given : Given) (o : Option (List ℕ)) → given.command ≡ o → Finish how (Reads r (At (step.Run begun w given)))
  unfolding next has with_quoted is_command ended
  run_by r begun w given (Some command) e = let done : (before : Reading) × (ended r (step.Run begun w given) ≡ Some before) = run_ended r begun w given command e in
      end_at r done.0 (step.Run begun w given) done.1
  run_by r begun w given None e = onto r (Named (step.Run begun w given) slot.Command 0 key.Sysopts []) (Word 0 key.Sysopts []) (named_next how r (step.Run begun w given) slot.Command 0 key.Sysopts [] (command_slot begun w given) (ap is_some e))
      (onto r (Value (step.Run begun w given) slot.Command 0) (Mark 0 sign.Equals) refl
      (onto r (At (step.Run begun w (with_command given))) (Quoted 0 (codes "x")) (value_next how r (step.Run begun w given) slot.Command 0 (Quoted 0 (codes "x")) (with_command given) refl)
      (end_at r _ (step.Run begun w (with_command given)) refl)))

  end_run : (r : Reading) (begun : Begun) (w : Work) (given : Given) → Finish how (Reads r (At (step.Run begun w given)))
  end_run r begun w given = run_by r begun w given given.command refl

  submit_by : (r : Reading) (begun : Begun) (given : Given) (o : Option (List ℕ)) → given.file ≡ o → Finish how (Reads r (At (step.Submit begun given)))
  unfolding slot_of submit_slot ended
  submit_by r begun given (Some file) e = let done : (before : Reading) × (ended r (step.Submit begun given) ≡ Some before) = submit_ended r begun given file e in
      end_at r done.0 (step.Submit begun given) done.1
  submit_by r begun given None e = end_file r (step.Submit begun given) refl (ap is_some e) (end_at r _ (step.Submit begun (with_file given)) refl)

  -- where a parameter may stand
  end_step : (r : Reading) (s : Step) → GoodStep s → Finish how (Reads r (At s))
  end_step r (step.Head given) h = end_head r given
  end_step r step.Between h = end_between r
  end_step r (step.Copy begun copy) h = end_copy r begun copy h
  end_step r (step.Group begun copy end given) h = end_group r begun copy end given h
  end_step r (step.Run begun w given) h = end_run r begun w given
  end_step r (step.RunGroup begun w given) h = onto r (At (step.Run begun w given)) (Mark 0 sign.Close) (run_group_end_next how r begun w given 0) (end_run r begun w given)
  end_step r (step.Submit begun given) h = submit_by r begun given given.file refl

  -- STARTT
  end_timed : (r : Reading) (given : Given) (day : Day) (clock : Option Clock) (seconds : ℕ) → Finish how (Reads r (Timed given day clock seconds))
  unfolding next
  end_timed r given day clock seconds = onto r (At (step.Head (started given day seconds))) (Mark 0 sign.Close) refl (end_head r (started given day seconds))

  end_timing : (r : Reading) (given : Given) (day : Day) → Finish how (Reads r (Timing given day))
  unfolding clock_in long_clock are_two named_time
  end_timing r given day = onto r (Timed given day (clock_in (codes "NOON")) 43200) (Word 0 key.Other (codes "NOON")) (time_next how r given day 0 key.Other (codes "NOON") 43200 refl) (end_timed r given day _ 43200)

  end_starting : (r : Reading) (given : Given) → Finish how (Reads r (Starting given))
  unfolding next
  end_starting r given = onto r (Timing given Today) (Mark 0 sign.Comma) refl (end_timing r given Today)

  -- a value
  value_by : (r : Reading) (s : Step) (set : Slot) (at : ℕ) (t : Token) (later : Given) → taken (how.ranges (place_of t)) (with_value (given_of s) set at t) ≡ Ok later → GoodStep s
      → Finish how (Reads r (Value s set at))
  value_by r s set at t later e h = onto r (At (with_given s later)) t (value_next how r s set at t later e) (end_step r (with_given s later) (given_good s later h))

  end_value : (r : Reading) (s : Step) (set : Slot) (at : ℕ) → GoodStep s → Finish how (Reads r (Value s set at))
  unfolding next value_move open_move with_word with_quoted said_in node_in number_in is_digits number_of hold_in retain_in file_in side_of disp_in is_share interval_in restart_in are_items between_colons is_item is_command
  end_value r s slot.Snode at h = value_by r s slot.Snode at (Word 0 key.Other (codes "a")) _ refl h
  end_value r s slot.Prty at h = value_by r s slot.Prty at (Word 0 key.Other (codes "1")) _ refl h
  end_value r s slot.Class at h = value_by r s slot.Class at (Word 0 key.Other (codes "1")) _ refl h
  end_value r s slot.Hold at h = value_by r s slot.Hold at (Word 0 key.Other (codes "NO")) _ refl h
  end_value r s slot.Retain at h = value_by r s slot.Retain at (Word 0 key.Other (codes "NO")) _ refl h
  end_value r s slot.Start at h = onto r (Starting (given_of s)) (Mark 0 sign.Open) refl (end_starting r (given_of s))
  end_value r s slot.Pacct at h = value_by r s slot.Pacct at (Word 0 key.Other []) _ refl h
  end_value r s slot.Sacct at h = value_by r s slot.Sacct at (Word 0 key.Other []) _ refl h
  end_value r s slot.Notify at h = value_by r s slot.Notify at (Word 0 key.Other []) _ refl h
  end_value r s slot.Pnodeid at h = value_by r s slot.Pnodeid at (Word 0 key.Other []) _ refl h
  end_value r s slot.Snodeid at h = value_by r s slot.Snodeid at (Word 0 key.Other []) _ refl h
  end_value r s slot.File at h = value_by r s slot.File at (Word 0 key.Other (codes "a")) _ (file_taken (how.ranges 0) (given_of s) at) h
  end_value r s slot.Side at h = value_by r s slot.Side at (Word 0 key.Pnode []) _ refl h
  end_value r s slot.Items at h = value_by r s slot.Items at (Quoted 0 []) _ refl h
  end_value r s slot.Command at h = value_by r s slot.Command at (Quoted 0 (codes "x")) _ refl h
  end_value r s slot.Share at h = value_by r s slot.Share at (Word 0 key.Other (codes "SHR")) _ refl h
  end_value r s slot.Disp at h = value_by r s slot.Disp at (Word 0 key.Other (codes "NEW")) _ refl h
  end_value r s slot.Ckpt at h = value_by r s slot.Ckpt at (Word 0 key.Other (codes "NO")) _ refl h
  end_value r s slot.Restart at h = value_by r s slot.Restart at (Word 0 key.Other (codes "NO")) _ refl h
  end_value r s slot.Pgm at h = value_by r s slot.Pgm at (Word 0 key.Other []) _ refl h
  end_value r s slot.Library at h = value_by r s slot.Library at (Word 0 key.Other []) _ refl h

  end_closing : (r : Reading) (s : Step) → GoodStep s → Finish how (Reads r (Closing s))
  unfolding next
  end_closing r s h = onto r (At s) (Mark 0 sign.Close) refl (end_step r s h)

  inner_by : (r : Reading) (s : Step) (set : Slot) (at : ℕ) (t : Token) (later : Given) → taken (how.ranges (place_of t)) (with_value (given_of s) set at t) ≡ Ok later → GoodStep s
      → Finish how (Reads r (Parenthesized s set at))
  inner_by r s set at t later e h = onto r (Closing (with_given s later)) t (inner_next how r s set at t later e) (end_closing r (with_given s later) (given_good s later h))

  end_inner : (r : Reading) (s : Step) (set : Slot) (at : ℕ) → GoodStep s → takes_parentheses set ≡ true → Finish how (Reads r (Parenthesized s set at))
  unfolding with_word said_in disp_in is_share takes_parentheses
  end_inner r s slot.Share at h e = inner_by r s slot.Share at (Word 0 key.Other (codes "SHR")) _ refl h
  end_inner r s slot.Disp at h e = inner_by r s slot.Disp at (Word 0 key.Other (codes "NEW")) _ refl h
  end_inner r s _ at h e = absurd cc

  end_values : (r : Reading) (s : Step) → GoodStep s → Finish how (Reads r (Values s))
  unfolding next
  end_values r s h = onto r (At s) (Mark 0 sign.Close) refl (end_step r s h)

  end_symbol_value : (r : Reading) (s : Step) (name : List ℕ) → GoodStep s → Finish how (Reads r (SymbolValue s name))
  unfolding next
  end_symbol_value r s name h = onto (with_name r s (upper_case name) []) (At s) (Word 0 key.Other []) refl (end_step _ s h)

  end_symbol : (r : Reading) (s : Step) (name : List ℕ) → GoodStep s → Finish how (Reads r (Symbol s name))
  unfolding next
  end_symbol r s name h = onto r (SymbolValue s name) (Mark 0 sign.Equals) refl (end_symbol_value r s name h)

  -- COMPRESS
  end_pairs : (r : Reading) (s : Step) → GoodStep s → Finish how (Reads r (Pairs s))
  unfolding next
  end_pairs r s h = onto r (At s) (Mark 0 sign.Close) refl (end_step r s h)

  end_pair_value : (r : Reading) (s : Step) → GoodStep s → Finish how (Reads r (PairValue s))
  unfolding next
  end_pair_value r s h = onto r (Pairs s) (Word 0 key.Other []) refl (end_pairs r s h)

  end_extending : (r : Reading) (begun : Begun) (copy : CopyGiven) → GoodCopy copy → Finish how (Reads r (Extending begun copy))
  unfolding next
  end_extending r begun copy h = onto r (Pairs (step.Copy begun copy)) (Mark 0 sign.Open) refl (end_pairs r (step.Copy begun copy) h)

  end_extended : (r : Reading) (begun : Begun) (copy : CopyGiven) → GoodCopy copy → Finish how (Reads r (Extended begun copy))
  unfolding next
  end_extended r begun copy h = onto r (Extending begun copy) (Mark 0 sign.Equals) refl (end_extending r begun copy h)

  end_primed : (r : Reading) (begun : Begun) (copy : CopyGiven) → GoodCopy copy → Finish how (Reads r (Primed begun copy))
  unfolding next
  end_primed r begun copy h = onto r (At (step.Copy begun copy)) (Quoted 0 []) refl (end_copy r begun copy h)

  end_prime_value : (r : Reading) (begun : Begun) (copy : CopyGiven) → GoodCopy copy → Finish how (Reads r (PrimeValue begun copy))
  unfolding next
  end_prime_value r begun copy h = onto r (Primed begun copy) (Word 0 key.Other []) refl (end_primed r begun copy h)

  -- statements with tokens of their own
  end_then : (r : Reading) (begun : Begun) (at : ℕ) (name : List ℕ) (rel : Relation) (n : ℕ) → Finish how (Reads r (IfThen begun at name rel n))
  unfolding next
  end_then r begun at name rel n = onto (record (stored r begun (sketch.If at name) (what.If name rel n)) { ifs = false ∷ r.ifs }) (At step.Between) (Word 0 key.Then []) refl (end_between _)

  end_if_close : (r : Reading) (begun : Begun) (at : ℕ) (name : List ℕ) (rel : Relation) (n : ℕ) → Finish how (Reads r (IfClose begun at name rel n))
  unfolding next
  end_if_close r begun at name rel n = onto r (IfThen begun at name rel n) (Mark 0 sign.Close) refl (end_then r begun at name rel n)

  end_if_number : (r : Reading) (begun : Begun) (at : ℕ) (name : List ℕ) (rel : Relation) → Finish how (Reads r (IfNumber begun at name rel))
  unfolding number_in is_digits number_of
  end_if_number r begun at name rel = onto r (IfClose begun at name rel 0) (Word 0 key.Other (codes "0")) (if_number_next how r begun at name rel 0 key.Other (codes "0") 0 refl) (end_if_close r begun at name rel 0)

  end_if_relation : (r : Reading) (begun : Begun) (at : ℕ) (name : List ℕ) → Finish how (Reads r (IfRelation begun at name))
  unfolding next relation_of
  end_if_relation r begun at name = onto r (IfNumber begun at name relation.Eq) (Mark 0 sign.Equals) refl (end_if_number r begun at name relation.Eq)

  end_if_label : (r : Reading) (begun : Begun) → Finish how (Reads r (IfLabel begun))
  unfolding label_in is_own
  end_if_label r begun = onto r (IfRelation begun 0 (codes "L")) (Word 0 key.Other (codes "L")) (if_label_next how r begun 0 key.Other (codes "L") (codes "L") refl) (end_if_relation r begun 0 (codes "L"))

  end_if_open : (r : Reading) (begun : Begun) → Finish how (Reads r (IfOpen begun))
  unfolding next
  end_if_open r begun = onto r (IfLabel begun) (Mark 0 sign.Open) refl (end_if_label r begun)

  end_goto : (r : Reading) (begun : Begun) → Finish how (Reads r (GotoLabel begun))
  unfolding label_in is_own
  end_goto r begun = onto (stored r begun (sketch.Goto 0 (codes "L")) (what.Goto (codes "L"))) (At step.Between) (Word 0 key.Other (codes "L")) (goto_next how r begun 0 key.Other (codes "L") (codes "L") refl) (end_between _)

  end_running : (r : Reading) (begun : Begun) → Finish how (Reads r (Running begun))
  unfolding work_of
  end_running r begun = onto r (At (step.Run begun work.Task nothing)) (Word 0 key.Task []) (running_next how r begun 0 key.Task [] work.Task refl) (end_run r begun work.Task nothing)

  end_labelled : (r : Reading) (at : ℕ) (name : List ℕ) → has_room how r ≡ true → Finish how (Reads r (Labelled at name))
  unfolding next verb_turn
  end_labelled r at name room = onto (stored r (begun_at (Some (at, name)) 0) sketch.Exit what.Exit) (At step.Between) (Word 0 key.Exit []) (rw room refl) (end_between _)

  -- wherever the machine stands
  pub end_state : (Q : ℕ → Type 0) (r : Reading) (s : State) → Good how Q r s → Finish how (Reads r s)
  unfolding next
  end_state Q r (At s) h = end_step r s h
  end_state Q r (Labelled at name) h = end_labelled r at name h
  end_state Q r (Named s set at k word) h = onto r (Value s set at) (Mark 0 sign.Equals) refl (end_value r s set at h.0)
  end_state Q r (Value s set at) h = end_value r s set at h
  end_state Q r (Parenthesized s set at) h = end_inner r s set at h.0 h.1
  end_state Q r (Closing s) h = end_closing r s h
  end_state Q r (Values s) h = end_values r s h
  end_state Q r (Symbol s name) h = end_symbol r s name h
  end_state Q r (SymbolValue s name) h = end_symbol_value r s name h
  end_state Q r (Starting given) h = end_starting r given
  end_state Q r (Dated given day) h = onto r (At (step.Head (started given day 0))) (Mark 0 sign.Close) refl (end_head r (started given day 0))
  end_state Q r (Timing given day) h = end_timing r given day
  end_state Q r (Timed given day clock seconds) h = end_timed r given day clock seconds
  end_state Q r (GroupOpen begun copy end) h = onto r (At (step.Group begun copy end nothing)) (Mark 0 sign.Open) refl (end_group r begun copy end nothing h)
  end_state Q r (Compress begun copy) h = onto r (Extended begun copy) (Word 0 key.Extended []) refl (end_extended r begun copy h)
  end_state Q r (Prime begun copy) h = onto r (PrimeValue begun copy) (Mark 0 sign.Equals) refl (end_prime_value r begun copy h)
  end_state Q r (PrimeValue begun copy) h = end_prime_value r begun copy h
  end_state Q r (Primed begun copy) h = end_primed r begun copy h
  end_state Q r (Extended begun copy) h = end_extended r begun copy h
  end_state Q r (Extending begun copy) h = end_extending r begun copy h
  end_state Q r (Pairs s) h = end_pairs r s h
  end_state Q r (PairNamed s) h = onto r (PairValue s) (Mark 0 sign.Equals) refl (end_pair_value r s h)
  end_state Q r (PairValue s) h = end_pair_value r s h
  end_state Q r (Running begun) h = end_running r begun
  end_state Q r (IfOpen begun) h = end_if_open r begun
  end_state Q r (IfLabel begun) h = end_if_label r begun
  end_state Q r (IfRelation begun at name) h = end_if_relation r begun at name
  end_state Q r (IfNumber begun at name rel) h = end_if_number r begun at name rel
  end_state Q r (IfClose begun at name rel n) h = end_if_close r begun at name rel n
  end_state Q r (IfThen begun at name rel n) h = end_then r begun at name rel n
  end_state Q r (GotoLabel begun) h = end_goto r begun
  end_state Q r Ended h = end_ended r
  end_state Q r Closed h = record { more = []; all = r; goes = refl }

  end_titled : (name : List ℕ) → Finish how (Titled name)
  end_titled name = by_step (Reads (named name) (At (step.Head nothing))) (Word 0 key.Process []) refl (end_head (named name) nothing)

  end_fresh : Finish how Fresh
  unfolding label_in is_own
  end_fresh = by_step (Titled (codes "L")) (Word 0 key.Other (codes "L")) refl (end_titled (codes "L"))

  -- the same with the first two words
  abbrev pub GoodStage : (ℕ → Type 0) → Stage → Type 0
  GoodStage Q Fresh = Unit {0}
  GoodStage Q (Titled name) = Unit {0}
  GoodStage Q (Reads r s) = Good how Q r s

  pub end_stage : (Q : ℕ → Type 0) (st : Stage) → GoodStage Q st → Finish how st
  end_stage Q Fresh h = end_fresh
  end_stage Q (Titled name) h = end_titled name
  end_stage Q (Reads r s) h = end_state Q r s h
