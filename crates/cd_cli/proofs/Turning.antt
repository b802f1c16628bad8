-- Turns, one after the other.
use Rattle.std.proofs.Common.{◌≡◌, ℕ, ◌+◌, ◌<◌, ◌≤◌, ◌||◌, cond, ltb, Bool, true, false, List, [], ◌∷◌, ◌++◌, length, map, Option, Some, None, option_to_list, Result, Ok, Err, refl, sym, ap, subst, ◌∙◌, append_assoc, arith}
use Rattle.std.specs.Prelude.{All}
use Rattle.std.specs.List.{list_any}
use Rattle.std.proofs.lemmas.Grind.{flat_map-append}
use Rattle.std.proofs.lemmas.List.{append-nil, map-append}
use Rattle.std.proofs.lemmas.List.Elements.{All-append, All-cons, All-nil, All-weaker}
use Rattle.cd_entries.specs.declared.entry.Entry.{Entry}
use Rattle.cd_turn.specs.Entries.{live_in}
use Rattle.cd_input.specs.Input.{Event, Whole, TooLong, Unfinished}
use Rattle.cd_turn.specs.Ends.{FitsBehind}
use Rattle.cd_turn.specs.declared.order.Order.{Order}
use Rattle.cd_turn.specs.declared.order.Order.TheVariants as order
use Rattle.cd_turn.specs.Order.{are_built, kept_with, submitting, submitted_from, viewed, drilled, order_for, order_of, heard_in, told_by}
use Rattle.cd_ast.specs.declared.process.Process.{Process}
use Rattle.cd_commands.specs.declared.command.Command.{Command}
use Rattle.cd_commands.specs.declared.command.Command.TheVariants as command
use Rattle.cd_commands.specs.declared.command.Options.{Options}
use Rattle.cd_commands.specs.declared.heard.Heard.{Heard}
use Rattle.cd_commands.specs.declared.heard.Heard.TheVariants as heard
use Rattle.cd_submission.specs.Reading.{process_in}
use Rattle.cd_submission.specs.declared.file.Shown.{Shown}
use Rattle.cd_submission.specs.declared.file.Shown.TheVariants as shows
use Rattle.cd_submission.specs.declared.reading.Unread.{Unread}
use Rattle.cd_turn.specs.Reply.{reply_text, is_refused}
use Rattle.cd_turn.specs.Turn.{Turn, order_in, answer, partner_answer, refusal_for, named_answer, added, after_turn, after_turns, replies}
use Rattle.cd_turn.specs.declared.reply.Reply.{Reply}
use Rattle.cd_turn.specs.declared.reply.Reply.TheVariants as reply
use Rattle.cd_turn.specs.declared.reply.Refusal.{Refusal}
use Rattle.cd_turn.specs.declared.reply.Refusal.TheVariants.{NotYet, NotHome, Full}
use Rattle.cd_cli.specs.Flow.{ends_by}
use Rattle.cd_cli.specs.Run.{stops, is_stop, ends_run, texts, refused_after, EachFits}
use Rattle.cd_cli.specs.Stretch.{Standing, standing, HaveTurned}

pub turns_then : (entries : List Entry) (one two : List Turn) → after_turns entries (one ++ two) ≡ after_turns (after_turns entries one) two
turns_then entries [] two = refl
turns_then entries (turn ∷ one) two = turns_then (after_turn entries turn) one two

replies_then : (entries : List Entry) (one two : List Turn) → replies entries (one ++ two) ≡ replies entries one ++ replies (after_turns entries one) two
replies_then entries [] two = refl
replies_then entries (turn ∷ one) two = ap (λ (r : List Reply). answer entries (order_in turn) ∷ r) (replies_then (after_turn entries turn) one two)

texts_then : (entries : List Entry) (one two : List Turn) → texts (replies entries (one ++ two)) ≡ texts (replies entries one) ++ texts (replies (after_turns entries one) two)
texts_then entries one two = ap texts (replies_then entries one two) ∙ flat_map-append reply_text (replies entries one) (replies (after_turns entries one) two)

refused_push : (was : Bool) (one two : List Reply) → refused_after was (one ++ two) ≡ refused_after (refused_after was one) two
refused_push was [] two = refl
refused_push was (reply ∷ one) two = refused_push (is_refused reply) one two

refused_then : (was : Bool) (entries : List Entry) (one two : List Turn) → refused_after was (replies entries (one ++ two)) ≡ refused_after (refused_after was (replies entries one)) (replies (after_turns entries one) two)
refused_then was entries one two = ap (refused_after was) (replies_then entries one two) ∙ refused_push was (replies entries one) (replies (after_turns entries one) two)

fits_then : (entries : List Entry) (one two : List Turn) → EachFits entries one → EachFits (after_turns entries one) two → EachFits entries (one ++ two)
fits_then entries [] two a b = b
fits_then entries (turn ∷ one) two a b = (a.0, fits_then (after_turn entries turn) one two a.1 b)

-- no turn was made
pub turned_none : (disk sink : Type 0) (by : Turn → Type 0) (at : Standing) → HaveTurned disk sink by at [] at
turned_none disk sink by at = record {
  turns = [];
  events_are = refl;
  told_are = All-nil by;
  entries_are = refl;
  refused_is = refl;
  out_is = λ told. sym (append-nil at.out);
  fits = λ told. tt;
}

-- turns, and then more
pub turned_then : (disk sink : Type 0) (by : Turn → Type 0) (a b c : Standing) (xs ys : List Event) → HaveTurned disk sink by a xs b → HaveTurned disk sink by b ys c → HaveTurned disk sink by a (xs ++ ys) c
turned_then disk sink by a b c xs ys one two = record {
  turns = one.turns ++ two.turns;
  events_are = map-append (λ (turn : Turn). turn.event) one.turns two.turns
      ∙ ap (λ (l : List Event). l ++ map (λ (turn : Turn). turn.event) two.turns) one.events_are ∙ ap (λ (l : List Event). xs ++ l) two.events_are;
  told_are = All-append by one.turns two.turns one.told_are two.told_are;
  entries_are = two.entries_are ∙ ap (λ (e : List Entry). after_turns e two.turns) one.entries_are ∙ sym (turns_then a.entries one.turns two.turns);
  refused_is = two.refused_is
      ∙ ap (λ (was : Bool). refused_after was (replies b.entries two.turns)) one.refused_is
      ∙ ap (λ (e : List Entry). refused_after (refused_after a.refused (replies a.entries one.turns)) (replies e two.turns)) one.entries_are
      ∙ sym (refused_then a.refused a.entries one.turns two.turns);
  out_is = λ told. two.out_is told
      ∙ ap (λ (o : List ℕ). o ++ texts (replies b.entries two.turns)) (one.out_is told)
      ∙ append_assoc a.out (texts (replies a.entries one.turns)) (texts (replies b.entries two.turns))
      ∙ ap (λ (e : List Entry). a.out ++ (texts (replies a.entries one.turns) ++ texts (replies e two.turns))) one.entries_are
      ∙ ap (λ (text : List ℕ). a.out ++ text) (sym (texts_then a.entries one.turns two.turns));
  fits = λ told. fits_then a.entries one.turns two.turns (one.fits told) (subst (λ (e : List Entry). EachFits e two.turns) one.entries_are (two.fits told));
}

-- the turn of what came to its end
pub turned_one : (disk sink : Type 0) (by : Turn → Type 0) (entries later : List Entry) (out out_now : List ℕ) (was is : Bool) (turn : Turn) (wanted : Order) (given : Reply)
    → wanted ≡ order_in turn → later ≡ entries ++ option_to_list (added entries turn.now wanted) → given ≡ answer entries wanted → (sink → out_now ≡ out ++ reply_text given)
    → (disk → FitsBehind entries (added entries turn.now wanted)) → by turn → is ≡ is_refused given → HaveTurned disk sink by (standing entries out was) (turn.event ∷ []) (standing later out_now is)
turned_one disk sink by entries later out out_now was is turn wanted given e grown answered told fits at refused =
    let answer_is : given ≡ answer entries (order_in turn) = answered ∙ ap (answer entries) e in
    record {
      turns = turn ∷ [];
      events_are = refl;
      told_are = All-cons by turn [] at (All-nil by);
      entries_are = grown ∙ ap (λ (c : Order). entries ++ option_to_list (added entries turn.now c)) e;
      refused_is = refused ∙ ap is_refused answer_is;
      out_is = λ t. told t ∙ ap (λ (r : Reply). out ++ reply_text r) answer_is ∙ ap (λ (text : List ℕ). out ++ text) (sym (append-nil (reply_text (answer entries (order_in turn)))));
      fits = λ t. (subst (λ (c : Order). FitsBehind entries (added entries turn.now c)) e (fits t), tt);
    }

-- what goes by less goes by more
pub turned_since : (disk sink : Type 0) (by first : Turn → Type 0) (a b : Standing) (xs : List Event) → ((turn : Turn) → by turn → first turn) → HaveTurned disk sink by a xs b → HaveTurned disk sink first a xs b
turned_since disk sink by first a b xs same one = record {
  turns = one.turns;
  events_are = one.events_are;
  told_are = All-weaker by first same one.turns one.told_are;
  entries_are = one.entries_are;
  refused_is = one.refused_is;
  out_is = one.out_is;
  fits = one.fits;
}

-- `stop` alone is answered so that the run ends
partner_goes : (text : List ℕ) (entries : List Entry) (partner : Option (List ℕ)) → ends_by (Whole text) (partner_answer entries partner) ≡ false
partner_goes text entries None = refl
partner_goes text entries (Some snode) = goes_on (ltb (live_in entries) 4096) _
  where
    goes_on : (t : Bool) (n : ℕ) → ends_by (Whole text) (cond t (reply.Submitted n) (reply.Refused (Full 4096))) ≡ false
    goes_on true n = refl
    goes_on false n = refl

named_goes : (text : List ℕ) (entries : List Entry) (refusal : Refusal) → ends_by (Whole text) (named_answer entries refusal) ≡ false
named_goes text [] refusal = refl
named_goes text (e ∷ entries) refusal = refl

submit_goes : (text : List ℕ) (entries : List Entry) (if_none : Order) (kept : Option Process) → ((r : List Entry) → ends_by (Whole text) (answer r if_none) ≡ false) → ends_by (Whole text) (answer entries (submitting if_none kept)) ≡ false
submit_goes text entries if_none None other = other entries
submit_goes text [] if_none (Some p) other = refl
submit_goes text (e ∷ entries) if_none (Some p) other = partner_goes text (e ∷ entries) p.card.snode

text_goes : (text : List ℕ) (entries : List Entry) (built : Bool) (kept : Option Process) → ends_by (Whole text) (answer entries (cond built (submitting order.NotBuilt kept) order.NotBuilt)) ≡ false
text_goes text entries true kept = submit_goes text entries order.NotBuilt kept (λ r. refl)
text_goes text entries false kept = refl

file_goes : (text : List ℕ) (entries : List Entry) (built : Bool) (options : Options) (read : Result Process Unread) → ends_by (Whole text) (answer entries (cond built (submitted_from options read) order.NotBuilt)) ≡ false
file_goes text entries true options (Ok p) = submit_goes text entries order.SubmitNotBuilt (kept_with options p) (λ r. named_goes text r NotYet)
file_goes text entries true options (Err why) = named_goes text entries (refusal_for why)
file_goes text entries false options read = refl

view_goes : (text : List ℕ) (entries : List Entry) (read : Result Process Unread) → ends_by (Whole text) (answer entries (viewed read)) ≡ false
view_goes text entries (Ok p) = refl
view_goes text entries (Err why) = refl

drill_goes : (text : List ℕ) (entries : List Entry) (name : List ℕ) (shown : Shown) → ends_by (Whole text) (answer entries (drilled name shown)) ≡ false
drill_goes text entries name shows.Missing = refl
drill_goes text entries name shows.Failed = refl
drill_goes text entries name (shows.Long len) = refl
drill_goes text entries name (shows.Text seen) = refl
drill_goes text entries name (shows.Report report) = refl
drill_goes text entries name (shows.NoScript at) = refl

init_goes : (text : List ℕ) (entries : List Entry) (name : List ℕ) (home : ℕ) → ends_by (Whole text) (answer entries (order.Init name home)) ≡ false
init_goes text [] name home = refl
init_goes text (e ∷ entries) name home = refl

command_ends : (text : List ℕ) (entries : List Entry) (c : Command) (shown : Shown) → ends_by (Whole text) (answer entries (order_for c shown)) ≡ stops c
command_ends text entries (command.Init name home) shown = init_goes text entries name home
command_ends text entries (command.SubmitFile name options) shown = file_goes text entries (are_built options) options (process_in name options.symbols shown)
command_ends text entries (command.SubmitText p options) shown = text_goes text entries (are_built options) (kept_with options p)
command_ends text entries (command.View name symbols) shown = view_goes text entries (process_in name symbols shown)
command_ends text entries (command.SelectProcess n queue) shown = refl
command_ends text entries (command.Change n prty hold release) shown = refl
command_ends text entries (command.Delete n) shown = refl
command_ends text entries (command.Flush n) shown = refl
command_ends text entries (command.SelectStatistics n) shown = refl
command_ends text entries (command.ReleaseReceive file) shown = refl
command_ends text entries (command.Work sessions turns) shown = refl
command_ends text entries (command.Serve sessions together turns) shown = refl
command_ends text entries (command.Drill file) shown = drill_goes text entries file shown
command_ends text entries (command.Generate seed count) shown = refl
command_ends text entries command.Stop shown = refl

heard_ends : (text : List ℕ) (entries : List Entry) (said : Heard) (shown : Shown) → ends_by (Whole text) (answer entries (order_of said shown)) ≡ is_stop said
heard_ends text entries (heard.Command c) shown = command_ends text entries c shown
heard_ends text entries (heard.Fault name at) shown = refl

pub answer_ends : (event : Event) (entries : List Entry) (shown : Shown) → ends_by event (answer entries (told_by event shown)) ≡ ends_run event
answer_ends (Whole text) entries shown = heard_ends text entries (heard_in (Whole text)) shown
answer_ends TooLong entries shown = refl
answer_ends Unfinished entries shown = refl

pub or_false : (b : Bool) → (b || false) ≡ b
or_false true = refl
or_false false = refl
