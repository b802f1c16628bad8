-- What the node answers to a command, and what it adds to its journal.
use Rattle.std.specs.Prelude.{◌≤◌, length, ℕ, ◌+◌, max, List, [], ◌∷◌, ◌++◌, nat_lt, if◌then◌else◌, Option, Some, None, option_to_list, Bool, true, false}
use Rattle.cd_entries.specs.declared.entry.Entry.{Entry}
use Rattle.cd_entries.specs.declared.entry.Entry.TheVariants as entry
use Rattle.cd_submission.specs.declared.file.Shown.{Shown}
use Rattle.cd_submission.specs.declared.reading.Unread.{Unread}
use Rattle.cd_submission.specs.declared.reading.Unread.TheVariants as unread
use Rattle.cd_turn.specs.declared.reply.Refusal.{Refusal}
use Rattle.cd_turn.specs.declared.reply.Reply.{Reply}
use Rattle.cd_turn.specs.declared.reply.Reply.TheVariants as reply
use Rattle.cd_turn.specs.declared.reply.Refusal.TheVariants.{Text, NotYet, NotHome, AlreadyHome, NoFile, FileFault, NoNode, Full}
use Rattle.cd_turn.specs.declared.order.Order.{Order}
use Rattle.cd_turn.specs.declared.order.Order.TheVariants as order
use Rattle.cd_ast.specs.Canonical.{canonical}
use Rattle.cd_ast.specs.declared.process.Process.{Process}
use Rattle.cd_turn.specs.Entries.{submitted_in, live_in, latest_in}
use Rattle.cd_input.specs.Input.{Event}
use Rattle.cd_entries.specs.Entry.{entry_bytes, IsWritable}
use Rattle.cd_turn.specs.Legal.{IsNext}
use Rattle.cd_turn.specs.Order.{told_by}
use Rattle.cd_turn.specs.Texts.{card_for}

-- the home has a name: there is an entry
abbrev pub is_named : List Entry → Bool
is_named [] = false
is_named (e ∷ entries) = true

-- The answer to a submission. It needs a named home, a partner that the command or the Process names, and room in the queue, in
-- this order, and gets the number after all that were submitted.
abbrev pub room_answer : List Entry → Reply
room_answer entries = if nat_lt (live_in entries) 4096 then reply.Submitted (submitted_in entries + 1) else reply.Refused (Full 4096)

abbrev pub partner_answer : List Entry → Option (List ℕ) → Reply
partner_answer entries None = reply.Refused NoNode
partner_answer entries (Some snode) = room_answer entries

abbrev pub submission_answer : List Entry → Process → Reply
submission_answer entries process = if is_named entries then partner_answer entries process.card.snode else reply.Refused NotHome

-- why a file's Process isn't read, as it is told
abbrev pub refusal_for : Unread → Refusal
refusal_for (unread.NoFile name) = NoFile name
refusal_for unread.FileFault = FileFault
refusal_for (unread.Wrong name at) = Text name at

-- A submission that is refused for this: that the home has no name goes before it.
abbrev pub named_answer : List Entry → Refusal → Reply
named_answer entries refusal = if is_named entries then reply.Refused refusal else reply.Refused NotHome

-- The answer to an order of a home with these entries. A text that is no command goes before all, and then what isn't built. A
-- home is named once, and each other command but `stop`, a look at a Process and a drill needs a named one. What is seen of a Process
-- is its canonical text.
abbrev pub answer : List Entry → Order → Reply
answer entries (order.Wrong name at) = reply.Refused (Text name at)
answer entries order.NotBuilt = reply.Refused NotYet
answer entries order.Stop = reply.Stopped
answer entries (order.Init name home) = if is_named entries then reply.Refused AlreadyHome else reply.Home name home
answer entries (order.Submit process) = submission_answer entries process
answer entries order.SubmitNotBuilt = named_answer entries NotYet
answer entries (order.SubmitUnread why) = named_answer entries (refusal_for why)
answer entries (order.View process) = reply.Viewed (canonical process)
answer entries (order.ViewUnread why) = reply.Refused (refusal_for why)
answer entries (order.Report report) = reply.Reported report
answer entries (order.DrillUnread why) = reply.Refused (refusal_for why)

-- the entry of a submission at this moment, with this partner; it is not earlier than those before it
abbrev pub submission : List Entry → ℕ → List ℕ → Process → Entry
submission entries now snode process = entry.Submitted (submitted_in entries + 1) (max now (latest_in entries)) None (card_for snode process.card) (canonical process)

abbrev pub submission_with : List Entry → ℕ → Process → Option (List ℕ) → Option Entry
submission_with entries now process None = None
submission_with entries now process (Some snode) = if nat_lt (live_in entries) 4096 then Some (submission entries now snode process) else None

-- what an order adds to the entries: the home's name, or the Process; nothing where it is refused
abbrev pub added : List Entry → ℕ → Order → Option Entry
added entries now (order.Wrong name at) = None
added entries now order.NotBuilt = None
added entries now order.Stop = None
added entries now (order.Init name home) = if is_named entries then None else Some (entry.Home name home)
added entries now order.SubmitNotBuilt = None
added entries now (order.SubmitUnread why) = None
added entries now (order.View process) = None
added entries now (order.ViewUnread why) = None
added entries now (order.Report report) = None
added entries now (order.DrillUnread why) = None
added entries now (order.Submit process) = if is_named entries then submission_with entries now process process.card.snode else None

-- one turn: the clock's moment, what came to its end in the input, and what was shown of the file for which that asks
pub record Turn : Type 0 where
  pub now : ℕ
  pub event : Event
  pub shown : Shown

abbrev pub order_in : Turn → Order
order_in turn = told_by turn.event turn.shown

abbrev pub after_turn : List Entry → Turn → List Entry
after_turn entries turn = entries ++ option_to_list (added entries turn.now (order_in turn))

-- the entries after these turns, in order
abbrev pub after_turns : List Entry → List Turn → List Entry
after_turns entries [] = entries
after_turns entries (turn ∷ turns) = after_turns (after_turn entries turn) turns

-- the reply to each of these turns
abbrev pub replies : List Entry → List Turn → List Reply
replies entries [] = []
replies entries (turn ∷ turns) = answer entries (order_in turn) ∷ replies (after_turn entries turn) turns

-- an entry that may follow these, and has a spelling within the length of a body
pub record MayKeep (entries : List Entry) (e : Entry) : Type 0 where
  pub next : IsNext entries e
  pub writable : IsWritable e
  pub short : length (entry_bytes e) ≤ 262144
