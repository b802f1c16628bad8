-- What a run of the node comes to.
use Rattle.std.specs.Prelude.{◌≡◌, ◌⊎◌, ℕ, ◌<◌, ◌≤◌, List, [], ◌∷◌, ◌++◌, length, map, All, Bool, true, false, Option, Some, None, option_to_list}
use Rattle.std.specs.List.{flat_map, list_any}
use Rattle.cd_outside.specs.Disk.{DiskState, last_of}
use Rattle.cd_outside.specs.Doubt.{IsImage}
use Rattle.cd_outside.specs.Streams.{TookFront}
use Rattle.cd_entries.specs.declared.entry.Entry.{Entry}
use Rattle.cd_input.specs.Input.{Event, Whole, TooLong, Unfinished, begin, events, all_events, upto_first}
use Rattle.cd_turn.specs.Ends.{MayLeave, FitsBehind, IsFull, TookAtEnd}
use Rattle.cd_turn.specs.Home.{HomeState, IsHome, StandsFor, IsJournal, HasKept}
use Rattle.cd_turn.specs.Legal.{IsLegal, Extends}
use Rattle.cd_commands.specs.declared.command.Command.{Command}
use Rattle.cd_commands.specs.declared.command.Command.TheVariants as command
use Rattle.cd_commands.specs.declared.heard.Heard.{Heard}
use Rattle.cd_commands.specs.declared.heard.Heard.TheVariants as heard
use Rattle.cd_turn.specs.Order.{heard_in}
use Rattle.cd_turn.specs.Reply.{reply_text, is_refused}
use Rattle.cd_turn.specs.Status.{last_line}
use Rattle.cd_turn.specs.Turn.{Turn, order_in, answer, added, after_turn, after_turns, replies}
use Rattle.cd_cli.specs.Acknowledged.{tells, KeepsNumber}
use Rattle.cd_turn.specs.declared.reply.Reply.{Reply}
use Rattle.cd_turn.specs.declared.status.Status.{Status}
use Rattle.cd_turn.specs.declared.status.Status.TheVariants.{Done, Usage, Refused, Unfit, SourceFault, DiskFault, SinkFault, InputLimit, JournalFull, NoMemory}

-- the most bytes of the input that are read
abbrev pub most_input : ℕ
most_input = 16777216

abbrev pub stops : Command → Bool
stops command.Stop = true
stops _ = false

abbrev pub is_stop : Heard → Bool
is_stop (heard.Command c) = stops c
is_stop (heard.Fault name at) = false

-- the run ends with this: `stop`, a command that is too long, or one that the input's end cuts off
abbrev pub ends_run : Event → Bool
ends_run (Whole text) = is_stop (heard_in (Whole text))
ends_run TooLong = true
ends_run Unfinished = true

-- what a run does of an input where nothing fails: all that comes to its end in it, up to what ends the run
abbrev pub run_events : List ℕ → List Event
run_events input = upto_first ends_run (all_events most_input input)

-- the lines of these replies
abbrev pub texts : List Reply → List ℕ
texts given = flat_map reply_text given

-- whether the last of these was refused, or what came before them where there are none
abbrev pub refused_after : Bool → List Reply → Bool
refused_after before [] = before
refused_after before (reply ∷ given) = refused_after (is_refused reply) given

-- each entry that these turns add fits into the journal
abbrev pub EachFits : List Entry → List Turn → Type 0
EachFits entries [] = Unit {0}
EachFits entries (turn ∷ turns) = FitsBehind entries (added entries turn.now (order_in turn)) × EachFits (after_turn entries turn) turns

-- the line of the answer to this turn, if there is one
abbrev pub line_of : List Entry → Option Turn → List ℕ
line_of entries None = []
line_of entries (Some turn) = reply_text (answer entries (order_in turn))

-- P of the entry that this turn would add; there is a turn
abbrev pub OfBegun : List Entry → Option Turn → (Option Entry → Type 0) → Type 0
OfBegun entries None P = ⊥
OfBegun entries (Some turn) P = P (added entries turn.now (order_in turn))

-- Why a run ended with this status behind turns that led to these entries; begun is the turn that was under way, if any, and
-- refused tells whether the last command was.
abbrev pub HasCause : Type 0 → List Entry → Option Turn → Bool → Status → Type 0
HasCause disk entries begun refused Done = (begun ≡ None) × (refused ≡ false)
HasCause disk entries begun refused Refused = (begun ≡ None) × (refused ≡ true)
HasCause disk entries begun refused Usage = ⊥
HasCause disk entries begun refused (Unfit at) = disk → ⊥
HasCause disk entries begun refused DiskFault = OfBegun entries begun (λ entry. disk → FitsBehind entries entry)
HasCause disk entries begun refused (JournalFull len) = OfBegun entries begun (λ entry. IsFull disk entries entry len)
HasCause disk entries begun refused SourceFault = begun ≡ None
HasCause disk entries begun refused SinkFault = OfBegun entries begun (λ entry. disk → FitsBehind entries entry)
HasCause disk entries begun refused InputLimit = begun ≡ None
HasCause disk entries begun refused NoMemory = Unit {0}

-- What a run with this status did of its input: it did these events, and begun was under way; rest was not read. A run that
-- came to its end did all that it should, and one of them ended it or the input came to its end. Where the input goes on behind
-- the bytes that are read at most, it did all in them, and none ended it. Where the input failed, it did all that came to its
-- end in the bytes that were read, which aren't more than that. Else it did the first of what it should.
abbrev pub DidOf : List ℕ → List ℕ → List Event → List Event → Status → Type 0
DidOf input rest done begun Done = (done ≡ run_events input) × ((list_any ends_run done ≡ true) ⊎ (length input ≤ most_input))
DidOf input rest done begun Refused = (done ≡ run_events input) × ((list_any ends_run done ≡ true) ⊎ (length input ≤ most_input))
DidOf input rest done begun InputLimit = (done ≡ run_events input) × (list_any ends_run done ≡ false) × (most_input < length input)
DidOf input rest done begun SourceFault = (read : List ℕ) × (input ≡ read ++ rest) × (length read ≤ most_input) × (done ≡ events begin read) × (list_any ends_run done ≡ false)
DidOf input rest done begun _ = (more : List Event) × (run_events input ≡ done ++ (begun ++ more))

-- what this turn adds to these entries; without a turn nothing
abbrev pub added_by : List Entry → Option Turn → Option Entry
added_by entries None = None
added_by entries (Some turn) = added entries turn.now (order_in turn)

-- The journal's bytes that a crash may leave behind turns that led to these entries: those of the entries; where a turn is under
-- way, those of the entries with what it adds too.
abbrev pub Keeps : Type 0 → List Entry → Option Turn → List ℕ → Type 0
Keeps fresh entries begun image = MayLeave fresh entries (added_by entries begun) image

-- the turns of whose replies the output took something: where it failed, also the one that was under way
abbrev pub told_turns : Status → List Turn → Option Turn → List Turn
told_turns SinkFault turns begun = turns ++ option_to_list begun
told_turns _ turns begun = turns

-- this holds where the run ended between two turns
abbrev pub IfBetween : Status → Type 0 → Type 0
IfBetween Done holds = holds
IfBetween Refused holds = holds
IfBetween SourceFault holds = holds
IfBetween InputLimit holds = holds
IfBetween _ holds = Unit {0}

-- What a run of a home with these entries did, from its devices before to its devices now; the types say which of them tell, and
-- fresh that the journal had no bytes before. By says of a turn that it goes by what clock and files tell.
pub record Ran (fresh disk source sink : Type 0) (by : Turn → Type 0) (entries : List Entry) (out input rest : List ℕ) (now : DiskState) (out_now : List ℕ) (status : Status) : Type 0 where
  -- the turns that were made, and the one that was under way at the end, if any
  pub turns : List Turn
  pub begun : Option Turn
  -- each goes by what clock and files tell
  pub told : All by (turns ++ option_to_list begun)
  -- they are those of the input
  pub events : source → DidOf input rest (map (λ turn. turn.event) turns) (map (λ turn. turn.event) (option_to_list begun)) status
  pub fits : disk → EachFits entries turns
  pub cause : HasCause disk (after_turns entries turns) begun (refused_after false (replies entries turns)) status
  -- the output took the line of each reply, in order, and of the turn that was under way a front of its line where the output
  -- failed, and else nothing
  pub output : sink → TookAtEnd status (line_of (after_turns entries turns) begun) (out ++ texts (replies entries turns)) out_now
  -- the journal has the entries after the turns, and a crash leaves just them
  pub stands : disk → IfBetween status (HasKept (after_turns entries turns) now)
  -- where the output failed, it has what the turn under way adds too
  pub written : disk → status ≡ SinkFault → HasKept (after_turns entries (turns ++ option_to_list begun)) now
  -- and else a crash from now on leaves them, or them with what the turn under way adds
  pub keeps : disk → (image : List ℕ) → IsImage now.doubt image → Keeps fresh (after_turns entries turns) begun image

-- The output took this line; where it failed, a front of it.
abbrev pub TookLine : Type 0 → List ℕ → List ℕ → List ℕ → Type 0
TookLine rose before line now = (now ≡ before ++ line) ⊎ (rose × TookFront before line now)

-- the home couldn't be opened
abbrev pub IsOpening : Status → Type 0
IsOpening (Unfit at) = Unit {0}
IsOpening DiskFault = Unit {0}
IsOpening NoMemory = Unit {0}
IsOpening _ = ⊥

-- The home couldn't be opened: the journal has the bytes that it had, and nothing was read or written.
pub record NotOpened (disk source sink : Type 0) (before now : DiskState) (input rest out out_now : List ℕ) (status : Status) : Type 0 where
  pub opening : IsOpening status
  pub same : disk → now.seen ≡ before.seen
  pub unread : source → rest ≡ input
  pub silent : sink → out_now ≡ out

-- The home was opened, with the entries that the journal's bytes stood for, and the node ran.
pub record Opened (disk source sink : Type 0) (by : Turn → Type 0) (before now : DiskState) (input rest out out_now : List ℕ) (status : Status) : Type 0 where
  pub entries : List Entry
  pub stood : disk → StandsFor before.seen entries
  pub legal : IsLegal entries
  pub ran : Ran (before.seen ≡ []) disk source sink by entries out input rest now out_now status
  -- each number that a reply told is that of a submission in each journal that a crash may leave from now on
  pub acknowledged : disk → (n : ℕ) (image : List ℕ) → list_any (tells n) (replies entries (told_turns status ran.turns ran.begun)) ≡ true → IsImage now.doubt image → KeepsNumber n image

-- a run, up to its last line
abbrev pub Came : (disk source sink : Type 0) → (Turn → Type 0) → DiskState → DiskState → List ℕ → List ℕ → List ℕ → List ℕ → Status → Type 0
Came disk source sink by before now input rest out out_now status =
    NotOpened disk source sink before now input rest out out_now status ⊎ Opened disk source sink by before now input rest out out_now status

-- a run, and then its last line
pub record Served (disk source sink rose : Type 0) (by : Turn → Type 0) (before now : DiskState) (input rest out out_now : List ℕ) (status : Status) : Type 0 where
  pub told : List ℕ
  pub came : Came disk source sink by before now input rest out told status
  pub last : sink → TookLine rose told (last_line status) out_now

-- Why a run ended: it came to its end; or a device failed; the journal's bytes at a place aren't a journal's; an entry doesn't
-- fit; the input goes on too long; memory ran out.
abbrev pub EndedBy : Type 0 → (ℕ → Type 0) → Type 0 → Type 0 → Status → Type 0
EndedBy disk unfit source sink Usage = ⊥
EndedBy disk unfit source sink (Unfit at) = unfit at
EndedBy disk unfit source sink DiskFault = disk
EndedBy disk unfit source sink SourceFault = source
EndedBy disk unfit source sink SinkFault = sink
EndedBy disk unfit source sink _ = Unit {0}

-- A home and its disk have gone on: the home is that of the disk, and has the entries from before at the front of its own.
pub record GoneOn (entries : List Entry) (before : DiskState) (from : ℕ) (home : HomeState) (now : DiskState) (beat : ℕ) : Type 0 where
  pub is : IsHome home now
  pub fresh : now.seen ≡ [] → before.seen ≡ []
  pub extends : Extends entries home.entries
  pub order : last_of now.calls ≤ beat
  pub forward : from ≤ beat

-- The journal's bytes are those of these entries and of what turns add behind them. The turns are those of the first of these
-- events, in order, each by what clock and files tell; the type says whether the source tells.
pub record LeftByTurns (source : Type 0) (by : Turn → Type 0) (entries : List Entry) (brought : List Event) (image : List ℕ) : Type 0 where
  pub turns : List Turn
  pub events : source → (more : List Event) × (brought ≡ map (λ turn. turn.event) turns ++ more)
  pub told : All by turns
  pub journal : IsJournal (after_turns entries turns) image

-- What a crash may leave while turns of these events are made, one after the other: what the first of them led to; and where
-- there was no journal yet, up to nine bytes of any kind.
abbrev pub TurnsMayLeave : (fresh source : Type 0) → (Turn → Type 0) → List Entry → List Event → List ℕ → Type 0
TurnsMayLeave fresh source by entries brought image = LeftByTurns source by entries brought image ⊎ (fresh × (entries ≡ []) × (length image ≤ 9))

-- What a crash may leave at any moment of a run: what it might have left before, which the opening only syncs; or what it may
-- leave while turns of the input's events are made on the entries of the journal's bytes at the begin.
abbrev pub RunMayLeave : (source : Type 0) → (Turn → Type 0) → List ℕ → DiskState → List ℕ → Type 0
RunMayLeave source by input before image =
    IsImage before.doubt image ⊎ ((entries : List Entry) × StandsFor before.seen entries × TurnsMayLeave (before.seen ≡ []) source by entries (run_events input) image)
