-- How effects that are done go with the node of the rules.
use Rattle.std.specs.Prelude.{◌≡◌, ◌⊎◌, ℕ, ◌+◌, ◌^◌, ◌<◌, List, length, true, [], ◌∷◌, ◌++◌, Option, Some, None, if◌then◌else◌}
use Rattle.cd_types.specs.Compound.{IsOptional}
use Rattle.cd_types.specs.Key.{IsPlace}
use Rattle.cd_types.specs.NodeName.{IsNodeName}
use Rattle.cd_types.specs.declared.key.Key.{Key}
use Rattle.cd_outside.specs.Shelf.{Shelf}
use Rattle.cd_outside.specs.Lines.{Traffic, sent, GaveFront}
use Rattle.cd_journal.specs.declared.fault.JournalFault.{JournalFault}
use Rattle.cd_journal.specs.declared.fault.JournalFault.TheVariants as of_journal
use Rattle.cd_entries.specs.declared.entry.Entry.{Entry}
use Rattle.cd_entries.specs.declared.entry.Entry.TheVariants as entry
use Rattle.cd_entries.specs.Entry as an_entry
use Rattle.cd_entries.specs.Entry.{entry_bytes}
use Rattle.cd_frames.specs.Frame.{frame_bytes, IsFrame, IsWritable}
use Rattle.cd_frames.specs.Message as message
use Rattle.cd_frames.specs.Message.{Message}
use Rattle.cd_rules.specs.Legal.{allowed}
use Rattle.cd_rules.specs.Steps.{Reading}
use Rattle.cd_rules.specs.Keys.{same_key}
use Rattle.cd_protocol.specs.declared.session.Phase.{Phase}
use Rattle.cd_protocol.specs.Node.{Node, Effect, Keep, Touch, Begin, Go, does, sends}
use Rattle.cd_effects.specs.Calls.{ShelfTorn}
use Rattle.cd_effects.specs.Joint.{StandsFor}
use Rattle.cd_effects.specs.declared.owners.Holding.{Holding}
use Rattle.cd_effects.specs.declared.fault.Fault.{Fault}
use Rattle.cd_effects.specs.declared.fault.Fault.TheVariants as fault

-- the session that holds a key, where the newest holding comes first
abbrev pub holder_of : List Holding → Key → Option ℕ
holder_of [] key = None
holder_of (holding ∷ holdings) key = if same_key holding.key key then Some holding.sid.number else holder_of holdings key

-- What stands while the effects of one session are done: the entries of the journal and the holdings, the newest first; the
-- files; the phase of the session; and the bytes that went over the lines.
pub record Spot : Type 0 where
  pub entries : List Entry
  pub shelf : Shelf
  pub phase : Phase
  pub holdings : List Holding
  pub traffic : Traffic

abbrev pub spot : List Entry → Shelf → Phase → List Holding → Traffic → Spot
spot entries shelf phase holdings traffic = record { entries = entries; shelf = shelf; phase = phase; holdings = holdings; traffic = traffic }

-- The node is one that stands so. What isn't told of the files isn't said.
pub record Stands (told : Type 0) (sid : ℕ) (node : Node) (spot : Spot) : Type 0 where
  pub journal : node.view.journal ≡ spot.entries
  pub shelf : told → node.shelf ≡ spot.shelf
  pub phase : node.sessions.phase sid ≡ spot.phase
  pub holder : (key : Key) → node.sessions.holder key ≡ holder_of spot.holdings key

-- these frames were given to the session, each by one send
abbrev pub gave : ℕ → List Message → Traffic → Traffic
gave sid [] traffic = traffic
gave sid (m ∷ frames) traffic = gave sid frames (sent sid (frame_bytes m) traffic)

-- What one effect makes of the entries, the phase, the holdings and the bytes.

abbrev pub kept : Effect → List Entry → List Entry
kept (Keep e) entries = e ∷ entries
kept _ entries = entries

abbrev pub phased : Effect → Phase → Phase
phased (Begin key next) phase = next
phased (Go next frames) phase = next
phased _ phase = phase

abbrev pub held : ℕ → Effect → List Holding → List Holding
held sid (Begin key next) holdings = (record { key = key; sid = record { number = sid } }) ∷ holdings
held sid _ holdings = holdings

abbrev pub given : ℕ → Effect → Traffic → Traffic
given sid (Go next frames) traffic = gave sid frames traffic
given sid _ traffic = traffic

-- a crash leaves a journal of the entries from before the effect, or of those after it
abbrev pub IsKeptOrNot : Effect → List Entry → List ℕ → Type 0
IsKeptOrNot effect entries bytes = StandsFor bytes entries ⊎ StandsFor bytes (kept effect entries)

-- each of these is a frame in its form: its bytes tell it
abbrev pub AreFrames : List Message → Type 0
AreFrames [] = Unit {0}
AreFrames (m ∷ frames) = IsFrame m × AreFrames frames

-- so is each that an effect sends
abbrev pub HasFrames : Effect → Type 0
HasFrames (Go phase frames) = AreFrames frames
HasFrames _ = Unit {0}

-- The effects were done: each node that stood so is by the rules one that stands so now, and the session was given the frames
-- that they send, each of which is in its form.
pub record WereDone (files_told lines_told : Type 0) (sid : ℕ) (effects : List Effect) (before after : Spot) : Type 0 where
  pub node : (node : Node) → Stands files_told sid node before → Stands files_told sid (does sid effects node) after
  pub traffic : lines_told → after.traffic ≡ gave sid (sends effects) before.traffic
  pub frames : AreFrames (sends effects)

-- some of the frames were given, and a front of the next one
pub record GaveSome (sid : ℕ) (frames : List Message) (before after : Traffic) : Type 0 where
  pub given : List Message
  pub torn : Message
  pub more : List Message
  pub reactions : frames ≡ given ++ torn ∷ more
  pub front : GaveFront sid (frame_bytes torn) (gave sid given before) after

-- the lines where the effect failed
abbrev pub TrafficTorn : ℕ → Effect → Traffic → Traffic → Type 0
TrafficTorn sid (Go phase frames) before after = GaveSome sid frames before after
TrafficTorn sid _ before after = after ≡ before

-- An effect wasn't done: at most a part of what it changes outside was.
pub record WasTorn (files_told lines_told : Type 0) (sid : ℕ) (effect : Effect) (before after : Spot) : Type 0 where
  pub entries : after.entries ≡ before.entries
  pub phase : after.phase ≡ before.phase
  pub holdings : after.holdings ≡ before.holdings
  pub shelf : files_told → ShelfTorn effect before.shelf after.shelf
  pub traffic : lines_told → TrafficTorn sid effect before.traffic after.traffic

-- each of these frames can be sent: its fields are in their range
abbrev pub AreSendable : List Message → Type 0
AreSendable [] = Unit {0}
AreSendable (m ∷ frames) = IsWritable m × AreSendable frames

-- an entry that can be recorded: it may follow the entries, and its fields are in their range
pub record MayBeKept (read : Reading) (entries : List Entry) (e : Entry) : Type 0 where
  pub next : allowed read entries e ≡ true
  pub writable : an_entry.IsWritable e

-- what an effect asks
abbrev pub IsReady : Reading → List Entry → Effect → Type 0
IsReady read entries (Keep e) = MayBeKept read entries e
IsReady read entries (Go phase frames) = AreSendable frames
IsReady read entries _ = Unit {0}

-- what effects ask, one after another
abbrev pub AreReady : Reading → List Entry → List Effect → Type 0
AreReady read entries [] = Unit {0}
AreReady read entries (effect ∷ effects) = IsReady read entries effect × AreReady read (kept effect entries) effects

-- Where a submission comes of another Process's step, that step's place is one of 1,024. The rules' rows submit nothing.
abbrev pub HasFormedOrigin : Entry → Type 0
HasFormedOrigin (entry.Submitted number moment origin card text) = IsOptional (λ step. IsPlace step.place) origin
HasFormedOrigin _ = Unit {0}

abbrev pub HaveFormedOrigins : List Effect → Type 0
HaveFormedOrigins [] = Unit {0}
HaveFormedOrigins (Keep e ∷ effects) = HasFormedOrigin e × HaveFormedOrigins effects
HaveFormedOrigins (effect ∷ effects) = HaveFormedOrigins effects

-- the fault is one of sending frames
abbrev pub IsFaultOfSending : Fault → Type 0
IsFaultOfSending fault.NoMemory = Unit {0}
IsFaultOfSending fault.Line = Unit {0}
IsFaultOfSending _ = ⊥

-- the fault is one of sending these frames: without a frame there is none
abbrev pub IsFaultOfGiving : List Message → Fault → Type 0
IsFaultOfGiving [] told = ⊥
IsFaultOfGiving (m ∷ frames) told = IsFaultOfSending told

-- the fault is one of recording
abbrev pub IsFaultOfRecording : Fault → Type 0
IsFaultOfRecording fault.Disk = Unit {0}
IsFaultOfRecording (fault.JournalFull len) = Unit {0}
IsFaultOfRecording fault.NoMemory = Unit {0}
IsFaultOfRecording _ = ⊥

-- the fault is one of this effect; the journal is full where the entry makes it longer than 2^30 bytes
abbrev pub IsFaultOf : Effect → Fault → Type 0
IsFaultOf (Keep e) fault.Disk = Unit {0}
IsFaultOf (Keep e) (fault.JournalFull len) = 2 ^ 30 < len + 5 + length (entry_bytes e)
IsFaultOf (Keep e) fault.NoMemory = Unit {0}
IsFaultOf (Touch change) fault.Files = Unit {0}
IsFaultOf (Begin key phase) fault.NoMemory = Unit {0}
IsFaultOf (Go phase frames) told = IsFaultOfGiving frames told
IsFaultOf _ _ = ⊥

-- the fault is one of asking for bytes
abbrev pub IsFaultOfAsking : Fault → Type 0
IsFaultOfAsking fault.Files = Unit {0}
IsFaultOfAsking fault.NoMemory = Unit {0}
IsFaultOfAsking _ = ⊥

-- the effect changes no file
abbrev pub IsNoTouch : Effect → Type 0
IsNoTouch (Touch change) = ⊥
IsNoTouch _ = Unit {0}

-- The effects were cut off: those before one of them were done, that one wasn't, and nothing was done of those behind it.
pub record WereCut (files_told lines_told : Type 0) (sid : ℕ) (effects : List Effect) (fault : Fault) (before after : Spot) : Type 0 where
  pub done : List Effect
  pub torn : Effect
  pub more : List Effect
  pub reactions : effects ≡ done ++ torn ∷ more
  pub middle : Spot
  pub first : WereDone files_told lines_told sid done before middle
  pub rest : WasTorn files_told lines_told sid torn middle after
  pub cause : IsFaultOf torn fault

-- a fault of the journal in an effect
abbrev pub fault_of : JournalFault → Fault
fault_of of_journal.Disk = fault.Disk
fault_of (of_journal.Full len) = fault.JournalFull len
fault_of (of_journal.Unfit at) = fault.NoMemory
fault_of of_journal.NoMemory = fault.NoMemory

-- the names in a frame are in their form; a row sends no frame of the other kinds
abbrev pub HasNames : Message → Type 0
HasNames (message.Hello greeting) = IsNodeName greeting.name
HasNames (message.Welcome greeting) = IsNodeName greeting.name
HasNames (message.StepCopyTo step name disp interval size) = IsNodeName step.pnode
HasNames (message.StepCopyFrom step name interval) = IsNodeName step.pnode
HasNames (message.Ready step offset) = IsNodeName step.pnode
HasNames (message.Length step size) = IsNodeName step.pnode
HasNames (message.Data step offset bytes) = IsNodeName step.pnode
HasNames (message.Ack step offset) = IsNodeName step.pnode
HasNames (message.End step size) = IsNodeName step.pnode
HasNames (message.Result step outcomes) = IsNodeName step.pnode
HasNames (message.Abort step cause) = IsNodeName step.pnode
HasNames (message.Forget home number) = Unit {0}
HasNames message.Bye = Unit {0}
HasNames _ = ⊥
