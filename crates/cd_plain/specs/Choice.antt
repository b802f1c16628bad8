-- A session is taken, or begun for a Process that is due.
use Rattle.std.specs.Prelude.{◌≡◌, ◌⊎◌, ◌<◌, ◌+◌, ◌^◌, ℕ, [], ◌∷◌, ◌++◌, length, true, false, ◌==◌, Option, Some, None}
use Rattle.cd_outside.specs.Counts.{Rose, next}
use Rattle.cd_outside.specs.Lines.{LineCounts, Traffic}
use Rattle.cd_outside.specs.declared.sid.Sid.{Sid}
use Rattle.cd_types.specs.declared.rows.Row.{Row}
use Rattle.cd_entries.specs.Entry.{entry_bytes}
use Rattle.cd_entries.specs.declared.entry.Entry.{Entry}
use Rattle.cd_rules.specs.Steps.{Reading}
use Rattle.cd_protocol.specs.Node.{NodeView}
use Rattle.cd_protocol.specs.Rows.{row_chosen}
use Rattle.cd_protocol.specs.declared.session.Phase.{Phase}
use Rattle.cd_protocol.specs.declared.session.Phase.TheVariants.{Gone, Fresh}
use Rattle.cd_effects.specs.Stands.{Spot, WereDone, WereCut}
use Rattle.cd_effects.specs.declared.fault.Fault.{Fault}
use Rattle.cd_effects.specs.declared.fault.Fault.TheVariants as fault
use Rattle.cd_session_rules.specs.NodeView.{view_of}
use Rattle.cd_plain.specs.Chosen.{placed_in, IsKnown, IsPlaced}
use Rattle.cd_plain.specs.NodeState.{NodeState, IsNewest, HasNewReader, KeptSessions}
use Rattle.cd_plain.specs.Turned.{Told, spot_of}
use Rattle.cd_plain.specs.declared.handled.Handled.{Handled}
use Rattle.cd_plain.specs.declared.handled.Handled.TheVariants as handled

-- The newest session of the lines, which they made in this call, is the last of the node's, newer than each of them, and fresh.
pub record TookSession (answer : Handled) (last_before last : ℕ) (before now : LineCounts) (node after : NodeState) : Type 0 where
  pub answered : answer ≡ handled.Went
  pub made : last_before < last
  pub newest : IsNewest last node.sessions
  pub sessions : after.sessions ≡ node.sessions ++ (record { sid = record { number = last }; phase = Fresh }) ∷ []
  pub readings : HasNewReader node.readings after.readings
  pub nones : now.nones ≡ before.nones

-- the lines had none, as they counted, and nothing was done
pub record HadNone (answer : Handled) (last_before last : ℕ) (before now : LineCounts) (node after : NodeState) : Type 0 where
  pub answered : answer ≡ handled.NoMore
  pub none : last ≡ last_before
  pub counted : now.nones ≡ next before.nones
  pub same : after ≡ node

-- this session is the last of the node's, and those before it are as they were
pub record HasOpened (sid : Sid) (node after : NodeState) : Type 0 where
  pub phase : Phase
  pub sessions : after.sessions ≡ node.sessions ++ (record { sid = sid; phase = phase }) ∷ []

-- the lines made a session in this call, their newest one, and it is the node's last
pub record MadeOne (last_before last : ℕ) (node after : NodeState) : Type 0 where
  pub newer : last_before < last
  pub opened : HasOpened (record { number = last }) node after

-- they made none, and the node has none more
pub record MadeNone (last_before last : ℕ) (node after : NodeState) : Type 0 where
  pub same : last ≡ last_before
  pub sessions : after.sessions ≡ node.sessions

abbrev pub MadeSession : ℕ → ℕ → NodeState → NodeState → Type 0
MadeSession last_before last node after = MadeOne last_before last node after ⊎ MadeNone last_before last node after

-- bytes were given to one session alone
abbrev pub GaveOfOne : ℕ → Traffic → Traffic → Type 0
GaveOfOne sid before now = (other : ℕ) → (sid == other) ≡ false → now.given other ≡ before.given other

abbrev pub Accepted : Handled → ℕ → ℕ → LineCounts → LineCounts → NodeState → NodeState → Type 0
Accepted answer last_before last before now node after = TookSession answer last_before last before now node after ⊎ HadNone answer last_before last before now node after

-- the faults of accepting
abbrev pub IsFaultOfAccepting : Fault → Type 0
IsFaultOfAccepting fault.Line = Unit {0}
IsFaultOfAccepting fault.NoMemory = Unit {0}
IsFaultOfAccepting _ = ⊥

-- the faults of recording; the journal is full where the entry makes it longer than 2^30 bytes
abbrev pub IsTooLong : Option Entry → ℕ → Type 0
IsTooLong None len = ⊥
IsTooLong (Some e) len = 2 ^ 30 < len + 5 + length (entry_bytes e)

abbrev pub IsFaultOfPlacing : Option Entry → Fault → Type 0
IsFaultOfPlacing placing fault.Disk = Unit {0}
IsFaultOfPlacing placing (fault.JournalFull len) = IsTooLong placing len
IsFaultOfPlacing placing fault.NoMemory = Unit {0}
IsFaultOfPlacing placing _ = ⊥

-- the placing of a Process whose partner wasn't connected, or can't be called, by the rules
abbrev pub placing_of : NodeView → ℕ → Row → Option Entry
placing_of view now row = placed_in (row_chosen view now false (Some row))

-- A Process that is due was chosen: whether files and lines tell, how the node reads texts, the moment, the Process's row, what was
-- answered, and the node and what its devices tell, before and after.
module _ (files_told lines_told : Type 0) (read : Reading) (now : ℕ) (row : Row) (answer : Handled) (node after : NodeState) (before now_told : Told) where
  -- it was placed by the rules, where that may be recorded
  abbrev pub WasPlaced : Type 0
  WasPlaced = IsPlaced read now (placing_of (view_of read node.config node.registry.entries) now row) node.registry.entries after.registry.entries

  -- The node can call its partner, and a session with it began, by the rules.
  pub record WasConnected (sid : Sid) : Type 0 where
    pub answered : answer ≡ handled.Went
    pub known : IsKnown (view_of read node.config node.registry.entries) row
    pub newest : IsNewest sid.number node.sessions
    pub phase : Phase
    pub sessions : after.sessions ≡ node.sessions ++ (record { sid = sid; phase = phase }) ∷ []
    pub readings : HasNewReader node.readings after.readings
    pub done : WereDone files_told lines_told sid.number (row_chosen (view_of read node.config node.registry.entries) now true (Some row)) (spot_of node Gone before) (spot_of after phase now_told)

  -- So it was, but the session failed, and only a part of what the rules say was given to it. It is lost, and the Process is placed by
  -- the rules, as where its partner isn't connected.
  pub record WasLost (sid : Sid) : Type 0 where
    pub answered : answer ≡ handled.Lost sid
    pub known : IsKnown (view_of read node.config node.registry.entries) row
    pub newest : IsNewest sid.number node.sessions
    pub sessions : after.sessions ≡ node.sessions ++ (record { sid = sid; phase = Gone }) ∷ []
    pub readings : HasNewReader node.readings after.readings
    pub cause : Rose (before.counts.faults sid.number) (now_told.counts.faults sid.number)
    pub at : Spot
    pub cut : WereCut files_told lines_told sid.number (row_chosen (view_of read node.config node.registry.entries) now true (Some row)) fault.Line (spot_of node Gone before) at
    pub shelf : files_told → now_told.shelf ≡ at.shelf
    pub traffic : lines_told → now_told.traffic ≡ at.traffic
    pub holdings : after.holdings ≡ at.holdings
    pub placed : WasPlaced

  -- the session is one that the lines made then
  pub record Began : Type 0 where
    pub sid : Sid
    pub began : WasConnected sid ⊎ WasLost sid

  -- The node can't call its partner: the Process is held, and nothing else is done.
  pub record WasHeld : Type 0 where
    pub answered : answer ≡ handled.Went
    pub unknown : (view_of read node.config node.registry.entries).config.partner row.snode ≡ None
    pub placed : WasPlaced
    pub kept : KeptSessions node after
    pub untouched : now_told ≡ before

  -- Its partner wasn't connected, as the lines counted: the Process is placed anew, and nothing else is done.
  pub record WasNotConnected : Type 0 where
    pub answered : answer ≡ handled.NotConnected row.number
    pub known : IsKnown (view_of read node.config node.registry.entries) row
    pub cause : Rose before.counts.connects now_told.counts.connects
    pub placed : WasPlaced
    pub kept : KeptSessions node after
    pub shelf : now_told.shelf ≡ before.shelf
    pub files : now_told.files ≡ before.files
    pub traffic : lines_told → now_told.traffic ≡ before.traffic

  abbrev pub WasChosen : Type 0
  WasChosen = Began ⊎ (WasHeld ⊎ WasNotConnected)
