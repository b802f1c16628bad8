-- A node of a drill, with its devices in memory.
use Rattle.std.specs.Prelude.{◌≡◌, ◌⊎◌, ◌<◌, ℕ, ◌+◌, min, List, ◌++◌, ◌∷◌, [], false, Option, None, Some, if◌then◌else◌}
use Rattle.std.specs.Str.{bytes_eq}
use Rattle.cd_outside.specs.Lines.{IsFresh as IsUnused}
use Rattle.cd_outside.specs.Shelf.{settled_shelf}
use Rattle.cd_outside.specs.declared.sid.Sid.{Sid}
use Rattle.cd_memory_state.specs.Put.{files_put}
use Rattle.cd_entries.specs.declared.entry.Entry.{Entry}
use Rattle.cd_memory.specs.MemoryDisk as disks
use Rattle.cd_memory.specs.MemoryFiles as shelves
use Rattle.cd_memory.specs.MemoryFiles.{names_of}
use Rattle.cd_memory.specs.MemoryLines.{last_of, traffic_of, counts_of, pieces_of, waiting_of, are_refusing, lines_script, SameSessions}
use Rattle.cd_rules.specs.Queue.{next_due, Waits}
use Rattle.cd_session_rules.specs.NodeView.{partner_in}
use Rattle.cd_types.specs.declared.rows.Row.{Row}
use Rattle.cd_canonical.specs.Read.{canonical_reading}
use Rattle.cd_plain.specs.Choice.{Accepted, MadeSession, WasChosen}
use Rattle.cd_plain.specs.Chosen.{busy_in}
use Rattle.cd_plain.specs.NodeState.{IsReady}
use Rattle.cd_plain.specs.Turned.{Told, told, HadTurn, NoTurn}
use Rattle.cd_plain.specs.declared.handled.Handled.{Handled}
use Rattle.cd_plain.specs.declared.handled.Handled.TheVariants as handled
use Rattle.cd_drill.specs.declared.test_node.TestNode.{TestNode}

-- it can be handed what happens, over its devices
abbrev pub IsAtRest : TestNode → Type 0
IsAtRest half = IsReady (Unit {0}) (Unit {0}) (Unit {0}) canonical_reading half.node (disks.state_of half.disk) (shelves.state_of half.files) (traffic_of half.lines) half.beat (last_of half.lines) half.moment

-- what it has recorded, the newest first
abbrev pub entries_of : TestNode → List Entry
entries_of half = half.node.registry.entries

-- what its files hold
abbrev pub seen_of : TestNode → List ℕ → Option (List ℕ)
seen_of half = (shelves.state_of half.files).shelf.seen

-- the names of its files, in the order of their bytes
abbrev pub names_in : TestNode → List (List ℕ)
names_in half = names_of half.files

-- what its devices tell
abbrev pub told_of : TestNode → Told
told_of half = told (shelves.state_of half.files).shelf (shelves.faults_of half.files) (traffic_of half.lines) (counts_of half.lines)

-- the waits for a partner of which nothing else is known: half a minute up to six times, and then ten minutes up to six times
abbrev pub usual_waits : Waits
usual_waits = record { short = 30; short_attempts = 6; long = 600; long_attempts = 6 }

abbrev pub only_partner : List ℕ → List ℕ → Option Waits
only_partner partner name = if bytes_eq name partner then Some usual_waits else None

-- it knows this partner alone, with the usual waits, and sends files in pieces of up to 8,192 bytes
pub record IsSetUp (partner : List ℕ) (half : TestNode) : Type 0 where
  pub block : half.node.config.block ≡ 8192
  pub partners : (name : List ℕ) → partner_in half.node.config.partners.items name ≡ only_partner partner name

-- It has no files and no sessions, no key is held, nothing comes, and no call of its files or lines is to fail, at this moment.
pub record IsFresh (now : ℕ) (half : TestNode) : Type 0 where
  pub files : (shelves.state_of half.files).shelf ≡ settled_shelf (λ name. None)
  pub sessions : half.node.sessions ≡ []
  pub readings : half.node.readings ≡ []
  pub holdings : half.node.holdings ≡ []
  pub last : last_of half.lines ≡ 0
  pub pieces : pieces_of half.lines ≡ []
  pub waiting : waiting_of half.lines ≡ 0
  pub refusing : are_refusing half.lines ≡ false
  pub lines_fail : lines_script half.lines ≡ []
  pub files_fail : shelves.script_of half.files ≡ []
  pub at : half.moment ≡ now

-- how it is set up and the moment are as they were
pub record IsSame (before after : TestNode) : Type 0 where
  pub config : after.node.config ≡ before.node.config
  pub moment : after.moment ≡ before.moment

-- A session had its turn, by the rules of a node; or there was none.
pub record TookTurn (sid : Sid) (answer : Handled) (before after : TestNode) : Type 0 where
  pub same : IsSame before after
  pub turned : HadTurn (Unit {0}) (Unit {0}) canonical_reading before.moment sid answer before.node after.node (told_of before) (told_of after) ⊎ NoTurn sid answer before.node after.node (told_of before) (told_of after)

-- The Process that is due was chosen, by the rules of a node; or none was due, and nothing was done. A session that began is the newest
-- of the lines, and nothing was taken of it or given to it before.
pub record Chose (answer : Handled) (before after : TestNode) : Type 0 where
  pub same : IsSame before after
  pub idle : answer ≡ handled.Idle → (next_due (entries_of before) before.moment (busy_in before.node.sessions) ≡ None) × (after ≡ before)
  pub none : next_due (entries_of before) before.moment (busy_in before.node.sessions) ≡ None → answer ≡ handled.Idle
  pub chosen : (row : Row) → next_due (entries_of before) before.moment (busy_in before.node.sessions) ≡ Some row
      → WasChosen (Unit {0}) (Unit {0}) canonical_reading before.moment row answer before.node after.node (told_of before) (told_of after)
  pub made : MadeSession (last_of before.lines) (last_of after.lines) before.node after.node
  pub unused : last_of before.lines < last_of after.lines → IsUnused (last_of after.lines) (traffic_of before.lines)

-- The next session was taken, and nothing else was done. Nothing was taken of it or given to it yet.
pub record Took (answer : Handled) (before after : TestNode) : Type 0 where
  pub same : IsSame before after
  pub accepted : Accepted answer (last_of before.lines) (last_of after.lines) (counts_of before.lines) (counts_of after.lines) before.node after.node
  pub registry : after.node.registry ≡ before.node.registry
  pub holdings : after.node.holdings ≡ before.node.holdings
  pub unused : last_of before.lines < last_of after.lines → IsUnused (last_of after.lines) (traffic_of after.lines)
  pub traffic : traffic_of after.lines ≡ traffic_of before.lines
  pub disk : after.disk ≡ before.disk
  pub files : after.files ≡ before.files
  pub beat : after.beat ≡ before.beat

-- The file of a name has these bytes, and nothing else was done.
pub record WasPut (name bytes : List ℕ) (before after : TestNode) : Type 0 where
  pub node : after.node ≡ before.node
  pub moment : after.moment ≡ before.moment
  pub disk : after.disk ≡ before.disk
  pub files : shelves.ChangesState before.files after.files (files_put name bytes (shelves.state_of before.files))
  pub lines : after.lines ≡ before.lines
  pub beat : after.beat ≡ before.beat

-- These bytes wait in a session, and nothing else was done.
pub record WasOffered (sid : Sid) (bytes : List ℕ) (before after : TestNode) : Type 0 where
  pub node : after.node ≡ before.node
  pub moment : after.moment ≡ before.moment
  pub disk : after.disk ≡ before.disk
  pub files : after.files ≡ before.files
  pub beat : after.beat ≡ before.beat
  pub lines : SameSessions before.lines after.lines
  pub script : lines_script after.lines ≡ lines_script before.lines
  pub waiting : waiting_of after.lines ≡ waiting_of before.lines
  pub refusing : are_refusing after.lines ≡ are_refusing before.lines
  pub pieces : pieces_of after.lines ≡ pieces_of before.lines ++ (record { session = sid.number; rest = bytes; after = None }) ∷ []

-- One more call of its files is to fail, and nothing else was done.
pub record FilesFail (k : ℕ) (before after : TestNode) : Type 0 where
  pub node : after.node ≡ before.node
  pub moment : after.moment ≡ before.moment
  pub disk : after.disk ≡ before.disk
  pub files : shelves.ChangesScript before.files after.files (shelves.script_of before.files ++ min (shelves.calls_of before.files + k) 18446744073709551615 ∷ [])
  pub lines : after.lines ≡ before.lines
  pub beat : after.beat ≡ before.beat
