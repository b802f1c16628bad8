-- A node, as contracts see it.
use Rattle.std.specs.Prelude.{◌≡◌, ◌≤◌, ◌<◌, ℕ, List, [], ◌∷◌, ◌++◌, Bool, true, false, None}
use Rattle.cd_outside.specs.Disk.{DiskState, last_of}
use Rattle.cd_outside.specs.Files.{FilesState, files_last_of}
use Rattle.cd_outside.specs.Lines.{Traffic}
use Rattle.cd_frames.specs.Frame.{is_block}
use Rattle.cd_frames.specs.Message.{Message}
use Rattle.cd_frames.specs.Reading.{Reading}
use Rattle.cd_frames.specs.Run.{Run}
use Rattle.cd_rules.specs.Processes.{latest}
use Rattle.cd_rules.specs.Legal.{is_legal}
use Rattle.cd_rules.specs.Steps as steps
use Rattle.cd_protocol.specs.declared.session.Phase.{Phase}
use Rattle.cd_protocol.specs.declared.session.Phase.TheVariants.{Gone}
use Rattle.cd_effects.specs.Registry.{RegistryState, IsRegistry}
use Rattle.cd_effects.specs.declared.owners.Holding.{Holding}
use Rattle.cd_exchange.specs.declared.session.Session.{Session}
use Rattle.cd_session_rules.specs.declared.config.Config.{Config}

-- what it has recorded; how it is set up; its sessions as they came, and what was read of each; and which session holds which key
pub record NodeState : Type 0 where
  pub registry : RegistryState
  pub config : Config
  pub sessions : List Session
  pub readings : List Reading
  pub holdings : List Holding

-- a session that is closed, or lost
abbrev pub is_gone : Phase → Bool
is_gone Gone = true
is_gone _ = false

-- the numbers of sessions rise, from above a number up to another one
abbrev pub AreRising : ℕ → ℕ → List Session → Type 0
AreRising above last [] = above ≤ last
AreRising above last (s ∷ sessions) = (above < s.sid.number) × AreRising s.sid.number last sessions

-- each session is one that was made, later than those before it
abbrev pub AreMade : ℕ → List Session → Type 0
AreMade last sessions = AreRising 0 last sessions

-- a number is newer than each of these sessions
abbrev pub IsNewest : ℕ → List Session → Type 0
IsNewest number [] = Unit {0}
IsNewest number (s ∷ sessions) = (s.sid.number < number) × IsNewest number sessions

-- some frames of a stream were given by its reader, which holds the rest of its bytes
pub record WasRead (stream : List ℕ) (reader : Reading) : Type 0 where
  pub given : List Message
  pub run : Run stream given reader

-- each session has its reader, which stands where the bytes lead that were taken of it
abbrev pub AreRead : Traffic → List Session → List Reading → Type 0
AreRead traffic [] [] = Unit {0}
AreRead traffic (s ∷ sessions) (r ∷ readings) = WasRead (traffic.taken s.sid.number) r × AreRead traffic sessions readings
AreRead traffic _ _ = ⊥

-- nothing was read yet
pub record IsUnread (reader : Reading) : Type 0 where
  pub place : reader.place ≡ 0
  pub given : reader.given ≡ None
  pub rest : reader.rest ≡ []

-- a reader that has read nothing stands behind the others
pub record HasNewReader (before after : List Reading) : Type 0 where
  pub reader : Reading
  pub unread : IsUnread reader
  pub readings : after ≡ before ++ reader ∷ []

-- its sessions, what was read of them and who holds which key are as they were
pub record KeptSessions (node after : NodeState) : Type 0 where
  pub sessions : after.sessions ≡ node.sessions
  pub readings : after.readings ≡ node.readings
  pub holdings : after.holdings ≡ node.holdings

-- The node's journal is the disk's, which was called at no later beat; it is legal, has a header, and has no moment later than now.
pub record HasHome (disk_told : Type 0) (read : steps.Reading) (node : NodeState) (disk : DiskState) (beat now : ℕ) : Type 0 where
  pub legal : is_legal read node.registry.entries ≡ true
  pub on_time : latest node.registry.entries ≤ now
  pub header : node.registry.journal.has_header ≡ true
  pub sound : node.registry.journal.sound ≡ true
  pub registry : disk_told → IsRegistry node.registry disk
  pub order : disk_told → last_of disk.calls ≤ beat

-- The node's sessions were made by the lines, and each has its reader.
pub record HasSessions (lines_told : Type 0) (node : NodeState) (traffic : Traffic) (last : ℕ) : Type 0 where
  pub sids : AreMade last node.sessions
  pub reads : lines_told → AreRead traffic node.sessions node.readings

-- The node can be handed what happens: it has its home and its sessions; the files were called at no later beat; and a block has 1 to
-- 65,536 bytes.
pub record IsReady (disk_told files_told lines_told : Type 0) (read : steps.Reading) (node : NodeState) (disk : DiskState) (files : FilesState) (traffic : Traffic) (beat last now : ℕ) : Type 0 where
  pub home : HasHome disk_told read node disk beat now
  pub files_order : files_told → files_last_of files.calls ≤ beat
  pub sessions : HasSessions lines_told node traffic last
  pub block : is_block node.config.block ≡ true
