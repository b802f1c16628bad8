-- A node as its rules see it: its journal, its files, its sessions, and what it knows of its partners.
use Rattle.std.specs.Prelude.{ℕ, List, [], ◌∷◌, ◌++◌, Bool, ◌==◌, Option, Some, if◌then◌else◌}
use Rattle.cd_types.specs.declared.key.Key.{Key}
use Rattle.cd_entries.specs.declared.entry.Entry.{Entry}
use Rattle.cd_outside.specs.Shelf.{Shelf, FileChange, changed}
use Rattle.cd_frames.specs.Message.{Message}
use Rattle.cd_rules.specs.Keys.{same_key}
use Rattle.cd_rules.specs.Queue.{Waits}
use Rattle.cd_rules.specs.Steps.{Reading}
use Rattle.cd_protocol.specs.declared.session.Phase.{Phase}
use Rattle.cd_protocol.specs.declared.session.Continuation.{Continuation}
use Rattle.cd_protocol.specs.declared.session.Continuation.TheVariants as behind_it

-- its own block; the waits for each partner that it can call; and how the texts of Processes are read
pub record Config : Type 0 where
  pub block : ℕ
  pub partner : List ℕ → Option Waits
  pub read : Reading

-- What a node has recorded, and what it is set up with. The journal has its newest entry first.
pub record NodeView : Type 0 where
  pub config : Config
  pub journal : List Entry

-- The sessions are numbered as they came; each has its phase. A key is held by the session on which its step was last taken,
-- until it is taken from it.
pub record Sessions : Type 0 where
  pub sids : List ℕ
  pub phase : ℕ → Phase
  pub holder : Key → Option ℕ

pub record Node : Type 0 where
  pub view : NodeView
  pub shelf : Shelf
  pub sessions : Sessions

-- the same but at one place
abbrev pub put : {I A : Type 0} → (I → I → Bool) → I → A → (I → A) → I → A
put same at value others other = if same at other then value else others other

-- Effects: what one happening does, one after another.

pub data Effect : Type 0 where
  -- an entry is recorded
  Keep : Entry → Effect
  -- a file is changed: one call of the files
  Touch : FileChange → Effect
  -- the length of a file is asked for
  AskSize : List ℕ → Effect
  -- bytes of a file are read: from a place on, so many
  AskBytes : List ℕ → ℕ → ℕ → Effect
  -- a step is under way: the session holds its key from now on, and is in this phase
  Begin : Key → Phase → Effect
  -- the frame at hand is done: the session's phase from now on, and the frames that are sent
  Go : Phase → List Message → Effect

-- what an effect of a session makes of the node
abbrev pub recorded : Entry → NodeView → NodeView
recorded e view = record view { journal = e ∷ view.journal }

abbrev pub in_phase : ℕ → Phase → Sessions → Sessions
in_phase sid phase sessions = record sessions { phase = put (λ a b. a == b) sid phase sessions.phase }

abbrev pub held_by : Key → ℕ → Sessions → Sessions
held_by key sid sessions = record sessions { holder = put same_key key (Some sid) sessions.holder }

abbrev pub did : ℕ → Effect → Node → Node
did sid (Keep e) node = record node { view = recorded e node.view }
did sid (Touch change) node = record node { shelf = changed change node.shelf }
did sid (AskSize name) node = node
did sid (AskBytes name at len) node = node
did sid (Begin key phase) node = record node { sessions = in_phase sid phase (held_by key sid node.sessions) }
did sid (Go phase frames) node = record node { sessions = in_phase sid phase node.sessions }

-- what a row of effects makes of it
abbrev pub does : ℕ → List Effect → Node → Node
does sid [] node = node
does sid (effect ∷ effects) node = does sid effects (did sid effect node)

-- the frames that a row sends
abbrev pub sends : List Effect → List Message
sends [] = []
sends (Go phase frames ∷ effects) = frames ++ sends effects
sends (effect ∷ effects) = sends effects

-- A reaction of a row: its effects, which nothing has to be asked for, and what comes behind them. At most one of its effects records
-- an entry.
pub record Reaction : Type 0 where
  pub effects : List Effect
  pub later : Continuation

-- a reaction with which all is done
abbrev pub only : List Effect → Reaction
only effects = record { effects = effects; later = behind_it.Done }

-- a reaction behind an effect
abbrev pub behind : Effect → Reaction → Reaction
behind effect reaction = record { effects = effect ∷ reaction.effects; later = reaction.later }

-- what the outside answers in a row: the moment, the length of a destination, that of a source, and the bytes of a source
pub record Answers : Type 0 where
  pub now : ℕ
  pub there : Option ℕ
  pub source : Option ℕ
  pub bytes : List ℕ
