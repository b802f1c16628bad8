-- What is done about what comes next in a session.
use Rattle.std.specs.Prelude.{◌≡◌, ◌⊎◌, ℕ, List, true, false, Option, Some, None}
use Rattle.cd_outside.specs.Counts.{Rose}
use Rattle.cd_outside.specs.Lines.{Traffic, LineCounts}
use Rattle.cd_entries.specs.declared.entry.Entry.{Entry}
use Rattle.cd_frames.specs.Message.{Message}
use Rattle.cd_frames.specs.Reading.{Reading, front}
use Rattle.cd_frames.specs.Run.{Run}
use Rattle.cd_frames.specs.Stream.{waits}
use Rattle.cd_rules.specs.Steps as steps
use Rattle.cd_protocol.specs.Closing.{own_number}
use Rattle.cd_protocol.specs.Rows.{row_end}
use Rattle.cd_protocol.specs.declared.session.Phase.{Phase}
use Rattle.cd_effects.specs.Stands.{Spot, spot}
use Rattle.cd_effects.specs.declared.fault.Fault.{Fault}
use Rattle.cd_exchange.specs.Question.{Setting}
use Rattle.cd_exchange.specs.declared.session.Session.{Session}
use Rattle.cd_exchange.specs.Arriving.{and_one, Heard, IsRefused, is_over_for}
use Rattle.cd_exchange.specs.Handling.{the_case, DidEnd, EndStopped, WasHandled, HasFailed}
use Rattle.cd_exchange.specs.declared.ending.Ending.{Ending}
use Rattle.cd_exchange.specs.declared.ending.Ending.TheVariants.{Lost}

-- Why no frame comes in a session: what came is none; or no whole frame stands in its reader, and the session ended or failed.
abbrev pub HasEnded : Reading → ℕ → LineCounts → LineCounts → Type 0
HasEnded reader sid before now = IsRefused (front reader) ⊎ ((front reader ≡ waits) × (Rose (before.ends sid) (now.ends sid) ⊎ Rose (before.faults sid) (now.faults sid)))

-- Why a session is lost: its Process isn't live any more; or no frame came; or the session failed while its frame was handled.
abbrev pub MayBeLost : List Entry → Phase → Reading → ℕ → LineCounts → LineCounts → Type 0
MayBeLost entries phase reader sid before now = (is_over_for entries (own_number phase) ≡ true) ⊎ (HasEnded reader sid before now ⊎ Rose (before.faults sid) (now.faults sid))

-- the same, once so much was taken of the session
abbrev pub heard_at : Traffic → Spot → Spot
heard_at heard at = spot at.entries at.shelf at.phase at.holdings heard

-- A session whose Process is live was heard: bytes were taken of it alone, and none where a whole frame, or what is none, stood in its
-- reader already; and its reader stands behind this frame, the next one of its stream, or behind the last one where none came.
pub record WasHeard (lines_told : Type 0) (sid : ℕ) (came : Option Message) (before : Spot) (heard : Traffic) (reader_before reader : Reading) : Type 0 where
  pub live : is_over_for before.entries (own_number before.phase) ≡ false
  pub heard_only : lines_told → Heard sid before.traffic heard
  pub at_hand : lines_told → (front reader_before ≡ waits → ⊥) → heard ≡ before.traffic
  pub next : lines_told → (given : List Message) → Run (before.traffic.taken sid) given reader_before → Run (heard.taken sid) (and_one given came) reader

-- A turn of a session: whether files and lines tell, how the node is set up and reads texts, the session's number, the moment, and the
-- other sessions.
module _ (files_told lines_told : Type 0) (setting : Setting) (read : steps.Reading) (sid now : ℕ) (others : List Session) where
  -- its next frame was handled
  pub record TookFrame (ending : Ending) (counts_before counts : LineCounts) (reader_before reader : Reading) (before after : Spot) : Type 0 where
    pub frame : Message
    pub heard : Traffic
    pub came : WasHeard lines_told sid (Some frame) before heard reader_before reader
    pub handled : WasHandled (the_case files_told lines_told setting read sid now others frame) counts_before counts ending (heard_at heard before) after

  -- no frame came, and its end was handled
  pub record TookEnd (counts_before counts : LineCounts) (reader_before reader : Reading) (before after : Spot) : Type 0 where
    pub heard : Traffic
    pub came : WasHeard lines_told sid None before heard reader_before reader
    pub why : HasEnded reader sid counts_before counts
    pub ended : DidEnd files_told lines_told setting read sid now row_end (heard_at heard before) after

  -- its Process isn't live any more: nothing was taken of it, and its end was handled
  pub record TookNothing (reader_before reader : Reading) (before after : Spot) : Type 0 where
    pub over : is_over_for before.entries (own_number before.phase) ≡ true
    pub same : reader ≡ reader_before
    pub ended : DidEnd files_told lines_told setting read sid now row_end before after

  abbrev pub TookTurn : Ending → LineCounts → LineCounts → Reading → Reading → Spot → Spot → Type 0
  TookTurn ending counts_before counts reader_before reader before after = TookFrame ending counts_before counts reader_before reader before after
      ⊎ ((ending ≡ Lost) × (TookEnd counts_before counts reader_before reader before after ⊎ TookNothing reader_before reader before after))

  -- what was done of it where a fault comes that ends the node's run
  pub record FailedFrame (why : Fault) (counts_before counts : LineCounts) (reader_before reader : Reading) (before after : Spot) : Type 0 where
    pub frame : Message
    pub heard : Traffic
    pub came : WasHeard lines_told sid (Some frame) before heard reader_before reader
    pub failed : HasFailed (the_case files_told lines_told setting read sid now others frame) counts_before counts why (heard_at heard before) after

  pub record FailedEnd (why : Fault) (counts_before counts : LineCounts) (reader_before reader : Reading) (before after : Spot) : Type 0 where
    pub heard : Traffic
    pub came : WasHeard lines_told sid None before heard reader_before reader
    pub cause : HasEnded reader sid counts_before counts
    pub failed : EndStopped files_told lines_told setting read sid now row_end why (heard_at heard before) after

  pub record FailedNothing (why : Fault) (reader_before reader : Reading) (before after : Spot) : Type 0 where
    pub over : is_over_for before.entries (own_number before.phase) ≡ true
    pub same : reader ≡ reader_before
    pub failed : EndStopped files_told lines_told setting read sid now row_end why before after

  abbrev pub TurnFailed : Fault → LineCounts → LineCounts → Reading → Reading → Spot → Spot → Type 0
  TurnFailed why counts_before counts reader_before reader before after = FailedFrame why counts_before counts reader_before reader before after
      ⊎ (FailedEnd why counts_before counts reader_before reader before after ⊎ FailedNothing why reader_before reader before after)
