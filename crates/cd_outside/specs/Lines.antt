-- What lines tell of their sessions, and what they count.
use Rattle.std.specs.Prelude.{ℕ, ◌≤◌, ◌≡◌, List, [], ◌∷◌, ◌++◌, Bool, true, false, ◌==◌, if◌then◌else◌, Option, Some, None, Result, Ok, Err}
use Rattle.cd_outside.specs.Counts.{next}
use Rattle.cd_outside.specs.Streams.{TookFront}
use Rattle.cd_outside.specs.declared.failed.Failed.{Failed}
use Rattle.cd_outside.specs.declared.sid.Sid.{Sid}

-- the same but at one session
abbrev pub put_at : {A : Type 0} → ℕ → A → (ℕ → A) → ℕ → A
put_at session value others other = if session == other then value else others other

-- the bytes that were taken from each session and those that were given to it, and the sessions of the sends that went
-- well, in the order of the calls
pub record Traffic : Type 0 where
  pub taken : ℕ → List ℕ
  pub given : ℕ → List ℕ
  pub sends : List ℕ

-- no byte was taken from a session or given to it
pub record IsFresh (session : ℕ) (traffic : Traffic) : Type 0 where
  pub taken : traffic.taken session ≡ []
  pub given : traffic.given session ≡ []

-- these bytes were taken from a session
abbrev pub took : ℕ → List ℕ → Traffic → Traffic
took session bytes traffic = record traffic { taken = put_at session (traffic.taken session ++ bytes) traffic.taken }

-- a send gave these bytes to a session
abbrev pub sent : ℕ → List ℕ → Traffic → Traffic
sent session bytes traffic = record traffic { given = put_at session (traffic.given session ++ bytes) traffic.given; sends = traffic.sends ++ session ∷ [] }

-- a send failed: it gave a front of the bytes to the session, and nothing else was changed
pub record GaveFront (session : ℕ) (bytes : List ℕ) (before now : Traffic) : Type 0 where
  pub front : TookFront (before.given session) bytes (now.given session)
  pub others : (other : ℕ) → (session == other) ≡ false → now.given other ≡ before.given other
  pub taken : now.taken ≡ before.taken
  pub sends : now.sends ≡ before.sends

-- What lines count, up to the greatest u64: the faults of each session, those of connecting, and those of listening and
-- accepting; how often each session gave no byte, and how often no session was accepted.
pub record LineCounts : Type 0 where
  pub faults : ℕ → ℕ
  pub connects : ℕ
  pub accepts : ℕ
  pub ends : ℕ → ℕ
  pub nones : ℕ

-- no count fell
pub record NeverFell (before now : LineCounts) : Type 0 where
  pub faults : (session : ℕ) → before.faults session ≤ now.faults session
  pub connects : before.connects ≤ now.connects
  pub accepts : before.accepts ≤ now.accepts
  pub ends : (session : ℕ) → before.ends session ≤ now.ends session
  pub nones : before.nones ≤ now.nones

-- a count that rises by one at such an answer and at no other
abbrev pub CountsIf : Bool → ℕ → ℕ → Type 0
CountsIf true before now = now ≡ next before
CountsIf false before now = now ≡ before

-- the count of ends stays at each session
abbrev pub SameEnds : LineCounts → LineCounts → Type 0
SameEnds before now = (session : ℕ) → now.ends session ≡ before.ends session

-- and at each but one
abbrev pub SameOtherEnds : ℕ → LineCounts → LineCounts → Type 0
SameOtherEnds session before now = (other : ℕ) → (session == other) ≡ false → now.ends other ≡ before.ends other

-- the count of faults stays at each session
abbrev pub SameFaults : LineCounts → LineCounts → Type 0
SameFaults before now = (session : ℕ) → now.faults session ≡ before.faults session

-- and at each but one: a call on one session never raises the count of another
abbrev pub SameOtherFaults : ℕ → LineCounts → LineCounts → Type 0
SameOtherFaults session before now = (other : ℕ) → (session == other) ≡ false → now.faults other ≡ before.faults other

-- the answer that a session ended
abbrev pub is_end : Result ℕ Failed → Bool
is_end (Ok n) = n == 0
is_end (Err fault) = false

-- the answer that no session is there to be accepted
abbrev pub is_no_session : Result (Option Sid) Failed → Bool
is_no_session (Ok None) = true
is_no_session (Ok (Some sid)) = false
is_no_session (Err fault) = false
