-- What is held of sessions, whose numbers count from 1.
use Rattle.std.specs.Prelude.{ℕ, List, [], zero, suc, slice_index_or, length}
use Rattle.cd_outside.specs.Lines.{Traffic}

-- the bytes that were taken from a session and given to it, and its counts of faults and of ends
pub record SessionHeld : Type 0 where
  pub taken : List ℕ
  pub given : List ℕ
  pub faults : ℕ
  pub ends : ℕ

-- a session of which nothing was taken or given
abbrev pub fresh_session : SessionHeld
fresh_session = record { taken = []; given = []; faults = 0; ends = 0 }

-- the session of that number
abbrev pub session_at : List SessionHeld → ℕ → SessionHeld
session_at sessions zero = fresh_session
session_at sessions (suc i) = slice_index_or sessions i fresh_session

-- what the sessions tell, with the order of the sends
abbrev pub traffic_of : List SessionHeld → List ℕ → Traffic
traffic_of sessions sends = record { taken = λ session. (session_at sessions session).taken; given = λ session. (session_at sessions session).given; sends = sends }
