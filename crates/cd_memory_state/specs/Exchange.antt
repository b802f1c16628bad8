-- What an exchange shows.
use Rattle.std.specs.Prelude.{ℕ, ◌≡◌, ◌≤◌, ◌==◌, false, vec_len}
use Rattle.cd_outside.specs.Counts.{next}
use Rattle.cd_outside.specs.Lines.{Traffic}
use Rattle.cd_memory_state.specs.Sessions.{session_at, traffic_of}
use Rattle.cd_memory_state.specs.declared.exchange.Exchange.{Exchange}

-- the bytes of each session, and the order of the sends
abbrev pub traffic_in : Exchange → Traffic
traffic_in exchange = traffic_of exchange.sessions.items exchange.sends.items

-- the number of the newest session
abbrev pub last_in : Exchange → ℕ
last_in exchange = vec_len exchange.sessions

-- the counts of each session
abbrev pub faults_in : Exchange → ℕ → ℕ
faults_in exchange session = (session_at exchange.sessions.items session).faults

abbrev pub ends_in : Exchange → ℕ → ℕ
ends_in exchange session = (session_at exchange.sessions.items session).ends

-- what is told is as it was, and the number of sessions too
pub record SameTraffic (old new : Exchange) : Type 0 where
  pub traffic : traffic_in new ≡ traffic_in old
  pub last : last_in new ≡ last_in old

-- nothing was counted so far
pub record NoCounts (exchange : Exchange) : Type 0 where
  pub faults : (session : ℕ) → faults_in exchange session ≡ 0
  pub ends : (session : ℕ) → ends_in exchange session ≡ 0

-- the counts are as they were
pub record SameCounts (old new : Exchange) : Type 0 where
  pub faults : (session : ℕ) → faults_in new session ≡ faults_in old session
  pub ends : (session : ℕ) → ends_in new session ≡ ends_in old session

-- a session's fault was counted, and nothing else
pub record CountsFault (number : ℕ) (old new : Exchange) : Type 0 where
  pub rose : faults_in new number ≡ next (faults_in old number)
  pub faults : (session : ℕ) → faults_in old session ≤ faults_in new session
  pub others : (other : ℕ) → (number == other) ≡ false → faults_in new other ≡ faults_in old other
  pub ends : (session : ℕ) → ends_in new session ≡ ends_in old session

-- a session's end was counted, and nothing else
pub record CountsEnd (number : ℕ) (old new : Exchange) : Type 0 where
  pub rose : ends_in new number ≡ next (ends_in old number)
  pub ends : (session : ℕ) → ends_in old session ≤ ends_in new session
  pub others : (other : ℕ) → (number == other) ≡ false → ends_in new other ≡ ends_in old other
  pub faults : (session : ℕ) → faults_in new session ≡ faults_in old session
