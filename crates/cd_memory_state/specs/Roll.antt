-- What a roll of sessions shows.
use Rattle.std.specs.Prelude.{ℕ, ◌-◌, ◌≡◌, ◌≤◌, ◌==◌, false, min, length, vec_len, vec_capacity}
use Rattle.cd_outside.specs.Counts.{next}
use Rattle.cd_outside.specs.Lines.{Traffic}
use Rattle.cd_memory_state.specs.Numbered.{count_of, numbered}
use Rattle.cd_memory_state.specs.declared.roll.Roll.{Roll}

-- the bytes of each session, and the order of the sends
abbrev pub roll_traffic : Roll → Traffic
roll_traffic roll = numbered roll.taken.items roll.given.items roll.sends.items

-- the number of the newest session
abbrev pub roll_last : Roll → ℕ
roll_last roll = length roll.given.items

-- the counts of each session
abbrev pub roll_faults : Roll → ℕ → ℕ
roll_faults roll = count_of roll.faults.items

abbrev pub roll_ends : Roll → ℕ → ℕ
roll_ends roll = count_of roll.ends.items

-- for how many further calls it has room, and for how many bytes in all
abbrev pub roll_calls_left : Roll → ℕ
roll_calls_left roll =
    min (min roll.given.parts_left roll.taken.parts_left) (min (min (vec_capacity roll.faults - vec_len roll.faults) (vec_capacity roll.ends - vec_len roll.ends)) (vec_capacity roll.sends - vec_len roll.sends))

abbrev pub roll_bytes_left : Roll → ℕ
roll_bytes_left roll = min roll.given.bytes_left roll.taken.bytes_left

-- nothing was counted so far
pub record NoRollCounts (roll : Roll) : Type 0 where
  pub faults : (session : ℕ) → roll_faults roll session ≡ 0
  pub ends : (session : ℕ) → roll_ends roll session ≡ 0

-- the counts are as they were
pub record SameRollCounts (old new : Roll) : Type 0 where
  pub faults : (session : ℕ) → roll_faults new session ≡ roll_faults old session
  pub ends : (session : ℕ) → roll_ends new session ≡ roll_ends old session

-- all but the counts is as it was
pub record SameRoll (old new : Roll) : Type 0 where
  pub traffic : roll_traffic new ≡ roll_traffic old
  pub last : roll_last new ≡ roll_last old
  pub calls : roll_calls_left new ≡ roll_calls_left old
  pub bytes : roll_bytes_left new ≡ roll_bytes_left old

-- a session's fault was counted, and nothing else
pub record CountsRollFault (number : ℕ) (old new : Roll) : Type 0 where
  pub rose : roll_faults new number ≡ next (roll_faults old number)
  pub faults : (session : ℕ) → roll_faults old session ≤ roll_faults new session
  pub others : (other : ℕ) → (number == other) ≡ false → roll_faults new other ≡ roll_faults old other
  pub ends : (session : ℕ) → roll_ends new session ≡ roll_ends old session

-- a session's end was counted, and nothing else
pub record CountsRollEnd (number : ℕ) (old new : Roll) : Type 0 where
  pub rose : roll_ends new number ≡ next (roll_ends old number)
  pub ends : (session : ℕ) → roll_ends old session ≤ roll_ends new session
  pub others : (other : ℕ) → (number == other) ≡ false → roll_ends new other ≡ roll_ends old other
  pub faults : (session : ℕ) → roll_faults new session ≡ roll_faults old session
