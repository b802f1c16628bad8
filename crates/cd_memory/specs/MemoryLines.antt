-- What lines in memory show.
use Rattle.std.specs.Prelude.{ℕ, ◌≡◌, ◌==◌, Bool, List}
use Rattle.std.specs.List.{list_any}
use Rattle.cd_outside.specs.Counts.{next}
use Rattle.cd_outside.specs.Lines.{Traffic, LineCounts}
use Rattle.cd_memory_state.specs.Exchange.{traffic_in, last_in, faults_in, ends_in}
use Rattle.cd_memory_state.specs.Pieces.{PieceHeld}
use Rattle.cd_memory.specs.declared.lines.MemoryLines.{MemoryLines}

-- the bytes of each session, and the order of the sends
abbrev pub traffic_of : MemoryLines → Traffic
traffic_of lines = traffic_in lines.exchange

-- the number of the newest session
abbrev pub last_of : MemoryLines → ℕ
last_of lines = last_in lines.exchange

-- what they count
abbrev pub counts_of : MemoryLines → LineCounts
counts_of lines = record { faults = faults_in lines.exchange; connects = lines.connects; accepts = lines.accepts; ends = ends_in lines.exchange; nones = lines.nones }

-- the numbers of the calls that fail, and of the calls so far
abbrev pub lines_script : MemoryLines → List ℕ
lines_script lines = lines.tally.script

abbrev pub lines_calls : MemoryLines → ℕ
lines_calls lines = lines.tally.calls

-- a call found no memory
abbrev pub are_starved : MemoryLines → Bool
are_starved lines = lines.tally.starved

-- how many sessions wait to be accepted
abbrev pub waiting_of : MemoryLines → ℕ
waiting_of lines = lines.waiting

-- connections are refused
abbrev pub are_refusing : MemoryLines → Bool
are_refusing lines = lines.refusing

-- the pieces that are offered, in the order of the offers
abbrev pub pieces_of : MemoryLines → List PieceHeld
pieces_of lines = lines.pieces.items

-- the script says that the next call fails
abbrev pub lines_fail_next : MemoryLines → Bool
lines_fail_next lines = list_any (λ n. n == next (lines_calls lines)) (lines_script lines)

-- all but the script, the waiting sessions, the refusing and the pieces is as it was
pub record SameSessions (old new : MemoryLines) : Type 0 where
  pub traffic : traffic_of new ≡ traffic_of old
  pub last : last_of new ≡ last_of old
  pub counts : counts_of new ≡ counts_of old
  pub calls : lines_calls new ≡ lines_calls old
  pub starved : are_starved new ≡ are_starved old
