-- What steady lines in memory show.
use Rattle.std.specs.Prelude.{ℕ, ◌≡◌, ◌≤◌, List}
use Rattle.cd_outside.specs.Lines.{Traffic, LineCounts}
use Rattle.cd_memory_state.specs.Pieces.{PieceHeld}
use Rattle.cd_memory_state.specs.Roll.{roll_traffic, roll_last, roll_faults, roll_ends, roll_calls_left, roll_bytes_left}
use Rattle.cd_memory.specs.declared.steady_lines.SteadyLines.{SteadyLines}

-- the bytes of each session, and the order of the sends
abbrev pub traffic_of : SteadyLines → Traffic
traffic_of lines = roll_traffic lines.roll

-- the number of the newest session
abbrev pub last_of : SteadyLines → ℕ
last_of lines = roll_last lines.roll

-- what they count
abbrev pub counts_of : SteadyLines → LineCounts
counts_of lines = record { faults = roll_faults lines.roll; connects = lines.connects; accepts = lines.accepts; ends = roll_ends lines.roll; nones = lines.nones }

-- how many sessions wait to be accepted
abbrev pub waiting_of : SteadyLines → ℕ
waiting_of lines = lines.waiting

-- the pieces that are offered, in the order of the offers
abbrev pub pieces_of : SteadyLines → List PieceHeld
pieces_of lines = lines.pieces.items

-- for how many further calls they have room, and for how many bytes
abbrev pub calls_left : SteadyLines → ℕ
calls_left lines = roll_calls_left lines.roll

abbrev pub bytes_left : SteadyLines → ℕ
bytes_left lines = roll_bytes_left lines.roll

-- no fault was counted
abbrev pub FaultsStay : LineCounts → LineCounts → Type 0
FaultsStay before now = ((session : ℕ) → now.faults session ≡ before.faults session) × (now.connects ≡ before.connects) × (now.accepts ≡ before.accepts)

-- all but the waiting sessions and the pieces is as it was, and there is no less room
pub record SameSessions (old new : SteadyLines) : Type 0 where
  pub traffic : traffic_of new ≡ traffic_of old
  pub last : last_of new ≡ last_of old
  pub counts : counts_of new ≡ counts_of old
  pub calls : calls_left old ≤ calls_left new
  pub bytes : bytes_left old ≤ bytes_left new
