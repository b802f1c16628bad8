-- Where the pieces of a copy end: for a length, a block, an interval (0 where there are no marks) and the offset at which
-- the sending starts.
use Rattle.std.specs.Prelude.{ℕ, ◌+◌, ◌-◌, ◌*◌, ◌/◌, ◌%◌, max, Bool, ◌&&◌, ◌||◌, if◌then◌else◌, nat_lt, nat_le, ◌==◌, zero, suc}

-- From where the blocks before a place are counted: from the greatest of the start and the multiples of the interval
-- below the place.
abbrev pub counted_from : ℕ → ℕ → ℕ → ℕ
counted_from interval start place = if interval == 0 then start else max start ((place - 1) / interval * interval)

-- A place behind the start is a cut where it is the length, or a multiple of the interval, or a whole number of blocks
-- behind the place that the blocks are counted from.
abbrev pub is_cut : ℕ → ℕ → ℕ → ℕ → ℕ → Bool
is_cut len block interval start place =
    nat_lt start place && nat_le place len && (place == len || (nat_lt 0 interval && (place % interval == 0)) || ((place - counted_from interval start place) % block == 0))

-- how many cuts there are up to a place
abbrev pub cuts_to : ℕ → ℕ → ℕ → ℕ → ℕ → ℕ
cuts_to len block interval start zero = 0
cuts_to len block interval start (suc place) = cuts_to len block interval start place + (if is_cut len block interval start (suc place) then 1 else 0)

-- how many pieces a copy has that starts at 0
abbrev pub pieces : ℕ → ℕ → ℕ → ℕ
pieces len block interval = cuts_to len block interval 0 len
