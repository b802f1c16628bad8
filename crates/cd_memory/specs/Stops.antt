-- What is to come of a changing call of a device that stops at a beat.
use Rattle.std.specs.Prelude.{ℕ, ◌+◌, Bool, false, ◌&&◌, if◌then◌else◌, nat_lt, nat_le, ◌==◌, Option, Some, None}
use Rattle.cd_memory.specs.declared.fate.Fate.{Fate}
use Rattle.cd_memory.specs.declared.fate.Fate.TheVariants.{Done, UnderWay, Nothing}

-- the beat can be raised
abbrev pub can_raise : ℕ → Bool
can_raise beat = nat_lt (beat + 1) 18446744073709551616

-- the stop comes within this call or came before it
abbrev pub is_stopping : Option ℕ → ℕ → Bool
is_stopping None beat = false
is_stopping (Some at) beat = can_raise beat && nat_le at (beat + 1)

-- A call at whose begin the beat is this, and which fails where the script says so: one that can't raise the beat comes
-- to nothing, that which raises it to the stop's is under way at the stop, and later ones come to nothing.
abbrev pub fate_of : Option ℕ → ℕ → Bool → Fate
fate_of None beat fails = if can_raise beat then (if fails then Nothing else Done) else Nothing
fate_of (Some at) beat fails = if can_raise beat then (if nat_le at (beat + 1) then (if at == beat + 1 then UnderWay else Nothing) else (if fails then Nothing else Done)) else Nothing
