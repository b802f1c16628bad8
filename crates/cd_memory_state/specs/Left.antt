-- The image that a crash leaves of a name.
use Rattle.std.specs.Prelude.{ℕ}
use Rattle.cd_memory_state.specs.FileImage.{file_left_by}
use Rattle.cd_memory_state.specs.Held.{SlotHeld, held_settled}

-- a crash left the image of that number, which is settled
abbrev pub left_slot : ℕ → SlotHeld → SlotHeld
left_slot image slot = record { name = slot.name; file = held_settled (file_left_by image slot.file.doubt slot.file.seen) }
