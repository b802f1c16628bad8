-- What a steady disk in memory shows.
use Rattle.std.specs.Prelude.{ℕ}
use Rattle.cd_outside.specs.Disk.{DiskState}
use Rattle.cd_memory.specs.declared.steady_disk.SteadyDisk.{SteadyDisk}

-- what a read gives, and what a crash may leave at each beat
abbrev pub steady_state : SteadyDisk → DiskState
steady_state disk = disk.content.state

-- how often it failed
abbrev pub steady_faults : SteadyDisk → ℕ
steady_faults disk = disk.faults

-- for how many further changing calls it has room, and for how many bytes
abbrev pub calls_left : SteadyDisk → ℕ
calls_left disk = disk.content.calls_left

abbrev pub bytes_left : SteadyDisk → ℕ
bytes_left disk = disk.content.bytes_left
