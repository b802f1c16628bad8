-- What a disk in memory shows.
use Rattle.std.specs.Prelude.{ℕ, ◌≡◌, ◌==◌, Bool, ◌||◌, true, List, Option}
use Rattle.std.specs.List.{list_any}
use Rattle.cd_outside.specs.Counts.{next}
use Rattle.cd_memory.specs.Stops.{fate_of, is_stopping}
use Rattle.cd_memory.specs.declared.fate.Fate.{Fate}
use Rattle.cd_memory.specs.declared.fate.Fate.TheVariants.{Nothing}
use Rattle.cd_outside.specs.Disk.{DiskState}
use Rattle.cd_memory.specs.declared.disk.MemoryDisk.{MemoryDisk}

-- what a read gives, and what a crash may leave at each beat
abbrev pub state_of : MemoryDisk → DiskState
state_of disk = disk.content.state

-- the numbers of the calls that fail
abbrev pub script_of : MemoryDisk → List ℕ
script_of disk = disk.tally.script

-- the number of the calls so far
abbrev pub calls_of : MemoryDisk → ℕ
calls_of disk = disk.tally.calls

-- how often it failed
abbrev pub faults_of : MemoryDisk → ℕ
faults_of disk = disk.tally.faults

-- a call found no memory
abbrev pub is_starved : MemoryDisk → Bool
is_starved disk = disk.tally.starved

-- the beat of a stop
abbrev pub stop_of : MemoryDisk → Option ℕ
stop_of disk = disk.stop.at

-- a call met the stop
abbrev pub is_stopped : MemoryDisk → Bool
is_stopped disk = disk.stop.reached

-- all but one part is as it was, which is this
pub record ChangesState (old new : MemoryDisk) (held : DiskState) : Type 0 where
  pub state : state_of new ≡ held
  pub script : script_of new ≡ script_of old
  pub calls : calls_of new ≡ calls_of old
  pub faults : faults_of new ≡ faults_of old
  pub starved : is_starved new ≡ is_starved old
  pub stop : stop_of new ≡ stop_of old
  pub stopped : is_stopped new ≡ is_stopped old

pub record ChangesScript (old new : MemoryDisk) (failing : List ℕ) : Type 0 where
  pub state : state_of new ≡ state_of old
  pub script : script_of new ≡ failing
  pub calls : calls_of new ≡ calls_of old
  pub faults : faults_of new ≡ faults_of old
  pub starved : is_starved new ≡ is_starved old
  pub stop : stop_of new ≡ stop_of old
  pub stopped : is_stopped new ≡ is_stopped old

-- the script says that the next call fails
abbrev pub fails_next : MemoryDisk → Bool
fails_next disk = list_any (λ n. n == next (calls_of disk)) (script_of disk)

-- what is to come of the next call, where it is a changing one and this is the beat at its begin
abbrev pub next_fate : MemoryDisk → ℕ → Fate
next_fate disk beat = fate_of (stop_of disk) beat (fails_next disk)

-- a call that changes nothing was counted
pub record WasAsked (old new : MemoryDisk) : Type 0 where
  pub script : script_of new ≡ script_of old
  pub calls : calls_of new ≡ next (calls_of old)
  pub starved : is_starved new ≡ is_starved old
  pub stop : stop_of new ≡ stop_of old
  pub stopped : is_stopped new ≡ is_stopped old

-- A changing call was counted, and met the stop where that comes within it or came before it. Where it came to nothing,
-- as it was asked to, it found no want of memory.
pub record WasCalled (beat : ℕ) (old new : MemoryDisk) : Type 0 where
  pub script : script_of new ≡ script_of old
  pub calls : calls_of new ≡ next (calls_of old)
  pub starved : is_starved old ≡ true → is_starved new ≡ true
  pub fed : next_fate old beat ≡ Nothing → is_starved new ≡ is_starved old
  pub stop : stop_of new ≡ stop_of old
  pub stopped : is_stopped new ≡ (is_stopped old || is_stopping (stop_of old) beat)
