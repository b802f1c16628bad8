-- What files in memory show.
use Rattle.std.specs.Prelude.{ℕ, ◌≡◌, ◌==◌, Bool, ◌||◌, true, List, Option}
use Rattle.std.specs.List.{list_any}
use Rattle.cd_outside.specs.Counts.{next}
use Rattle.cd_memory.specs.Stops.{fate_of, is_stopping}
use Rattle.cd_memory.specs.declared.fate.Fate.{Fate}
use Rattle.cd_memory.specs.declared.fate.Fate.TheVariants.{Nothing}
use Rattle.cd_outside.specs.Files.{FilesState}
use Rattle.cd_memory_state.specs.Shelves.{state_in, names_in}
use Rattle.cd_memory.specs.declared.files.MemoryFiles.{MemoryFiles}

-- what a read gives of each name, and what a crash may leave at each beat
abbrev pub state_of : MemoryFiles → FilesState
state_of files = state_in files.shelves

-- the names that have a file, in the order of their bytes
abbrev pub names_of : MemoryFiles → List (List ℕ)
names_of files = names_in files.shelves

-- the numbers of the calls that fail
abbrev pub script_of : MemoryFiles → List ℕ
script_of files = files.tally.script

-- the number of the calls so far
abbrev pub calls_of : MemoryFiles → ℕ
calls_of files = files.tally.calls

-- how often they failed
abbrev pub faults_of : MemoryFiles → ℕ
faults_of files = files.tally.faults

-- a call found no memory
abbrev pub is_starved : MemoryFiles → Bool
is_starved files = files.tally.starved

-- the beat of a stop
abbrev pub stop_of : MemoryFiles → Option ℕ
stop_of files = files.stop.at

-- a call met the stop
abbrev pub is_stopped : MemoryFiles → Bool
is_stopped files = files.stop.reached

-- all but one part is as it was, which is this
pub record ChangesState (old new : MemoryFiles) (held : FilesState) : Type 0 where
  pub state : state_of new ≡ held
  pub script : script_of new ≡ script_of old
  pub calls : calls_of new ≡ calls_of old
  pub faults : faults_of new ≡ faults_of old
  pub starved : is_starved new ≡ is_starved old
  pub stop : stop_of new ≡ stop_of old
  pub stopped : is_stopped new ≡ is_stopped old

pub record ChangesScript (old new : MemoryFiles) (failing : List ℕ) : Type 0 where
  pub state : state_of new ≡ state_of old
  pub script : script_of new ≡ failing
  pub calls : calls_of new ≡ calls_of old
  pub faults : faults_of new ≡ faults_of old
  pub starved : is_starved new ≡ is_starved old
  pub stop : stop_of new ≡ stop_of old
  pub stopped : is_stopped new ≡ is_stopped old

-- the script says that the next call fails
abbrev pub fails_next : MemoryFiles → Bool
fails_next files = list_any (λ n. n == next (calls_of files)) (script_of files)

-- what is to come of the next call, where it is a changing one and this is the beat at its begin
abbrev pub next_fate : MemoryFiles → ℕ → Fate
next_fate files beat = fate_of (stop_of files) beat (fails_next files)

-- a call that changes nothing was counted
pub record WasAsked (old new : MemoryFiles) : Type 0 where
  pub script : script_of new ≡ script_of old
  pub calls : calls_of new ≡ next (calls_of old)
  pub starved : is_starved new ≡ is_starved old
  pub stop : stop_of new ≡ stop_of old
  pub stopped : is_stopped new ≡ is_stopped old

-- A changing call was counted, and met the stop where that comes within it or came before it. Where it came to nothing,
-- as it was asked to, it found no want of memory.
pub record WasCalled (beat : ℕ) (old new : MemoryFiles) : Type 0 where
  pub script : script_of new ≡ script_of old
  pub calls : calls_of new ≡ next (calls_of old)
  pub starved : is_starved old ≡ true → is_starved new ≡ true
  pub fed : next_fate old beat ≡ Nothing → is_starved new ≡ is_starved old
  pub stop : stop_of new ≡ stop_of old
  pub stopped : is_stopped new ≡ (is_stopped old || is_stopping (stop_of old) beat)
