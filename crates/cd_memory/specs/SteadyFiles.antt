-- What steady files in memory show.
use Rattle.std.specs.Prelude.{ℕ, List}
use Rattle.cd_outside.specs.Files.{FilesState}
use Rattle.cd_memory_state.specs.Ledger.{ledger_state, ledger_calls_left, ledger_bytes_left, ledger_names}
use Rattle.cd_memory.specs.declared.steady_files.SteadyFiles.{SteadyFiles}

-- what a read gives of each name, and what a crash may leave at each beat
abbrev pub steady_state : SteadyFiles → FilesState
steady_state files = ledger_state files.ledger

-- how often they failed
abbrev pub steady_faults : SteadyFiles → ℕ
steady_faults files = files.faults

-- for how many further changing calls they have room, and for how many bytes
abbrev pub calls_left : SteadyFiles → ℕ
calls_left files = ledger_calls_left files.ledger

abbrev pub bytes_left : SteadyFiles → ℕ
bytes_left files = ledger_bytes_left files.ledger

-- the names that have a file, in the order of their bytes
abbrev pub names_of : SteadyFiles → List (List ℕ)
names_of files = ledger_names files.ledger
