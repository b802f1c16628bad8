-- What a ledger of files shows.
use Rattle.std.specs.Prelude.{ℕ, ◌+◌, ◌-◌, min, max, List, length}
use Rattle.cd_outside.specs.Files.{FilesState}
use Rattle.cd_memory_state.specs.Log.{log_state, log_calls_left, log_bytes_left}
use Rattle.cd_memory_state.specs.declared.ledger.Ledger.{Ledger}

-- the shelf, and the changing calls so far
abbrev pub ledger_state : Ledger → FilesState
ledger_state ledger = log_state ledger.log

-- for how many further changing calls it has room, and for how many bytes in all
abbrev pub ledger_calls_left : Ledger → ℕ
ledger_calls_left ledger = min (log_calls_left ledger.log) ledger.cabinet.files_left

abbrev pub ledger_bytes_left : Ledger → ℕ
ledger_bytes_left ledger = min (log_bytes_left ledger.log) ledger.cabinet.bytes_left

-- The names that have a file, in the order of their bytes.
abbrev pub ledger_names : Ledger → List (List ℕ)
ledger_names ledger = ledger.cabinet.names
