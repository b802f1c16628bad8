-- What a log of files shows.
use Rattle.std.specs.Prelude.{ℕ, ◌-◌, min, vec_len, vec_capacity}
use Rattle.cd_outside.specs.Files.{FilesState}
use Rattle.cd_memory_state.specs.Steps.{stepped, no_files}
use Rattle.cd_memory_state.specs.declared.log.Log.{Log}

-- the state that its calls lead to
abbrev pub log_state : Log → FilesState
log_state log = stepped log.steps.items log.names.items log.bytes.items no_files

-- for how many further calls it has room, and for how many bytes in all
abbrev pub log_calls_left : Log → ℕ
log_calls_left log = min (vec_capacity log.steps - vec_len log.steps) (min log.names.parts_left log.bytes.parts_left)

abbrev pub log_bytes_left : Log → ℕ
log_bytes_left log = min log.names.bytes_left log.bytes.bytes_left
