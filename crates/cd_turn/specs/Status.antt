-- The line that ends a run.
use Rattle.std.specs.Prelude.{ℕ, List, [], ◌++◌, codes}
use Rattle.std.specs.Fmt.{decimal}
use Rattle.cd_turn.specs.Reply.{line}
use Rattle.cd_turn.specs.declared.status.Status.{Status}
use Rattle.cd_turn.specs.declared.status.Status.TheVariants.{Done, Usage, Refused, Unfit, DiskFault, JournalFull, SourceFault, SinkFault, InputLimit, NoMemory}

abbrev pub last_line : Status → List ℕ
last_line Done = []
last_line Usage = line (codes "USAGE cdnode [--echo] [--max-turns N]")
last_line Refused = []
last_line (Unfit at) = line (codes "UNFIT" ++ codes " " ++ decimal at)
last_line DiskFault = line (codes "DISK FAULT")
last_line (JournalFull len) = line (codes "JOURNAL FULL" ++ codes " " ++ decimal len)
last_line SourceFault = line (codes "INPUT FAULT")
last_line SinkFault = []
last_line InputLimit = line (codes "INPUT LIMIT")
last_line NoMemory = line (codes "NO MEMORY")

-- the exit status of the program
abbrev pub status_code : Status → ℕ
status_code Done = 0
status_code Usage = 1
status_code Refused = 2
status_code (Unfit at) = 6
status_code DiskFault = 7
status_code (JournalFull len) = 8
status_code SourceFault = 9
status_code SinkFault = 10
status_code InputLimit = 11
status_code NoMemory = 14
