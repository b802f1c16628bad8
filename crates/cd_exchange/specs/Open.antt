-- What stands of a node between two calls, and what each call leaves of it.
use Rattle.std.specs.Prelude.{◌≡◌, ◌≢◌, ◌≤◌, ℕ, true, Option, Some, None, Result, Ok, Err}
use Rattle.cd_outside.specs.Counts.{Rose}
use Rattle.cd_outside.specs.Disk.{DiskState, last_of}
use Rattle.cd_outside.specs.Files.{FilesState, files_last_of}
use Rattle.cd_outside.specs.Lines.{LineCounts, NeverFell}
use Rattle.cd_journal.specs.Journal.{length_of}
use Rattle.cd_rules.specs.Processes.{latest}
use Rattle.cd_rules.specs.Legal.{is_legal}
use Rattle.cd_rules.specs.Steps.{Reading}
use Rattle.cd_effects.specs.Registry.{RegistryState, IsRegistry}
use Rattle.cd_effects.specs.declared.fault.Fault.{Fault}
use Rattle.cd_effects.specs.declared.fault.Fault.TheVariants as fault

-- the fault of an answer, where it has one
abbrev pub fault_in : {A : Type 0} → Result A Fault → Option Fault
fault_in (Ok value) = None
fault_in (Err why) = Some why

-- A journal is open: it is legal, and has no moment later than now; it has its header, no fault of the disk came since it was
-- opened, and it is the disk's, which was called at no later beat.
pub record IsOpenJournal (told : Type 0) (read : Reading) (now : ℕ) (held : RegistryState) (disk : DiskState) (beat : ℕ) : Type 0 where
  pub legal : is_legal read held.entries ≡ true
  pub on_time : latest held.entries ≤ now
  pub header : held.journal.has_header ≡ true
  pub sound : held.journal.sound ≡ true
  pub registry : told → IsRegistry held disk
  pub order : told → last_of disk.calls ≤ beat

-- What a call leaves of it: the same, but after a fault of the disk the journal has to be opened again. A journal that is full
-- has the length that was answered.
pub record StaysOpenJournal (told : Type 0) (read : Reading) (now : ℕ) (why : Option Fault) (held : RegistryState) (disk : DiskState) (beat : ℕ) : Type 0 where
  pub legal : is_legal read held.entries ≡ true
  pub on_time : latest held.entries ≤ now
  pub header : held.journal.has_header ≡ true
  pub sound : why ≢ Some fault.Disk → held.journal.sound ≡ true
  pub registry : told → why ≢ Some fault.Disk → IsRegistry held disk
  pub order : told → last_of disk.calls ≤ beat
  pub full : (len : ℕ) → why ≡ Some (fault.JournalFull len) → length_of held.journal ≡ len

-- A node is open: its journal is; its files were called at no later beat; and the session at hand is one that the lines made.
pub record IsOpen (disk_told files_told : Type 0) (read : Reading) (now : ℕ) (held : RegistryState) (disk : DiskState) (files : FilesState) (sid last beat : ℕ) : Type 0 where
  pub journal : IsOpenJournal disk_told read now held disk beat
  pub files_order : files_told → files_last_of files.calls ≤ beat
  pub from : 1 ≤ sid
  pub to : sid ≤ last

-- What a call leaves of it.
pub record StaysOpen (disk_told files_told : Type 0) (read : Reading) (now : ℕ) (why : Option Fault) (held : RegistryState) (disk : DiskState) (files : FilesState) (beat : ℕ) : Type 0 where
  pub journal : StaysOpenJournal disk_told read now why held disk beat
  pub files_order : files_told → files_last_of files.calls ≤ beat

-- What was counted so far: the faults of the disk and of the files, what the lines count, the newest session, and the beat.
pub record Counted : Type 0 where
  pub disk : ℕ
  pub files : ℕ
  pub lines : LineCounts
  pub last : ℕ
  pub beat : ℕ

abbrev pub counted : ℕ → ℕ → LineCounts → ℕ → ℕ → Counted
counted disk files lines last beat = record { disk = disk; files = files; lines = lines; last = last; beat = beat }

-- Each count and the beat went on: none fell; no session was made, and none was looked for.
pub record Advanced (before now : Counted) : Type 0 where
  pub beat : before.beat ≤ now.beat
  pub last : now.last ≡ before.last
  pub disk_later : before.disk ≤ now.disk
  pub files_later : before.files ≤ now.files
  pub lines_later : NeverFell before.lines now.lines
  pub nones : now.lines.nones ≡ before.lines.nones

-- A fault of a device is answered only where its count rose; of the lines, the count of this session.
pub record HasCause (why : Option Fault) (sid : ℕ) (before now : Counted) : Type 0 where
  pub disk : why ≡ Some fault.Disk → Rose before.disk now.disk
  pub files : why ≡ Some fault.Files → Rose before.files now.files
  pub line : why ≡ Some fault.Line → Rose (before.lines.faults sid) (now.lines.faults sid)
