-- What is said of each fault that a call may answer.
use Rattle.std.specs.Prelude.{ℕ, Bool, false, Result, Err, ⊤}
use Rattle.cd_journal.specs.declared.fault.JournalFault.{JournalFault}
use Rattle.cd_journal.specs.declared.fault.JournalFault.TheVariants.{Disk, Full, Unfit, NoMemory}

-- P where the answer is Disk
abbrev pub OnDisk : {T : Type 0} → Result T JournalFault → Type 0 → Type 0
OnDisk (Err Disk) P = P
OnDisk result P = ⊤

-- P of the length that Full tells
abbrev pub IfFull : {T : Type 0} → Result T JournalFault → (ℕ → Type 0) → Type 0
IfFull (Err (Full len)) P = P len
IfFull result P = ⊤

-- P of the place that Unfit tells
abbrev pub IfUnfit : {T : Type 0} → Result T JournalFault → (ℕ → Type 0) → Type 0
IfUnfit (Err (Unfit at)) P = P at
IfUnfit result P = ⊤

-- P where the answer is NoMemory
abbrev pub OnNoMemory : {T : Type 0} → Result T JournalFault → Type 0 → Type 0
OnNoMemory (Err NoMemory) P = P
OnNoMemory result P = ⊤

-- whether a journal is sound after a call that answered so: no longer after Disk, else as it was
abbrev pub sound_after : {T : Type 0} → Result T JournalFault → Bool → Bool
sound_after (Err Disk) was = false
sound_after result was = was
