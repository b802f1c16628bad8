-- What holds of an answer of the journal.
use Rattle.std.proofs.Common.{ℕ, Result, Ok, Err}
use Rattle.std.specs.Prelude.{OnOk}
use Rattle.cd_journal.specs.Fault.{OnDisk, IfFull}
use Rattle.cd_journal.specs.declared.fault.JournalFault.{JournalFault}
use Rattle.cd_journal.specs.declared.fault.JournalFault.TheVariants as fault

-- what holds of an answer holds of it after a step
pub on_ok : {A E : Type 0} (r : Result A E) (P Q : Type 0) → (P → Q) → OnOk r P → OnOk r Q
on_ok (Ok x) P Q step h = step h
on_ok (Err e) P Q step h = tt

pub ok_any : {A E : Type 0} (r : Result A E) (P : Type 0) → P → OnOk r P
ok_any (Ok x) P h = h
ok_any (Err e) P h = tt

pub on_disk : {A : Type 0} (r : Result A JournalFault) (P Q : Type 0) → (P → Q) → OnDisk r P → OnDisk r Q
on_disk (Ok x) P Q step h = tt
on_disk (Err fault.Disk) P Q step h = step h
on_disk (Err (fault.Full n)) P Q step h = tt
on_disk (Err (fault.Unfit at)) P Q step h = tt
on_disk (Err fault.NoMemory) P Q step h = tt

pub disk_any : {A : Type 0} (r : Result A JournalFault) (Q : Type 0) → Q → OnDisk r Q
disk_any (Ok x) Q h = tt
disk_any (Err fault.Disk) Q h = h
disk_any (Err (fault.Full n)) Q h = tt
disk_any (Err (fault.Unfit at)) Q h = tt
disk_any (Err fault.NoMemory) Q h = tt

pub if_full : {A : Type 0} (r : Result A JournalFault) (P Q : ℕ → Type 0) → ((n : ℕ) → P n → Q n) → IfFull r P → IfFull r Q
if_full (Ok x) P Q step h = tt
if_full (Err fault.Disk) P Q step h = tt
if_full (Err (fault.Full n)) P Q step h = step n h
if_full (Err (fault.Unfit at)) P Q step h = tt
if_full (Err fault.NoMemory) P Q step h = tt
