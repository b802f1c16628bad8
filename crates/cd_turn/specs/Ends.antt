-- What a crash may leave of a home's journal, and how a turn ends the run.
use Rattle.std.specs.Prelude.{◌≡◌, ◌⊎◌, ℕ, ◌+◌, ◌^◌, ◌<◌, ◌≤◌, List, [], ◌∷◌, ◌++◌, length, sum_by, Option, Some, None}
use Rattle.cd_entries.specs.declared.entry.Entry.{Entry}
use Rattle.cd_entries.specs.Entry.{entry_bytes}
use Rattle.cd_outside.specs.Streams.{TookFront}
use Rattle.cd_turn.specs.Home.{IsJournal}
use Rattle.cd_turn.specs.declared.status.Status.{Status}
use Rattle.cd_turn.specs.declared.status.Status.TheVariants.{Unfit, DiskFault, JournalFull, SinkFault, NoMemory}

-- The journal's bytes that a crash may leave of a home with these entries where nothing is added to them: just those of the
-- entries. Where this entry is added: those of the entries, or those of the entries with it behind them; and where there was no
-- journal yet, a stop while it is made may leave up to nine bytes of any kind.
abbrev pub MayLeave : Type 0 → List Entry → Option Entry → List ℕ → Type 0
MayLeave fresh entries None image = IsJournal entries image
MayLeave fresh entries (Some e) image = IsJournal entries image ⊎ (IsJournal (entries ++ e ∷ []) image ⊎ (fresh × (entries ≡ []) × (length image ≤ 9)))

-- The length of a journal of these entries: the header, a gate, a length and the body of each, and the closed gate.
abbrev pub journal_length : List Entry → ℕ
journal_length entries = 9 + sum_by (λ e. 5 + length (entry_bytes e)) entries

-- the entry fits into the journal behind these; where there is none, it does
abbrev pub FitsBehind : List Entry → Option Entry → Type 0
FitsBehind entries None = Unit {0}
FitsBehind entries (Some e) = journal_length entries + 5 + length (entry_bytes e) ≤ 2 ^ 30

-- There is an entry that doesn't fit behind a journal of this length, which is that of these entries where the disk tells.
abbrev pub IsFull : Type 0 → List Entry → Option Entry → ℕ → Type 0
IsFull told entries entry len = (e : Entry) × (entry ≡ Some e) × (2 ^ 30 < len + 5 + length (entry_bytes e)) × (told → len ≡ journal_length entries)

-- Why a turn that adds this entry to these ended the run: the disk failed; the journal's bytes weren't those that it told;
-- the entry doesn't fit; the output failed; memory ran out. Where a device failed, the entry fits.
abbrev pub HasReason : Type 0 → Type 0 → Type 0 → List Entry → Option Entry → Status → Type 0
HasReason told disk sink entries entry DiskFault = disk × (told → FitsBehind entries entry)
HasReason told disk sink entries entry (Unfit at) = told → ⊥
HasReason told disk sink entries entry (JournalFull len) = IsFull told entries entry len
HasReason told disk sink entries entry SinkFault = sink × (told → FitsBehind entries entry)
HasReason told disk sink entries entry NoMemory = Unit {0}
HasReason told disk sink entries entry _ = ⊥

-- What the output took of the line of a turn that ended the run: a front of it where the output failed, and else nothing.
abbrev pub TookAtEnd : Status → List ℕ → List ℕ → List ℕ → Type 0
TookAtEnd SinkFault line before now = TookFront before line now
TookAtEnd _ line before now = now ≡ before
