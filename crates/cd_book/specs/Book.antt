-- What contracts see of a book. `read` gives the Process whose canonical text this is, where there is one.
use Rattle.std.specs.Prelude.{◌≡◌, List, [], ◌∷◌, ◌++◌, Bool, true, false, Option, Some, None}
use Rattle.cd_entries.specs.declared.entry.Entry.{Entry}
use Rattle.cd_entries.specs.declared.entry.Entry.TheVariants as entry
use Rattle.cd_ast.specs.declared.process.Process.{Process}
use Rattle.cd_rules.specs.Legal.{is_legal}
use Rattle.cd_rules.specs.Steps.{Reading}

-- the entries, the newest first, and whether one more fits without memory
pub record BookState : Type 0 where
  pub entries : List Entry
  pub room : Bool

-- what the text of a submission reads as
abbrev pub IsRead : Reading → Entry → Option Process → Type 0
IsRead read (entry.Submitted number moment origin card text) process = process ≡ read text
IsRead read _ process = Unit {0}

abbrev pub is_submission : Entry → Bool
is_submission (entry.Submitted number moment origin card text) = true
is_submission _ = false

abbrev pub listed : Option Process → List Process
listed None = []
listed (Some process) = process ∷ []

-- the Processes that were submitted, in their order
unfoldable pub processes_of : Reading → List Entry → List Process
processes_of read [] = []
processes_of read (entry.Submitted number moment origin card text ∷ journal) = processes_of read journal ++ listed (read text)
processes_of read (e ∷ journal) = processes_of read journal

-- the entries are legal, and these are their Processes
pub record AreKept (read : Reading) (entries : List Entry) (processes : List Process) : Type 0 where
  pub legal : is_legal read entries ≡ true
  pub processes_are : processes ≡ processes_of read entries
