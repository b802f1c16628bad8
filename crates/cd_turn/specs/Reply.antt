-- The text of each reply: a line, or the lines of a canonical text or of a report.
use Rattle.std.specs.Prelude.{ℕ, List, [], ◌∷◌, ◌++◌, codes, Bool, true, false}
use Rattle.std.specs.Fmt.{decimal}
use Rattle.cd_ast.specs.declared.fault.FaultName.{FaultName}
use Rattle.cd_ast.specs.declared.fault.FaultName.TheVariants as name
use Rattle.cd_turn.specs.declared.reply.Reply.{Reply}
use Rattle.cd_turn.specs.declared.reply.Reply.TheVariants.{Home, Submitted, Viewed, Reported, Stopped, Refused}
use Rattle.cd_turn.specs.declared.reply.Refusal.{Refusal}
use Rattle.cd_turn.specs.declared.reply.Refusal.TheVariants.{Text, NotYet, NotHome, AlreadyHome, NoFile, FileFault, NoNode, Full}

-- a line with this text
abbrev pub line : List ℕ → List ℕ
line text = text ++ 10 ∷ []

-- how a fault is called
unfoldable pub fault_word : FaultName → List ℕ
fault_word name.TooLong = codes "TooLong"
fault_word name.Unresolved = codes "Unresolved"
fault_word name.BadByte = codes "BadByte"
fault_word name.OpenQuote = codes "OpenQuote"
fault_word name.OpenComment = codes "OpenComment"
fault_word name.Unexpected = codes "Unexpected"
fault_word name.Range = codes "Range"
fault_word name.TooMany = codes "TooMany"
fault_word name.DoubleLabel = codes "DoubleLabel"
fault_word name.NoLabel = codes "NoLabel"
fault_word name.Backward = codes "Backward"
fault_word name.IntoIf = codes "IntoIf"
fault_word name.Unclosed = codes "Unclosed"
fault_word name.SameSide = codes "SameSide"
fault_word name.RetainStart = codes "RetainStart"
fault_word name.Word = codes "Word"
fault_word name.Unfinished = codes "Unfinished"
fault_word name.ScriptText = codes "ScriptText"

abbrev pub refusal_text : Refusal → List ℕ
refusal_text (Text fault at) = codes "TEXT " ++ fault_word fault ++ codes " " ++ decimal at
refusal_text NoNode = codes "NONODE"
refusal_text NotYet = codes "NOTYET"
refusal_text NotHome = codes "NOTHOME"
refusal_text AlreadyHome = codes "ALREADYHOME"
refusal_text (NoFile name) = codes "NOFILE " ++ name
refusal_text FileFault = codes "FILEFAULT"
refusal_text (Full most) = codes "FULL " ++ decimal most

abbrev pub reply_text : Reply → List ℕ
reply_text (Home name home) = line (codes "HOME " ++ name ++ codes " " ++ decimal home)
reply_text (Submitted number) = line (codes "PROCESS " ++ decimal number ++ codes " SUBMITTED")
reply_text (Viewed text) = text
reply_text (Reported report) = report
reply_text Stopped = line (codes "STOPPED")
reply_text (Refused refusal) = line (codes "REFUSED " ++ refusal_text refusal)

-- the command was refused
abbrev pub is_refused : Reply → Bool
is_refused (Refused refusal) = true
is_refused _ = false
