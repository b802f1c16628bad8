-- What is replied to a command of a drill.
use Rattle.std.specs.Prelude.{ℕ, List, ◌∷◌, [], ◌++◌, codes}
use Rattle.std.specs.Fmt.{decimal}
use Rattle.cd_ast.specs.declared.fault.FaultName.{FaultName}
use Rattle.cd_ast.specs.declared.fault.FaultName.TheVariants as name
use Rattle.cd_operator.specs.declared.reply.Refused.{Refused}
use Rattle.cd_operator.specs.declared.reply.Refused.TheVariants as refused
use Rattle.cd_operator.specs.declared.reply.Reply.{Reply}
use Rattle.cd_operator.specs.declared.reply.Reply.TheVariants as reply

-- the word of a fault
abbrev pub fault_word : FaultName → List ℕ
fault_word name.TooLong = codes "TooLong"
fault_word name.Unresolved = codes "Unresolved"
fault_word name.BadByte = codes "BadByte"
fault_word name.OpenQuote = codes "OpenQuote"
fault_word name.OpenComment = codes "OpenComment"
fault_word name.Unexpected = codes "Unexpected"
fault_word name.Range = codes "Range"
fault_word name.TooMany = codes "TooMany"
fault_word name.DoubleLabel = codes "DoubleLabel"
fault_word name.NoLabel = codes "NoLabel"
fault_word name.Backward = codes "Backward"
fault_word name.IntoIf = codes "IntoIf"
fault_word name.Unclosed = codes "Unclosed"
fault_word name.SameSide = codes "SameSide"
fault_word name.RetainStart = codes "RetainStart"
fault_word name.Word = codes "Word"
fault_word name.Unfinished = codes "Unfinished"
fault_word name.ScriptText = codes "ScriptText"

-- a fault, and its place
abbrev pub text_line : List ℕ → ℕ → List ℕ
text_line word at = codes "REFUSED TEXT " ++ word ++ codes " " ++ decimal at ++ 10 ∷ []

-- why a command was refused
abbrev pub refused_line : Refused → List ℕ
refused_line (refused.Text why at) = text_line (fault_word why) at
refused_line refused.NotYet = codes "REFUSED NOTYET" ++ 10 ∷ []
refused_line refused.NotHome = codes "REFUSED NOTHOME" ++ 10 ∷ []
refused_line refused.AlreadyHome = codes "REFUSED ALREADYHOME" ++ 10 ∷ []
refused_line refused.NoNode = codes "REFUSED NONODE" ++ 10 ∷ []
refused_line refused.Full = codes "REFUSED FULL 4096" ++ 10 ∷ []
refused_line refused.NumbersSpent = codes "REFUSED NUMBERSSPENT" ++ 10 ∷ []

abbrev pub home_line : List ℕ → ℕ → List ℕ
home_line name home = codes "HOME " ++ name ++ codes " " ++ decimal home ++ 10 ∷ []

abbrev pub number_line : ℕ → List ℕ
number_line n = codes "PROCESS " ++ decimal n ++ codes " SUBMITTED" ++ 10 ∷ []

-- the line of a reply
abbrev pub reply_line : Reply → List ℕ
reply_line (reply.Home name home) = home_line name home
reply_line (reply.Submitted n) = number_line n
reply_line (reply.Refused why) = refused_line why
