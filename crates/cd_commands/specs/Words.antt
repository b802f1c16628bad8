-- The words of commands: with which one begins, and which parameters it has.
use Rattle.std.specs.Prelude.{ℕ, List, [], ◌∷◌, Bool, true, false, codes, Option}
use Rattle.cd_grammar.specs.Words.{said_in, or_else}
use Rattle.cd_commands.specs.declared.kind.Kind.{Kind}
use Rattle.cd_commands.specs.declared.kind.Kind.TheVariants as kind
use Rattle.cd_commands.specs.declared.kind.Verb.{Verb}
use Rattle.cd_commands.specs.declared.kind.Verb.TheVariants as verb
use Rattle.cd_commands.specs.declared.kind.Lead.{Lead}
use Rattle.cd_commands.specs.declared.kind.Lead.TheVariants.{Alone, Two}
use Rattle.cd_commands.specs.declared.kind.Param.{Param}
use Rattle.cd_commands.specs.declared.kind.Param.TheVariants as param

-- the words with which a command begins
abbrev pub first_words : List (List ℕ × Lead)
first_words =
    (codes "init", Alone kind.Init) ∷ (codes "submit", Alone kind.Submit) ∷ (codes "work", Alone kind.Work) ∷ (codes "serve", Alone kind.Serve) ∷ (codes "drill", Alone kind.Drill) ∷ (codes "stop", Alone kind.Stop) ∷ (codes "view", Two verb.View) ∷ (codes "select", Two verb.Select) ∷ (codes "change", Two verb.Change) ∷ (codes "delete", Two verb.Delete) ∷ (codes "flush", Two verb.Flush) ∷ (codes "release", Two verb.Release) ∷ []

unfoldable pub lead_in : List ℕ → Option Lead
lead_in word = said_in first_words word

-- the words that may stand behind such a first word
abbrev pub second_words : Verb → List (List ℕ × Kind)
second_words verb.View = (codes "process", kind.View) ∷ []
second_words verb.Select = (codes "process", kind.SelectProcess) ∷ (codes "statistics", kind.SelectStatistics) ∷ []
second_words verb.Change = (codes "process", kind.Change) ∷ []
second_words verb.Delete = (codes "process", kind.Delete) ∷ []
second_words verb.Flush = (codes "process", kind.Flush) ∷ []
second_words verb.Release = (codes "receive", kind.Release) ∷ []

unfoldable pub kind_in : Verb → List ℕ → Option Kind
kind_in v word = said_in (second_words v) word

-- the parameters that take the place of those of PROCESS
abbrev pub option_words : List (List ℕ × Param)
option_words =
    (codes "snode", param.Snode) ∷ (codes "prty", param.Prty) ∷ (codes "class", param.Class) ∷ (codes "hold", param.Hold) ∷ (codes "retain", param.Retain) ∷ (codes "startt", param.Startt) ∷ []

-- all others
abbrev pub other_words : List (List ℕ × Param)
other_words =
    (codes "name", param.Name) ∷ (codes "home", param.Home) ∷ (codes "file", param.File) ∷ (codes "pnumber", param.Pnumber) ∷ (codes "queue", param.Queue) ∷ (codes "release", param.Release) ∷ (codes "sessions", param.Sessions) ∷ (codes "together", param.Together) ∷ (codes "turns", param.Turns) ∷ (codes "generate", param.Generate) ∷ (codes "count", param.Count) ∷ []

unfoldable pub param_in : List ℕ → Option Param
param_in word = or_else (said_in option_words word) (said_in other_words word)

-- the parameters of each command
unfoldable pub init_takes : Param → Bool
init_takes param.Name = true
init_takes param.Home = true
init_takes _ = false

unfoldable pub submit_takes : Param → Bool
submit_takes param.File = true
submit_takes param.Snode = true
submit_takes param.Prty = true
submit_takes param.Class = true
submit_takes param.Hold = true
submit_takes param.Retain = true
submit_takes param.Startt = true
submit_takes _ = false

unfoldable pub file_alone : Param → Bool
file_alone param.File = true
file_alone _ = false

unfoldable pub number_alone : Param → Bool
number_alone param.Pnumber = true
number_alone _ = false

unfoldable pub select_takes : Param → Bool
select_takes param.Pnumber = true
select_takes param.Queue = true
select_takes _ = false

unfoldable pub change_takes : Param → Bool
change_takes param.Pnumber = true
change_takes param.Prty = true
change_takes param.Hold = true
change_takes param.Release = true
change_takes _ = false

unfoldable pub work_takes : Param → Bool
work_takes param.Sessions = true
work_takes param.Turns = true
work_takes _ = false

unfoldable pub serve_takes : Param → Bool
serve_takes param.Sessions = true
serve_takes param.Together = true
serve_takes param.Turns = true
serve_takes _ = false

unfoldable pub drill_takes : Param → Bool
drill_takes param.File = true
drill_takes param.Generate = true
drill_takes param.Count = true
drill_takes _ = false

unfoldable pub takes : Kind → Param → Bool
takes kind.Init p = init_takes p
takes kind.Submit p = submit_takes p
takes kind.View p = file_alone p
takes kind.SelectProcess p = select_takes p
takes kind.Change p = change_takes p
takes kind.Delete p = number_alone p
takes kind.Flush p = number_alone p
takes kind.SelectStatistics p = number_alone p
takes kind.Release p = file_alone p
takes kind.Work p = work_takes p
takes kind.Serve p = serve_takes p
takes kind.Drill p = drill_takes p
takes kind.Stop p = false

-- a command that gives values to symbolic names: &name=value
unfoldable pub takes_symbols : Kind → Bool
takes_symbols kind.Submit = true
takes_symbols kind.View = true
takes_symbols _ = false

-- A command in which the token behind a word says what the word is: an option where it is =, and else the first word of a
-- Process text.
unfoldable pub looks_ahead : Kind → Bool
looks_ahead kind.Submit = true
looks_ahead _ = false
