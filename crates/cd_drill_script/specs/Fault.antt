-- When each fault of a script comes.
use Rattle.std.specs.Prelude.{◌≡◌, ℕ, ◌+◌, List, [], ◌++◌, length, Option, Some, None, Ok, Err}
use Rattle.cd_drill_script.specs.declared.script.ScriptFault.{ScriptFault}
use Rattle.cd_drill_script.specs.declared.script.ScriptFault.TheVariants.{ScriptText, NoMemory}
use Rattle.cd_drill_script.specs.Script.{Order, Orders, lines_of}

-- it tells the first line that is none; want of memory has no cause
abbrev pub IsFaultOf : Orders → ScriptFault → Type 0
IsFaultOf orders (ScriptText at) = orders ≡ Err at
IsFaultOf orders NoMemory = Unit {0}

-- the lines of what is left of a text
abbrev pub lines_left : Option (List ℕ) → List (List ℕ)
lines_left None = []
lines_left (Some text) = lines_of text

-- orders in front of others
abbrev pub with_orders : List (ℕ × Order) → Orders → Orders
with_orders front (Ok more) = Ok (front ++ more)
with_orders front (Err at) = Err at

-- how many bytes are left, with a line feed behind each line
abbrev pub left_size : Option (List ℕ) → ℕ
left_size None = 0
left_size (Some text) = length text + 1
