-- What a script is: lines, each of which asks for something, or is skipped.
use Rattle.std.specs.Prelude.{ℕ, ◌+◌, List, [], ◌∷◌, ◌++◌, length, codes, Bool, true, false, ◌==◌, nat_le, nat_lt, if◌then◌else◌, Option, Some, None, Result, Ok, Err}
use Rattle.std.specs.Str.{bytes_eq}
use Rattle.cd_types.specs.Format.{◌>>=◌}
use Rattle.cd_types.specs.FileName.{is_file_name}
use Rattle.cd_drill_script.specs.declared.order.Party.{Party}
use Rattle.cd_drill_script.specs.declared.order.Party.TheVariants.{A, B}
use Rattle.cd_drill_script.specs.Words.{ungapped, word_in, number_of, up_to, ended}

-- what a line asks for: at a node, the bytes of a file; how many bytes it is filled with; a command; or how many turns are made
pub data Order : Type 0 where
  Text : Party → List ℕ → List ℕ → Order
  Fill : Party → List ℕ → ℕ → Order
  Do : Party → List ℕ → Order
  Turn : ℕ → Order

-- the most bytes of a file that a script makes, and of a line
abbrev pub most_bytes : ℕ
most_bytes = 65535

abbrev pub most_line : ℕ
most_line = 70000

-- A or B
abbrev pub party_of : List ℕ → Option Party
party_of word = if bytes_eq word (codes "A") then Some A else if bytes_eq word (codes "B") then Some B else None

abbrev pub party_in : List ℕ → Option (Party × List ℕ)
party_in bytes = do
  word ← word_in bytes
  party ← party_of word.0
  Some (party, word.1)

-- a node, and a file's name
abbrev pub file_in : List ℕ → Option (Party × (List ℕ × List ℕ))
file_in bytes = do
  party ← party_in bytes
  name ← word_in party.1
  if is_file_name name.0 then Some (party.0, (name.0, name.1)) else None

-- all that stands behind one blank
abbrev pub behind_gap : List ℕ → Option (List ℕ)
behind_gap [] = None
behind_gap (gap ∷ rest) = if nat_le (length rest) most_bytes then Some rest else None

-- `text X NAME REST`
abbrev pub text_in : List ℕ → Option Order
text_in bytes = do
  file ← file_in bytes
  rest ← behind_gap file.1.1
  Some (Text file.0 file.1.0 rest)

-- `fill X NAME N`
abbrev pub fill_in : List ℕ → Option Order
fill_in bytes = do
  file ← file_in bytes
  word ← word_in file.1.1
  n ← number_of word.0
  count ← up_to most_bytes n
  ended (Fill file.0 file.1.0 count) word.1

-- `do X COMMAND`, where the command isn't one that a script may not have
abbrev pub do_in : (List ℕ → Bool) → List ℕ → Option Order
do_in reserved bytes = do
  party ← party_in bytes
  if reserved (ungapped party.1) then None else Some (Do party.0 (ungapped party.1))

-- `turn N`
abbrev pub turn_in : List ℕ → Option Order
turn_in bytes = do
  word ← word_in bytes
  n ← number_of word.0
  ended (Turn n) word.1

abbrev pub by_word : (List ℕ → Bool) → List ℕ → List ℕ → Option Order
by_word reserved word rest =
    if bytes_eq word (codes "text") then text_in rest
    else if bytes_eq word (codes "fill") then fill_in rest
    else if bytes_eq word (codes "do") then do_in reserved rest
    else if bytes_eq word (codes "turn") then turn_in rest else None

abbrev pub order_of : (List ℕ → Bool) → List ℕ → Option Order
order_of reserved line = do
  word ← word_in line
  by_word reserved word.0 word.1

-- a line without bytes, or one that begins with #
abbrev pub is_skipped : List ℕ → Bool
is_skipped [] = true
is_skipped (b ∷ line) = b == 35

-- The lines of a text: each ends at a line feed, and the last one may lack it.
abbrev pub onto_first : ℕ → List (List ℕ) → List (List ℕ)
onto_first b [] = (b ∷ []) ∷ []
onto_first b (line ∷ more) = (b ∷ line) ∷ more

unfoldable pub lines_of : List ℕ → List (List ℕ)
lines_of [] = [] ∷ []
lines_of (b ∷ text) = if b == 10 then [] ∷ lines_of text else onto_first b (lines_of text)

-- Its orders, each with the number of its line; or the place of the first line that is none and isn't skipped.
abbrev pub Orders : Type 0
Orders = Result (List (ℕ × Order)) ℕ

abbrev pub with_order : ℕ → Order → Orders → Orders
with_order n order (Ok more) = Ok ((n, order) ∷ more)
with_order n order (Err at) = Err at

abbrev pub with_line : ℕ → ℕ → Option Order → Orders → Orders
with_line at n None more = Err at
with_line at n (Some order) more = with_order n order more

unfoldable pub orders_from : (List ℕ → Bool) → ℕ → ℕ → List (List ℕ) → Orders
orders_from reserved at n [] = Ok []
orders_from reserved at n (line ∷ more) =
    let later = orders_from reserved (at + length line + 1) (n + 1) more in
    if nat_lt most_line (length line) then Err at
    else if is_skipped line then later
    else with_line at n (order_of reserved line) later

abbrev pub orders_of : (List ℕ → Bool) → List ℕ → Orders
orders_of reserved script = orders_from reserved 0 1 (lines_of script)
