-- How a Process goes from statement to statement, and which steps it takes for the codes that they end with.
-- (Process Language Reference: IF THEN, ELSE, EIF, GOTO, EXIT.)
use Rattle.std.specs.Prelude.{ℕ, ◌+◌, ◌-◌, List, [], ◌∷◌, ◌++◌, length, drop, slice_get, Bool, true, false, not, ◌&&◌, ◌==◌, nat_lt, nat_le, Option, Some, None, if◌then◌else◌}
use Rattle.std.specs.Str.{bytes_eq}
use Rattle.cd_types.specs.declared.choices.Relation.{Relation}
use Rattle.cd_types.specs.declared.choices.Relation.TheVariants as relation
use Rattle.cd_ast.specs.declared.process.Stmt.{Stmt}
use Rattle.cd_ast.specs.declared.process.What.{What}
use Rattle.cd_ast.specs.declared.process.What.TheVariants as what

-- The statements behind the PROCESS statement have the places 0, 1, 2 and so on. The end is the place after the last.

-- COPY, RUN and SUBMIT are the actions
abbrev pub is_action : What → Bool
is_action (what.Copy step) = true
is_action (what.Task step) = true
is_action (what.Submit step) = true
is_action _ = false

-- Partners. Each looks through the statements behind an IF or an ELSE, the first of which stands at `here`, with so many
-- further IFs open there.

abbrev pub is_else : What → Bool
is_else what.Else = true
is_else _ = false

abbrev pub is_eif : What → Bool
is_eif what.Eif = true
is_eif _ = false

-- how many further IFs are open behind a statement
abbrev pub depth_behind : What → ℕ → ℕ
depth_behind (what.If label how number) depth = depth + 1
depth_behind what.Eif depth = depth - 1
depth_behind _ depth = depth

-- the EIF: the first one at the depth of the IF
unfoldable pub eif_from : List Stmt → ℕ → ℕ → Option ℕ
eif_from [] here depth = None
eif_from (s ∷ more) here depth =
    if is_eif s.what && depth == 0 then Some here else eif_from more (here + 1) (depth_behind s.what depth)

-- the ELSE: the one at the depth of the IF before its EIF, where there is one
unfoldable pub else_from : List Stmt → ℕ → ℕ → Option ℕ
else_from [] here depth = None
else_from (s ∷ more) here depth =
    if is_eif s.what && depth == 0 then None
    else if is_else s.what && depth == 0 then Some here else else_from more (here + 1) (depth_behind s.what depth)

abbrev pub eif_of : List Stmt → ℕ → Option ℕ
eif_of stmts place = eif_from (drop (place + 1) stmts) (place + 1) 0

abbrev pub else_of : List Stmt → ℕ → Option ℕ
else_of stmts place = else_from (drop (place + 1) stmts) (place + 1) 0

-- Conditions.

abbrev pub has_label : List ℕ → Option (List ℕ) → Bool
has_label label None = false
has_label label (Some own) = bytes_eq label own

-- the place of the first action with a label
unfoldable pub action_from : List Stmt → ℕ → List ℕ → Option ℕ
action_from [] here label = None
action_from (s ∷ more) here label = if is_action s.what && has_label label s.label then Some here else action_from more (here + 1) label

abbrev pub action_of : List Stmt → List ℕ → Option ℕ
action_of stmts label = action_from stmts 0 label

-- the code of the step at a place, in a list of places with their codes
unfoldable pub code_at : List (ℕ × ℕ) → ℕ → Option ℕ
code_at [] place = None
code_at (step ∷ steps) place = if step.0 == place then Some step.1 else code_at steps place

abbrev pub relates : Relation → ℕ → ℕ → Bool
relates relation.Eq code number = code == number
relates relation.Ne code number = not (code == number)
relates relation.Ge code number = nat_le number code
relates relation.Gt code number = nat_lt number code
relates relation.Le code number = nat_le code number
relates relation.Lt code number = nat_lt code number

-- a relation to the code of a step, which no relation is where the step has none
abbrev pub relates_to : Relation → Option ℕ → ℕ → Bool
relates_to how None number = false
relates_to how (Some code) number = relates how code number

abbrev pub code_of_action : List (ℕ × ℕ) → Option ℕ → Option ℕ
code_of_action codes None = None
code_of_action codes (Some place) = code_at codes place

-- the condition of an IF: the action with its label has a code, and the code relates so to the number
abbrev pub holds : List Stmt → List (ℕ × ℕ) → List ℕ → Relation → ℕ → Bool
holds stmts codes label how number = relates_to how (code_of_action codes (action_of stmts label)) number

-- Where the Process goes on.

-- the place behind another one, or the end where there is none
abbrev pub behind : List Stmt → Option ℕ → ℕ
behind stmts None = length stmts
behind stmts (Some place) = place + 1

-- behind the ELSE of an IF, or behind its EIF where it has no ELSE
abbrev pub behind_else : List Stmt → Option ℕ → Option ℕ → ℕ
behind_else stmts None eif = behind stmts eif
behind_else stmts (Some place) eif = place + 1

-- the place of the first statement with a label, or the end
unfoldable pub label_from : List Stmt → ℕ → List ℕ → ℕ
label_from [] here label = here
label_from (s ∷ more) here label = if has_label label s.label then here else label_from more (here + 1) label

-- from the statement at a place: an IF goes to the next place where its condition holds; an ELSE that is reached from above
-- goes behind its EIF; an action stays
abbrev pub go : List Stmt → List (ℕ × ℕ) → ℕ → What → ℕ
go stmts codes place (what.If label how number) =
    if holds stmts codes label how number then place + 1 else behind_else stmts (else_of stmts place) (eif_of stmts place)
go stmts codes place what.Else = behind stmts (eif_of stmts place)
go stmts codes place what.Eif = place + 1
go stmts codes place (what.Goto label) = label_from stmts 0 label
go stmts codes place what.Exit = length stmts
go stmts codes place _ = place

-- The walk goes down the statements once, since every jump leads further down.

-- where the walk is: it goes on at a place further down, or it stopped at an action without a code
pub data Walker : Type 0 where
  GoesOn : ℕ → Walker
  Stopped : ℕ → Walker

-- at an action: on to the next place where it has a code
abbrev pub past_action : ℕ → Option ℕ → Walker
past_action here None = Stopped here
past_action here (Some code) = GoesOn (here + 1)

-- from the statement at the place where the walk is
abbrev pub arrives : List Stmt → List (ℕ × ℕ) → ℕ → What → Walker
arrives stmts codes here s = if is_action s then past_action here (code_at codes here) else GoesOn (go stmts codes here s)

-- one statement down
abbrev pub walks : List Stmt → List (ℕ × ℕ) → ℕ → What → Walker → Walker
walks stmts codes here s (GoesOn next) = if here == next then arrives stmts codes here s else GoesOn next
walks stmts codes here s (Stopped place) = Stopped place

-- a step with its code
abbrev pub with_code : ℕ → Option ℕ → List (ℕ × ℕ)
with_code here None = []
with_code here (Some code) = (here, code) ∷ []

-- what is noted at a statement: the action at which the walk is, where it has a code
abbrev pub notes : List (ℕ × ℕ) → ℕ → What → Walker → List (ℕ × ℕ)
notes codes here s (GoesOn next) = if here == next && is_action s then with_code here (code_at codes here) else []
notes codes here s (Stopped place) = []

-- the steps that are noted in the statements from a place on
unfoldable pub path_from : List Stmt → List (ℕ × ℕ) → List Stmt → ℕ → Walker → List (ℕ × ℕ)
path_from stmts codes [] here walker = []
path_from stmts codes (s ∷ more) here walker =
    notes codes here s.what walker ++ path_from stmts codes more (here + 1) (walks stmts codes here s.what walker)

-- where the walk stops: at an action without a code, or at the end
abbrev pub stop_of : ℕ → Walker → ℕ
stop_of last (GoesOn next) = last
stop_of last (Stopped place) = place

unfoldable pub pending_from : List Stmt → List (ℕ × ℕ) → List Stmt → ℕ → Walker → ℕ
pending_from stmts codes [] here walker = stop_of here walker
pending_from stmts codes (s ∷ more) here walker = pending_from stmts codes more (here + 1) (walks stmts codes here s.what walker)

-- the steps that the statements take for these codes, with their codes, in their order
abbrev pub path : List Stmt → List (ℕ × ℕ) → List (ℕ × ℕ)
path stmts codes = path_from stmts codes stmts 0 (GoesOn 0)

-- the place of the step that comes next, or the end
abbrev pub pending : List Stmt → List (ℕ × ℕ) → ℕ
pending stmts codes = pending_from stmts codes stmts 0 (GoesOn 0)
