-- What a reader of a text has read so far.
use Rattle.std.specs.Prelude.{◌≡◌, ℕ, List, [], ◌∷◌, ◌++◌, Bool, true, false, not, ◌||◌, nat_lt, length, Option, Some, None, Result, Ok, Err}
use Rattle.std.specs.Option.{option_map}
use Rattle.cd_types.specs.Symbols.{with_symbol}
use Rattle.cd_types.specs.declared.choices.Disp.TheVariants as disp
use Rattle.cd_types.specs.declared.choices.Disp.{Disp}
use Rattle.cd_types.specs.declared.choices.Side.{Side}
use Rattle.cd_types.specs.declared.choices.Side.TheVariants as side
use Rattle.cd_types.specs.declared.choices.TaskKind.{TaskKind}
use Rattle.cd_types.specs.declared.choices.TaskKind.TheVariants as task_kind
use Rattle.cd_types.specs.declared.choices.Relation.{Relation}
use Rattle.cd_ast.specs.declared.fault.FaultName.{FaultName}
use Rattle.cd_ast.specs.declared.process.Stmt.{Stmt}
use Rattle.cd_ast.specs.declared.process.What.{What}
use Rattle.cd_ast.specs.declared.process.What.TheVariants as what
use Rattle.cd_grammar.specs.declared.token.Key.{Key}
use Rattle.cd_grammar.specs.declared.given.Given.{Given}
use Rattle.cd_grammar.specs.declared.given.Slot.{Slot}
use Rattle.cd_grammar.specs.declared.mark.Mark.{Mark}
use Rattle.cd_grammar.specs.declared.mark.Sketch.{Sketch}
use Rattle.cd_grammar.specs.declared.mark.Sketch.TheVariants as sketch
use Rattle.cd_grammar.specs.declared.step.Begun.{Begun}
use Rattle.cd_grammar.specs.declared.step.Work.{Work}
use Rattle.cd_grammar.specs.declared.step.Work.TheVariants as work
use Rattle.cd_grammar.specs.declared.step.End.{End}
use Rattle.cd_grammar.specs.declared.step.End.TheVariants as ends
use Rattle.cd_grammar.specs.declared.step.CopyGiven.{CopyGiven}
use Rattle.cd_grammar.specs.declared.step.Step.{Step}
use Rattle.cd_grammar.specs.declared.step.Step.TheVariants.{Head, Between, Copy, Group, Run, RunGroup, Submit}
use Rattle.cd_grammar.specs.Answers.{Strictness}
use Rattle.cd_grammar.specs.Given.{nothing, head_slot, copy_slot, from_slot, to_slot, task_slot, job_slot, submit_slot}

-- the Process's name, the parameters of PROCESS, the statements with their marks, the symbols of the SUBMIT that is being
-- read, and the IFs that are open, from the innermost: for each whether its ELSE was read
pub record Reading : Type 0 where
  pub name : List ℕ
  pub head : Given
  pub stmts : List Stmt
  pub marks : List Mark
  pub symbols : List (List ℕ × List ℕ)
  pub ifs : List Bool

-- the name alone was read
abbrev pub named : List ℕ → Reading
named name = record { name = name; head = nothing; stmts = []; marks = []; symbols = []; ifs = [] }

-- with a statement
abbrev pub stored : Reading → Begun → Sketch → What → Reading
stored r begun sketched said = record r {
  stmts = r.stmts ++ record { label = option_map (λ found. found.1) begun.label; what = said } ∷ [];
  marks = r.marks ++ record { label = begun.label; at = begun.at; what = sketched } ∷ [];
  symbols = [];
}

-- one side is the other's opposite
abbrev pub opposite : Side → Side
opposite side.Pnode = side.Snode
opposite side.Snode = side.Pnode

-- the side of a copy's source: the PNODE where no side is named; where only the destination's is named, the other one
abbrev pub source_side : Option Side → Option Side → Side
source_side (Some s) to = s
source_side None (Some s) = opposite s
source_side None None = side.Pnode

-- the side of its destination
abbrev pub target_side : Option Side → Option Side → Side
target_side from (Some s) = s
target_side (Some s) None = opposite s
target_side None None = side.Snode

abbrev pub is_pnode : Side → Bool
is_pnode side.Pnode = true
is_pnode side.Snode = false

abbrev pub are_same : Side → Side → Bool
are_same side.Pnode other = is_pnode other
are_same side.Snode other = not (is_pnode other)

abbrev pub or_default : {A : Type 0} → Option A → A → A
or_default (Some x) d = x
or_default None d = d

-- with a COPY whose two files are named
abbrev pub copied : Reading → Begun → Given → Given → Option ℕ → Option (List ℕ) → Option (List ℕ) → Option Reading
copied r begun from to ckpt (Some source) (Some target) =
    Some (stored r begun (sketch.Copy (are_same (source_side from.side to.side) (target_side from.side to.side)))
    (what.Copy (record { from = source; to = target; push = is_pnode (source_side from.side to.side); disp = or_default to.disp disp.Rpl; ckpt = ckpt })))
copied r begun from to ckpt None target = None
copied r begun from to ckpt (Some source) None = None

-- with a COPY whose two ends are given
abbrev pub copied_between : Reading → Begun → Option ℕ → Option Given → Option Given → Option Reading
copied_between r begun ckpt (Some from) (Some to) = copied r begun from to ckpt from.file to.file
copied_between r begun ckpt None to = None
copied_between r begun ckpt (Some from) None = None

-- what a RUN runs, and whether it is started again
abbrev pub kind_of : Work → Option Bool → TaskKind
kind_of work.Job restart = task_kind.Job
kind_of work.Task None = task_kind.Restart
kind_of work.Task (Some true) = task_kind.Restart
kind_of work.Task (Some false) = task_kind.Once

-- with a RUN whose command is given
abbrev pub run : Reading → Begun → Work → Given → Option (List ℕ) → Option Reading
run r begun w given (Some command) =
    Some (stored r begun sketch.Action (what.Task (record { side = or_default given.side side.Pnode; command = command; kind = kind_of w given.restart })))
run r begun w given None = None

-- with a SUBMIT whose file is given
abbrev pub submitted : Reading → Begun → Given → Option (List ℕ) → Option Reading
submitted r begun given (Some file) =
    Some (stored r begun sketch.Action (what.Submit (record { file = file; side = or_default given.side side.Pnode; snode = given.snode; prty = given.prty; symbols = r.symbols })))
submitted r begun given None = None

-- the reading where what is being read may end, which it may where nothing that is required is missing
unfoldable pub ended : Reading → Step → Option Reading
ended r (Head given) = Some (record r { head = given })
ended r Between = Some r
ended r (Copy begun given) = copied_between r begun given.others.ckpt given.from given.to
ended r (Group begun copy end given) = None
ended r (Run begun w given) = run r begun w given given.command
ended r (RunGroup begun w given) = None
ended r (Submit begun given) = submitted r begun given given.file

-- what was given where a parameter may stand
abbrev pub given_of : Step → Given
given_of (Head given) = given
given_of Between = nothing
given_of (Copy begun copy) = copy.others
given_of (Group begun copy end given) = given
given_of (Run begun w given) = given
given_of (RunGroup begun w given) = given
given_of (Submit begun given) = given

abbrev pub with_given : Step → Given → Step
with_given (Head given) next = Head next
with_given Between next = Between
with_given (Copy begun copy) next = Copy begun (record copy { others = next })
with_given (Group begun copy end given) next = Group begun copy end next
with_given (Run begun w given) next = Run begun w next
with_given (RunGroup begun w given) next = RunGroup begun w next
with_given (Submit begun given) next = Submit begun next

-- the same with what was given, where that is taken
abbrev pub stepped : Step → Result Given FaultName → Result Step FaultName
stepped s (Ok given) = Ok (with_given s given)
stepped s (Err name) = Err name

abbrev pub work_slot : Work → Key → Option Slot
work_slot work.Task k = task_slot k
work_slot work.Job k = job_slot k

abbrev pub end_slot : End → Key → Option Slot
end_slot ends.From k = from_slot k
end_slot ends.To k = to_slot k

-- what a word sets there
unfoldable pub slot_of : Step → Key → Option Slot
slot_of (Head given) k = head_slot k
slot_of Between k = None
slot_of (Copy begun copy) k = copy_slot k
slot_of (Group begun copy end given) k = end_slot end k
slot_of (Run begun w given) k = work_slot w k
slot_of (RunGroup begun w given) k = work_slot w k
slot_of (Submit begun given) k = submit_slot k

-- a side may be named there by its word alone
abbrev pub takes_side : Step → Bool
takes_side (Head given) = false
takes_side Between = false
takes_side (Copy begun copy) = false
takes_side (Group begun copy end given) = true
takes_side (Run begun w given) = true
takes_side (RunGroup begun w given) = true
takes_side (Submit begun given) = false

-- symbols may be given there
abbrev pub takes_symbols : Step → Bool
takes_symbols (Head given) = true
takes_symbols Between = false
takes_symbols (Copy begun copy) = false
takes_symbols (Group begun copy end given) = false
takes_symbols (Run begun w given) = false
takes_symbols (RunGroup begun w given) = false
takes_symbols (Submit begun given) = true

-- with a symbol: those of PROCESS have no effect here, since substitution has seen to them
abbrev pub with_name : Reading → Step → List ℕ → List ℕ → Reading
with_name r (Submit begun given) name value = record r { symbols = with_symbol r.symbols name value }
with_name r (Head given) name value = r
with_name r Between name value = r
with_name r (Copy begun copy) name value = r
with_name r (Group begun copy end given) name value = r
with_name r (Run begun w given) name value = r
with_name r (RunGroup begun w given) name value = r

-- no end of the copy was given, nor anything else
abbrev pub bare_copy : CopyGiven
bare_copy = record { from = None; to = None; compress = false; others = nothing }

abbrev pub end_of : CopyGiven → End → Option Given
end_of copy ends.From = copy.from
end_of copy ends.To = copy.to

abbrev pub with_end : CopyGiven → End → Given → CopyGiven
with_end copy ends.From given = record copy { from = Some given }
with_end copy ends.To given = record copy { to = Some given }

-- a statement may begin: 1,024 may stand in a Process
abbrev pub has_room : Strictness → Reading → Bool
has_room how r = not how.count || nat_lt (length r.stmts) 1024

-- an IF may begin at a place: 16 may be open
abbrev pub has_depth : Strictness → ℕ → Reading → Bool
has_depth how at r = not (how.ranges at) || nat_lt (length r.ifs) 16
