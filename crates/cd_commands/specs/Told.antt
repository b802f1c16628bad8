-- When each fault of a command is told, and what the code tells of the reader's runs.
use Rattle.std.specs.Prelude.{◌≡◌, ℕ, ◌-◌, List, []}
use Rattle.cd_grammar.specs.declared.token.Token.{Token}
use Rattle.cd_grammar.specs.Later.{Found}
use Rattle.cd_commands.specs.declared.fault.CommandFault.{CommandFault}
use Rattle.cd_commands.specs.declared.fault.CommandFault.TheVariants.{Word, Process, NoMemory}
use Rattle.cd_commands.specs.declared.fault.Stopped.{Stopped}
use Rattle.cd_commands.specs.declared.fault.Stopped.TheVariants as stopped
use Rattle.cd_commands.specs.declared.kind.Kind.{Kind}
use Rattle.cd_commands.specs.declared.given.Given.{Given}
use Rattle.cd_commands.specs.Given.{finished}
use Rattle.cd_commands.specs.declared.order.Turn as turns
use Rattle.cd_commands.specs.declared.order.Turn.TheVariants as turn
use Rattle.cd_commands.specs.declared.order.Order as orders
use Rattle.cd_commands.specs.declared.order.Order.TheVariants as order
use Rattle.cd_commands.specs.Machine.{Said, Whole, Text, Leaves, At, Ended, moved, goes_if, said}
use Rattle.cd_commands.specs.Commands.{Fault, Left, Wrong, text_end, left_behind}

-- a fault is told where it is there; of memory nothing is said
abbrev pub IsTold : (Fault → Type 0) → CommandFault → Type 0
IsTold there (Word at) = there (Left at)
IsTold there (Process name at) = there (Wrong (name, at))
IsTold there NoMemory = Unit {0}

-- memory ran out
abbrev pub IsNoMemory : CommandFault → Type 0
IsNoMemory (Word at) = ⊥
IsNoMemory (Process name at) = ⊥
IsNoMemory NoMemory = Unit {0}

-- this fault is told, or memory ran out
abbrev pub IsAs : Fault → CommandFault → Type 0
IsAs f (Word at) = Left at ≡ f
IsAs f (Process name at) = Wrong (name, at) ≡ f
IsAs f NoMemory = Unit {0}

-- what is said is that tokens are left where the reader stopped
abbrev pub Tells : Stopped → Said → Type 0
Tells (stopped.Left at) x = x ≡ Leaves at
Tells stopped.NoMemory x = Unit {0}

-- what is said is what is said behind a turn, with these parameters given, before these tokens
abbrev pub Leads : Said → ℕ → Kind → Given → turns.Turn → List Token → Type 0
Leads x len k given turn.Goes tokens = x ≡ said len (At k given) tokens
Leads x len k given (turn.Ends at) tokens = x ≡ moved (goes_if at (finished k given) Ended) [] (λ s. said len s tokens)
Leads x len k given (turn.Text at) tokens = x ≡ Text given at tokens

-- what is said is what was read
abbrev pub IsRead : Said → ℕ → orders.Order → Type 0
IsRead x len (order.Whole c) = x ≡ Whole c
IsRead x len (order.Text given at end left) = (rest : List Token) × (x ≡ Text given at rest) × (end ≡ text_end len rest) × (left ≡ left_behind len rest)

-- a fault of the Process text
abbrev pub OnProcess : (Found → Type 0) → Fault → Type 0
OnProcess there (Left at) = ⊥
OnProcess there (Wrong f) = there f

-- the fault of a text, of whose tokens reading stopped; so many bytes stand before the command
abbrev pub IsStop : ℕ → Stopped → CommandFault → Type 0
IsStop before (stopped.Left at) fault = IsTold (λ f. f ≡ Left (at - before)) fault
IsStop before stopped.NoMemory fault = IsTold (λ f. ⊥) fault
