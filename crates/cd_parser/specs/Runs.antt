-- What the code tells of the machine's runs.
use Rattle.std.specs.Prelude.{◌≡◌, ℕ, List, ◌∷◌, true, false, Result, Ok, Err}
use Rattle.cd_types.specs.declared.choices.Relation.{Relation}
use Rattle.cd_ast.specs.declared.process.What.TheVariants as what
use Rattle.cd_grammar.specs.declared.mark.Sketch.TheVariants as sketch
use Rattle.cd_grammar.specs.declared.step.Begun.{Begun}
use Rattle.cd_grammar.specs.declared.token.Token.{Token}
use Rattle.cd_grammar.specs.Answers.{strict, taken}
use Rattle.cd_grammar.specs.Tokens.{place_of}
use Rattle.cd_grammar.specs.Given.{with_value}
use Rattle.cd_grammar.specs.declared.step.Step.{Step}
use Rattle.cd_grammar.specs.declared.given.Slot.{Slot}
use Rattle.cd_grammar.specs.Reading.{Reading, stored, given_of, with_given}
use Rattle.cd_grammar.specs.Later.{Found}
use Rattle.cd_automaton.specs.State.{State}
use Rattle.cd_automaton.specs.State.{At, Ended}
use Rattle.cd_automaton.specs.Machine.{Turn, bind_turn, run, with_place}
use Rattle.cd_parser.specs.declared.statement.Turn as turns
use Rattle.cd_parser.specs.declared.statement.Turn.TheVariants as turn
use Rattle.cd_parser.specs.declared.fault.ParseFault.{ParseFault}
use Rattle.cd_parser.specs.declared.fault.ParseFault.TheVariants.{Text, NoMemory}

-- the fault that is told; where memory ran out, whatever it is
abbrev pub told : {A : Type 0} → ParseFault → Result A Found → Result A Found
told (Text name at) x = Err (name, at)
told NoMemory x = x

-- what comes of reading is the fault that is told
abbrev pub Tells : {A : Type 0} → ParseFault → Result A Found → Type 0
Tells fault x = x ≡ told fault x

-- what comes of reading tokens from a state on, in a text of this length
abbrev pub reads : ℕ → Reading → State → List Token → Result Reading Found
reads len r s tokens = run strict len r s tokens

-- what comes of what a token says, before others
abbrev pub onward : ℕ → List Token → Turn → Result Reading Found
onward len tokens turn = bind_turn turn (λ r s. run strict len r s tokens)

-- with an IF that opens
abbrev pub opened_if : Reading → Begun → ℕ → List ℕ → Relation → ℕ → Reading
opened_if r begun at name rel n = record (stored r begun (sketch.If at name) (what.If name rel n)) { ifs = false ∷ r.ifs }

-- the step with a token as value of the parameter whose word stands at this place, or the token's fault
abbrev pub valued : Step → Slot → ℕ → Token → Result Step Found
valued s set at t = with_place (place_of t) (taken true (with_value (given_of s) set at t)) (λ next. with_given s next)

-- reading goes on where a turn leads, before these tokens
abbrev pub Leads : Result Reading Found → ℕ → Reading → turns.Turn → List Token → Type 0
Leads x len r (turn.Goes step) tokens = x ≡ reads len r (At step) tokens
Leads x len r turn.Ended tokens = x ≡ reads len r Ended tokens
