-- What becomes of words that stand alone.
use Rattle.std.specs.Prelude.{◌≡◌, ℕ, List, Option, Some, None}
use Rattle.std.specs.Option.{option_map}
use Rattle.cd_grammar.specs.declared.token.Token.{Token}
use Rattle.cd_grammar.specs.declared.given.Given.{Given}
use Rattle.cd_grammar.specs.declared.step.Step.{Step}
use Rattle.cd_grammar.specs.Reading.{Reading}
use Rattle.cd_automaton.specs.State.{State}
use Rattle.cd_automaton.specs.State.{At}
use Rattle.cd_parser.specs.declared.turn.Bare as bares
use Rattle.cd_parser.specs.declared.turn.Bare.TheVariants as bare
use Rattle.cd_parser.specs.declared.turn.Sided as sides
use Rattle.cd_parser.specs.declared.turn.Sided.TheVariants as side
use Rattle.cd_parser.specs.Runs.{reads}

-- a word leads from a step before these tokens to a state, from which reading goes on as told before the others; or it leads
-- to none, and no token was read
abbrev pub IsBare : ℕ → Reading → List Token → List Token → Step → Option State → bares.Bare → Type 0
IsBare len r tokens others step state (bare.Taken next) = option_map (λ s. reads len r s tokens) state ≡ Some (reads len r (At next) others)
IsBare len r tokens others step state (bare.Left same) = (state ≡ None) × (same ≡ step) × (others ≡ tokens)

-- what was given has a side more, or is the same
abbrev pub IsSided : Given → Option Given → sides.Sided → Type 0
IsSided given sided (side.Taken next) = sided ≡ Some next
IsSided given sided (side.Left same) = (sided ≡ None) × (same ≡ given)
