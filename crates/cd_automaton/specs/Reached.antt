-- Where the machine gets to.
use Rattle.std.specs.Prelude.{◌≡◌, ℕ, List, [], ◌∷◌, ◌++◌, Ok}
use Rattle.cd_grammar.specs.declared.token.Key.{Key}
use Rattle.cd_grammar.specs.declared.token.Key.TheVariants as key
use Rattle.cd_grammar.specs.declared.token.Token.{Token}
use Rattle.cd_grammar.specs.declared.token.Token.TheVariants.{Word}
use Rattle.cd_grammar.specs.declared.step.Step.TheVariants as step
use Rattle.cd_grammar.specs.Answers.{Strictness, taken}
use Rattle.cd_grammar.specs.Values.{label_in}
use Rattle.cd_grammar.specs.Given.{nothing}
use Rattle.cd_grammar.specs.Reading.{Reading, named}
use Rattle.cd_automaton.specs.State.{State, At}
use Rattle.cd_automaton.specs.Machine.{next}

-- behind these tokens, with which a text begins, the machine stands in this state, and this was read
pub data Reached (how : Strictness) : List Token → Reading → State → Type 0 where
  begun : {at at2 : ℕ} {k : Key} {word word2 name : List ℕ} → taken (how.ranges at) (label_in k word) ≡ Ok name
      → Reached how (Word at k word ∷ Word at2 key.Process word2 ∷ []) (named name) (At (step.Head nothing))
  one_more : (before : List Token) (t : Token) {r r2 : Reading} {s s2 : State} → Reached how before r s → next how r s t ≡ Ok (r2, s2)
      → Reached how (before ++ t ∷ []) r2 s2
