-- Where words that stand alone lead.
use Rattle.std.proofs.Common.{◌≡◌, ℕ, List, Option, Some, None, Result, refl}
use Rattle.std.specs.Option.{option_map}
use Rattle.cd_grammar.specs.declared.token.Key.{Key}
use Rattle.cd_grammar.specs.declared.token.Token.{Token}
use Rattle.cd_grammar.specs.declared.step.Step.{Step}
use Rattle.cd_grammar.specs.Answers.{strict}
use Rattle.cd_grammar.specs.Reading.{Reading}
use Rattle.cd_grammar.specs.Later.{Found}
use Rattle.cd_automaton.specs.State.{State}
use Rattle.cd_automaton.specs.Machine.{bare_turn}
use Rattle.cd_parser.specs.Runs.{reads, onward}

-- such a word leads to a state
pub bare_some : (len : ℕ) (tokens : List Token) (r : Reading) (s : Step) (at : ℕ) (k : Key) (word : List ℕ) (o : Option State) (x : Result Reading Found)
    → option_map (λ state. reads len r state tokens) o ≡ Some x → onward len tokens (bare_turn strict r s at k word o) ≡ x
bare_some len tokens r s at k word (Some state) x e = cc
bare_some len tokens r s at k word None x e = absurd cc
